-- A list of requests has at most one lawful history, since the reply table is a function.
use Rattle.std.proofs.Common.{◌≡◌, ℕ, suc, List, [], ◌∷◌, ◌++◌, take, slice_get, Some, refl, sym, ap, ◌∙◌, subst, append_assoc, append-nil}
use Rattle.apex_module.specs.Configuration.{Configuration}
use Rattle.apex_ports.specs.declared.history.Entry.{Entry}
use Rattle.apex_ports.specs.declared.history.Request.{Request}
use Rattle.apex_ports.specs.History.{History, entry_of, request_of, requests_of}
use Rattle.apex_ports.specs.Lawful.{IsLawfulEntry, Answers}
use Rattle.apex_ports.specs.ReplyTable.{reply_to}

-- entries that are lawful after a history
abbrev pub AreLawfulAfter : Configuration → History → List Entry → Type 0
AreLawfulAfter config before entries = (k : ℕ) (entry : Entry) → slice_get entries k ≡ Some entry → IsLawfulEntry config (before ++ take k entries) entry

after_first : (config : Configuration) (before : History) (x : Entry) (xs : List Entry) → AreLawfulAfter config before (x ∷ xs) → AreLawfulAfter config (before ++ x ∷ []) xs
after_first config before x xs lawful k entry here = rw append_assoc (lawful (suc k) entry here)

-- what each lawful entry preserves holds after all lawful entries
pub along_lawful : (config : Configuration) (P : History → Type 0) → ((h : History) (e : Entry) → IsLawfulEntry config h e → P h → P (h ++ e ∷ []))
    → (before : History) (entries : List Entry) → AreLawfulAfter config before entries → P before → P (before ++ entries)
along_lawful config P step before [] lawful here = subst P (sym (append-nil before)) here
along_lawful config P step before (x ∷ xs) lawful here =
    let first : IsLawfulEntry config before x = subst (λ (h : History). IsLawfulEntry config h x) (append-nil before) (lawful 0 x refl) in
    subst P (append_assoc before (x ∷ []) xs) (along_lawful config P step (before ++ x ∷ []) xs (after_first config before x xs lawful) (step before x first here))

same_entry : (config : Configuration) (before : History) (x y : Entry) → IsLawfulEntry config before x → IsLawfulEntry config before y → request_of x ≡ request_of y → x ≡ y
same_entry config before x y lawful lawful_too same =
    let partition : x.partition ≡ y.partition = ap (λ (request : Request). request.partition) same in
    let at : x.at ≡ y.at = ap (λ (request : Request). request.at) same in
    let call : x.call ≡ y.call = ap (λ (request : Request). request.call) same in
    let table : reply_to config before x.partition x.at x.call ≡ reply_to config before y.partition y.at y.call = rw (partition, at, call) refl in
    let reply : x.reply ≡ y.reply = lawful.1 ∙ table ∙ sym lawful_too.1 in
    let all : entry_of x.partition x.at x.call x.reply ≡ entry_of y.partition y.at y.call y.reply = rw (partition, at, call, reply) refl in
    all

same_entries : (config : Configuration) (before : History) (xs ys : List Entry) → AreLawfulAfter config before xs → AreLawfulAfter config before ys → requests_of xs ≡ requests_of ys → xs ≡ ys
same_entries config before [] [] lawful lawful_too same = refl
same_entries config before [] (y ∷ ys) lawful lawful_too same = absurd cc
same_entries config before (x ∷ xs) [] lawful lawful_too same = absurd cc
same_entries config before (x ∷ xs) (y ∷ ys) lawful lawful_too same =
    let first : request_of x ≡ request_of y = cc in
    let rest : requests_of xs ≡ requests_of ys = cc in
    let entry : x ≡ y = same_entry config (before ++ []) x y (lawful 0 x refl) (lawful_too 0 y refl) first in
    let entries : xs ≡ ys = same_entries config (before ++ x ∷ []) xs ys (after_first config before x xs lawful) (rw entry (after_first config before y ys lawful_too)) rest in
    cc

pub one_history : (config : Configuration) (requests : List Request) (history other : History) → Answers config requests history → Answers config requests other → history ≡ other
one_history config requests history other answers answers_too =
    same_entries config [] history other answers.0 answers_too.0 (answers.1 ∙ sym answers_too.1)
