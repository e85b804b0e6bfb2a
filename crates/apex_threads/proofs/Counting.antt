-- One more entry of a log, counted for its partition.
use Rattle.apex_threads.proofs.Common.{◌≡◌, ◌≢◌, ℕ, zero, suc, ◌+◌, ◌<◌, ◌≤◌, ◌==◌, Bool, true, false, List, [], ◌∷◌, ◌++◌, length, take, set, get_or, replicate, map, Some, refl, sym, ap, ◌∙◌, subst, arith, append_assoc, length-append, get_or-set_same, get_or-set_other, slice_get, filter, nat_tests, map-append, get_or-replicate, length-take-le, slice_get_within, slice_get-get_or, Call, Moment, Reply, History}
use Rattle.apex_threads.proofs.Common.{entries_of}
use Rattle.std.proofs.Common.{append-nil, length-set}
use Rattle.std.proofs.lemmas.List.Elements.{filter-append}
use Rattle.std.proofs.Math.Seq.{take-length}
use Rattle.apex_ports.specs.declared.history.Entry.{Entry}
use Rattle.apex_threads.specs.Partition.{calls_of, replies_of}
use Rattle.apex_threads.specs.Collected.{HasScripts, HasReplies, IsCollected, IsNext, IsServed, AreCounted, AreComplete}
use Rattle.apex_threads.proofs.Lists.{slice_get_end, slice_get_before}

-- ---- the entries of a partition

one_entry : (b : Bool) (e : Entry) → List Entry
one_entry true e = e ∷ []
one_entry false e = []

of_one : (p : ℕ) (e : Entry) (b : Bool) → (e.partition == p) ≡ b → filter (λ entry. entry.partition == p) (e ∷ []) ≡ one_entry b e
unfolding one_entry
of_one p e true is = rw is refl
of_one p e false is = rw is refl

own_entry : (h : History) (e : Entry) (p : ℕ) → e.partition ≡ p → entries_of p (h ++ e ∷ []) ≡ entries_of p h ++ e ∷ []
unfolding one_entry
own_entry h e p own =
    let is : (e.partition == p) ≡ true = grind (arith, nat_tests) in
    filter-append (λ entry. entry.partition == p) h (e ∷ []) ∙ ap (λ xs. entries_of p h ++ xs) (of_one p e true is)

other_entry : (h : History) (e : Entry) (p : ℕ) → e.partition ≢ p → entries_of p (h ++ e ∷ []) ≡ entries_of p h
unfolding one_entry
other_entry h e p other =
    let is : (e.partition == p) ≡ false = grind (arith, nat_tests) in
    filter-append (λ entry. entry.partition == p) h (e ∷ []) ∙ (ap (λ xs. entries_of p h ++ xs) (of_one p e false is) ∙ append-nil (entries_of p h))

-- ---- one more item

pub take_one_more : {X : Type 0} (xs : List X) (n : ℕ) (x : X) → slice_get xs n ≡ Some x → take (suc n) xs ≡ take n xs ++ x ∷ []
take_one_more [] n x here = absurd cc
take_one_more (y ∷ xs) zero x here = let same : y ≡ x = cc in ap (λ z. z ∷ []) same
take_one_more (y ∷ xs) (suc n) x here = ap (λ zs. y ∷ zs) (take_one_more xs n x here)

served_more : (h : History) (e : Entry) (p : ℕ) (script : List (Moment × Call)) (own : List Reply) (done : ℕ) → e.partition ≡ p → IsServed h p script own done → IsNext e script own done → IsServed (h ++ e ∷ []) p script own (suc done)
served_more h e p script own done is served next = record {
  calls = ap (map (λ entry. (entry.at, entry.call))) (own_entry h e p is)
      ∙ (map-append (λ (entry : Entry). (entry.at, entry.call)) (entries_of p h) (e ∷ [])
      ∙ (ap (λ xs. xs ++ (e.at, e.call) ∷ []) served.calls ∙ sym (take_one_more script done (e.at, e.call) next.0)));
  replies = ap (map (λ entry. entry.reply)) (own_entry h e p is)
      ∙ (map-append (λ (entry : Entry). entry.reply) (entries_of p h) (e ∷ [])
      ∙ (ap (λ xs. xs ++ e.reply ∷ []) served.replies ∙ sym (take_one_more own done e.reply next.1)));
  within_script = let within = slice_get_within script done (e.at, e.call) next.0 in omega arith;
  within_replies = let within = slice_get_within own done e.reply next.1 in omega arith;
}

served_still : (h : History) (e : Entry) (p : ℕ) (script : List (Moment × Call)) (own : List Reply) (done : ℕ) → e.partition ≢ p → IsServed h p script own done → IsServed (h ++ e ∷ []) p script own done
served_still h e p script own done other served = record {
  calls = ap (map (λ entry. (entry.at, entry.call))) (other_entry h e p other) ∙ served.calls;
  replies = ap (map (λ entry. entry.reply)) (other_entry h e p other) ∙ served.replies;
  within_script = served.within_script;
  within_replies = served.within_replies;
}

-- ---- all partitions

-- nothing is counted for an empty log
pub counted_none : (scripts : List (List (Moment × Call))) (replies : List (List Reply)) (n : ℕ) (counts : List ℕ) → counts ≡ replicate n 0 → length counts ≡ length scripts → n ≡ length scripts → AreCounted [] scripts replies counts
counted_none scripts replies n counts none same all = record {
  all = same;
  known = λ k entry here. absurd cc;
  each = λ p script own here there.
      let within = slice_get_within scripts p script here in
      let zero_at : get_or counts p 0 ≡ 0 = ap (λ xs. get_or xs p 0) none ∙ get_or-replicate n p 0 0 (omega arith) in
      subst (λ (done : ℕ). IsServed [] p script own done) (sym zero_at) (record { calls = refl; replies = refl; within_script = omega arith; within_replies = omega arith });
}

-- the entry is the next of its partition
pub counted_more : (h : History) (e : Entry) (scripts : List (List (Moment × Call))) (replies : List (List Reply)) (counts : List ℕ) (script : List (Moment × Call)) (own : List Reply)
    → AreCounted h scripts replies counts → slice_get scripts e.partition ≡ Some script → slice_get replies e.partition ≡ Some own → IsNext e script own (get_or counts e.partition 0)
    → AreCounted (h ++ e ∷ []) scripts replies (set counts e.partition (get_or counts e.partition 0 + 1))
counted_more h e scripts replies counts script own counted script_at own_at next = record {
  all = length-set counts e.partition (get_or counts e.partition 0 + 1) ∙ counted.all;
  known = λ k entry here. known_at k entry here (k == length h) refl;
  each = λ p other others here there. by_test p other others here there (e.partition == p) refl;
}
  where
    known_at : (k : ℕ) (entry : Entry) → slice_get (h ++ e ∷ []) k ≡ Some entry → (b : Bool) → (k == length h) ≡ b → entry.partition < length scripts
    known_at k entry here true test =
        let is : k ≡ length h = grind (arith, nat_tests) in
        let last : Some entry ≡ Some e = sym here ∙ (ap (λ (j : ℕ). slice_get (h ++ e ∷ []) j) is ∙ slice_get_end h e) in
        let same : e ≡ entry = cc in
        subst (λ (x : Entry). x.partition < length scripts) same (slice_get_within scripts e.partition script script_at)
    known_at k entry here false test =
        let apart : k ≢ length h = grind (arith, nat_tests) in
        let within = slice_get_within (h ++ e ∷ []) k entry here in
        let before : k < length h = omega (arith, length-append h (e ∷ [])) in
        counted.known k entry (sym (slice_get_before h (e ∷ []) k before) ∙ here)

    at_own : (other : List (Moment × Call)) (others : List Reply) → slice_get scripts e.partition ≡ Some other → slice_get replies e.partition ≡ Some others
        → IsServed (h ++ e ∷ []) e.partition other others (get_or (set counts e.partition (get_or counts e.partition 0 + 1)) e.partition 0)
    at_own other others here there =
        let within = slice_get_within scripts e.partition script script_at in
        let all = counted.all in
        let scripts_same : Some script ≡ Some other = sym script_at ∙ here in
        let replies_same : Some own ≡ Some others = sym own_at ∙ there in
        let same_script : script ≡ other = cc in
        let same_own : own ≡ others = cc in
        let count : get_or (set counts e.partition (get_or counts e.partition 0 + 1)) e.partition 0 ≡ suc (get_or counts e.partition 0) =
        get_or-set_same counts e.partition (get_or counts e.partition 0 + 1) 0 (omega arith) ∙ omega arith
        in
        let call : slice_get other (get_or counts e.partition 0) ≡ Some (e.at, e.call) = subst (λ (xs : List (Moment × Call)). slice_get xs (get_or counts e.partition 0) ≡ Some (e.at, e.call)) same_script next.0 in
        let reply : slice_get others (get_or counts e.partition 0) ≡ Some e.reply = subst (λ (xs : List Reply). slice_get xs (get_or counts e.partition 0) ≡ Some e.reply) same_own next.1 in
        subst (λ (done : ℕ). IsServed (h ++ e ∷ []) e.partition other others done) (sym count)
        (served_more h e e.partition other others (get_or counts e.partition 0) refl (counted.each e.partition other others here there) (call, reply))

    by_test : (p : ℕ) (other : List (Moment × Call)) (others : List Reply) → slice_get scripts p ≡ Some other → slice_get replies p ≡ Some others → (b : Bool) → (e.partition == p) ≡ b
        → IsServed (h ++ e ∷ []) p other others (get_or (set counts e.partition (get_or counts e.partition 0 + 1)) p 0)
    by_test p other others here there true test =
        let is : e.partition ≡ p = grind (arith, nat_tests) in
        subst
        (λ (q : ℕ). slice_get scripts q ≡ Some other → slice_get replies q ≡ Some others → IsServed (h ++ e ∷ []) q other others (get_or (set counts e.partition (get_or counts e.partition 0 + 1)) q 0))
        is (at_own other others) here there
    by_test p other others here there false test =
        let apart : e.partition ≢ p = grind (arith, nat_tests) in
        let count : get_or (set counts e.partition (get_or counts e.partition 0 + 1)) p 0 ≡ get_or counts p 0 =
        get_or-set_other counts e.partition p (get_or counts e.partition 0 + 1) 0 (λ h. apart (sym h))
        in
        subst (λ (done : ℕ). IsServed (h ++ e ∷ []) p other others done) (sym count)
        (served_still h e p other others (get_or counts p 0) apart (counted.each p other others here there))

-- ---- the whole log

whole : {X : Type 0} (xs ys : List X) (n : ℕ) → xs ≡ take n ys → n ≡ length ys → xs ≡ ys
whole xs ys n is all = is ∙ (ap (λ k. take k ys) all ∙ take-length ys)

reply_list : (replies : List (List Reply)) (p : ℕ) → p < length replies → (own : List Reply) × (slice_get replies p ≡ Some own)
reply_list replies p within = (get_or replies p [], slice_get-get_or replies p [] within)

script_list : (scripts : List (List (Moment × Call))) (p : ℕ) → p < length scripts → (script : List (Moment × Call)) × (slice_get scripts p ≡ Some script)
script_list scripts p within = (get_or scripts p [], slice_get-get_or scripts p [] within)

pub has_scripts : (h : History) (scripts : List (List (Moment × Call))) (replies : List (List Reply)) (counts : List ℕ) → length replies ≡ length scripts → AreCounted h scripts replies counts → AreComplete scripts replies counts → HasScripts h scripts
has_scripts h scripts replies counts each counted complete p script here =
    let within = slice_get_within scripts p script here in
    let own = reply_list replies p (omega arith) in
    let served = counted.each p script own.0 here own.1 in
    whole _ _ (get_or counts p 0) served.calls (complete p script own.0 here own.1).0

pub has_replies : (h : History) (scripts : List (List (Moment × Call))) (replies : List (List Reply)) (counts : List ℕ) → length replies ≡ length scripts → AreCounted h scripts replies counts → AreComplete scripts replies counts → HasReplies h replies
has_replies h scripts replies counts each counted complete p own here =
    let within = slice_get_within replies p own here in
    let script = script_list scripts p (omega arith) in
    let served = counted.each p script.0 own script.1 here in
    whole _ _ (get_or counts p 0) served.replies (complete p script.0 own script.1 here).1

-- ---- a collected log was counted

slice_get_middle : {X : Type 0} (xs ys : List X) (x : X) → slice_get (xs ++ x ∷ ys) (length xs) ≡ Some x
slice_get_middle [] ys x = refl
slice_get_middle (y ∷ xs) ys x = slice_get_middle xs ys x

split_at : {X : Type 0} (xs : List X) (i : ℕ) (x : X) → slice_get xs i ≡ Some x → (rest : List X) × (xs ≡ take i xs ++ x ∷ rest)
split_at [] i x here = absurd cc
split_at (y ∷ xs) zero x here = let same : y ≡ x = cc in (xs, ap (λ z. z ∷ xs) same)
split_at (y ∷ xs) (suc i) x here = let rest = split_at xs i x here in (rest.0, ap (λ zs. y ∷ zs) rest.1)

item_at : {X : Type 0} (xs ys : List X) (n : ℕ) (x : X) → take n xs ++ x ∷ ys ≡ xs → n ≤ length xs → slice_get xs n ≡ Some x
item_at xs ys n x is within =
    let len : length (take n xs) ≡ n = length-take-le n xs within in
    ap (λ zs. slice_get zs n) (sym is) ∙ subst (λ (k : ℕ). slice_get (take n xs ++ x ∷ ys) k ≡ Some x) len (slice_get_middle (take n xs) ys x)

own_entries : (h rest : History) (e : Entry) (p : ℕ) → e.partition ≡ p → entries_of p (h ++ e ∷ rest) ≡ entries_of p h ++ e ∷ entries_of p rest
own_entries h rest e p own =
    ap (λ (g : History). entries_of p g) (sym (append_assoc h (e ∷ []) rest))
    ∙ (filter-append (λ entry. entry.partition == p) (h ++ e ∷ []) rest
    ∙ (ap (λ xs. xs ++ entries_of p rest) (own_entry h e p own) ∙ append_assoc (entries_of p h) (e ∷ []) (entries_of p rest)))

-- the entry at an index is the next of its partition after those before it
pub next_of : (log : History) (scripts : List (List (Moment × Call))) (replies : List (List Reply)) (counts : List ℕ) (i : ℕ) (e : Entry) (script : List (Moment × Call)) (own : List Reply)
    → IsCollected log scripts replies → AreCounted (take i log) scripts replies counts → slice_get log i ≡ Some e → slice_get scripts e.partition ≡ Some script → slice_get replies e.partition ≡ Some own
    → IsNext e script own (get_or counts e.partition 0)
next_of log scripts replies counts i e script own collected counted here script_at own_at =
    let p = e.partition in
    let n = get_or counts p 0 in
    let split = split_at log i e here in
    let served = counted.each p script own script_at own_at in
    let entries : entries_of p log ≡ entries_of p (take i log) ++ e ∷ entries_of p split.0 = ap (λ (g : History). entries_of p g) split.1 ∙ own_entries (take i log) split.0 e p refl in
    let calls : calls_of p log ≡ take n script ++ (e.at, e.call) ∷ calls_of p split.0 =
    ap (map (λ (entry : Entry). (entry.at, entry.call))) entries
    ∙ (map-append (λ (entry : Entry). (entry.at, entry.call)) (entries_of p (take i log)) (e ∷ entries_of p split.0) ∙ ap (λ xs. xs ++ (e.at, e.call) ∷ calls_of p split.0) served.calls)
    in
    let answers : replies_of p log ≡ take n own ++ e.reply ∷ replies_of p split.0 =
    ap (map (λ (entry : Entry). entry.reply)) entries
    ∙ (map-append (λ (entry : Entry). entry.reply) (entries_of p (take i log)) (e ∷ entries_of p split.0) ∙ ap (λ xs. xs ++ e.reply ∷ replies_of p split.0) served.replies)
    in (
      item_at script (calls_of p split.0) n (e.at, e.call) (sym calls ∙ collected.calls p script script_at) served.within_script,
      item_at own (replies_of p split.0) n e.reply (sym answers ∙ collected.answers p own own_at) served.within_replies,
    )

all_taken : {X : Type 0} (xs ys : List X) (n : ℕ) → xs ≡ take n ys → xs ≡ ys → n ≤ length ys → n ≡ length ys
all_taken xs ys n taken same within =
    let len : length (take n ys) ≡ n = length-take-le n ys within in
    let equal : length (take n ys) ≡ length ys = ap length (sym taken ∙ same) in
    omega arith

pub complete_of : (log : History) (scripts : List (List (Moment × Call))) (replies : List (List Reply)) (counts : List ℕ) → IsCollected log scripts replies → AreCounted log scripts replies counts → AreComplete scripts replies counts
complete_of log scripts replies counts collected counted p script own here there =
    let served = counted.each p script own here there in (
      all_taken _ script (get_or counts p 0) served.calls (collected.calls p script here) served.within_script,
      all_taken _ own (get_or counts p 0) served.replies (collected.answers p own there) served.within_replies,
    )

pub is_collected_of : (log : History) (scripts : List (List (Moment × Call))) (replies : List (List Reply)) (counts : List ℕ) → length replies ≡ length scripts → AreCounted log scripts replies counts → AreComplete scripts replies counts → IsCollected log scripts replies
is_collected_of log scripts replies counts each counted complete = record {
  known = counted.known;
  calls = has_scripts log scripts replies counts each counted complete;
  answers = has_replies log scripts replies counts each counted complete;
}
