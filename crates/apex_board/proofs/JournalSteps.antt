-- The journals with one of them set.
use Rattle.apex_board.proofs.Common.{◌≡◌, ◌≢◌, ℕ, zero, suc, ◌<◌, ◌≤◌, ◌==◌, Bool, true, false, if◌then◌else◌, List, [], ◌∷◌, ◌++◌, length, map, drop, set, get_or, Option, Some, None, refl, sym, ap, ◌∙◌, subst, arith, length-set, length-append, vec_capacity, nat_tests, Call, Configuration, History, EachAt, is_queuing, is_queue, accepted_on, taken_on, waiting_on, message_sent, message_accepted, message_received}
use Rattle.apex_board.proofs.Common.{clears, is_clear, as_received, as_cleared, messages_of, at_index, accepted_stays, taken_stays, receives_no_clear, and_true, none_or_none, Journal, if_there, journal_at, has_journal, accepted_in, taken_in, AreJournals, IsFresh}
use Rattle.std.specs.List.{slice_get}
use Rattle.std.specs.Option.{option_to_list}
use Rattle.std.proofs.lemmas.Option.{slice_get_past}
use Rattle.std.proofs.lemmas.List.{length-map}
use Rattle.apex_types.specs.declared.call.Call.TheVariants.{SendQueuing}
use Rattle.apex_types.specs.declared.taken.Taken.{Taken}
use Rattle.apex_ports.specs.declared.history.Entry.{Entry}
use Rattle.apex_ports.specs.Modes.{is_code_no_error}
use Rattle.apex_ports.specs.Sound.{IsSound}
use Rattle.apex_ports.proofs.Appends.{accepted_on-append}
use Rattle.apex_ports.proofs.Conserved.{always_conserved}
use Rattle.apex_ports.proofs.Histories.{taken-received, taken-cleared}

pub set_here : {A : Type 0} (journals : List (Option (Journal A))) (c : ℕ) (x : Option (Journal A)) → c < length journals → journal_at (set journals c x) c ≡ x
set_here [] c x within = absurd (omega arith)
set_here (y ∷ journals) zero x within = refl
set_here (y ∷ journals) (suc c) x within = set_here journals c x (omega arith)

set_elsewhere : {A : Type 0} (journals : List (Option (Journal A))) (c : ℕ) (x : Option (Journal A)) (d : ℕ) → d ≢ c → journal_at (set journals c x) d ≡ journal_at journals d
set_elsewhere [] c x d apart = refl
set_elsewhere (y ∷ journals) zero x zero apart = absurd (apart refl)
set_elsewhere (y ∷ journals) zero x (suc d) apart = refl
set_elsewhere (y ∷ journals) (suc c) x zero apart = refl
set_elsewhere (y ∷ journals) (suc c) x (suc d) apart = set_elsewhere journals c x d (λ e. apart (ap suc e))

pub journal_at-set : {A : Type 0} (journals : List (Option (Journal A))) (c : ℕ) (x : Option (Journal A)) → c < length journals → (d : ℕ) → journal_at (set journals c x) d ≡ (if d == c then x else journal_at journals d)
journal_at-set journals c x within d = by_index (d == c) refl
  where
    by_index : (b : Bool) → (d == c) ≡ b → journal_at (set journals c x) d ≡ (if b then x else journal_at journals d)
    by_index true is = let here : d ≡ c = grind (arith, nat_tests) in (λ i. journal_at (set journals c x) (here i)) ∙ set_here journals c x within
    by_index false is = set_elsewhere journals c x d (grind (arith, nat_tests))

-- the journal that an index reads
pub journal_here : {A : Type 0} (journals : List (Option (Journal A))) (c : ℕ) (x : Option (Journal A)) → c < length journals → x ≡ get_or journals c x → journal_at journals c ≡ x
journal_here journals c x within is = ap if_there (at_index journals c x within is)

-- a journal that exists
pub record IsJournal {A : Type 0} (config : Configuration) (h t : History) (c : ℕ) (journal : Journal A) : Type 0 where
  pub queuing : is_queuing config c ≡ true
  pub accepted : journal.accepted.items ≡ accepted_on config c h
  pub taken : journal.taken.items ≡ taken_on config c t
  pub fits : vec_capacity journal.accepted ≤ vec_capacity journal.taken

pub journal_is : {A : Type 0} (config : Configuration) (h t : History) (journals : List (Option (Journal A))) (c : ℕ) (journal : Journal A) → AreJournals config h t journals → journal_at journals c ≡ Some journal → IsJournal config h t c journal
journal_is config h t journals c journal are here = record {
  queuing = sym (are.kind c) ∙ ap has_journal here;
  accepted = ap accepted_in (sym here) ∙ are.accepted c;
  taken = ap taken_in (sym here) ∙ are.taken c;
  fits = are.fits c journal here;
}

-- one journal is set, and the others stay
module _ {A : Type 0} (config : Configuration) (h t h' t' : History) (journals : List (Option (Journal A))) (c : ℕ) (new : Journal A) where
  pub journal_set : AreJournals config h t journals → c < length journals → is_queuing config c ≡ true
      → new.accepted.items ≡ accepted_on config c h' → new.taken.items ≡ taken_on config c t' → vec_capacity new.accepted ≤ vec_capacity new.taken
      → ((d : ℕ) → d ≢ c → accepted_on config d h' ≡ accepted_on config d h) → ((d : ℕ) → d ≢ c → taken_on config d t' ≡ taken_on config d t)
      → AreJournals config h' t' (set journals c (Some new))
  journal_set was within queuing accepted taken fits others_accepted others_taken = record {
    all = length-set journals c (Some new) ∙ was.all;
    kind = λ d. ap has_journal (at d) ∙ by_kind d (d == c) refl;
    accepted = λ d. ap accepted_in (at d) ∙ by_accepted d (d == c) refl;
    taken = λ d. ap taken_in (at d) ∙ by_taken d (d == c) refl;
    fits = λ d journal is. by_journal d journal (d == c) refl (sym (at d) ∙ is);
  }
    where
      at : (d : ℕ) → journal_at (set journals c (Some new)) d ≡ (if d == c then Some new else journal_at journals d)
      at d = journal_at-set journals c (Some new) within d

      by_kind : (d : ℕ) (b : Bool) → (d == c) ≡ b → has_journal (if b then Some new else journal_at journals d) ≡ is_queuing config d
      by_kind d true is = let here : d ≡ c = grind (arith, nat_tests) in sym (ap (λ (k : ℕ). is_queuing config k) here ∙ queuing)
      by_kind d false is = was.kind d

      by_accepted : (d : ℕ) (b : Bool) → (d == c) ≡ b → accepted_in (if b then Some new else journal_at journals d) ≡ accepted_on config d h'
      by_accepted d true is = let here : d ≡ c = grind (arith, nat_tests) in accepted ∙ ap (λ (k : ℕ). accepted_on config k h') (sym here)
      by_accepted d false is = let apart : d ≢ c = grind (arith, nat_tests) in was.accepted d ∙ sym (others_accepted d apart)

      by_taken : (d : ℕ) (b : Bool) → (d == c) ≡ b → taken_in (if b then Some new else journal_at journals d) ≡ taken_on config d t'
      by_taken d true is = let here : d ≡ c = grind (arith, nat_tests) in taken ∙ ap (λ (k : ℕ). taken_on config k t') (sym here)
      by_taken d false is = let apart : d ≢ c = grind (arith, nat_tests) in was.taken d ∙ sym (others_taken d apart)

      by_journal : (d : ℕ) (journal : Journal A) (b : Bool) → (d == c) ≡ b → (if b then Some new else journal_at journals d) ≡ Some journal → vec_capacity journal.accepted ≤ vec_capacity journal.taken
      by_journal d journal true is found = let same : new ≡ journal = cc in subst (λ (j : Journal A). vec_capacity j.accepted ≤ vec_capacity j.taken) same fits
      by_journal d journal false is found = was.fits d journal found

-- ---- what an entry puts into a journal

-- a channel that accepts a message has a journal
pub accepts_queuing : (config : Configuration) (h : History) (e : Entry) (c : ℕ) (m : List ℕ) → IsSound config (h ++ e ∷ []) → message_accepted config c e ≡ Some m → is_queuing config c ≡ true
accepts_queuing config h e c m sound sent = by_kind (is_queuing config c) refl
  where
    some_of : (xs : List (List ℕ)) → xs ++ m ∷ [] ≡ [] → ⊥
    some_of [] none = cc
    some_of (x ∷ xs) none = cc

    by_kind : (b : Bool) → is_queuing config c ≡ b → is_queuing config c ≡ true
    by_kind true is = is
    by_kind false is =
        let nothing = (always_conserved config (h ++ e ∷ []) c sound).sampling is in
        let grown : accepted_on config c (h ++ e ∷ []) ≡ accepted_on config c h ++ m ∷ [] = accepted_on-append config c h e ∙ ap (λ o. accepted_on config c h ++ option_to_list o) sent in
        absurd (some_of (accepted_on config c h) (sym grown ∙ nothing))

-- no more is taken than was accepted
pub taken_within : (config : Configuration) (h : History) (c : ℕ) → IsSound config h → length (taken_on config c h) ≤ length (accepted_on config c h)
taken_within config h c sound =
    let count = ap (λ (xs : List (List ℕ)). length xs) (always_conserved config h c sound).messages in
    omega (arith, count, length-map (taken_on config c h) (λ (one : Taken). one.message), length-append (messages_of (taken_on config c h)) (waiting_on config c h))

pub taken-one : (config : Configuration) (h : History) (e : Entry) (c : ℕ) (m : List ℕ) → message_received config c e ≡ Some m → taken_on config c (h ++ e ∷ []) ≡ taken_on config c h ++ as_received m ∷ []
taken-one config h e c m received = taken-received config c h e m received (receives_no_clear config c e m received c)

-- a channel from which a message is received has a journal, and it accepted more messages than were taken before
pub receives_within : (config : Configuration) (h : History) (e : Entry) (c : ℕ) (m : List ℕ) → IsSound config (h ++ e ∷ []) → message_received config c e ≡ Some m → length (taken_on config c h) < length (accepted_on config c (h ++ e ∷ []))
receives_within config h e c m sound received =
    let longer = ap (λ (xs : List Taken). length xs) (taken-one config h e c m received) in
    omega (arith, longer, taken_within config (h ++ e ∷ []) c sound, length-append (taken_on config c h) (as_received m ∷ []))

pub receives_queuing : (config : Configuration) (h : History) (e : Entry) (c : ℕ) (m : List ℕ) → IsSound config (h ++ e ∷ []) → message_received config c e ≡ Some m → is_queuing config c ≡ true
receives_queuing config h e c m sound received = by_kind (is_queuing config c) refl
  where
    by_kind : (b : Bool) → is_queuing config c ≡ b → is_queuing config c ≡ true
    by_kind true is = is
    by_kind false is =
        let within = receives_within config h e c m sound received in
        let nothing = ap (λ (xs : List (List ℕ)). length xs) ((always_conserved config (h ++ e ∷ []) c sound).sampling is) in
        absurd (omega arith)

pub accepted-one : (config : Configuration) (h : History) (e : Entry) (c : ℕ) (m : List ℕ) → message_accepted config c e ≡ Some m → accepted_on config c (h ++ e ∷ []) ≡ accepted_on config c h ++ m ∷ []
accepted-one config h e c m sent = accepted_on-append config c h e ∙ ap (λ o. accepted_on config c h ++ option_to_list o) sent

-- a queuing channel has a journal
pub no_journal : {A : Type 0} (config : Configuration) (h t : History) (journals : List (Option (Journal A))) (c : ℕ) → AreJournals config h t journals → journal_at journals c ≡ None → is_queuing config c ≡ true → ⊥
no_journal config h t journals c are none queuing = let none : false ≡ true = ap has_journal (sym none) ∙ are.kind c ∙ queuing in cc

-- what is accepted was sent
pub accepted_is_sent : (config : Configuration) (e : Entry) (c : ℕ) (m : List ℕ) → message_accepted config c e ≡ Some m → message_sent config c e.partition e.call ≡ Some m
accepted_is_sent config e c m = by_code (is_code_no_error e.reply)
  where
    by_code : (b : Bool) → ◌≡◌ {A = Option (List ℕ)} (if b then message_sent config c e.partition e.call else None) (Some m) → message_sent config c e.partition e.call ≡ Some m
    by_code true is = is
    by_code false is = absurd (cc)

pub found_here : (c : ℕ) (m : List ℕ) → ◌≡◌ {A = Option (List ℕ)} (if c == c then Some m else None) (Some m)
found_here c m = let on : (c == c) ≡ true = grind (arith, nat_tests) in λ i. if on i then Some m else None

-- the other channels
pub only_accepted : (config : Configuration) (h : History) (e : Entry) (c : ℕ) (m : List ℕ) → ((d : ℕ) → message_accepted config d e ≡ (if c == d then Some m else None)) → (d : ℕ) → d ≢ c → accepted_on config d (h ++ e ∷ []) ≡ accepted_on config d h
only_accepted config h e c m found d apart =
    let off : (c == d) ≡ false = grind (arith, nat_tests) in
    accepted_stays config d h e (found d ∙ (λ i. if off i then Some m else None))

pub only_received : (config : Configuration) (h : History) (e : Entry) (c : ℕ) (m : List ℕ) → ((d : ℕ) → message_received config d e ≡ (if c == d then Some m else None)) → (d : ℕ) → d ≢ c → taken_on config d (h ++ e ∷ []) ≡ taken_on config d h
only_received config h e c m found d apart =
    let off : (c == d) ≡ false = grind (arith, nat_tests) in
    let here = found c ∙ found_here c m in
    taken_stays config d h e (found d ∙ (λ i. if off i then Some m else None)) (receives_no_clear config c e m here d)

-- ---- an entry that clears a channel

module _ (config : Configuration) (h : History) (e : Entry) (c : ℕ) (clear : clears config c e ≡ true) where
  clear_is_no_send : message_accepted config c e ≡ None
  clear_is_no_send = (λ i. if is_code_no_error e.reply then by_call e.call (and_true (is_code_no_error e.reply) (is_clear config c e.partition e.call) clear).1 i else None) ∙ none_or_none (is_code_no_error e.reply)
    where
      by_call : (call : Call) → is_clear config c e.partition call ≡ true → message_sent config c e.partition call ≡ None
      by_call (SendQueuing id message) is = absurd (cc)
      by_call _ is = refl

  -- it takes each accepted message that wasn't taken before
  pub taken-rest : taken_on config c (h ++ e ∷ []) ≡ taken_on config c h ++ map as_cleared (drop (length (taken_on config c h)) (accepted_on config c (h ++ e ∷ [])))
  taken-rest =
      taken-cleared config c h e clear
      ∙ ap (λ (xs : List (List ℕ)). taken_on config c h ++ map as_cleared (drop (length (taken_on config c h)) xs)) (sym (accepted_stays config c h e clear_is_no_send))

  pub clears_within : IsSound config (h ++ e ∷ []) → length (taken_on config c h) ≤ length (accepted_on config c (h ++ e ∷ []))
  clears_within sound =
      let longer = ap (λ (xs : List Taken). length xs) taken-rest in
      omega (arith, longer, taken_within config (h ++ e ∷ []) c sound, length-append (taken_on config c h) (map as_cleared (drop (length (taken_on config c h)) (accepted_on config c (h ++ e ∷ [])))))

pub only_cleared : (config : Configuration) (h : History) (e : Entry) (c : ℕ) → ((d : ℕ) → message_received config d e ≡ None) → ((d : ℕ) → clears config d e ≡ (c == d)) → (d : ℕ) → d ≢ c → taken_on config d (h ++ e ∷ []) ≡ taken_on config d h
only_cleared config h e c none found d apart = taken_stays config d h e (none d) (found d ∙ grind (arith, nat_tests))

-- nothing is taken from a channel without a journal
nothing_taken : (config : Configuration) (h : History) (c : ℕ) → IsSound config h → is_queuing config c ≡ false → taken_on config c h ≡ []
nothing_taken config h c sound sampling =
    let within = taken_within config h c sound in
    let none = ap (λ (xs : List (List ℕ)). length xs) ((always_conserved config h c sound).sampling sampling) in
    by_length (taken_on config c h) (omega arith)
  where
    by_length : (xs : List Taken) → length xs ≡ 0 → xs ≡ []
    by_length [] none = refl
    by_length (x ∷ xs) none = absurd (omega arith)

-- ---- an entry without a message

pub accepts_nothing : {A : Type 0} (config : Configuration) (h : History) (e : Entry) (journals : List (Option (Journal A))) → AreJournals config h h journals → ((d : ℕ) → message_accepted config d e ≡ None) → AreJournals config (h ++ e ∷ []) h journals
accepts_nothing config h e journals was none = record {
  all = was.all;
  kind = was.kind;
  accepted = λ d. was.accepted d ∙ sym (accepted_stays config d h e (none d));
  taken = was.taken;
  fits = was.fits;
}

pub takes_nothing : {A : Type 0} (config : Configuration) (h : History) (e : Entry) (journals : List (Option (Journal A))) → AreJournals config (h ++ e ∷ []) h journals → ((d : ℕ) → message_received config d e ≡ None) → ((d : ℕ) → clears config d e ≡ false) → AreJournals config (h ++ e ∷ []) (h ++ e ∷ []) journals
takes_nothing config h e journals was none no_clear = record {
  all = was.all;
  kind = was.kind;
  accepted = was.accepted;
  taken = λ d. was.taken d ∙ sym (taken_stays config d h e (none d) (no_clear d));
  fits = was.fits;
}

-- a clear of a channel without a journal takes nothing
pub clears_without_journal : {A : Type 0} (config : Configuration) (h : History) (e : Entry) (c : ℕ) (journals : List (Option (Journal A))) → IsSound config (h ++ e ∷ []) → AreJournals config (h ++ e ∷ []) h journals → journal_at journals c ≡ None
    → ((d : ℕ) → message_received config d e ≡ None) → ((d : ℕ) → clears config d e ≡ (c == d)) → AreJournals config (h ++ e ∷ []) (h ++ e ∷ []) journals
clears_without_journal config h e c journals sound was none no_receive found = record {
  all = was.all;
  kind = was.kind;
  accepted = was.accepted;
  taken = λ d. by_index d (c == d) refl;
  fits = was.fits;
}
  where
    by_index : (d : ℕ) (b : Bool) → (c == d) ≡ b → taken_in (journal_at journals d) ≡ taken_on config d (h ++ e ∷ [])
    by_index d true is =
        let here : c ≡ d = grind (arith, nat_tests) in
        let there : journal_at journals d ≡ None = (λ i. journal_at journals (sym here i)) ∙ none in
        let sampling : is_queuing config d ≡ false = sym (was.kind d) ∙ ap has_journal there in
        ap taken_in there ∙ sym (nothing_taken config (h ++ e ∷ []) d sound sampling)
    by_index d false is = was.taken d ∙ sym (taken_stays config d h e (no_receive d) (found d ∙ is))

-- ---- new journals

-- if nothing is found, the index is past the list
slice_get_outside : {X : Type 0} (xs : List X) (c : ℕ) → slice_get xs c ≡ None → length xs ≤ c
slice_get_outside [] c none = omega arith
slice_get_outside (x ∷ xs) zero none = absurd (cc)
slice_get_outside (x ∷ xs) (suc c) none = let rest = slice_get_outside xs c none in omega arith

-- no channel past the last one is a queuing channel
past_last : (config : Configuration) (c : ℕ) → length config.channels ≤ c → is_queuing config c ≡ false
past_last config c past = ap is_queue (slice_get_past config.channels c past)

pub fresh_journals : {A : Type 0} (config : Configuration) (journals : List (Option (Journal A))) → length journals ≡ length config.channels → EachAt (IsFresh config) journals → AreJournals config [] [] journals
fresh_journals {A} config journals all each = record {
  all = all;
  kind = λ c. by_kind c (slice_get journals c) refl;
  accepted = λ c. by_accepted c (slice_get journals c) refl;
  taken = λ c. by_taken c (slice_get journals c) refl;
  fits = λ c journal is. by_journal c (slice_get journals c) journal refl is;
}
  where
    by_kind : (c : ℕ) (found : Option (Option (Journal A))) → slice_get journals c ≡ found → has_journal (if_there found) ≡ is_queuing config c
    by_kind c None is = sym (past_last config c (let outside = slice_get_outside journals c is in omega arith))
    by_kind c (Some None) is = sym (each c None is)
    by_kind c (Some (Some journal)) is = sym (each c (Some journal) is).0

    by_accepted : (c : ℕ) (found : Option (Option (Journal A))) → slice_get journals c ≡ found → accepted_in (if_there found) ≡ []
    by_accepted c None is = refl
    by_accepted c (Some None) is = refl
    by_accepted c (Some (Some journal)) is = (each c (Some journal) is).1

    by_taken : (c : ℕ) (found : Option (Option (Journal A))) → slice_get journals c ≡ found → taken_in (if_there found) ≡ []
    by_taken c None is = refl
    by_taken c (Some None) is = refl
    by_taken c (Some (Some journal)) is = (each c (Some journal) is).2

    by_journal : (c : ℕ) (found : Option (Option (Journal A))) (journal : Journal A) → slice_get journals c ≡ found → if_there found ≡ Some journal → vec_capacity journal.accepted ≤ vec_capacity journal.taken
    by_journal c None journal is here = absurd (cc)
    by_journal c (Some None) journal is here = absurd (cc)
    by_journal c (Some (Some journal')) journal is here =
        let same : journal' ≡ journal = cc in
        subst (λ (j : Journal A). vec_capacity j.accepted ≤ vec_capacity j.taken) same (each c (Some journal') is).3

-- a journal that exists is one of the list
pub journal_within : {A : Type 0} (journals : List (Option (Journal A))) (c : ℕ) (journal : Journal A) → journal_at journals c ≡ Some journal → c < length journals
journal_within [] c journal here = absurd (cc)
journal_within (x ∷ journals) zero journal here = omega arith
journal_within (x ∷ journals) (suc c) journal here = let rest = journal_within journals c journal here in omega arith
