-- A search that goes back before its last call.
use Rattle.apex_log_orders.proofs.Common.{◌≡◌, ℕ, suc, List, [], ◌∷◌, ◌++◌, length, set, Option, Some, sym, ap, ◌∙◌, subst, slice_get, option_to_list, Configuration, Entry, History, entries_of, at_seam, stays_before, CallPlace, Logs, IsBeginning, entries_at, GoesOn, Ends, HasNoWay, IsMade, IsOwn, AreOwn, IsWalk}
use Rattle.apex_log_orders.specs.declared.walk.Walk.{Walk}
use Rattle.apex_log_orders.proofs.Beginnings.{begins_front, goes_last, same_next, entries_at-push, made_mine}
use Rattle.apex_log_orders.proofs.Counts.{made_back}

-- a list whose last item was removed
pub cut_by : {X : Type 0} (old new : List X) (r : Option X) (x : X) → old ≡ new ++ option_to_list r → r ≡ Some x → old ≡ new ++ x ∷ []
cut_by old new r x is some = is ∙ ap (λ (o : Option _). new ++ option_to_list o) some

module _ (config : Configuration) (logs : Logs) (walk : Walk) (is : IsWalk config logs walk) (path : List CallPlace) (place : CallPlace) (cut : walk.path.items ≡ path ++ place ∷ []) where
  pub own_last : IsOwn config logs place
  own_last = is.own (length path) place (ap (λ (places : List CallPlace). slice_get places (length path)) cut ∙ at_seam path place [])

  pub own_before : AreOwn config logs path
  own_before k other at = is.own k other (ap (λ (places : List CallPlace). slice_get places k) cut ∙ stays_before path (place ∷ []) k other at)

  -- the history before the last call
  abbrev pub before : History
  before = entries_at logs path

  last_entry : walk.judge.log ≡ before ++ own_last.entry ∷ []
  last_entry = is.log ∙ (ap (entries_at logs) cut ∙ entries_at-push logs path place own_last.entry own_last.here)

  begins_whole : IsBeginning config logs (before ++ own_last.entry ∷ [])
  begins_whole = subst (IsBeginning config logs) last_entry is.begins

  pub begins_before : IsBeginning config logs before
  begins_before = begins_front config logs before (own_last.entry ∷ []) begins_whole

  goes : GoesOn config logs before place.partition own_last.entry
  goes = subst (λ (p : ℕ). GoesOn config logs before p own_last.entry) own_last.own (goes_last config logs before own_last.entry begins_whole)

  pub counted : slice_get walk.made.items place.partition ≡ Some (suc (length (entries_of place.partition before)))
  counted =
      is.made.each place.partition own_last.within
      ∙ ap Some (ap (λ (h : History). length (entries_of place.partition h)) last_entry ∙ made_mine config logs before place.partition own_last.entry begins_before goes)

  pub made_before : IsMade config (set walk.made.items place.partition (length (entries_of place.partition before))) before
  made_before = made_back config logs before place.partition own_last.entry begins_before goes own_last.within walk.made.items (subst (IsMade config walk.made.items) last_entry is.made)

  pub no_way : (Ends config logs walk.judge.log → ⊥) → HasNoWay config logs before place.partition
  no_way none entry goes_too ends =
      let same : own_last.entry ≡ entry = same_next config logs before place.partition own_last.entry entry goes goes_too in
      none (subst (Ends config logs) (ap (λ (e : Entry). before ++ e ∷ []) (sym same) ∙ sym last_entry) ends)
