-- The scripts of the partitions inside lead to what all scripts lead to inside.
use Rattle.apex_groups.proofs.Common.{◌≡◌, ⊎_elim, ℕ, ◌<◌, ◌≤◌, Bool, true, false, List, [], length, map, take, Ok, Err, Result, refl, sym, ap, ◌∙◌, subst, arith, slice_get, cases_lt, take_all, Configuration, Entry, History, entries_of, IsPart, PossibleReply, Scripts, script_of, calls_of, IsBeginning, IsEndOfPart, Has, false≢true}
use Rattle.apex_groups.proofs.Common.{CanOccurWith, HasMorePointsWith, IsUndecidedWith, IsUndecidedApart, unclocked, IsFoundOf}
use Rattle.apex_types.specs.declared.call.Call.{Call}
use Rattle.apex_types.specs.declared.moment.Moment.{Moment}
use Rattle.apex_groups.proofs.Exchanged.{here_inside, no_list, none_outside}
use Rattle.apex_orders.specs.declared.orders_fault.OrdersFault.{OrdersFault}
use Rattle.apex_orders.specs.declared.orders_fault.OrdersFault.TheVariants.{TooManyStates, OutOfMemory, Stopped}
use Rattle.apex_orders.specs.declared.outcomes.Outcomes.{Outcomes}
use Rattle.apex_groups.proofs.Lists.{nothing_mapped}

abbrev timed_of : Entry → Moment × Call
timed_of entry = (entry.at, entry.call)

-- a partition without calls has no entries, and gets no reply
no_entries : (scripts : Scripts) (p : ℕ) (h : History) → script_of scripts p ≡ [] → calls_of p h ≡ script_of scripts p → entries_of p h ≡ []
no_entries scripts p h none is = nothing_mapped timed_of (entries_of p h) (is ∙ none)

no_reply : (clock : Bool) (config : Configuration) (scripts : Scripts) (one : PossibleReply) → script_of scripts one.partition ≡ [] → CanOccurWith clock config scripts one → ⊥
no_reply clock config scripts one none can =
    let nothing = no_entries scripts one.partition can.way none (can.is_way.calls one.partition) in
    let at = sym (ap (λ (es : History). slice_get (map (λ (entry : Entry). entry.reply) es) one.index) nothing) ∙ can.reply in
    absurd (cc)

-- what is answered belongs to a partition of the configuration
pub occurs_within : (clock : Bool) (config : Configuration) (scripts : Scripts) → length scripts ≡ length config.partitions → (one : PossibleReply) → CanOccurWith clock config scripts one → one.partition < length config.partitions
occurs_within clock config scripts count one can = ⊎_elim
    (λ (within : one.partition < length config.partitions). within)
    (λ (beyond : length config.partitions ≤ one.partition). absurd (no_reply clock config scripts one (no_list scripts one.partition (omega (arith, count, beyond))) can))
    (cases_lt one.partition (length config.partitions))

module _ (config : Configuration) (inside : ℕ → Bool) (scripts part : Scripts) (is : IsPart inside scripts part) where
  -- ---- beginnings

  pub part_begins : (h : History) → IsBeginning config part h → IsBeginning config scripts h
  part_begins h begins = record { lawful = begins.lawful; calls = λ p. by_test p (inside p) refl }
    where
      by_test : (p : ℕ) (b : Bool) → inside p ≡ b → calls_of p h ≡ take (length (calls_of p h)) (script_of scripts p)
      by_test p true here = begins.calls p ∙ ap (take (length (calls_of p h))) (here_inside inside scripts part is p here)
      by_test p false out =
          let none : calls_of p h ≡ [] = begins.calls p ∙ (ap (take (length (calls_of p h))) (none_outside inside scripts part is p out) ∙ take_all (length (calls_of p h)) [] (omega arith)) in
          subst (λ (calls : List (Moment × Call)). calls ≡ take (length calls) (script_of scripts p)) (sym none) refl

  -- more points than a bound are points of all scripts, too
  more_points : (bound : ℕ) → HasMorePointsWith false config part bound → HasMorePointsWith false config scripts bound
  more_points bound more = record {
    histories = more.histories;
    many = more.many;
    beginnings = λ h has. part_begins h (more.beginnings h has);
    clocked = λ h has. unclocked scripts h;
    apart = more.apart;
  }

  more_without : (clock : Bool) (bound : ℕ) → HasMorePointsWith clock config part bound → clock ≡ false → HasMorePointsWith clock config scripts bound
  more_without false bound more off = more_points bound more
  more_without true bound more off = absurd (false≢true (sym off))

  pub undecided_part : {X : Type 0} (clock : Bool) (can_stop : Type 0) (bound : ℕ) (result : Result X OrdersFault)
      → IsUndecidedWith clock can_stop config part bound result → IsUndecidedApart clock can_stop config scripts bound result
  undecided_part clock can_stop bound (Ok found) undecided = tt
  undecided_part clock can_stop bound (Err TooManyStates) undecided = more_without clock bound undecided
  undecided_part clock can_stop bound (Err Stopped) undecided = undecided
  undecided_part clock can_stop bound (Err OutOfMemory) undecided = tt

-- ---- orders of the part

pub ends_of : (clock : Bool) (config : Configuration) (inside : ℕ → Bool) (scripts : Scripts) (found : Outcomes) → IsFoundOf clock config inside scripts found
    → (order : List ℕ) → Has found.ends.items order → IsEndOfPart clock config inside scripts order
ends_of clock config inside scripts found is order has = record {
  of_part = record { part = is.part; is = is.is; clocked = is.ends.clocked order has };
  is_way = is.ends.ways order has;
}

-- ---- what stays undecided

pub undecided_too : (X Y : Type 0) (clock : Bool) (can_stop : Type 0) (config : Configuration) (scripts : Scripts) (bound : ℕ) (fault : OrdersFault)
    → IsUndecidedApart {X = X} clock can_stop config scripts bound (Err fault) → IsUndecidedApart {X = Y} clock can_stop config scripts bound (Err fault)
undecided_too X Y clock can_stop config scripts bound TooManyStates undecided = undecided
undecided_too X Y clock can_stop config scripts bound Stopped undecided = undecided
undecided_too X Y clock can_stop config scripts bound OutOfMemory undecided = tt

pub undecided_apart : (X Y : Type 0) (clock : Bool) (can_stop : Type 0) (config : Configuration) (scripts : Scripts) (bound : ℕ) (fault : OrdersFault) → (fault ≡ TooManyStates → clock ≡ false)
    → IsUndecidedApart {X = X} clock can_stop config scripts bound (Err fault) → IsUndecidedWith {X = Y} clock can_stop config scripts bound (Err fault)
undecided_apart X Y clock can_stop config scripts bound TooManyStates off undecided = undecided (off refl)
undecided_apart X Y clock can_stop config scripts bound Stopped off undecided = undecided
undecided_apart X Y clock can_stop config scripts bound OutOfMemory off undecided = tt
