-- The steps of publishers and observers keep the rule for a channel's versions.
use Rattle.std.proofs.Common.{◌≡◌, ◌≢◌, ℕ, List, Option, None, Some, slice_set, refl, subst, ap, sym, ◌∙◌, ⊎_elim}
use mathlib.Core.Option.{some}
use lib.ListN.{get_elem?}
use Rattle.crossbeam_utils.specs.Register.{Admits, TurnsAt, Forks, Merges}
use Rattle.atomic_table.proofs.Lists.{at_set, at_snoc}
use Rattle.logbook.specs.Pages.{Book}
use Rattle.apex_observers.specs.Published.{Published}
use Rattle.apex_observers.specs.OneChannel.{IsOf, IsOneChannel, Takes}

-- a pass that knows nothing may come at any time
of_none : (channel : Book) → IsOf channel None
of_none channel published is = absurd (cc is)

pub admits : Admits IsOneChannel None
admits version views h pass known at =
    ⊎_elim (h pass known) (λ (e : None ≡ known) published is. absurd (cc (e, is))) (at_snoc views None known pass at)

-- a version of the same channel may replace the one that is shown
pub turns : (pass : ℕ) (known : Option Published) (old new : Published) → new.channel ≡ old.channel → TurnsAt IsOneChannel pass known old new Takes
turns pass known old new same views h at = (
  Some new,
  (λ j other e published is. ⊎_elim
      (λ (t : (j ≡ pass) × (Some new ≡ other)). let p : published ≡ new = cc (t.1, is) in ap (λ w. w.channel) p)
      (λ (t : (j ≢ pass) × (get_elem? views j ≡ some other)). h j other t.1 published is ∙ sym same)
      (at_set views pass j (Some new) other e)),
  (h pass known at, refl),
)

kept_set : (version : Published) (views : List (Option Published)) (pass : ℕ) (known : Option Published) → IsOneChannel version views → IsOf version.channel known → IsOneChannel version (slice_set views pass known)
kept_set version views pass known h fits j other e = ⊎_elim
    (λ (t : (j ≡ pass) × (known ≡ other)). subst (IsOf version.channel) t.1 fits)
    (λ (t : (j ≢ pass) × (get_elem? views j ≡ some other)). h j other t.1)
    (at_set views pass j known other e)

-- the writer may pass on what it knows
pub forks : (pass : ℕ) (known : Option Published) → Forks IsOneChannel pass known known known
forks pass known version views h at j other e = ⊎_elim
    (λ (there : get_elem? (slice_set views pass known) j ≡ some other). kept_set version views pass known h (h pass known at) j other there)
    (λ (is : known ≡ other). h pass other (at ∙ ap some is))
    (at_snoc (slice_set views pass known) known other j e)

passed_fits : (version : Published) (views : List (Option Published)) (pass other : ℕ) (passed : Option Published) → IsOneChannel version views → ¬ (other ≡ pass) → get_elem? (slice_set views pass passed) other ≡ some passed → IsOf version.channel passed
passed_fits version views pass other passed h apart there = ⊎_elim
    (λ (t : (other ≡ pass) × (passed ≡ passed)). absurd (apart t.0))
    (λ (t : (other ≢ pass) × (get_elem? views other ≡ some passed)). h other passed t.1)
    (at_set views pass other passed passed there)

-- whoever receives it knows it instead of what it knew
pub merges : (pass : ℕ) (known : Option Published) (other : ℕ) (passed : Option Published) → Merges IsOneChannel pass known other passed passed None
merges pass known other passed version views h at apart there =
    let fits : IsOf version.channel passed = passed_fits version views pass other passed h apart there in
    kept_set version (slice_set views pass passed) other None (kept_set version views pass passed h fits) (of_none version.channel)
