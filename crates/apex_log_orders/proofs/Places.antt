-- Places of entries.
use Rattle.apex_log_orders.proofs.Common.{◌≡◌, ⊎_elim, List, [], ◌∷◌, ◌++◌, length, Option, Some, None, refl, subst, slice_get, unwrap_or, Entry, History, CallPlace, Logs, entry_at, IsOwn, AreOwn, Configuration, before_or_last}

-- the log that has the place
pub log_of : (logs : Logs) (place : CallPlace) (e : Entry) → entry_at logs place ≡ Some e
    → (log : History) × (slice_get logs place.partition ≡ Some log) × (slice_get log place.index ≡ Some e)
log_of logs place e here = of_log (slice_get logs place.partition) refl here
  where
    of_log : (o : Option History) → slice_get logs place.partition ≡ o → slice_get (unwrap_or o []) place.index ≡ Some e
        → (log : History) × (slice_get logs place.partition ≡ Some log) × (slice_get log place.index ≡ Some e)
    of_log None is at = absurd cc
    of_log (Some log) is at = (log, is, at)

-- with one more place, each still has an entry
pub own_push : (config : Configuration) (logs : Logs) (places : List CallPlace) (place : CallPlace) → IsOwn config logs place → AreOwn config logs places → AreOwn config logs (places ++ place ∷ [])
own_push config logs places place is are k other at = ⊎_elim
    (λ (before : slice_get places k ≡ Some other). are k other before)
    (λ (last : (k ≡ length places) × (place ≡ other)). subst (IsOwn config logs) last.1 is)
    (before_or_last places place k other at)
