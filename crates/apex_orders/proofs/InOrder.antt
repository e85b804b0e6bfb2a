-- Workers whose points stand one worker after the other.
use Rattle.std.specs.Prelude.{set}
use Rattle.apex_orders.proofs.Common.{◌≡◌, ⊎_elim, ℕ, zero, suc, ◌+◌, ◌<◌, ◌≤◌, List, [], ◌∷◌, ◌++◌, length, take, drop, Some, get_or, refl, sym, ◌∙◌, subst, arith, cases_lt, slice_get, Worker, HaveInOrder, IsRange, reach}

-- the index is that of the order to one of the worker's points
pub record IsPointOf (worker : Worker) (i : ℕ) : Type 0 where
  pub past : worker.first ≤ i
  pub within : i < worker.first + reach worker

-- it is that of one of some workers
pub record HasPointAt (workers : List Worker) (i : ℕ) : Type 0 where
  pub index : ℕ
  pub worker : Worker
  pub here : slice_get workers index ≡ Some worker
  pub is : IsPointOf worker i

-- each point is one of some worker
pub point_at : (from to : ℕ) (workers : List Worker) (i : ℕ) → HaveInOrder from to workers → from ≤ i → i < to → HasPointAt workers i
point_at from to [] i all past below = absurd (omega (arith, all, past, below))
point_at from to (worker ∷ workers) i all past below =
    let first = all.0 in
    ⊎_elim
    (λ (own : i < worker.first + reach worker). record { index = 0; worker = worker; here = refl; is = record { past = omega (arith, past, first); within = own } })
    (λ (others : worker.first + reach worker ≤ i).
    let rest = point_at (worker.first + reach worker) to workers i all.1 others below in
    record { index = suc rest.index; worker = rest.worker; here = rest.here; is = rest.is })
    (cases_lt i (worker.first + reach worker))

-- one more worker
pub in_order_push : (from middle to : ℕ) (workers : List Worker) (one : Worker) → HaveInOrder from middle workers → IsRange middle to one → HaveInOrder from to (workers ++ one ∷ [])
in_order_push from middle to [] one all is = (is.first ∙ sym all, is.last)
in_order_push from middle to (worker ∷ workers) one all is = (all.0, in_order_push (worker.first + reach worker) middle to workers one all.1 is)

-- without the last worker, which has no points
pub in_order_pop : (from to : ℕ) (workers : List Worker) (one : Worker) → reach one ≡ 0 → HaveInOrder from to (workers ++ one ∷ []) → HaveInOrder from to workers
in_order_pop from to [] one none all = let first = all.0 in let last = all.1 in omega (arith, none, first, last)
in_order_pop from to (worker ∷ workers) one none all = (all.0, in_order_pop (worker.first + reach worker) to workers one none all.1)

-- the points are the same
pub record IsSameRange (old new : Worker) : Type 0 where
  pub first : new.first ≡ old.first
  pub reach : reach new ≡ reach old

pub in_order_still : (from to : ℕ) (old new : List Worker) → length new ≡ length old → ((k : ℕ) (worker : Worker) → k < length old → IsSameRange (get_or old k worker) (get_or new k worker))
    → HaveInOrder from to old → HaveInOrder from to new
in_order_still from to [] [] count same all = all
in_order_still from to [] (one ∷ new) count same all = absurd (omega (arith, count))
in_order_still from to (worker ∷ old) [] count same all = absurd (omega (arith, count))
in_order_still from to (worker ∷ old) (one ∷ new) count same all =
    let here = same 0 worker (omega arith) in
    let first = here.first in
    let reached = here.reach in (
      here.first ∙ all.0,
      subst (λ (n : ℕ). HaveInOrder n to new) (omega (arith, first, reached))
          (in_order_still (worker.first + reach worker) to old new (omega (arith, count)) (λ k other within. same (suc k) other (omega (arith, within))) all.1),
    )

-- a worker was halved, and the other half stands behind it
pub in_order_halved : (from to : ℕ) (all : List Worker) (k : ℕ) (old new other : Worker) → slice_get all k ≡ Some old → IsRange old.first other.first new → IsRange other.first (old.first + reach old) other
    → HaveInOrder from to all → HaveInOrder from to (take (suc k) (set all k new) ++ other ∷ drop (suc k) (set all k new))
in_order_halved from to [] k old new other here kept rest is = absurd (cc)
in_order_halved from to (worker ∷ all) zero old new other here kept rest is =
    let same : worker ≡ old = cc in (
      kept.first ∙ subst (λ (w : Worker). w.first ≡ from) same is.0,
      (sym kept.last, subst (λ (n : ℕ). HaveInOrder n to all) (sym rest.last) (subst (λ (w : Worker). HaveInOrder (w.first + reach w) to all) same is.1)),
    )
in_order_halved from to (worker ∷ all) (suc k) old new other here kept rest is =
    (is.0, in_order_halved (worker.first + reach worker) to all k old new other here kept rest is.1)
