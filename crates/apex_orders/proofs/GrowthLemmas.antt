-- Orders that continue each other by one call.
use Rattle.apex_orders.proofs.Common.{◌≡◌, ⊎_elim, ℕ, zero, suc, ◌+◌, ◌<◌, ◌≤◌, List, [], ◌∷◌, ◌++◌, length, Some, refl, sym, ap, ◌∙◌, subst, arith, length-append, slice_get, slice_get-get_or, get_or_from_slice_get, slice_get_within, LastCall, order_at, Keeps}
use Rattle.apex_orders.specs.Growth.{grown, orders_of, ContinueEarlier}
use Rattle.apex_orders.proofs.Lists.{at_seam, stays_before, before_or_last}

-- the order that ends with the call
abbrev pub next_order : List (List ℕ) → LastCall → List ℕ
next_order known last = order_at known last.before ++ last.partition ∷ []

grown_push : (known : List (List ℕ)) (calls : List LastCall) (last : LastCall) → grown known (calls ++ last ∷ []) ≡ grown known calls ++ next_order (grown known calls) last ∷ []
grown_push known [] last = refl
grown_push known (one ∷ calls) last = grown_push (known ++ next_order known one ∷ []) calls last

grown_count : (known : List (List ℕ)) (calls : List LastCall) → length (grown known calls) ≡ length known + length calls
grown_count known [] = omega arith
grown_count known (one ∷ calls) =
    let rest = grown_count (known ++ next_order known one ∷ []) calls in
    omega (arith, rest, length-append known (next_order known one ∷ []))

grown_keeps : (known : List (List ℕ)) (calls : List LastCall) (k : ℕ) (order : List ℕ) → slice_get known k ≡ Some order → slice_get (grown known calls) k ≡ Some order
grown_keeps known [] k order at = at
grown_keeps known (one ∷ calls) k order at =
    grown_keeps (known ++ next_order known one ∷ []) calls k order (stays_before known (next_order known one ∷ []) k order at)

grown_at : (known : List (List ℕ)) (calls : List LastCall) (k : ℕ) (last : LastCall) → slice_get calls k ≡ Some last → last.before < length known + k
    → slice_get (grown known calls) (length known + k) ≡ Some (next_order (grown known calls) last)
grown_at known [] k last at earlier = absurd (cc)
grown_at known (one ∷ calls) zero last at earlier =
    let more = known ++ next_order known one ∷ [] in
    let same : one ≡ last = cc in
    let here : slice_get (grown more calls) (length known) ≡ Some (next_order known one) = grown_keeps more calls (length known) (next_order known one) (at_seam known (next_order known one) []) in
    let before : slice_get known one.before ≡ Some (order_at known one.before) = slice_get-get_or known one.before [] (subst (λ (l : LastCall). l.before < length known) (sym same) (omega (arith, earlier))) in
    let kept : slice_get (grown more calls) one.before ≡ Some (order_at known one.before) = grown_keeps more calls one.before (order_at known one.before) (stays_before known (next_order known one ∷ []) one.before (order_at known one.before) before) in
    let there : order_at (grown more calls) one.before ≡ order_at known one.before = get_or_from_slice_get (grown more calls) one.before (order_at known one.before) [] kept in
    let index : length known + 0 ≡ length known = omega arith in
    ap (λ (n : ℕ). slice_get (grown more calls) n) index
    ∙ (here
    ∙ (ap (λ (before : List ℕ). Some (before ++ one.partition ∷ [])) (sym there)
    ∙ ap (λ (l : LastCall). Some (next_order (grown more calls) l)) same))
grown_at known (one ∷ calls) (suc k) last at earlier =
    let more = known ++ next_order known one ∷ [] in
    let count : length more ≡ length known + 1 = length-append known (next_order known one ∷ []) in
    let index : length known + suc k ≡ length more + k = omega (arith, count) in
    ap (λ (n : ℕ). slice_get (grown more calls) n) index
    ∙ grown_at more calls k last at (omega (arith, earlier, count))

pub orders_count : (calls : List LastCall) → length (orders_of calls) ≡ length calls + 1
orders_count calls = let count = grown_count ([] ∷ []) calls in omega (arith, count)

pub orders_push : (calls : List LastCall) (last : LastCall) → orders_of (calls ++ last ∷ []) ≡ orders_of calls ++ next_order (orders_of calls) last ∷ []
orders_push calls last = grown_push ([] ∷ []) calls last

pub first_order : (calls : List LastCall) → order_at (orders_of calls) 0 ≡ []
first_order calls = get_or_from_slice_get (orders_of calls) 0 [] [] (grown_keeps ([] ∷ []) calls 0 [] refl)

-- an order but the first continues the one before its last call
pub order_after : (calls : List LastCall) (n k : ℕ) (last : LastCall) → ContinueEarlier calls → n ≡ k + 1 → slice_get calls k ≡ Some last
    → order_at (orders_of calls) n ≡ next_order (orders_of calls) last
order_after calls n k last earlier is at =
    let within = earlier k last at in
    let here = grown_at ([] ∷ []) calls k last at (omega (arith, within)) in
    let index : n ≡ 1 + k = omega (arith, is) in
    get_or_from_slice_get (orders_of calls) n (next_order (orders_of calls) last) [] (ap (λ (m : ℕ). slice_get (orders_of calls) m) index ∙ here)

pub continue_push : (calls : List LastCall) (last : LastCall) → ContinueEarlier calls → last.before ≤ length calls → ContinueEarlier (calls ++ last ∷ [])
continue_push calls last earlier within k one at =
    ⊎_elim
    (λ (before : slice_get calls k ≡ Some one). earlier k one before)
    (λ (here : (k ≡ length calls) × (last ≡ one)).
    subst (λ (x : ℕ × LastCall). x.1.before ≤ x.0) (λ i. (sym here.0 i, here.1 i)) within)
    (before_or_last calls last k one at)

-- ---- the order at an index

pub order_here : (orders : List (List ℕ)) (k : ℕ) → k < length orders → slice_get orders k ≡ Some (order_at orders k)
order_here orders k within = slice_get-get_or orders k [] within

pub order_kept : (old new : List (List ℕ)) (k : ℕ) → Keeps old new → k < length old → order_at new k ≡ order_at old k
order_kept old new k keeps within = get_or_from_slice_get new k (order_at old k) [] (keeps k (order_at old k) (order_here old k within))

pub still_within : (old new : List (List ℕ)) (k : ℕ) → Keeps old new → k < length old → k < length new
still_within old new k keeps within = slice_get_within new k (order_at old k) (keeps k (order_at old k) (order_here old k within))
