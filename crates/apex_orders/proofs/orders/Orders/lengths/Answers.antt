use Rattle.apex_orders.proofs.Common.{◌≡◌, ⊎_elim, ◌<◌, ◌≤◌, ◌+◌, ◌++◌, ◌∷◌, [], List, ℕ, length, map, take, Some, ap, sym, ◌∙◌, arith, length-append, length-map, length-take, map-append, get_or, slice_get, at_index, take_more, LastCall, order_at}
use Rattle.std.proofs.lemmas.List.{get_or-map}
use Rattle.apex_orders.specs.Growth.{orders_of, ContinueEarlier}
use Rattle.apex_orders.proofs.GrowthLemmas.{next_order, orders_count, orders_push}
use Rattle.apex_orders.proofs.Lists.{before_or_last}
use Rattle.apex_orders.proofs.orders.Orders.lengths.Goals as goal

abbrev count : List ℕ → ℕ
count order = length order

-- the lengths of the first k + 1 orders are known, and the last call of the next order was read
module _ (calls : List LastCall) (k : ℕ) (last : LastCall) (lengths : List ℕ) (earlier : ContinueEarlier calls) (within : k < length calls) (read : last ≡ get_or calls k last) (are : lengths ≡ map count (orders_of (take k calls))) where
  many : length lengths ≡ k + 1
  many = let same = ap length are in omega (arith, within, same, length-map (orders_of (take k calls)) count, orders_count (take k calls), length-take k calls)

  before_few : last.before ≤ k
  before_few = earlier k last (at_index calls k last within read)

  pub inside : last.before < length lengths
  inside = omega (arith, many, before_few)

  module _ (n : ℕ) (few : (i m : ℕ) → slice_get lengths i ≡ Some m → m ≤ i) (is : n ≡ get_or lengths last.before n) where
    pub no_more : n ≤ k
    no_more = let own = few last.before n (at_index lengths last.before n inside is) in omega (arith, own, before_few)

    pub one_more : (new : List ℕ) → new ≡ lengths ++ (n + 1) ∷ [] → (new ≡ map count (orders_of (take (k + 1) calls))) × ((i m : ℕ) → slice_get new i ≡ Some m → m ≤ i)
    one_more new is_new =
        let orders = orders_of (take k calls) in
        let room : last.before < length orders = let same = ap length are in omega (arith, inside, same, length-map orders count) in
        let own : n ≡ count (order_at orders last.before) = is ∙ (ap (λ (ns : List ℕ). get_or ns last.before n) are ∙ get_or-map count orders last.before [] n room) in
        let longer : n + 1 ≡ count (next_order orders last) = omega (arith, own, length-append (order_at orders last.before) (last.partition ∷ [])) in
        let more : take (k + 1) calls ≡ take k calls ++ last ∷ [] = take_more calls k last within ∙ ap (λ (l : LastCall). take k calls ++ l ∷ []) (sym read) in
        let all : lengths ++ (n + 1) ∷ [] ≡ map count (orders_of (take (k + 1) calls)) =
        (λ j. are j ++ longer j ∷ [])
        ∙ (sym (map-append count orders (next_order orders last ∷ []))
        ∙ (ap (map count) (sym (orders_push (take k calls) last)) ∙ ap (λ (cs : List LastCall). map count (orders_of cs)) (sym more))) in
        let still_few : (i m : ℕ) → slice_get (lengths ++ (n + 1) ∷ []) i ≡ Some m → m ≤ i =
        λ i m at.
        ⊎_elim
        (λ (before : slice_get lengths i ≡ Some m). few i m before)
        (λ (here : (i ≡ length lengths) × (n + 1 ≡ m)). omega (arith, here.0, here.1, many, no_more))
        (before_or_last lengths (n + 1) i m at) in
        (is_new ∙ all, λ i m at. still_few i m (ap (λ (ns : List ℕ). slice_get ns i) (sym is_new) ∙ at))

pub index-requires : goal.index-requires
index-requires c =
    let within = inside c.self.inside.last_calls.items c.loop-k.k c.index-last.result.now c.loop-k.lengths.items c.self.invariant (omega arith) c.index-last.ensures c.loop-k.invariant.are in
    omega (arith, within)

pub overflow_add-longer : goal.overflow_add-longer
overflow_add-longer c =
    let few = no_more c.self.inside.last_calls.items c.loop-k.k c.index-last.result.now c.loop-k.lengths.items c.self.invariant (omega arith) c.index-last.ensures c.loop-k.invariant.are c.index.result.now c.loop-k.invariant.few c.index.ensures in
    omega (arith, few)

pub loop-k-preserved : goal.loop-k-preserved
loop-k-preserved c =
    let next = one_more c.self.inside.last_calls.items c.loop-k.k c.index-last.result.now c.loop-k.lengths.items c.self.invariant (omega arith) c.index-last.ensures c.loop-k.invariant.are c.index.result.now c.loop-k.invariant.few c.index.ensures c.push-in-loop-k.new.self.items c.in_ok-push-2.ensures.items in
    record { are = next.0; few = next.1 }
