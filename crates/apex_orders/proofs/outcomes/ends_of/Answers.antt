use Rattle.apex_orders.proofs.Common.{◌≡◌, ◌<◌, ◌+◌, ◌++◌, ◌∷◌, [], List, ℕ, length, map, take, get_or, sym, ap, ◌∙◌, subst, arith, take_more, false≢true, order_at, AreEndsOf, NamesAll}
use Rattle.std.proofs.lemmas.List.{get_or-map}
use Rattle.apex_orders.proofs.EndLemmas.{all_made, all_named, no_end, one_end, long_enough}
use Rattle.apex_orders.proofs.outcomes.ends_of.Goals as goal
use Rattle.apex_orders.proofs.outcomes.ends_of.Goals.{then-index-total+in_ok-order, then-names_all+in_ok-unpacked+in_ok-push, else-names_all, else-index-total}

-- the length that was read
length_at : (orders : List (List ℕ)) (lengths : List ℕ) (k n : ℕ) → lengths ≡ map (λ order. length order) orders → k < length orders → n ≡ get_or lengths k n → n ≡ length (order_at orders k)
length_at orders lengths k n are within is = is ∙ (ap (λ (ns : List ℕ). get_or ns k n) are ∙ get_or-map (λ order. length order) orders k [] n within)

pub loop-k-preserved : goal.loop-k-preserved
loop-k-preserved c =
    let config = c.args.config.now in
    let scripts = c.args.scripts.now in
    let orders = c.args.orders.now in
    let i = c.loop-k.k in
    let item = order_at orders i in
    let within : i < length orders = omega arith in
    let longer : take (i + 1) orders ≡ take i orders ++ item ∷ [] = take_more orders i [] within in
    let own = length_at orders c.in_ok-lengths.lengths.items i c.index.result.now c.in_ok-lengths.ensures within c.index.ensures in
    elim c.if-index-total.branch [
      | then-index-total+in_ok-order w ↦
          let order : w.in_ok-order.order ≡ item = w.in_ok-order.ensures in
          elim w.if-names_all.branch [
            | then-names_all+in_ok-unpacked+in_ok-push v ↦
                let pushed : c.if-index-total.ends.items ≡ c.loop-k.ends.items ++ item ∷ [] =
                ap (λ ends. ends.items) w.ends-is ∙ ap (λ ends. ends.items) v.ends-is
                ∙ v.in_ok-push.ensures.items ∙ ap (λ (o : List ℕ). c.loop-k.ends.items ++ o ∷ []) (v.in_ok-unpacked.ensures ∙ order) in
                subst (λ (x : List (List ℕ) × List (List ℕ)). AreEndsOf config scripts x.0 x.1) (λ j. (sym longer j, sym pushed j))
                (one_end config scripts (take i orders) c.loop-k.ends.items item c.loop-k.invariant
                (all_made config scripts c.requires item (subst (NamesAll scripts) order (w.names_all.ensures.0 v.if-names_all.true))))
            | else-names_all v ↦
                let same : c.if-index-total.ends.items ≡ c.loop-k.ends.items = ap (λ ends. ends.items) w.ends-is ∙ ap (λ ends. ends.items) v.ends-is in
                subst (λ (x : List (List ℕ) × List (List ℕ)). AreEndsOf config scripts x.0 x.1) (λ j. (sym longer j, sym same j))
                (no_end config scripts (take i orders) c.loop-k.ends.items item c.loop-k.invariant
                (λ made. false≢true (sym v.if-names_all.false ∙ w.names_all.ensures.1 (subst (NamesAll scripts) (sym order) (all_named config scripts c.requires item made)))))
          ]
      | else-index-total w ↦
          subst (λ (x : List (List ℕ) × List (List ℕ)). AreEndsOf config scripts x.0 x.1) (λ j. (sym longer j, sym (ap (λ ends. ends.items) w.ends-is) j))
          (no_end config scripts (take i orders) c.loop-k.ends.items item c.loop-k.invariant
          (λ made.
          let long = long_enough config scripts item (all_named config scripts c.requires item made) in
          omega (arith, long, own, c.calls_in-total.ensures, w.if-index-total.false)))
    ]
