-- Ranges of counts, one order after the other.
use Rattle.std.proofs.Common.{◌≡◌, ◌<◌, ◌≤◌, ◌+◌, ℕ, List, ◌∷◌, Some, drop, length, arith, ap, sym, ◌∙◌}
use Rattle.std.proofs.lemmas.List.{drop_all, drop_more}
use Rattle.std.proofs.lemmas.Option.{get_or_from_slice_get, slice_get_within}
use Rattle.std.specs.List.{slice_get}
use Rattle.dekarino_texts.specs.Prelude.{Configuration}
use Rattle.apex_orders.specs.Orders.{Scripts, history_of}
use Rattle.apex_groups.proofs.Lists.{item_at}
use Rattle.dekarino_texts.specs.Counts.{AreOnly, AreRanges, AreWidened, counts_after, only, ranges_over, widened, widened_by}
use Rattle.dekarino_texts.specs.declared.counts.Ranges.{Ranges}

module _ (config : Configuration) (scripts : Scripts) (rest : List (List ℕ)) (target : ℕ → Ranges) where
  -- what is left to widen by leads to the target
  abbrev pub LeadsThere : List Ranges → ℕ → Type 0
  LeadsThere all i = (c : ℕ) (ranges : Ranges) → slice_get all c ≡ Some ranges → widened_by config scripts c ranges (drop i rest) ≡ target c

  one_order : (c : ℕ) (ranges : Ranges) (i : ℕ) (order : List ℕ) → slice_get rest i ≡ Some order
      → widened_by config scripts c ranges (drop i rest) ≡ widened_by config scripts c (widened ranges (counts_after config (history_of config scripts order) c)) (drop (i + 1) rest)
  unfolding widened_by
  one_order c ranges i order at =
      ap (widened_by config scripts c ranges)
      (drop_more rest i order (slice_get_within rest i order at) ∙ ap (λ (first : List ℕ). first ∷ drop (i + 1) rest) (get_or_from_slice_get rest i order order at))

  pub widened_on : (before after : List Ranges) (i : ℕ) (order : List ℕ) → slice_get rest i ≡ Some order
      → AreWidened config (history_of config scripts order) before after → LeadsThere before i → LeadsThere after (i + 1)
  widened_on before after i order here are leads c ranges at =
      let beyond = slice_get_within after c ranges at in
      let count = are.count in
      let was = item_at before c (omega (arith, beyond, count)) in
      let both : Some (widened was.0 (counts_after config (history_of config scripts order) c)) ≡ Some ranges = sym (are.each c was.0 was.1) ∙ at in
      let same : widened was.0 (counts_after config (history_of config scripts order) c) ≡ ranges = cc in
      ap (λ (r : Ranges). widened_by config scripts c r (drop (i + 1) rest)) (sym same) ∙ (sym (one_order c was.0 i order here) ∙ leads c was.0 was.1)

-- before the orders after the first one
pub starts_there : (config : Configuration) (scripts : Scripts) (first : List ℕ) (rest orders : List (List ℕ)) (all : List Ranges) → orders ≡ first ∷ rest
    → AreOnly config (history_of config scripts first) all → LeadsThere config scripts rest (ranges_over config scripts orders) all 0
starts_there config scripts first rest orders all is are c ranges at =
    let within = slice_get_within all c ranges at in
    let count = are.count in
    let both : Some ranges ≡ Some (only (counts_after config (history_of config scripts first) c)) = sym at ∙ are.each c (omega (arith, within, count)) in
    let same : ranges ≡ only (counts_after config (history_of config scripts first) c) = cc in
    ap (λ (r : Ranges). widened_by config scripts c r rest) same ∙ ap (λ (orders : List (List ℕ)). ranges_over config scripts orders c) (sym is)

-- when nothing is left to widen by
pub ranges_there : (config : Configuration) (scripts : Scripts) (rest orders : List (List ℕ)) (all : List Ranges) (i : ℕ) → length rest ≤ i → length all ≡ length config.channels
    → LeadsThere config scripts rest (ranges_over config scripts orders) all i → AreRanges config scripts orders all
unfolding widened_by
ranges_there config scripts rest orders all i past count leads = record { count = count; each = each }
  where
    done : (c : ℕ) (ranges : Ranges) → widened_by config scripts c ranges (drop i rest) ≡ ranges
    done c ranges = ap (widened_by config scripts c ranges) (drop_all i rest past)

    each : (c : ℕ) → c < length config.channels → slice_get all c ≡ Some (ranges_over config scripts orders c)
    each c within =
        let item = item_at all c (omega (arith, within, count)) in
        item.1 ∙ ap Some (sym (done c item.0) ∙ leads c item.0 item.1)
