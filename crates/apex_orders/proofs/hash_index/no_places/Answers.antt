use Rattle.apex_orders.proofs.Common.{List, ℕ, length, get_or, ap, ◌∙◌, arith, get_or-replicate, length-replicate}
use Rattle.apex_orders.proofs.hash_index.no_places.Goals as goal

pub returns-clause-none : goal.returns-clause-none
returns-clause-none c b within =
    let items = c.in_ok-places.ensures.items_if_clones_equal (λ y is. is) in
    let count = ap (λ (places : List ℕ). length places) items ∙ length-replicate c.args.buckets 0 in
    ap (λ (places : List ℕ). get_or places b 0) items ∙ get_or-replicate c.args.buckets b 0 0 (omega (arith, within, count))
