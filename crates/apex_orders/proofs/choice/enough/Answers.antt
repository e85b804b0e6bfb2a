use Rattle.apex_orders.proofs.Common.{false, true, Bool, List, length, get_or, ap, ◌∙◌, get_or-replicate, unwrap_or-slice_get, is_tried}
use Rattle.apex_orders.proofs.ChoiceLemmas.{all_enough}
use Rattle.apex_orders.proofs.choice.enough.Goals as goal

pub returns : goal.returns
returns c =
    let all = c.in_ok-all.all.items in
    all_enough c.args.ports.now.config c.args.scripts.now c.args.ports.now.history (is_tried all) (λ p within.
    unwrap_or-slice_get all p false
    ∙ (ap (λ (items : List Bool). get_or items p false) (c.in_ok-all.ensures.items_if_clones_equal (λ y is. is)) ∙ get_or-replicate (length c.args.scripts.now) p true false within))
