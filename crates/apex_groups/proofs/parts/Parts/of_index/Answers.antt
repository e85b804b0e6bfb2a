use Rattle.apex_groups.proofs.Common.{◌≡◌, [], Some, Option, List, sym, ap, ◌∙◌, slice_get, slice_get-get_or, unwrap_or}
use Rattle.apex_types.specs.declared.call.Call.{Call}
use Rattle.apex_types.specs.declared.moment.Moment.{Moment}
use Rattle.apex_groups.specs.Parts.{part_of_timed}
use Rattle.apex_groups.proofs.parts.Parts.of_index.Goals as goal

pub returns-in-Some-get : goal.returns-in-Some-get
returns-in-Some-get c =
    let found = c.in-Some.ensures.lookup in
    let item = c.in-Some-get.ensures.lookup in
    let calls = c.deref.result.now in
    let script : slice_get c.args.scripts.now c.args.p ≡ Some calls =
    slice_get-get_or c.args.scripts.now c.args.p c.in-Some.script.now found.3.0 ∙ ap Some (sym found.1 ∙ (sym c.script.view_is ∙ sym c.deref.ensures.value)) in
    let call : slice_get calls c.args.index ≡ Some c.in-Some-get.field-0.now = slice_get-get_or calls c.args.index c.in-Some-get.field-0.now item.3.0 ∙ ap Some (sym item.1) in
    c.of_call.ensures
    ∙ sym (ap (part_of_timed c.args.config.now c.args.self.now c.args.p)
    (ap (λ (o : Option (List (Moment × Call))). slice_get (unwrap_or o []) c.args.index) script ∙ call))
