use Rattle.apex_groups.proofs.Common.{◌≡◌, ◌+◌, [], ℕ, List, Option, length, sym, ap, ◌∙◌, subst, arith, set, slice_get-get_or, slice_index_or, unwrap_or, script_of, AreCounted}
use Rattle.apex_types.specs.declared.call.Call.{Call}
use Rattle.apex_types.specs.declared.moment.Moment.{Moment}
use Rattle.apex_groups.proofs.MergeSteps.{counted_more, counted_past, read_any}
use Rattle.apex_groups.proofs.merging.Merge.make.Goals as goal

pub returns-then-made-count-clause-counted : goal.returns-then-made-count-clause-counted
returns-then-made-count-clause-counted c =
    let config = c.args.config.now in
    let scripts = c.args.scripts.now in
    let order = c.args.self.now.order.items in
    let made = c.args.self.now.made.items in
    let p = c.args.p in
    let within = c.requires.within in
    let few = c.requires.counted.count in
    let all = c.requires.count in
    let index : c.index-made.result.now ≡ slice_index_or made p 0 = c.index-made.ensures ∙ read_any made p c.index-made.result.now (omega (arith, within, few)) in
    let script : script_of scripts p ≡ c.index-scripts-p.result =
    ap (λ (o : Option (List (Moment × Call))). unwrap_or o []) (slice_get-get_or scripts p c.index-scripts-p.result (omega (arith, within, all))) ∙ sym c.index-scripts-p.is in
    let count = ap (λ (calls : List (Moment × Call)). length calls) (script ∙ sym c.script.view_is) in
    let len = c.len-count.ensures in
    let less = c.if-made-count.true in
    subst (λ (both : List ℕ × ℕ). AreCounted config scripts both.0 (set made p (both.1 + 1))) (λ i. (sym c.in_ok-push.ensures.items i, sym index i))
    (counted_more config scripts order made c.requires.counted p within (omega (arith, index, count, len, less)))

pub returns-else-made-count-clause-counted : goal.returns-else-made-count-clause-counted
returns-else-made-count-clause-counted c =
    let config = c.args.config.now in
    let scripts = c.args.scripts.now in
    let order = c.args.self.now.order.items in
    let made = c.args.self.now.made.items in
    let p = c.args.p in
    let within = c.requires.within in
    let few = c.requires.counted.count in
    let all = c.requires.count in
    let index : c.index-made.result.now ≡ slice_index_or made p 0 = c.index-made.ensures ∙ read_any made p c.index-made.result.now (omega (arith, within, few)) in
    let script : script_of scripts p ≡ c.index-scripts-p.result =
    ap (λ (o : Option (List (Moment × Call))). unwrap_or o []) (slice_get-get_or scripts p c.index-scripts-p.result (omega (arith, within, all))) ∙ sym c.index-scripts-p.is in
    let count = ap (λ (calls : List (Moment × Call)). length calls) (script ∙ sym c.script.view_is) in
    let len = c.len-count.ensures in
    let past = c.if-made-count.false in
    subst (λ (all : List ℕ). AreCounted config scripts all made) (sym c.in_ok-push.ensures.items)
    (counted_past config scripts order made c.requires.counted p within (omega (arith, index, count, len, past)))
