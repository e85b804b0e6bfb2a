use Rattle.apex_threads.proofs.Common.{◌≡◌, ◌+◌, ◌++◌, ◌∷◌, [], suc, List, Some, take, ap, sym, ◌∙◌, arith, slice_get, Call, Moment}
use Rattle.apex_threads.proofs.Counting.{take_one_more}
use Rattle.apex_threads.proofs.packed_script.PackedScript.unpack.Goals as goal

pub loop-index-preserved : goal.loop-index-preserved
loop-index-preserved g c =
    let calls = c.args.self.now in
    let index = c.loop-index.index in
    let next : index + 1 ≡ suc index = omega arith in
    let timed : Moment × Call = (c.in-Some.at, c.to_call.result) in
    let there : slice_get calls index ≡ Some timed = c.in-Some.ensures.call ∙ ap (λ (one : Call). Some (c.in-Some.at, one)) (sym c.to_call.ensures) in
    let len = c.push_reserved.ensures.len in
    let capacity = c.push_reserved.ensures.capacity in
    let count = c.loop-index.invariant.count in
    let room = c.loop-index.invariant.room in
    record {
      items = c.push_reserved.ensures.items
          ∙ (ap (λ (front : List (Moment × Call)). front ++ timed ∷ []) c.loop-index.invariant.items ∙ sym (ap (λ n. take n calls) next ∙ take_one_more calls index timed there));
      count = omega arith;
      room = omega arith;
    }
