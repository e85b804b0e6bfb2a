use Rattle.std.proofs.Common.{◌≡◌, ◌+◌, ◌++◌, ◌∷◌, [], suc, List, Some, take, ap, sym, ◌∙◌, arith}
use Rattle.std.specs.List.{slice_get}
use Rattle.apex_types.specs.declared.reply.Reply.{Reply}
use Rattle.apex_threads.proofs.Counting.{take_one_more}
use Rattle.apex_workers.proofs.replies.unpack.Goals as goal

pub loop-index-preserved : goal.loop-index-preserved
loop-index-preserved g c =
    let packed = c.args.packed.now in
    let index = c.loop-index.index in
    let next : index + 1 ≡ suc index = omega arith in
    let reply = c.to_reply.result in
    let there : slice_get packed index ≡ Some reply = c.in-Some.ensures.reply ∙ ap (λ (one : Reply). Some one) (sym c.to_reply.ensures) in
    let len = c.push_reserved.ensures.len in
    let capacity = c.push_reserved.ensures.capacity in
    let count = c.loop-index.invariant.count in
    let room = c.loop-index.invariant.room in
    record {
      items = c.push_reserved.ensures.items
          ∙ (ap (λ (front : List Reply). front ++ reply ∷ []) c.loop-index.invariant.items ∙ sym (ap (λ n. take n packed) next ∙ take_one_more packed index reply there));
      count = omega arith;
      room = omega arith;
    }
