use Rattle.apex_orders.proofs.Common.{◌≡◌, false, length, sym, ◌∙◌, arith, false≢true, at_index, entries_of, is_tried, IsQuietFrom, script_of}
use Rattle.apex_orders.proofs.ChoiceLemmas.{has_script, one_more}
use Rattle.apex_orders.proofs.choice.is_quiet_outside.Goals.{else-not-is_tried-via-then-not-is_tried+else-not-are_over, else-not-is_tried-via-else-not-is_tried}
use Rattle.apex_orders.proofs.choice.is_quiet_outside.Goals as goal

pub loop-q-preserved : goal.loop-q-preserved
loop-q-preserved c =
    let config = c.args.ports.now.config in
    let scripts = c.args.scripts.now in
    let h = c.args.ports.now.history in
    let r = c.loop-q.q in
    one_more (λ q. is_tried c.args.tried.now q ≡ false → IsQuietFrom config q (script_of scripts q) c.args.channel c.args.named (length (entries_of q h))) r c.loop-q.invariant
    (λ outside k timed past at. elim c.else-not-is_tried.branch [
      | else-not-is_tried-via-then-not-is_tried+else-not-are_over w ↦
          let one = w.index-uses-q.result in
          let uses = c.requires.uses.each r one (at_index c.args.uses.now r one c.loop-q-test.true w.index-uses-q.is) in
          w.are_over.ensures config r (script_of scripts r) uses w.if-not-are_over.false k timed (omega (arith, c.calls-made.ensures, past)) at
      | else-not-is_tried-via-else-not-is_tried w ↦ absurd (false≢true (sym outside ∙ (sym c.is_tried.ensures ∙ w.if-not-is_tried.false)))
    ])

pub returns : goal.returns
returns c holds q outside k timed past at =
    let within = has_script c.args.scripts.now q k timed at in
    let count = c.requires.uses.count in
    c.loop-q.invariant q (omega (arith, within, count, c.loop-q-test.false)) outside k timed past at
