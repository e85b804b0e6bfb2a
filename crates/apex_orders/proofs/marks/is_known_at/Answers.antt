use Rattle.apex_orders.proofs.Common.{arith, slice_get_within, false≢true}
use Rattle.apex_orders.proofs.marks.is_known_at.Goals as goal

pub returns-in-None-clause-found : goal.returns-in-None-clause-found
returns-in-None-clause-found c one at = (
  λ no. absurd (false≢true no),
  λ has.
      let inside = slice_get_within c.args.worker.now.found.items c.args.j one at in
      let whole = c.args.worker.now.found.ok.0 in
      absurd (false≢true (c.in-None.ensures.variant.1 (omega (arith, inside, whole)))),
)
