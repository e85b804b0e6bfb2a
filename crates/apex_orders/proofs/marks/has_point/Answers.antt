use Rattle.apex_orders.proofs.Common.{◌≡◌, Some, arith, ap, sym, ◌∙◌, subst, slice_get, slice_get_within, Configuration, IsSamePoint, false≢true}
use Rattle.apex_orders.proofs.HashLemmas.{same_hash}
use Rattle.apex_orders.proofs.marks.has_point.Goals as goal

pub returns-then-up_to_last-eq0-clause-found : goal.returns-then-up_to_last-eq0-clause-found
returns-then-up_to_last-eq0-clause-found c = (
  λ h. absurd (false≢true h),
  λ has.
      let n = has.here.0 in
      let config = c.args.config.now in
      let same : IsSamePoint config c.args.one.now.saved.history has.one.saved.history = subst (λ (own : Configuration). IsSamePoint own c.args.one.now.saved.history has.one.saved.history) c.requires.configured has.same in
      let hash : slice_get c.args.worker.now.hashes n ≡ Some c.args.one.now.hash =
      c.requires.hashed.each n has.one has.here.1 ∙ ap Some (sym (c.requires.hash ∙ same_hash config c.args.one.now.saved.history has.one.saved.history same)) in
      let none = c.if-up_to_last-eq0.true in
      absurd (c.up_to_last.ensures.rest n (omega (arith, none)) (slice_get_within c.args.worker.now.hashes n c.args.one.now.hash hash) hash),
)
