use Rattle.std.proofs.Common.{ap, subst, List, nat_le, length, refl}
use mathlib.Core.List.{IsPrefix}
use Rattle.apex_types.specs.declared.sample.Sample.{Sample}
use Rattle.apex_observers.proofs.Prefixes.{prefix_by}
use Rattle.apex_observers.proofs.receipt.Receipt.begins.Goals as goal

pub returns : goal.returns
returns c =
    let both = c.learn.new.self.log in
    let this : IsPrefix c.self.inside.seen.log both = subst (λ (log : List Sample). IsPrefix log both) (ap (λ s. s.log) c.again-both.ensures) c.learn.ensures.2 in
    rw (c.self.invariant, c.other.invariant, ← c.self.view_is, ← c.other.view_is)
    (prefix_by c.self.inside.seen.log c.other.inside.seen.log both (nat_le (length c.self.inside.seen.log) (length c.other.inside.seen.log)) refl this c.learn.ensures.3)
