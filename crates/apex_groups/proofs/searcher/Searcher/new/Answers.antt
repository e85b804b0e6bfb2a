use Rattle.apex_groups.proofs.Common.{◌≡◌, ◌∙◌, ℕ, None, ap, arith, replicate, length}
use Rattle.apex_groups.proofs.PartSearchLemmas.{searched_none}
use Rattle.apex_groups.proofs.searcher.Searcher.new.Goals as goal

pub returns : goal.returns
returns c clock config bound =
    let past = c.loop-test.false in
    let last = c.loop.auto.counter-end in
    let all : c.loop.counter ≡ length c.args.parts.now = omega (arith, past, last) in
    searched_none clock config bound c.args.parts.now _ (c.loop.invariant ∙ ap (λ (n : ℕ). replicate n None) all)
