use Rattle.dekarino_drawings.proofs.Common.{◌≡◌, ◌<◌, ◌-◌, ◌^◌, ◌++◌, ℕ, List, Option, Some, length, take, arith, sym, ap, ◌∙◌, subst, slice_get, slice_get-get_or, length-take-le, take_all, History, ChannelCalls, origin_of, arrow_from, AreFollowed, grows, complete}
use Rattle.dekarino_drawings.proofs.ArrowLemmas.{take_at, arrow_cut, arrow_end}
use Rattle.dekarino_drawings.proofs.arrows.arrows_of.Goals as goal

pub loop-index-preserved : goal.loop-index-preserved
loop-index-preserved c =
    let config = c.args.config.now in
    let calls = c.args.calls.now in
    let i = c.loop-index.index in
    let before = take i calls in
    let was = c.loop-index.invariant in
    let entry = c.index-calls-index.result in
    let found : slice_get calls i ≡ Some entry = slice_get-get_or calls i entry c.loop-index-test.true ∙ ap Some (sym c.index-calls-index.is) in
    let origin = origin_of config before entry.partition entry.call entry.reply in
    let size : length before ≡ i = length-take-le i calls (omega arith) in
    let kept : AreFollowed config before c.as_slice.result.now = subst (λ (xs : List ChannelCalls). AreFollowed config before xs) (sym c.as_slice.ensures.value) was.followed in
    let from : c.origin_of-from.result ≡ origin = c.origin_of-from.ensures before kept in
    let pushed : c.push_arrow.new.arrows.items ≡ c.loop-index.arrows.items ++ arrow_from origin i = c.in_ok-push_arrow.ensures ∙ ap (λ (o : Option ℕ). c.loop-index.arrows.items ++ arrow_from o i) from in
    let grown : c.push_arrow.new.arrows.items ≡ c.loop-index.arrows.items ++ arrow_from origin (length before) = rw size pushed in
    let small : i < 2 ^ 64 - 1 = omega arith in
    record {
      arrows = grows c.loop-index.arrows.items c.push_arrow.new.arrows.items _ _ _ _ grown (arrow_cut config calls i entry found) was.arrows;
      followed = subst (λ (h : History). AreFollowed config h c.follow.new.channels.items) (sym (take_at calls i entry found)) (c.in_ok-follow.ensures before size small was.followed);
    }

pub returns-clause-arrows : goal.returns-clause-arrows
returns-clause-arrows c = complete c.loop-index.arrows.items _ _ (arrow_end c.args.config.now c.args.calls.now c.loop-index.index c.loop-index-test.false) c.loop-index.invariant.arrows

pub returns-clause-followed : goal.returns-clause-followed
returns-clause-followed c =
    subst (λ (h : History). AreFollowed c.args.config.now h c.loop-index.channels.items) (take_all c.loop-index.index c.args.calls.now c.loop-index-test.false) c.loop-index.invariant.followed
