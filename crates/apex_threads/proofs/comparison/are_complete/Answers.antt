use Rattle.apex_threads.proofs.Common.{◌≡◌, ◌<◌, length, Some, refl, sym, ap, ◌∙◌, arith, below_more, slice_get, slice_get_read, slice_get_within}
use Rattle.std.proofs.lemmas.Bool.{false≢true}
use Rattle.apex_threads.proofs.comparison.are_complete.Goals as goal

pub returns-then-not-is_complete : goal.returns-then-not-is_complete
returns-then-not-is_complete g c =
    let p = c.loop-p.p in
    let within = c.loop-p-test.true in
    let counts = c.requires.counts in
    let each = c.requires.each in
    let script_at : slice_get c.args.scripts.now p ≡ Some c.index-scripts-p.result =
    slice_get_read c.args.scripts.now (length c.args.scripts.now) p c.index-scripts-p.result refl (omega arith) c.index-scripts-p.is
    in
    let own_at : slice_get c.args.replies.now p ≡ Some c.index-replies-p.result =
    slice_get_read c.args.replies.now (length c.args.replies.now) p c.index-replies-p.result refl (omega arith) c.index-replies-p.is
    in (
      λ t. absurd (false≢true t),
      λ complete. c.if-not-is_complete.ensures.1 (complete p c.index-scripts-p.result c.index-replies-p.result script_at own_at),
    )

pub loop-p-preserved : goal.loop-p-preserved
loop-p-preserved g c =
    below_more _ _ c.loop-p.invariant
    (λ script own here there.
    let p = c.loop-p.p in
    let within : p < length c.args.scripts.now = slice_get_within c.args.scripts.now p script here in
    let within_replies : p < length c.args.replies.now = slice_get_within c.args.replies.now p own there in
    let script_at : slice_get c.args.scripts.now p ≡ Some c.index-scripts-p.result = slice_get_read c.args.scripts.now (length c.args.scripts.now) p c.index-scripts-p.result refl within c.index-scripts-p.is in
    let own_at : slice_get c.args.replies.now p ≡ Some c.index-replies-p.result = slice_get_read c.args.replies.now (length c.args.replies.now) p c.index-replies-p.result refl within_replies c.index-replies-p.is in
    let script_same : Some c.index-scripts-p.result ≡ Some script = sym script_at ∙ here in
    let own_same : Some c.index-replies-p.result ≡ Some own = sym own_at ∙ there in
    let script_is : c.index-scripts-p.result ≡ script = cc in
    let own_is : c.index-replies-p.result ≡ own = cc in
    let all = c.if-not-is_complete.ensures.0 refl in
    (all.0 ∙ ap length script_is, all.1 ∙ ap length own_is))

pub returns : goal.returns
returns g c = (
  λ t p script own here there.
      let within = slice_get_within c.args.scripts.now p script here in
      c.loop-p.invariant p (omega arith) script own here there,
  λ complete. refl,
)
