use Rattle.apex_groups.proofs.Common.{◌≡◌, ℕ, Bool, Some, sym, ap, ◌∙◌, subst, arith, slice_get, slice_get-get_or, slice_index_or, in_group, ArePut, Found, IsMergedAnswer}
use Rattle.apex_groups.proofs.AnswerLemmas.{put_one}
use Rattle.apex_groups.proofs.part_answers.put_merged.Goals as goal

pub put_at-requires : goal.put_at-requires
put_at-requires c =
    let indexes = c.args.indexes.now in
    let index = c.loop-index.index in
    let test = c.loop-index-test.true in
    let alike = c.requires.alike in
    let within = c.requires.within (slice_index_or indexes index 0) (index, slice_get-get_or indexes index 0 (omega (arith, test, alike))) in
    let count = c.loop-index.invariant.count in
    omega (arith, within, count)

pub loop-index-preserved : goal.loop-index-preserved
loop-index-preserved c =
    let indexes = c.args.indexes.now in
    let found = c.args.found.now in
    let index = c.loop-index.index in
    let one = c.index-found-index.result in
    let test = c.loop-index-test.true in
    let alike = c.requires.alike in
    let inside : ℕ → Bool = in_group c.args.members.now.of_partitions.items 1 in
    let fits : Found → Found → _ = IsMergedAnswer c.args.clock c.args.config.now c.args.scripts.now inside in
    let at : slice_get found index ≡ Some one = slice_get-get_or found index one test ∙ ap Some (sym c.index-found-index.is) in
    subst (ArePut fits indexes found c.args.answers.now) (sym c.put_at.ensures)
    (put_one fits indexes found c.args.answers.now c.loop-index.answers c.loop-index.invariant index (slice_index_or indexes index 0) one c.in_ok-answer.answer
    (slice_get-get_or indexes index 0 (omega (arith, test, alike))) at c.in_ok-answer.ensures)
