use Rattle.apex_judge.proofs.Common.{◌<◌, ◌++◌, ◌∷◌, [], length, add-one, sym, ap, subst, ◌∙◌, Configuration, History, at_index, instead_of}
use Rattle.apex_judge.proofs.DepartureSteps.{parts_at, judged_on}
use Rattle.apex_judge.proofs.departures.judge_log.Goals as goal

pub judge-requires : goal.judge-requires
judge-requires g c =
    let here = at_index c.args.log.now c.loop-index.index c.index-log-index.result c.loop-index-test.true c.index-log-index.is in
    let within = c.requires c.loop-index.index c.index-log-index.result here in
    subst (λ (config : Configuration). c.index-log-index.result.partition < length config.partitions) (sym c.loop-index.invariant.config) within

pub loop-index-preserved : goal.loop-index-preserved
loop-index-preserved g c =
    let e = c.index-log-index.result in
    let was = c.loop-index.invariant in
    let here = at_index c.args.log.now c.loop-index.index e c.loop-index-test.true c.index-log-index.is in
    let parts = parts_at c.args.log.now c.loop-index.index e here in
    let instead = c.in_ok-instead.ensures.judged ∙ (λ i. instead_of (was.config i) (was.log i) e) in
    rw (add-one c.loop-index.index) (record {
      config = c.judge.ensures.config ∙ was.config;
      log = c.in_ok-instead.ensures.entry ∙ (ap (λ (log : History). log ++ e ∷ []) was.log ∙ sym parts.1);
      found = judged_on c.args.config c.args.log.now c.loop-index.index e c.loop-index.found.items c.push_departure.new.found.items c.in_ok-instead.instead here was.found instead c.in_ok-push_departure.ensures;
    })
