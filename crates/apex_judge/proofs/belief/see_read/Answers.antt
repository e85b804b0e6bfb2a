use Rattle.apex_judge.proofs.Common.{◌<◌, length, get_or, ap, ◌∙◌, arith, slice_get-get_or, Call, reads_from}
use Rattle.apex_judge.proofs.EvidenceSteps.{reads_none, all_show_still, read_shows}
use Rattle.apex_judge.proofs.belief.see_read.Goals as goal

pub returns-in_default-clause-noted : goal.returns-in_default-clause-noted
returns-in_default-clause-noted g c picture each =
    all_show_still c.args.config.now picture c.args.partition c.args.at c.args.call.now c.args.reply.now c.args.channels.now each (λ d. reads_none c.args.config.now d c.args.partition c.args.call.now c.in_default.not-ReadSampling)

pub returns-in_default-destination-clause-noted : goal.returns-in_default-destination-clause-noted
returns-in_default-destination-clause-noted g c picture each =
    all_show_still c.args.config.now picture c.args.partition c.args.at c.args.call.now c.args.reply.now c.args.channels.now each (λ d. ap (λ (call : Call). reads_from c.args.config.now d c.args.partition call) c.in-ReadSampling.is ∙ c.in_default-destination.ensures.channel d)

pub returns-clause-noted : goal.returns-clause-noted
returns-clause-noted g c picture each =
    let linked = c.in-Some.ensures.linked in
    let inside : c.in-Some.c < length c.args.channels.now = omega (arith, c.requires, linked) in
    let here = slice_get-get_or c.args.channels.now c.in-Some.c c.index-channels-c.result inside in
    let old = get_or c.args.channels.now c.in-Some.c c.index-channels-c.result in
    rw c.in-ReadSampling.is (read_shows c.args.config.now picture c.args.partition c.args.at c.in-ReadSampling.id c.args.reply.now c.args.channels.now c.in-Some.c old _ here each c.in-Some.ensures.channel c.see.ensures.waiting c.see.ensures.sample)
