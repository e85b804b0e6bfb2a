use Rattle.apex_judge.proofs.Common.{◌<◌, length, get_or, sym, ◌∙◌, arith, slice_get-get_or, WriteSampling, entry_of}
use Rattle.apex_judge.proofs.ChannelSteps.{all_stay, write_elsewhere, write_refused, written_notes}
use Rattle.apex_judge.proofs.steps.note_write.Goals as goal

pub returns-in_default-clause-noted : goal.returns-in_default-clause-noted
returns-in_default-clause-noted g c picture each = all_stay c.args.config.now picture (entry_of c.args.partition c.args.at (WriteSampling c.args.id c.args.message.now) c.args.reply.now) c.args.channels.now each (λ d. write_elsewhere c.args.config.now d c.args.partition c.args.at c.args.id c.args.message.now c.args.reply.now (c.in_default.ensures.channel d))

pub returns-then-not-is_no_error-clause-noted : goal.returns-then-not-is_no_error-clause-noted
returns-then-not-is_no_error-clause-noted g c picture each = all_stay c.args.config.now picture (entry_of c.args.partition c.args.at (WriteSampling c.args.id c.args.message.now) c.args.reply.now) c.args.channels.now each (λ d. write_refused c.args.config.now d c.args.partition c.args.at c.args.id c.args.message.now c.args.reply.now (sym c.is_no_error.ensures ∙ c.if-not-is_no_error.true))

pub returns-clause-noted : goal.returns-clause-noted
returns-clause-noted g c picture each =
    let linked = c.in-Some.ensures.linked in
    let inside : c.in-Some.c < length c.args.channels.now = omega (arith, c.requires, linked) in
    let here = slice_get-get_or c.args.channels.now c.in-Some.c c.index-channels-c.result inside in
    let old = get_or c.args.channels.now c.in-Some.c c.index-channels-c.result in
    written_notes c.args.config.now c.args.partition c.args.at c.args.id c.args.reply.now c.args.channels.now c.in-Some.c old _ here picture each c.args.message.now c.in-Some.ensures.channel (sym c.is_no_error.ensures ∙ c.if-not-is_no_error.false)
    c.write.ensures.waiting c.write.ensures.sample
