use Rattle.apex_judge.proofs.Common.{◌<◌, length, get_or, sym, ◌∙◌, arith, slice_get-get_or, ClearQueuing, entry_of}
use Rattle.apex_judge.proofs.ChannelSteps.{all_stay, clear_elsewhere, clear_refused, cleared_notes}
use Rattle.apex_judge.proofs.steps.note_clear.Goals as goal

pub returns-in_default-clause-noted : goal.returns-in_default-clause-noted
returns-in_default-clause-noted g c at picture each = all_stay c.args.config.now picture (entry_of c.args.partition at (ClearQueuing c.args.id) c.args.reply.now) c.args.channels.now each (λ d. clear_elsewhere c.args.config.now d c.args.partition at c.args.id c.args.reply.now (c.in_default.ensures.channel d))

pub returns-then-not-is_no_error-clause-noted : goal.returns-then-not-is_no_error-clause-noted
returns-then-not-is_no_error-clause-noted g c at picture each = all_stay c.args.config.now picture (entry_of c.args.partition at (ClearQueuing c.args.id) c.args.reply.now) c.args.channels.now each (λ d. clear_refused c.args.config.now d c.args.partition at c.args.id c.args.reply.now (sym c.is_no_error.ensures ∙ c.if-not-is_no_error.true))

pub returns-clause-noted : goal.returns-clause-noted
returns-clause-noted g c at picture each =
    let linked = c.in-Some.ensures.linked in
    let inside : c.in-Some.c < length c.args.channels.now = omega (arith, c.requires, linked) in
    let here = slice_get-get_or c.args.channels.now c.in-Some.c c.index-channels-c.result inside in
    let old = get_or c.args.channels.now c.in-Some.c c.index-channels-c.result in
    cleared_notes c.args.config.now c.args.partition at c.args.id c.args.reply.now c.args.channels.now c.in-Some.c old _ here picture each c.in-Some.ensures.channel (sym c.is_no_error.ensures ∙ c.if-not-is_no_error.false)
    c.clear.ensures.waiting c.clear.ensures.sample
