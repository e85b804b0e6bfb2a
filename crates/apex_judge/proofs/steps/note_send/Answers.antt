use Rattle.apex_judge.proofs.Common.{◌<◌, length, get_or, sym, ◌∙◌, arith, slice_get-get_or, SendQueuing, entry_of}
use Rattle.apex_judge.proofs.ChannelSteps.{all_stay, one_same, send_elsewhere, send_refused, sent_notes}
use Rattle.apex_judge.proofs.Results.{if_err}
use Rattle.apex_judge.proofs.steps.note_send.Goals as goal

pub returns-in_default-clause-noted : goal.returns-in_default-clause-noted
returns-in_default-clause-noted g c at picture each = all_stay c.args.config.now picture (entry_of c.args.partition at (SendQueuing c.args.id c.args.message.now) c.args.reply.now) c.args.channels.now each (λ d. send_elsewhere c.args.config.now d c.args.partition at c.args.id c.args.message.now c.args.reply.now (c.in_default.ensures.channel d))

pub returns-then-not-is_no_error-clause-noted : goal.returns-then-not-is_no_error-clause-noted
returns-then-not-is_no_error-clause-noted g c at picture each = all_stay c.args.config.now picture (entry_of c.args.partition at (SendQueuing c.args.id c.args.message.now) c.args.reply.now) c.args.channels.now each (λ d. send_refused c.args.config.now d c.args.partition at c.args.id c.args.message.now c.args.reply.now (sym c.is_no_error.ensures ∙ c.if-not-is_no_error.true))

pub returns-in_err-send-clause-refused : goal.returns-in_err-send-clause-refused
returns-in_err-send-clause-refused g c =
    let linked = c.in-Some.ensures.linked in
    let inside : c.in-Some.c < length c.args.channels.now = omega (arith, c.requires, linked) in
    let here = slice_get-get_or c.args.channels.now c.in-Some.c c.index-channels-c.result inside in
    let old = get_or c.args.channels.now c.in-Some.c c.index-channels-c.result in
    if_err _ (one_same c.args.channels.now c.in-Some.c old _ here c.in_err-send.ensures.refused c.in_err-send.ensures.sample)

pub returns-clause-noted : goal.returns-clause-noted
returns-clause-noted g c at picture each =
    let linked = c.in-Some.ensures.linked in
    let inside : c.in-Some.c < length c.args.channels.now = omega (arith, c.requires, linked) in
    let here = slice_get-get_or c.args.channels.now c.in-Some.c c.index-channels-c.result inside in
    let old = get_or c.args.channels.now c.in-Some.c c.index-channels-c.result in
    sent_notes c.args.config.now c.args.partition at c.args.id c.args.reply.now c.args.channels.now c.in-Some.c old _ here picture each c.args.message.now c.in-Some.ensures.channel (sym c.is_no_error.ensures ∙ c.if-not-is_no_error.false)
    c.in_ok-send.ensures.waiting c.in_ok-send.ensures.few c.in_ok-send.ensures.sample
