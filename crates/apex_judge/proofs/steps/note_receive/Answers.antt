use Rattle.apex_judge.proofs.Common.{◌<◌, length, get_or, sym, ap, ◌∙◌, arith, option_copied, slice_get-get_or, ReceiveQueuing, entry_of}
use Rattle.apex_judge.proofs.ChannelSteps.{all_stay, receive_elsewhere, receive_without, received_notes, emptied_notes}
use Rattle.apex_judge.proofs.steps.note_receive.Goals as goal

pub returns-in_default-clause-noted : goal.returns-in_default-clause-noted
returns-in_default-clause-noted g c at picture each = all_stay c.args.config.now picture (entry_of c.args.partition at (ReceiveQueuing c.args.id) c.args.reply.now) c.args.channels.now each (λ d. receive_elsewhere c.args.config.now d c.args.partition at c.args.id c.args.reply.now (c.in_default.ensures.channel d))

pub returns-in-Some-message_in-clause-noted : goal.returns-in-Some-message_in-clause-noted
returns-in-Some-message_in-clause-noted g c at picture each =
    let linked = c.in-Some.ensures.linked in
    let inside : c.in-Some.c < length c.args.channels.now = omega (arith, c.requires, linked) in
    let here = slice_get-get_or c.args.channels.now c.in-Some.c c.index-channels-c.result inside in
    let old = get_or c.args.channels.now c.in-Some.c c.index-channels-c.result in
    received_notes c.args.config.now c.args.partition at c.args.id c.args.reply.now c.args.channels.now c.in-Some.c old _ here picture each _ c.in-Some.ensures.channel (sym c.message_in.ensures ∙ ap option_copied c.in-Some-message_in.is)
    c.receive.ensures.waiting c.receive.ensures.sample

pub returns-then-not-is_not_available-clause-noted : goal.returns-then-not-is_not_available-clause-noted
returns-then-not-is_not_available-clause-noted g c at picture each =
    let none = sym c.message_in.ensures ∙ ap option_copied c.in_default-message_in.is in
    let other = sym c.is_not_available.ensures ∙ c.if-not-is_not_available.true in
    all_stay c.args.config.now picture (entry_of c.args.partition at (ReceiveQueuing c.args.id) c.args.reply.now) c.args.channels.now each (λ d. receive_without c.args.config.now d c.args.partition at c.args.id c.args.reply.now none other)

pub returns-clause-noted : goal.returns-clause-noted
returns-clause-noted g c at picture each =
    let linked = c.in-Some.ensures.linked in
    let inside : c.in-Some.c < length c.args.channels.now = omega (arith, c.requires, linked) in
    let here = slice_get-get_or c.args.channels.now c.in-Some.c c.index-channels-c-2.result inside in
    let old = get_or c.args.channels.now c.in-Some.c c.index-channels-c-2.result in
    let none = sym c.is_not_available.ensures ∙ c.if-not-is_not_available.false in
    emptied_notes c.args.config.now c.args.partition at c.args.id c.args.reply.now c.args.channels.now c.in-Some.c old _ here picture each c.in-Some.ensures.channel none c.clear.ensures.waiting c.clear.ensures.sample
