use Rattle.apex_ports.specs.History.{entry_of}
use Rattle.apex_judge.proofs.ChannelSteps.{all_stay, others_leave}
use Rattle.apex_judge.proofs.steps.note_channels.Goals as goal

pub returns-in_ok-note_send-in-SendQueuing-clause-noted :
    goal.returns-in_ok-note_send-in-SendQueuing-clause-noted
returns-in_ok-note_send-in-SendQueuing-clause-noted g c picture = rw c.in-SendQueuing.is (c.in_ok-note_send-in-SendQueuing.ensures.noted c.args.at picture)

pub returns-in-ReceiveQueuing-clause-noted : goal.returns-in-ReceiveQueuing-clause-noted
returns-in-ReceiveQueuing-clause-noted g c picture = rw c.in-ReceiveQueuing.is (c.note_receive.ensures.noted c.args.at picture)

pub returns-in-ClearQueuing-clause-noted : goal.returns-in-ClearQueuing-clause-noted
returns-in-ClearQueuing-clause-noted g c picture = rw c.in-ClearQueuing.is (c.note_clear.ensures.noted c.args.at picture)

pub returns-in-WriteSampling-clause-noted : goal.returns-in-WriteSampling-clause-noted
returns-in-WriteSampling-clause-noted g c picture = rw c.in-WriteSampling.is (c.note_write.ensures.noted picture)

pub returns-in_default-clause-noted : goal.returns-in_default-clause-noted
returns-in_default-clause-noted g c picture each =
    all_stay c.args.config.now picture (entry_of c.args.partition c.args.at c.args.call.now c.args.reply.now) c.args.channels.now each (λ d. others_leave c.args.config.now d c.args.partition c.args.at c.args.call.now c.args.reply.now c.in_default.not-SendQueuing c.in_default.not-ReceiveQueuing c.in_default.not-ClearQueuing c.in_default.not-WriteSampling)
