use Rattle.apex_board.proofs.Common.{◌≡◌, ℕ, ◌<◌, false, ap, ◌∙◌, arith, below_more, is_ok, HasRoomAt}
use Rattle.apex_board.proofs.JournalSteps.{journal_within}
use Rattle.apex_board.proofs.records.Records.reserve.Goals as goal

pub returns-in_err-reserve_channel-clause-grows : goal.returns-in_err-reserve_channel-clause-grows
returns-in_err-reserve_channel-clause-grows g c n k room = c.reserve_channel.ensures.grows n k (c.loop-c.invariant.grows n k room)

pub returns-in_err-reserve_channel-clause-succeeds : goal.returns-in_err-reserve_channel-clause-succeeds
returns-in_err-reserve_channel-clause-succeeds g c spare room =
    let ok = c.reserve_channel.ensures.succeeds (c.loop-c.invariant.grows c.args.calls c.loop-c.c (room c.loop-c.c)) in
    let refused : is_ok c.reserve_channel.result ≡ false = ap is_ok c.in_err-reserve_channel.was in
    absurd (cc)

pub loop-c-preserved : goal.loop-c-preserved
loop-c-preserved g c = record {
  log = c.reserve_channel.ensures.log ∙ c.loop-c.invariant.log;
  recorded = c.reserve_channel.ensures.recorded;
  grows = λ n k room. c.reserve_channel.ensures.grows n k (c.loop-c.invariant.grows n k room);
  room = below_more (λ (k : ℕ). HasRoomAt c.args.calls k c.reserve_channel.new.self.journals.items) c.loop-c.c (λ k below. c.reserve_channel.ensures.grows c.args.calls k (c.loop-c.invariant.room k below)) c.in_ok-reserve_channel.ensures.room;
}

pub returns-clause-room : goal.returns-clause-room
returns-clause-room g c k journal at =
    let within = journal_within c.loop-c.self.journals.items k journal at in
    let all = c.loop-c.invariant.recorded.all in
    let end = c.channels-c-end.ensures.count in
    let below : k < c.loop-c.c = omega (arith, within, all, end) in
    c.loop-c.invariant.room k below journal at
