use Rattle.apex_board.proofs.Common.{◌≡◌, ◌<◌, ◌≤◌, ◌+◌, length, refl, ap, ◌∙◌, arith, vec_len, vec_capacity}
use Rattle.std.proofs.lemmas.Result.{on_ok_weaker}
use Rattle.apex_board.proofs.JournalSteps.{journal_here, journal_is, journal_set, taken_within, set_here}
use Rattle.apex_board.proofs.RoomSteps.{kept_room, room_here}
use Rattle.apex_board.proofs.records.Records.reserve_channel.Goals as goal

pub make_room-requires-clause-taken : goal.make_room-requires-clause-taken
make_room-requires-clause-taken g c =
    let all = c.requires.recorded.all in
    let channel = c.requires.channel in
    let within : c.args.channel < length c.args.self.now.journals.items = omega arith in
    let is = journal_is _ _ _ _ c.args.channel c.in-Some.journal c.requires.recorded (journal_here _ c.args.channel _ within c.index_mut.ensures.value ∙ c.in-Some.is) in
    let less = taken_within c.args.config.now c.args.self.now.log.items c.args.channel c.requires.sound in
    let accepted : length c.in-Some.journal.accepted.items ≡ length _ = ap length is.accepted in
    let taken : length c.in-Some.journal.taken.items ≡ length _ = ap length is.taken in
    omega (arith, less, accepted, taken, c.in-Some.journal.accepted.ok.0, c.in-Some.journal.taken.ok.0)

pub make_room-requires-clause-room : goal.make_room-requires-clause-room
make_room-requires-clause-room g c =
    let all = c.requires.recorded.all in
    let channel = c.requires.channel in
    let within : c.args.channel < length c.args.self.now.journals.items = omega arith in
    c.requires.recorded.fits c.args.channel c.in-Some.journal (journal_here _ c.args.channel _ within c.index_mut.ensures.value ∙ c.in-Some.is)

pub returns-in-Some-clause-recorded : goal.returns-in-Some-clause-recorded
returns-in-Some-clause-recorded g c =
    let all = c.requires.recorded.all in
    let channel = c.requires.channel in
    let within : c.args.channel < length c.args.self.now.journals.items = omega arith in
    let is = journal_is _ _ _ _ c.args.channel c.in-Some.journal c.requires.recorded (journal_here _ c.args.channel _ within c.index_mut.ensures.value ∙ c.in-Some.is) in
    journal_set _ _ _ _ _ _ c.args.channel c.make_room.new.self c.requires.recorded within is.queuing (c.make_room.ensures.accepted ∙ is.accepted) (c.make_room.ensures.taken ∙ is.taken) c.make_room.ensures.room
    (λ d apart. refl) (λ d apart. refl)

pub returns-in-Some-clause-grows : goal.returns-in-Some-clause-grows
returns-in-Some-clause-grows g c =
    let all = c.requires.recorded.all in
    let channel = c.requires.channel in
    let within : c.args.channel < length c.args.self.now.journals.items = omega arith in
    kept_room _ c.args.channel c.in-Some.journal c.make_room.new.self within (journal_here _ c.args.channel _ within c.index_mut.ensures.value ∙ c.in-Some.is) c.make_room.ensures.len c.make_room.ensures.capacity

pub returns-in-Some-clause-room : goal.returns-in-Some-clause-room
returns-in-Some-clause-room g c =
    let all = c.requires.recorded.all in
    let channel = c.requires.channel in
    let within : c.args.channel < length c.args.self.now.journals.items = omega arith in
    on_ok_weaker c.make_room.result
    (λ (room : vec_len c.make_room.new.self.accepted + c.args.messages ≤ vec_capacity c.make_room.new.self.accepted). room_here _ c.args.channel c.in-Some.journal c.make_room.new.self within c.args.messages room)
    c.make_room.ensures.ok

pub returns-in-Some-clause-succeeds : goal.returns-in-Some-clause-succeeds
returns-in-Some-clause-succeeds g c room =
    let all = c.requires.recorded.all in
    let channel = c.requires.channel in
    let within : c.args.channel < length c.args.self.now.journals.items = omega arith in
    c.make_room.ensures.succeeds (room c.in-Some.journal (journal_here _ c.args.channel _ within c.index_mut.ensures.value ∙ c.in-Some.is))

pub returns-in-None-clause-room : goal.returns-in-None-clause-room
returns-in-None-clause-room g c journal at =
    let all = c.requires.recorded.all in
    let channel = c.requires.channel in
    let within : c.args.channel < length c.args.self.now.journals.items = omega arith in
    let here = set_here c.args.self.now.journals.items c.args.channel c.index_mut.result.now within in
    let none = c.in-None.is in
    absurd (cc)
