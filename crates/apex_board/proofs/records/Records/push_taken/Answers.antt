use Rattle.apex_board.proofs.Common.{◌≡◌, ◌<◌, ◌++◌, ◌∷◌, [], Some, length, refl, sym, ap, ◌∙◌, arith, message_received, as_received}
use Rattle.apex_board.proofs.JournalSteps.{journal_here, journal_is, journal_set, receives_queuing, receives_within, taken-one, no_journal, only_received, found_here}
use Rattle.apex_board.proofs.RoomSteps.{kept_room}
use Rattle.apex_board.proofs.records.Records.push_taken.Goals as goal

pub push_reserved-requires : goal.push_reserved-requires
push_reserved-requires g c =
    let all = c.requires.recorded.all in
    let channel = c.in-Some.ensures.channel (length c.args.config.now.channels) c.requires.channel in
    let within : c.in-Some.channel < length c.args.self.now.journals.items = omega arith in
    let is = journal_is _ _ _ _ c.in-Some.channel c.in-Some-index_mut.journal c.requires.recorded (journal_here _ c.in-Some.channel _ within c.index_mut.ensures.value ∙ c.in-Some-index_mut.is) in
    let received : message_received c.args.config.now c.in-Some.channel c.args.entry.now ≡ Some c.in-Some.message.now = c.in-Some.ensures.found c.args.config.now c.requires.port c.in-Some.channel ∙ found_here c.in-Some.channel c.in-Some.message.now in
    let less = receives_within c.args.config.now c.args.self.now.log.items c.args.entry.now c.in-Some.channel c.in-Some.message.now c.requires.sound received in
    let accepted : length c.in-Some-index_mut.journal.accepted.items ≡ length _ = ap length is.accepted in
    let taken : length c.in-Some-index_mut.journal.taken.items ≡ length _ = ap length is.taken in
    let fits = is.fits in
    omega (arith, c.in-Some-index_mut.journal.accepted.ok.0, c.in-Some-index_mut.journal.accepted.ok.1, c.in-Some-index_mut.journal.taken.ok.0)

pub unreachable-requires : goal.unreachable-requires
unreachable-requires g c =
    let all = c.requires.recorded.all in
    let channel = c.in-Some.ensures.channel (length c.args.config.now.channels) c.requires.channel in
    let within : c.in-Some.channel < length c.args.self.now.journals.items = omega arith in
    let received : message_received c.args.config.now c.in-Some.channel c.args.entry.now ≡ Some c.in-Some.message.now = c.in-Some.ensures.found c.args.config.now c.requires.port c.in-Some.channel ∙ found_here c.in-Some.channel c.in-Some.message.now in
    let queuing = receives_queuing c.args.config.now c.args.self.now.log.items c.args.entry.now c.in-Some.channel c.in-Some.message.now c.requires.sound received in
    no_journal _ _ _ _ c.in-Some.channel c.requires.recorded (journal_here _ c.in-Some.channel _ within c.index_mut.ensures.value ∙ c.in-None.is) queuing

pub returns-clause-recorded : goal.returns-clause-recorded
returns-clause-recorded g c =
    let all = c.requires.recorded.all in
    let channel = c.in-Some.ensures.channel (length c.args.config.now.channels) c.requires.channel in
    let within : c.in-Some.channel < length c.args.self.now.journals.items = omega arith in
    let is = journal_is _ _ _ _ c.in-Some.channel c.in-Some-index_mut.journal c.requires.recorded (journal_here _ c.in-Some.channel _ within c.index_mut.ensures.value ∙ c.in-Some-index_mut.is) in
    let received : message_received c.args.config.now c.in-Some.channel c.args.entry.now ≡ Some c.in-Some.message.now = c.in-Some.ensures.found c.args.config.now c.requires.port c.in-Some.channel ∙ found_here c.in-Some.channel c.in-Some.message.now in
    let pushed = c.push_reserved.ensures.items ∙ (λ i. is.taken i ++ as_received (c.copy.ensures i) ∷ []) in
    let capacity = c.push_reserved.ensures.capacity in
    let fits = is.fits in
    journal_set _ _ _ _ _ _ c.in-Some.channel _ c.requires.recorded within is.queuing is.accepted
    (pushed ∙ sym (taken-one c.args.config.now c.args.self.now.log.items c.args.entry.now c.in-Some.channel c.in-Some.message.now received)) (omega arith)
    (λ d apart. refl) (only_received c.args.config.now c.args.self.now.log.items c.args.entry.now c.in-Some.channel c.in-Some.message.now (c.in-Some.ensures.found c.args.config.now c.requires.port))

pub returns-clause-room : goal.returns-clause-room
returns-clause-room g c =
    let all = c.requires.recorded.all in
    let channel = c.in-Some.ensures.channel (length c.args.config.now.channels) c.requires.channel in
    let within : c.in-Some.channel < length c.args.self.now.journals.items = omega arith in
    kept_room _ c.in-Some.channel c.in-Some-index_mut.journal _ within (journal_here _ c.in-Some.channel _ within c.index_mut.ensures.value ∙ c.in-Some-index_mut.is) refl (omega arith)

pub index_mut-requires : goal.index_mut-requires
index_mut-requires g c =
    let all = c.requires.recorded.all in
    let channel = c.in-Some.ensures.channel (length c.args.config.now.channels) c.requires.channel in
    omega arith
