use Rattle.apex_board.proofs.Common.{◌≡◌, ◌<◌, ◌++◌, ◌∷◌, [], Some, length, refl, sym, ◌∙◌, arith, message_accepted}
use Rattle.apex_board.proofs.JournalSteps.{journal_here, journal_is, journal_set, accepts_nothing, accepts_queuing, accepted_is_sent, accepted-one, no_journal, only_accepted, found_here}
use Rattle.apex_board.proofs.RoomSteps.{accept_room}
use Rattle.apex_board.proofs.records.Records.push_accepted.Goals as goal

pub returns-in_default-clause-recorded : goal.returns-in_default-clause-recorded
returns-in_default-clause-recorded g c = accepts_nothing _ _ _ _ c.requires.recorded (c.in_default.ensures.found c.args.config.now c.requires.port)

pub push_reserved-requires : goal.push_reserved-requires
push_reserved-requires g c =
    let all = c.requires.recorded.all in
    let channel = c.in-Some.ensures.channel (length c.args.config.now.channels) c.requires.channel in
    let within : c.in-Some.channel < length c.args.self.now.journals.items = omega arith in
    let sent : message_accepted c.args.config.now c.in-Some.channel c.args.entry.now ≡ Some c.in-Some.message.now = c.in-Some.ensures.found c.args.config.now c.requires.port c.in-Some.channel ∙ found_here c.in-Some.channel c.in-Some.message.now in
    let room = c.requires.fits c.in-Some.channel c.in-Some.message.now (accepted_is_sent c.args.config.now c.args.entry.now c.in-Some.channel c.in-Some.message.now sent) in
    let enough = room c.in-Some-index_mut.journal (journal_here _ c.in-Some.channel _ within c.index_mut.ensures.value ∙ c.in-Some-index_mut.is) in
    omega arith

pub unreachable-requires : goal.unreachable-requires
unreachable-requires g c =
    let all = c.requires.recorded.all in
    let channel = c.in-Some.ensures.channel (length c.args.config.now.channels) c.requires.channel in
    let within : c.in-Some.channel < length c.args.self.now.journals.items = omega arith in
    let sent : message_accepted c.args.config.now c.in-Some.channel c.args.entry.now ≡ Some c.in-Some.message.now = c.in-Some.ensures.found c.args.config.now c.requires.port c.in-Some.channel ∙ found_here c.in-Some.channel c.in-Some.message.now in
    let queuing = accepts_queuing c.args.config.now c.args.self.now.log.items c.args.entry.now c.in-Some.channel c.in-Some.message.now c.requires.sound sent in
    no_journal _ _ _ _ c.in-Some.channel c.requires.recorded (journal_here _ c.in-Some.channel _ within c.index_mut.ensures.value ∙ c.in-None.is) queuing

pub returns-clause-recorded : goal.returns-clause-recorded
returns-clause-recorded g c =
    let all = c.requires.recorded.all in
    let channel = c.in-Some.ensures.channel (length c.args.config.now.channels) c.requires.channel in
    let within : c.in-Some.channel < length c.args.self.now.journals.items = omega arith in
    let is = journal_is _ _ _ _ c.in-Some.channel c.in-Some-index_mut.journal c.requires.recorded (journal_here _ c.in-Some.channel _ within c.index_mut.ensures.value ∙ c.in-Some-index_mut.is) in
    let sent : message_accepted c.args.config.now c.in-Some.channel c.args.entry.now ≡ Some c.in-Some.message.now = c.in-Some.ensures.found c.args.config.now c.requires.port c.in-Some.channel ∙ found_here c.in-Some.channel c.in-Some.message.now in
    let pushed = c.push_reserved.ensures.items ∙ (λ i. is.accepted i ++ c.copy.ensures i ∷ []) in
    let capacity = c.push_reserved.ensures.capacity in
    let fits = is.fits in
    journal_set _ _ _ _ _ _ c.in-Some.channel _ c.requires.recorded within is.queuing
    (pushed ∙ sym (accepted-one c.args.config.now c.args.self.now.log.items c.args.entry.now c.in-Some.channel c.in-Some.message.now sent)) is.taken (omega arith)
    (only_accepted c.args.config.now c.args.self.now.log.items c.args.entry.now c.in-Some.channel c.in-Some.message.now (c.in-Some.ensures.found c.args.config.now c.requires.port)) (λ d apart. refl)

pub returns-clause-room : goal.returns-clause-room
returns-clause-room g c =
    let all = c.requires.recorded.all in
    let channel = c.in-Some.ensures.channel (length c.args.config.now.channels) c.requires.channel in
    let within : c.in-Some.channel < length c.args.self.now.journals.items = omega arith in
    accept_room _ c.in-Some.channel c.in-Some-index_mut.journal _ within (journal_here _ c.in-Some.channel _ within c.index_mut.ensures.value ∙ c.in-Some-index_mut.is) c.push_reserved.ensures.len c.push_reserved.ensures.capacity

pub index_mut-requires : goal.index_mut-requires
index_mut-requires g c =
    let all = c.requires.recorded.all in
    let channel = c.in-Some.ensures.channel (length c.args.config.now.channels) c.requires.channel in
    omega arith
