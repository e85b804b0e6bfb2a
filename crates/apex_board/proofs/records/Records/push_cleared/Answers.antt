use Rattle.apex_board.proofs.Common.{◌≡◌, ◌<◌, ◌++◌, ◌∷◌, [], ◌==◌, true, length, drop, map, set, refl, sym, ap, subst, ◌∙◌, arith, nat_tests, as_cleared, AreJournals}
use Rattle.std.proofs.lemmas.List.{set-get_or}
use Rattle.apex_board.proofs.JournalSteps.{journal_here, journal_is, journal_set, takes_nothing, clears_without_journal, taken-rest, clears_within, only_cleared}
use Rattle.apex_board.proofs.RoomSteps.{kept_room}
use Rattle.apex_board.proofs.records.Records.push_cleared.Goals as goal

pub returns-in_default-clause-recorded : goal.returns-in_default-clause-recorded
returns-in_default-clause-recorded g c = takes_nothing _ _ _ _ c.requires.recorded c.requires.received (c.in_default.ensures.found c.args.config.now c.requires.port)

pub clear-requires-clause-taken : goal.clear-requires-clause-taken
clear-requires-clause-taken g c =
    let all = c.requires.recorded.all in
    let channel = c.in-Some.ensures.channel (length c.args.config.now.channels) c.requires.channel in
    let within : c.in-Some.channel < length c.args.self.now.journals.items = omega arith in
    let is = journal_is _ _ _ _ c.in-Some.channel c.in-Some-index_mut.journal c.requires.recorded (journal_here _ c.in-Some.channel _ within c.index_mut.ensures.value ∙ c.in-Some-index_mut.is) in
    let here : (c.in-Some.channel == c.in-Some.channel) ≡ true = grind (arith, nat_tests) in
    let less = clears_within c.args.config.now c.args.self.now.log.items c.args.entry.now c.in-Some.channel (c.in-Some.ensures.found c.args.config.now c.requires.port c.in-Some.channel ∙ here) c.requires.sound in
    let accepted : length c.in-Some-index_mut.journal.accepted.items ≡ length _ = ap length is.accepted in
    let taken : length c.in-Some-index_mut.journal.taken.items ≡ length _ = ap length is.taken in
    omega (arith, c.in-Some-index_mut.journal.accepted.ok.0, c.in-Some-index_mut.journal.taken.ok.0)

pub clear-requires-clause-room : goal.clear-requires-clause-room
clear-requires-clause-room g c =
    let all = c.requires.recorded.all in
    let channel = c.in-Some.ensures.channel (length c.args.config.now.channels) c.requires.channel in
    let within : c.in-Some.channel < length c.args.self.now.journals.items = omega arith in
    c.requires.recorded.fits c.in-Some.channel c.in-Some-index_mut.journal (journal_here _ c.in-Some.channel _ within c.index_mut.ensures.value ∙ c.in-Some-index_mut.is)

pub returns-in-Some-index_mut-clause-recorded : goal.returns-in-Some-index_mut-clause-recorded
returns-in-Some-index_mut-clause-recorded g c =
    let all = c.requires.recorded.all in
    let channel = c.in-Some.ensures.channel (length c.args.config.now.channels) c.requires.channel in
    let within : c.in-Some.channel < length c.args.self.now.journals.items = omega arith in
    let is = journal_is _ _ _ _ c.in-Some.channel c.in-Some-index_mut.journal c.requires.recorded (journal_here _ c.in-Some.channel _ within c.index_mut.ensures.value ∙ c.in-Some-index_mut.is) in
    let here : (c.in-Some.channel == c.in-Some.channel) ≡ true = grind (arith, nat_tests) in
    let rest = taken-rest c.args.config.now c.args.self.now.log.items c.args.entry.now c.in-Some.channel (c.in-Some.ensures.found c.args.config.now c.requires.port c.in-Some.channel ∙ here) in
    let capacity = c.clear.ensures.capacity in
    let fits = is.fits in
    journal_set _ _ _ _ _ _ c.in-Some.channel c.clear.new.self c.requires.recorded within is.queuing (rw c.clear.ensures.accepted is.accepted)
    (c.clear.ensures.taken ∙ ((λ i. is.taken i ++ map as_cleared (drop (length (is.taken i)) (is.accepted i))) ∙ sym rest)) (rw c.clear.ensures.accepted (omega arith))
    (λ d apart. refl) (only_cleared c.args.config.now c.args.self.now.log.items c.args.entry.now c.in-Some.channel c.requires.received (c.in-Some.ensures.found c.args.config.now c.requires.port))

pub returns-in-Some-index_mut-clause-room : goal.returns-in-Some-index_mut-clause-room
returns-in-Some-index_mut-clause-room g c =
    let all = c.requires.recorded.all in
    let channel = c.in-Some.ensures.channel (length c.args.config.now.channels) c.requires.channel in
    let within : c.in-Some.channel < length c.args.self.now.journals.items = omega arith in
    kept_room _ c.in-Some.channel c.in-Some-index_mut.journal c.clear.new.self within (journal_here _ c.in-Some.channel _ within c.index_mut.ensures.value ∙ c.in-Some-index_mut.is) (rw c.clear.ensures.accepted refl) (rw c.clear.ensures.accepted (omega arith))

pub returns-in_default-index_mut-clause-recorded : goal.returns-in_default-index_mut-clause-recorded
returns-in_default-index_mut-clause-recorded g c =
    let all = c.requires.recorded.all in
    let channel = c.in-Some.ensures.channel (length c.args.config.now.channels) c.requires.channel in
    let journals = c.args.self.now.journals.items in
    let log = c.args.self.now.log.items ++ c.args.entry.now ∷ [] in
    let within : c.in-Some.channel < length journals = omega arith in
    let none = journal_here journals c.in-Some.channel _ within c.index_mut.ensures.value ∙ c.in_default-index_mut.is in
    let same : set journals c.in-Some.channel c.index_mut.result.now ≡ journals = ap (set journals c.in-Some.channel) c.index_mut.ensures.value ∙ set-get_or journals c.in-Some.channel c.index_mut.result.now in
    subst (AreJournals c.args.config.now log log) (sym same)
    (clears_without_journal _ _ _ c.in-Some.channel journals c.requires.sound c.requires.recorded none c.requires.received (c.in-Some.ensures.found c.args.config.now c.requires.port))

pub index_mut-requires : goal.index_mut-requires
index_mut-requires g c =
    let all = c.requires.recorded.all in
    let channel = c.in-Some.ensures.channel (length c.args.config.now.channels) c.requires.channel in
    omega arith
