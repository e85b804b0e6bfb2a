use Rattle.std.proofs.Common.{List, refl, sym, subst}
use Rattle.apex_types.specs.declared.reply.Reply.{Reply}
use Rattle.apex_module.specs.Configuration.{Configuration}
use Rattle.apex_ports.specs.Interference.{IsFreeFromInterference}
use Rattle.apex_ports.specs.Lawful.{IsLawful}
use Rattle.apex_board.specs.BoardView.{BoardView}
use Rattle.apex_threads.specs.Collected.{HasReplies, IsCollectedFor}
use Rattle.apex_workers.proofs.Alone.{shows_scripts_alone}
use Rattle.apex_workers.proofs.run.collected.Goals as goal

pub returns-then-not-is_collected_for-clause-same : goal.returns-then-not-is_collected_for-clause-same
returns-then-not-is_collected_for-clause-same g c = λ same.
    let config = c.args.config.now in
    let scripts = c.args.scripts.now in
    c.if-not-is_collected_for.ensures.1 (subst (λ (b : BoardView). IsCollectedFor config scripts b.config b.log c.args.answers.now) (sym c.into_parts-board.ensures.board) same)

pub returns-clause-config : goal.returns-clause-config
returns-clause-config g c = (c.if-not-is_collected_for.ensures.0 refl).0

pub returns-clause-lawful : goal.returns-clause-lawful
returns-clause-lawful g c =
    let board = c.into_parts-board.result.0 in
    subst (λ (config : Configuration). IsLawful config board.log) (c.if-not-is_collected_for.ensures.0 refl).0 c.into_parts-board.ensures.facts.lawful

pub returns-clause-calls : goal.returns-clause-calls
returns-clause-calls g c = (c.if-not-is_collected_for.ensures.0 refl).1.calls

pub returns-clause-replies : goal.returns-clause-replies
returns-clause-replies g c =
    subst (λ (all : List (List Reply)). HasReplies c.into_parts-board.result.0.log all) (sym c.requires.lists) (c.if-not-is_collected_for.ensures.0 refl).1.answers

pub returns-clause-isolated : goal.returns-clause-isolated
returns-clause-isolated g c =
    let log = c.into_parts-board.result.0.log in
    let isolated = subst (λ (config : Configuration). IsFreeFromInterference config log) (c.if-not-is_collected_for.ensures.0 refl).0 c.into_parts-board.ensures.facts.isolated in
    shows_scripts_alone c.args.config.now c.args.scripts.now c.args.replies.items log isolated (returns-clause-calls g c) (returns-clause-replies g c)
