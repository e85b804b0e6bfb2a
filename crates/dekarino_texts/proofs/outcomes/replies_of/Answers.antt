use Rattle.std.proofs.Common.{rules, ◌≡◌, ◌<◌, ◌≤◌, List, [], ◌∷◌, ◌++◌, length, map, Some, refl, ap, ◌∙◌, arith, Vec, Global, Bor, length-set}
use Rattle.std.specs.Prelude.{slice_get}
use Rattle.std.proofs.lemmas.List.{map-append}
use Rattle.std.proofs.lemmas.Option.{slice_get_read}
use Rattle.apex_types.specs.declared.reply.Reply.{Reply}
use Rattle.dekarino_texts.proofs.OutcomeLemmas.{found_in_other, found_past, found_by_one, found_at_end}
use Rattle.dekarino_texts.proofs.outcomes.replies_of.Goals as goal
use Rattle.dekarino_texts.proofs.outcomes.replies_of.Goals.{then-one-p+in-Some+in_ok-push, then-one-p+in_default, else-one-p}

-- the replies that a list's references show
abbrev shown : Vec (Bor Reply) Global → List Reply
shown own = map (λ reply. reply.now) own.items

pub loop-one-preserved : goal.loop-one-preserved
loop-one-preserved c =
    let one = c.one-item.result in
    let replies = c.args.replies.now in
    let i = c.loop-one.one-index in
    let within : i < length replies = omega arith in
    let here : slice_get replies i ≡ Some one = slice_get_read replies (length replies) i one refl within c.one-item.is in
    elim c.if-one-p.branch [
      | then-one-p+in-Some+in_ok-push w ↦
          let pushed : shown w.push.new.self ≡ shown w.in-Some.own.now ++ one.reply ∷ [] =
          ap (map (λ (reply : Bor Reply). reply.now)) w.in_ok-push.ensures.items ∙ map-append _ w.in-Some.own.now.items _ in
          let place : one.index < length c.loop-one.found.items = search rules in
          let at = slice_get_read c.loop-one.found.items (length c.loop-one.found.items) one.index w.in-Some.own.now refl place w.in-Some.ensures.value in
          rw w.found-is record {
            count = length-set c.loop-one.found.items one.index w.push.new.self ∙ c.loop-one.invariant.count;
            each = found_by_one shown c.args.p replies i one here c.loop-one.found.items w.in-Some.own.now w.push.new.self w.if-one-p.true at pushed c.loop-one.invariant.each;
          }
      | then-one-p+in_default w ↦
          let past : length c.loop-one.found.items ≤ one.index = grind arith in
          rw w.found-is record {
            count = c.loop-one.invariant.count;
            each = found_past shown c.args.p replies i one here c.loop-one.found.items past c.loop-one.invariant.each;
          }
      | else-one-p w ↦
          rw w.found-is record {
            count = c.loop-one.invariant.count;
            each = found_in_other shown c.args.p replies i one here c.loop-one.found.items w.if-one-p.false c.loop-one.invariant.each;
          }
    ]

pub returns-clause-each : goal.returns-clause-each
returns-clause-each c = found_at_end shown c.args.p c.args.replies.now c.loop-one.one-index c.loop-one.found.items (omega arith) c.loop-one.invariant.each
