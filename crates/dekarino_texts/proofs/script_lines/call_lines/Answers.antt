use Rattle.dekarino_texts.proofs.Common.{◌≡◌, ◌+◌, List, ℕ, arith, sym, ◌∙◌, subst, lines, call_numbers, AreLinesOf}
use Rattle.apex_texts.specs.Script.{script_of}
use Rattle.dekarino_texts.proofs.ScriptLineLemmas.{counted, passed, ended, are_lines}
use Rattle.dekarino_texts.proofs.script_lines.call_lines.Goals as goal

pub loop-line-preserved-in_ok-push : goal.loop-line-preserved-in_ok-push
loop-line-preserved-in_ok-push c = record {
  read =
      rw c.in_ok-push.ensures.items
      (counted c.loop-line.numbers.items (c.loop-line.number + 1) (lines c.loop-line.rest.now) c.in-Some.line.now (lines c.in-Some.after.now) (call_numbers c.args.script.now) c.in-Some.ensures.line
      (sym c.has_call.ensures ∙ c.if-has_call.true) c.loop-line.invariant.read);
  bound = omega (arith, c.loop-line.invariant.bound, c.in-Some.ensures.shorter);
}

pub loop-line-preserved : goal.loop-line-preserved
loop-line-preserved c = record {
  read =
      passed c.loop-line.numbers.items (c.loop-line.number + 1) (lines c.loop-line.rest.now) c.in-Some.line.now (lines c.in-Some.after.now) (call_numbers c.args.script.now) c.in-Some.ensures.line
      (sym c.has_call.ensures ∙ c.if-has_call.false) c.loop-line.invariant.read;
  bound = omega (arith, c.loop-line.invariant.bound, c.in-Some.ensures.shorter);
}

pub returns-clause-numbers : goal.returns-clause-numbers
returns-clause-numbers c = ended c.loop-line.numbers.items (c.loop-line.number + 1) (lines c.loop-line.rest.now) (call_numbers c.args.script.now) c.in_default.ensures.line c.loop-line.invariant.read

pub returns-clause-calls : goal.returns-clause-calls
returns-clause-calls c =
    let all : c.loop-line.numbers.items ≡ call_numbers c.args.script.now =
    ended c.loop-line.numbers.items (c.loop-line.number + 1) (lines c.loop-line.rest.now) (call_numbers c.args.script.now) c.in_default.ensures.line c.loop-line.invariant.read in
    subst (λ (numbers : List ℕ). AreLinesOf c.args.script.now numbers (script_of c.args.script.now)) (sym all) (are_lines c.args.script.now)
