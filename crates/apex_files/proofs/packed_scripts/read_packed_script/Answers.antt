use Rattle.std.proofs.Common.{◌≡◌, ◌+◌, Ok, Option, Some, None, option_map, ap, ◌∙◌, arith}
use Rattle.std.specs.Str.Lines.{lines}
use Rattle.apex_types.specs.declared.call.Call.{Call}
use Rattle.apex_types.specs.declared.moment.Moment.{Moment}
use Rattle.apex_texts.specs.Lines.{item_of_line}
use Rattle.apex_texts.specs.Script.{timed_call_at, script_of}
use Rattle.apex_texts.proofs.LineLemmas.{goes_on, skips, refuses, ends}
use Rattle.apex_files.proofs.packed_scripts.read_packed_script.Goals as goal

pub returns-in-Err : goal.returns-in-Err
returns-in-Err c =
    rw c.number.ensures (refuses timed_call_at c.loop-line.script (c.loop-line.number + 1) (lines c.loop-line.rest.now) c.in-Some.line.now (lines c.in-Some.after.now) c.in-Err.fault
    (script_of c.args.text.now) c.in-Some.ensures.line c.in-Err.ensures c.loop-line.invariant.read)

pub loop-line-preserved-in_ok-push-in-Ok-Some : goal.loop-line-preserved-in_ok-push-in-Ok-Some
loop-line-preserved-in_ok-push-in-Ok-Some c =
    let timed : Moment × Call = (c.in-Ok-Some.at, c.read_script_line.new.call) in
    let is : item_of_line timed_call_at c.in-Some.line.now ≡ Ok (Some timed) =
    c.in-Ok-Some.ensures ∙ ap (λ (answer : Option Moment). Ok (option_map (λ (at : Moment). (at, c.read_script_line.new.call)) answer)) c.in-Ok-Some.field-0-is
    in
    record {
      read =
          rw c.in_ok-push-in-Ok-Some.ensures.pushed (goes_on timed_call_at c.loop-line.script (c.loop-line.number + 1) (lines c.loop-line.rest.now) c.in-Some.line.now (lines c.in-Some.after.now) timed
          (script_of c.args.text.now) c.in-Some.ensures.line is c.loop-line.invariant.read);
      bound = omega (arith, c.in-Some.ensures.shorter);
    }

pub loop-line-preserved : goal.loop-line-preserved
loop-line-preserved c =
    let is : item_of_line timed_call_at c.in-Some.line.now ≡ Ok None =
    c.in-Ok-None.ensures ∙ ap (λ (answer : Option Moment). Ok (option_map (λ (at : Moment). (at, c.read_script_line.new.call)) answer)) c.in-Ok-None.field-0-is
    in
    record {
      read = skips timed_call_at c.loop-line.script (c.loop-line.number + 1) (lines c.loop-line.rest.now) c.in-Some.line.now (lines c.in-Some.after.now)
          (script_of c.args.text.now) c.in-Some.ensures.line is c.loop-line.invariant.read;
      bound = omega (arith, c.in-Some.ensures.shorter);
    }

pub returns : goal.returns
returns c = ends timed_call_at c.loop-line.script (c.loop-line.number + 1) (lines c.loop-line.rest.now) (script_of c.args.text.now) c.in_default.ensures.line c.loop-line.invariant.read
