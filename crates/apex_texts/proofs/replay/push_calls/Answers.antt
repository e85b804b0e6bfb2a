use Rattle.apex_texts.proofs.Common.{◌≡◌, ◌+◌, ◌++◌, ◌∷◌, [], length, Ok, Some, None, Err, refl, sym, ap, ◌∙◌, arith, string_bytes, length-append, lines, Configuration, requests_of, item_of_line, line_of, request_at, trace_of}
use Rattle.apex_texts.specs.Replay.{entry_after}
use Rattle.apex_texts.proofs.LineLemmas.{goes_on, skips, refuses, ends}
use Rattle.apex_texts.proofs.ReplayLemmas.{fresh_front, requests_of-push}
use Rattle.apex_texts.proofs.ReportLemmas.{entry_pushed, no_entry}
use Rattle.apex_texts.proofs.replay.push_calls.Goals as goal

pub loop-line-init : goal.loop-line-init
loop-line-init c = record {
  read = fresh_front c.args.ports.now.config c.args.ports.now.history c.args.trace.now c.requires.fresh;
  config = refl;
  sound = c.requires.sound;
  written = no_entry c.args.ports.now.config c.args.ports.now.history (string_bytes c.args.text.now) c.requires.fresh;
  number = sym (ap length c.requires.fresh);
  fewer = omega arith;
  bound = omega arith;
}

pub returns-in-Err-clause-refused : goal.returns-in-Err-clause-refused
returns-in-Err-clause-refused c =
    let config = c.args.ports.now.config in
    let same = c.config.ensures.config ∙ c.loop-line.invariant.config in
    let is : item_of_line (request_at config) c.in-Some.line.now ≡ Err c.in-Err.fault =
    ap (λ (given : Configuration). item_of_line (request_at given) c.in-Some.line.now) (sym same) ∙ c.in-Err.ensures.exact in
    rw c.at.ensures (refuses (request_at config) (requests_of c.loop-line.ports.history) (c.loop-line.line_number + 1) (lines c.loop-line.rest.now) c.in-Some.line.now (lines c.in-Some.after.now) c.in-Err.fault
    (trace_of config c.args.trace.now) c.in-Some.ensures.line is c.loop-line.invariant.read)

pub loop-line-preserved-in_ok-push_call-in-Ok-true : goal.loop-line-preserved-in_ok-push_call-in-Ok-true
loop-line-preserved-in_ok-push_call-in-Ok-true c =
    let config = c.args.ports.now.config in
    let history = c.loop-line.ports.history in
    let same = c.config.ensures.config ∙ c.loop-line.invariant.config in
    let read : item_of_line (request_at config) c.in-Some.line.now ≡ Ok (Some c.read_trace_line.new.request) =
    ap (λ (given : Configuration). item_of_line (request_at given) c.in-Some.line.now) (sym same) ∙ rw c.in-Ok-true.field-0-test at c.in-Ok-true.ensures.exact in
    let entry = entry_after c.loop-line.ports.config history c.read_trace_line.new.request in
    let longer : length c.push_call.new.ports.history ≡ length history + 1 = ap length c.push_call.ensures.history ∙ length-append history (entry ∷ []) in
    let before = c.loop-line.invariant.number in
    let bound = c.loop-line.invariant.bound in
    let fewer = c.loop-line.invariant.fewer in
    record {
      read =
          rw (c.push_call.ensures.history, requests_of-push)
          (goes_on (request_at config) (requests_of history) (c.loop-line.line_number + 1) (lines c.loop-line.rest.now) c.in-Some.line.now (lines c.in-Some.after.now) c.read_trace_line.new.request
          (trace_of config c.args.trace.now) c.in-Some.ensures.line read c.loop-line.invariant.read);
      config = c.push_call.ensures.config ∙ c.loop-line.invariant.config;
      sound = c.push_call.ensures.sound;
      written =
          entry_pushed config history c.push_call.new.ports.history entry (c.loop-line.number + 1) (string_bytes c.args.text.now) (string_bytes c.loop-line.text) (string_bytes c.push_call.new.text) (omega arith) c.push_call.ensures.history c.loop-line.invariant.written
          (c.in_ok-push_call-in-Ok-true.ensures.written ∙ (λ i. string_bytes c.loop-line.text ++ line_of (c.loop-line.invariant.config i) (c.loop-line.number + 1) entry));
      number = omega arith;
      fewer = omega arith;
      bound = omega (arith, c.in-Some.ensures.shorter);
    }

pub loop-line-preserved : goal.loop-line-preserved
loop-line-preserved c =
    let config = c.args.ports.now.config in
    let same = c.config.ensures.config ∙ c.loop-line.invariant.config in
    let read : item_of_line (request_at config) c.in-Some.line.now ≡ Ok None =
    ap (λ (given : Configuration). item_of_line (request_at given) c.in-Some.line.now) (sym same) ∙ rw c.in-Ok-false.field-0-test at c.in-Ok-false.ensures.exact in
    let fewer = c.loop-line.invariant.fewer in
    record {
      read = skips (request_at config) (requests_of c.loop-line.ports.history) (c.loop-line.line_number + 1) (lines c.loop-line.rest.now) c.in-Some.line.now (lines c.in-Some.after.now)
          (trace_of config c.args.trace.now) c.in-Some.ensures.line read c.loop-line.invariant.read;
      config = c.loop-line.invariant.config;
      sound = c.loop-line.invariant.sound;
      written = c.loop-line.invariant.written;
      number = c.loop-line.invariant.number;
      fewer = omega arith;
      bound = omega (arith, c.in-Some.ensures.shorter);
    }

pub returns-clause-served : goal.returns-clause-served
returns-clause-served c =
    let config = c.args.ports.now.config in (
      ends (request_at config) (requests_of c.loop-line.ports.history) (c.loop-line.line_number + 1) (lines c.loop-line.rest.now) (trace_of config c.args.trace.now) c.in_default.ensures.line c.loop-line.invariant.read,
      rw (← c.loop-line.invariant.config) c.loop-line.invariant.sound.lawful,
    )
