use Rattle.dekarino_texts.proofs.Common.{◌≡◌, ◌+◌, ◌++◌, [], ℕ, List, Ok, Some, None, Err, is_ok, refl, sym, ap, ◌∙◌, arith, subst, lines, Configuration, requests_of, item_of_line, request_at, trace_of, line_faulty, explained, explanation_of, partition_remarks, channel_remarks}
use Rattle.apex_texts.proofs.LineLemmas.{goes_on, skips, refuses, ends}
use Rattle.apex_texts.proofs.ReplayLemmas.{fresh_front, requests_of-push}
use Rattle.dekarino_texts.proofs.ExplanationLemmas.{explains_line, explains_call, explains_fault, explains_all, serves_all, counts_all, remarks_all, ports_noted}
use Rattle.dekarino_texts.proofs.explanation.explain_lines.Goals as goal

pub loop-line-init : goal.loop-line-init
loop-line-init g c =
    let config = c.args.ports.now.config in
    let trace = c.args.trace.now in
    record {
      read = fresh_front config c.args.ports.now.history trace c.requires.fresh;
      config = refl;
      sound = c.requires.sound;
      explained = record {
        done = [];
        handed = refl;
        served = c.requires.fresh;
        noted = c.new-notes.ensures config;
        fewer = omega arith;
        left = (λ i. explained config (c.requires.fresh i) 1 trace (lines trace));
      };
      bound = omega arith;
    }

pub loop-line-preserved-in_ok-explain_call-in-Ok-true : goal.loop-line-preserved-in_ok-explain_call-in-Ok-true
loop-line-preserved-in_ok-explain_call-in-Ok-true g c =
    let config = c.args.ports.now.config in
    let history = c.loop-line.ports.history in
    let request = c.read_trace_line.new.request in
    let same = c.config.ensures.config ∙ c.loop-line.invariant.config in
    let is : item_of_line (request_at config) c.in-Some.line.now ≡ Ok (Some request) =
    ap (λ (given : Configuration). item_of_line (request_at given) c.in-Some.line.now) (sym same) ∙ rw c.in-Ok-true.field-0-test at c.in-Ok-true.ensures.exact in
    let bound = c.loop-line.invariant.bound in
    record {
      read =
          rw (c.explain_call.ensures.history, requests_of-push)
          (goes_on (request_at config) (requests_of history) (c.loop-line.number + 1) (lines c.loop-line.rest.now) c.in-Some.line.now (lines c.in-Some.after.now) request
          (trace_of config c.args.trace.now) c.in-Some.ensures.line is c.loop-line.invariant.read);
      config = c.explain_call.ensures.config ∙ c.loop-line.invariant.config;
      sound = c.explain_call.ensures.sound;
      explained =
          explains_call g.S.ExplanationSink.takes config history c.loop-line.notes c.loop-line.number c.loop-line.rest.now c.in-Some.after.now c.in-Some.line.now c.args.sink.now c.loop-line.sink c.explain_call.new.sink (explanation_of config c.args.trace.now)
          request c.explain_call.new.ports.history c.explain_call.new.notes c.in-Some.ensures.line c.in-Some.ensures.after is
          (rw (← c.loop-line.invariant.config) c.explain_call.ensures.history) (rw (← c.loop-line.invariant.config) c.in_ok-explain_call-in-Ok-true.ensures.handed) (rw (← c.loop-line.invariant.config) c.in_ok-explain_call-in-Ok-true.ensures.noted)
          c.loop-line.invariant.explained;
      bound = omega (arith, c.in-Some.ensures.shorter);
    }

pub loop-line-preserved : goal.loop-line-preserved
loop-line-preserved g c =
    let config = c.args.ports.now.config in
    let same = c.config.ensures.config ∙ c.loop-line.invariant.config in
    let is : item_of_line (request_at config) c.in-Some.line.now ≡ Ok None =
    ap (λ (given : Configuration). item_of_line (request_at given) c.in-Some.line.now) (sym same) ∙ rw c.in-Ok-false.field-0-test at c.in-Ok-false.ensures.exact in
    let bound = c.loop-line.invariant.bound in
    record {
      read = skips (request_at config) (requests_of c.loop-line.ports.history) (c.loop-line.number + 1) (lines c.loop-line.rest.now) c.in-Some.line.now (lines c.in-Some.after.now)
          (trace_of config c.args.trace.now) c.in-Some.ensures.line is c.loop-line.invariant.read;
      config = c.loop-line.invariant.config;
      sound = c.loop-line.invariant.sound;
      explained =
          explains_line g.S.ExplanationSink.takes config c.loop-line.ports.history c.loop-line.notes c.loop-line.number c.loop-line.rest.now c.in-Some.after.now c.in-Some.line.now c.args.sink.now c.loop-line.sink c.line_without_call.new.self (explanation_of config c.args.trace.now)
          c.in-Some.ensures.line c.in-Some.ensures.after is c.in_ok-line_without_call-in-Ok-false.ensures c.loop-line.invariant.explained;
      bound = omega (arith, c.in-Some.ensures.shorter);
    }

pub remarks_of-requires : goal.remarks_of-requires
remarks_of-requires g c =
    let config = c.args.ports.now.config in
    record { noted = ports_noted g.S.ExplanationSink.takes config c.loop-line.ports.history c.loop-line.notes c.loop-line.number c.loop-line.rest.now c.args.sink.now c.loop-line.sink (explanation_of config c.args.trace.now) c.loop-line.invariant.explained }

pub returns-in-Err : goal.returns-in-Err
returns-in-Err g c =
    let config = c.args.ports.now.config in
    let takes = g.S.ExplanationSink.takes in
    let same = c.config.ensures.config ∙ c.loop-line.invariant.config in
    let is : item_of_line (request_at config) c.in-Some.line.now ≡ Err c.in-Err.fault =
    ap (λ (given : Configuration). item_of_line (request_at given) c.in-Some.line.now) (sym same) ∙ c.in-Err.ensures.exact in
    let took = subst (λ (bytes : List ℕ). takes c.loop-line.sink (line_faulty (c.loop-line.number + 1) bytes c.in-Err.fault) c.faulty_line.new.self) c.first_line.ensures c.in_ok-faulty_line-in-Err.ensures in
    let both = explains_fault takes config c.loop-line.ports.history c.loop-line.notes c.loop-line.number c.loop-line.rest.now c.in-Some.after.now c.in-Some.line.now c.args.sink.now c.loop-line.sink c.faulty_line.new.self (explanation_of config c.args.trace.now)
    c.in-Err.fault c.in-Some.ensures.line c.in-Some.ensures.after is took c.loop-line.invariant.explained in
    let refused = refuses (request_at config) (requests_of c.loop-line.ports.history) (c.loop-line.number + 1) (lines c.loop-line.rest.now) c.in-Some.line.now (lines c.in-Some.after.now) c.in-Err.fault
    (trace_of config c.args.trace.now) c.in-Some.ensures.line is c.loop-line.invariant.read in
    record {
      lines = both.0;
      ending = record { calls = c.ended_by.ensures.calls ∙ both.1; remarks = rw c.ended_by.ensures.fault c.ended_by.ensures.remarks };
      fault = rw c.ended_by.ensures.fault refused;
      ports = record { configured = c.loop-line.invariant.config; served = both.2 };
    }

pub returns : goal.returns
returns g c =
    let config = c.args.ports.now.config in
    let takes = g.S.ExplanationSink.takes in
    let history = c.loop-line.ports.history in
    let notes = c.loop-line.notes in
    let total = explanation_of config c.args.trace.now in
    let was = c.loop-line.invariant.explained in
    let remarks = c.in_ok-remarks.remarks.items in
    let are = subst (λ (given : Configuration). remarks ≡ (notes.earlier.items ++ notes.not_made.items) ++ partition_remarks given history 0 given.partitions ++ channel_remarks given history 0 given.channels) c.loop-line.invariant.config c.in_ok-remarks.ensures in
    record {
      lines = explains_all takes config history notes c.loop-line.number c.loop-line.rest.now c.args.sink.now c.loop-line.sink total c.in_default.ensures.line was;
      ending = record {
        calls = counts_all takes config history notes c.loop-line.number c.loop-line.rest.now c.args.sink.now c.loop-line.sink total c.in_default.ensures.line was;
        remarks = remarks_all takes config history notes c.loop-line.number c.loop-line.rest.now c.args.sink.now c.loop-line.sink total c.in_default.ensures.line was remarks are;
      };
      ports = record {
        configured = c.loop-line.invariant.config;
        served = serves_all takes config history notes c.loop-line.number c.loop-line.rest.now c.args.sink.now c.loop-line.sink total c.in_default.ensures.line was;
      };
      fault = ap is_ok (ends (request_at config) (requests_of history) (c.loop-line.number + 1) (lines c.loop-line.rest.now) (trace_of config c.args.trace.now) c.in_default.ensures.line c.loop-line.invariant.read);
    }
