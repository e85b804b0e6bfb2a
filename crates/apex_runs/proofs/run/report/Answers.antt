use Rattle.std.proofs.Common.{◌≡◌, ◌++◌, ◌∙◌, sym, subst, string_bytes}
use Rattle.apex_module.specs.Configuration.{Configuration}
use Rattle.apex_ports.specs.Lawful.{IsLawful}
use Rattle.apex_texts.specs.Report.{entry_lines, totals_of, report_of}
use Rattle.apex_runs.specs.Observers.{ShowSamples}
use Rattle.apex_runs.proofs.run.report.Goals as goal

pub returns-clause-order : goal.returns-clause-order
returns-clause-order c =
    let ports = c.push_calls.new.ports in
    let first : c.in_ok-ports.ports.config ≡ c.args.config.now = c.in_ok-ports.ensures.config ∙ c.in_ok-copy.ensures in
    let config : ports.config ≡ c.args.config.now = c.push_calls.ensures.config ∙ first in
    let lawful = subst (λ (given : Configuration). IsLawful given ports.history) config c.in_ok-push_calls.ensures.sound.lawful in
    (ports.history, lawful, c.in_ok-push_calls.ensures.collected.calls, sym c.as_slice.ensures.value ∙ c.in_ok-push_calls.ensures.ordered)

pub returns-clause-text : goal.returns-clause-text
unfolding report_of
returns-clause-text c =
    let ports = c.push_calls.new.ports in
    let history = ports.history in
    let first : c.in_ok-ports.ports.config ≡ c.args.config.now = c.in_ok-ports.ensures.config ∙ c.in_ok-copy.ensures in
    let config : ports.config ≡ c.args.config.now = c.push_calls.ensures.config ∙ first in
    let calls : string_bytes c.push_calls.new.text ≡ entry_lines c.args.config.now 1 history =
    c.in_ok-push_calls.ensures.written ∙ (λ i. c.in_ok-text.ensures.bytes i ++ entry_lines (first i) 1 history) in
    record {
      history = history;
      lawful = subst (λ (given : Configuration). IsLawful given history) config c.in_ok-push_calls.ensures.sound.lawful;
      calls = c.in_ok-push_calls.ensures.collected.calls;
      answers = c.in_ok-push_calls.ensures.collected.answers;
      shown = subst (λ (given : Configuration). ShowSamples given history c.compare.new.self.observers) config c.in_ok-compare.ensures.shown;
      reported = c.in_ok-push_totals.ensures ∙ (λ i. calls i ++ totals_of (config i) history);
    }
