-- The end of an explanation, after its lines.
use Rattle.std.specs.Prelude.{◌≡◌, List, [], length, MatchOption}
use Rattle.dekarino_texts.specs.Prelude.{Configuration}
use Rattle.apex_ports.specs.PortsView.{PortsView}
use Rattle.dekarino_texts.specs.declared.explanation.Explanation.{Explanation}
use Rattle.dekarino_texts.specs.Explanation.{ExplainedLine, log_in}
use Rattle.dekarino_texts.specs.Remarks.{history_of, remarks_of}

-- the calls are those of the lines, and the remarks those on all of them; there is none if the trace has a fault
pub record IsExplained (config : Configuration) (lines : List ExplainedLine) (ended : Explanation) : Type 0 where
  pub calls : ended.calls ≡ length (log_in lines)
  pub remarks : MatchOption ended.fault (ended.remarks.items ≡ remarks_of config (log_in lines)) (λ _. ended.remarks.items ≡ [])

-- the ports are those of the configuration after the calls of the lines
pub record AreAfter (config : Configuration) (lines : List ExplainedLine) (ports : PortsView) : Type 0 where
  pub configured : ports.config ≡ config
  pub served : ports.history ≡ history_of (log_in lines)
