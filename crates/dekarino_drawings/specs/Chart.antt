-- What is read from a trace to be drawn, and when it isn't drawn.
use Rattle.std.specs.Prelude.{◌≡◌, ℕ, ◌≤◌, ◌<◌, List, length, Ok}
use Rattle.dekarino_drawings.specs.Prelude.{Configuration, Answers}
use Rattle.apex_ports.specs.declared.history.Request.{Request}
use Rattle.apex_texts.specs.Replay.{IsServed, IsRefused}
use Rattle.apex_texts.specs.declared.fault.Fault.{Fault}
use Rattle.apex_texts.specs.declared.fault.Fault.TheVariants as faults
use Rattle.apex_texts.specs.Trace.{trace_of}
use Rattle.dekarino_drawings.specs.declared.chart.TheConstants.{CALL_LIMIT}
use Rattle.dekarino_drawings.specs.declared.chart.Chart.{Chart}
use Rattle.dekarino_drawings.specs.declared.fault.DrawingFault.{DrawingFault}
use Rattle.dekarino_drawings.specs.declared.fault.DrawingFault.TheVariants as drawing
use Rattle.dekarino_drawings.specs.Arrows.{arrows_of, waiting_of}

-- the chart is that of these requests
pub record IsChartOf (config : Configuration) (requests : List Request) (chart : Chart) : Type 0 where
  pub served : Answers config requests chart.calls.items
  pub arrows : chart.arrows.items ≡ arrows_of config chart.calls.items
  pub waiting : chart.waiting.items ≡ waiting_of config chart.calls.items

-- the chart is that of the trace
pub record IsChart (config : Configuration) (trace : List ℕ) (chart : Chart) : Type 0 where
  -- its calls are the lawful history of the trace's requests
  pub served : IsServed config trace chart.calls.items
  pub arrows : chart.arrows.items ≡ arrows_of config chart.calls.items
  pub waiting : chart.waiting.items ≡ waiting_of config chart.calls.items

-- why no chart is read from a trace: its first faulty line; nothing is claimed if memory runs out
abbrev pub IsNotRead : Configuration → List ℕ → Fault → Type 0
IsNotRead config trace (faults.Trace fault) = IsRefused (trace_of config trace) fault
IsNotRead config trace faults.Memory = Unit {0}
IsNotRead config trace fault = ⊥

-- the trace can be drawn
pub record IsDrawn (config : Configuration) (trace : List ℕ) : Type 0 where
  pub requests : List Request
  pub read : trace_of config trace ≡ Ok requests
  pub few : length requests ≤ CALL_LIMIT

-- the trace has this number of calls, more than are drawn
pub record HasTooMany (config : Configuration) (trace : List ℕ) (calls : ℕ) : Type 0 where
  pub requests : List Request
  pub read : trace_of config trace ≡ Ok requests
  pub count : calls ≡ length requests
  pub many : CALL_LIMIT < calls

-- why a trace is not drawn: its first faulty line, or else too many calls; nothing is claimed if memory runs out
abbrev pub IsNotDrawn : Configuration → List ℕ → DrawingFault → Type 0
IsNotDrawn config trace (drawing.Text fault) = IsNotRead config trace fault
IsNotDrawn config trace (drawing.TooManyCalls calls) = HasTooMany config trace calls
