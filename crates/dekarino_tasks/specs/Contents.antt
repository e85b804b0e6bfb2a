-- What the tasks find in files, if the bytes of the files are known.
use Rattle.std.specs.Prelude.{◌≡◌, ℕ, List, Ok, map}
use Rattle.apex_module.specs.Configuration.{Configuration}
use Rattle.apex_config.specs.Meaning.{config_of}
use Rattle.apex_texts.specs.Trace.{trace_of}
use Rattle.dekarino_drawings.specs.declared.chart.Chart.{Chart}
use Rattle.dekarino_drawings.specs.Chart.{IsChart}
use Rattle.dekarino_texts.specs.declared.explanation.Explanation.{Explanation}
use Rattle.dekarino_texts.specs.declared.table.TableRow.{TableRow}
use Rattle.dekarino_texts.specs.Explained.{IsExplained}
use Rattle.dekarino_texts.specs.Explanation.{IsFaultOf, ExplainedLine, explanation_of}
use Rattle.dekarino_texts.specs.Handed.{IsHanded}
use Rattle.dekarino_texts.specs.PortTable.{row_data, table_rows}

-- the rows are those of the table of the configuration that the bytes are
abbrev pub IsTableOf : List TableRow → List ℕ → Type 0
IsTableOf rows bytes = (config : Configuration) × (config_of bytes ≡ Ok config) × (map row_data rows ≡ table_rows config)

-- the explanation is that of the trace on the configuration that the bytes are, with the fault of the trace, and the sink was
-- handed its lines
abbrev pub IsExplanationOf : {S : Type 0} → (S → ExplainedLine → S → Type 0) → S → S → Explanation → List ℕ → List ℕ → Type 0
IsExplanationOf takes before after ended bytes trace =
    (config : Configuration) × (config_of bytes ≡ Ok config) × IsHanded takes before (explanation_of config trace) after
    × IsExplained config (explanation_of config trace) ended × IsFaultOf (trace_of config trace) ended.fault

-- the chart is that of the trace on the configuration that the bytes are
abbrev pub IsChartOf : Chart → List ℕ → List ℕ → Type 0
IsChartOf chart bytes trace = (config : Configuration) × (config_of bytes ≡ Ok config) × IsChart config trace chart
