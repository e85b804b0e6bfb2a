use Rattle.std.proofs.Common.{◌≡◌, ℕ, List, Option, Some, None, Ok, ◌∙◌, subst}
use Rattle.std.specs.Prelude.{IfSome}
use Rattle.apex_module.specs.Configuration.{Configuration}
use Rattle.apex_config.specs.Meaning.{config_of}
use Rattle.dekarino_drawings.specs.declared.chart.Chart.{Chart}
use Rattle.dekarino_drawings.specs.Chart.{IsChart}
use Rattle.dekarino_tasks.specs.Contents.{IsChartOf}
use Rattle.dekarino_tasks.proofs.drawings.chart_of_file.Goals as goal

-- what the chart shows is what the files give
of_files : (chart : Chart) (config : Configuration) (trace items : List ℕ) (config_bytes trace_bytes : Option (List ℕ)) → IfSome config_bytes (λ bytes. config_of bytes ≡ Ok config) → trace ≡ items
    → IfSome trace_bytes (λ bytes. items ≡ bytes) → IsChart config trace chart → IfSome config_bytes (λ bytes. IfSome trace_bytes (IsChartOf chart bytes))
of_files chart config trace items None text known same read shown = tt
of_files chart config trace items (Some bytes) None known same read shown = tt
of_files chart config trace items (Some bytes) (Some text) known same read shown =
    subst (λ (ts : List ℕ). IsChartOf chart bytes ts) (same ∙ read) (config, known, shown)

pub returns : goal.returns
returns g c =
    of_files c.in_ok-chart.chart c.in_ok-config.config c.as_slice.result.now c.in_ok-bytes.bytes.items
    (g.O.Opener.bytes_at c.args.opener.now c.args.config.now) (g.O.Opener.bytes_at c.args.opener.now c.args.trace.now) c.in_ok-config.ensures c.as_slice.ensures.value c.in_ok-bytes.ensures c.in_ok-chart.ensures
