-- The explanation of the trace in a file.
use Rattle.std.proofs.Common.{◌≡◌, ℕ, List, Option, Some, None, Ok, ◌∙◌, subst}
use Rattle.std.specs.Prelude.{IfSome}
use Rattle.apex_module.specs.Configuration.{Configuration}
use Rattle.apex_config.specs.Meaning.{config_of}
use Rattle.apex_texts.specs.Trace.{trace_of}
use Rattle.dekarino_texts.specs.declared.explanation.Explanation.{Explanation}
use Rattle.dekarino_texts.specs.Explained.{IsExplained}
use Rattle.dekarino_texts.specs.Explanation.{IsFaultOf, ExplainedLine, explanation_of}
use Rattle.dekarino_texts.specs.Handed.{IsHanded}
use Rattle.dekarino_tasks.specs.Contents.{IsExplanationOf}

-- what is explained is what the files give
pub of_files : {S : Type 0} (takes : S → ExplainedLine → S → Type 0) (before after : S) (ended : Explanation) (config : Configuration) (trace items : List ℕ) (config_bytes trace_bytes : Option (List ℕ))
    → IfSome config_bytes (λ bytes. config_of bytes ≡ Ok config) → trace ≡ items → IfSome trace_bytes (λ bytes. items ≡ bytes) → IsHanded takes before (explanation_of config trace) after → IsExplained config (explanation_of config trace) ended
    → IsFaultOf (trace_of config trace) ended.fault → IfSome config_bytes (λ bytes. IfSome trace_bytes (IsExplanationOf takes before after ended bytes))
of_files takes before after ended config trace items None text known same read handed explained fault = tt
of_files takes before after ended config trace items (Some bytes) None known same read handed explained fault = tt
of_files takes before after ended config trace items (Some bytes) (Some text) known same read handed explained fault =
    subst (λ (ts : List ℕ). IsExplanationOf takes before after ended bytes ts) (same ∙ read) (config, known, handed, explained, fault)
