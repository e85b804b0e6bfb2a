use Rattle.apex_config.proofs.Common.{Some, sym, ap, ◌∙◌, false≢true, Data, table_view}
use Rattle.toml.proofs.Views.{view-Table}
use Rattle.apex_config.proofs.Answering.{is_document, no_document}
use Rattle.apex_config.proofs.reading.document_of.Goals as goal

pub returns-in-Ok-clause-document : goal.returns-in-Ok-clause-document
returns-in-Ok-clause-document c =
    is_document c.args.text.now (table_view c.in-Ok.table) c.in-Ok.ensures.ok.0 c.in-Ok.ensures.ok.1 ∙ ap (λ (d : Data). Some d) (sym (view-Table c.in-Ok.table))

pub returns-in-Err-2-clause-refused : goal.returns-in-Err-2-clause-refused
returns-in-Err-2-clause-refused c = no_document c.args.text.now (c.in-Err.ensures.refused (λ memory. false≢true (sym c.if-is_memory.false ∙ c.is_memory.ensures.1 memory)))
