-- What a board's records say about the history.
use Rattle.std.specs.Prelude.{◌≡◌, List, Option}
use Rattle.apex_board.specs.Prelude.{Sample, Configuration, IsSound, ArePublished, Channels}
use Rattle.apex_ports.specs.PortsView.{PortsView}
use Rattle.apex_board.specs.declared.records.Records.{Records}
use Rattle.apex_board.specs.Journals.{AreJournals}
use Rattle.apex_board.specs.Samples.{AreSamples}

-- the journals are those of the log
abbrev pub AreRecords : {A : Type 0} → Configuration → Records A → Type 0
AreRecords config records = AreJournals config records.log.items records.log.items records.journals.items

-- what holds for a board: the log is the history of its ports, its last writes are kept, and its writes are published
pub record IsBoard {A : Type 0} (ports : PortsView) (records : Records A) (samples : List (Option Sample)) (channels : Channels) : Type 0 where
  pub sound : IsSound ports.config ports.history
  pub same : records.log.items ≡ ports.history
  pub recorded : AreRecords ports.config records
  pub sampled : AreSamples ports.config ports.history samples
  pub published : ArePublished ports.config ports.history channels
