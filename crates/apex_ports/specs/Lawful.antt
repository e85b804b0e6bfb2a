-- Lawful histories: each reply is the reply table's.
use Rattle.std.specs.Prelude.{ℕ, ◌≡◌, ◌<◌, List, length, take, slice_get, Some}
use Rattle.apex_module.specs.Configuration.{Configuration}
use Rattle.apex_ports.specs.declared.history.Entry.{Entry}
use Rattle.apex_ports.specs.declared.history.Request.{Request}
use Rattle.apex_ports.specs.History.{History, requests_of}
use Rattle.apex_ports.specs.ReplyTable.{reply_to}

-- the entry after this history
abbrev pub IsLawfulEntry : Configuration → History → Entry → Type 0
IsLawfulEntry config before entry =
    (entry.partition < length config.partitions) × (entry.reply ≡ reply_to config before entry.partition entry.at entry.call)

-- each entry has a partition of the configuration, and the reply that the table gives after the entries before it
abbrev pub IsLawful : Configuration → History → Type 0
IsLawful config history = (k : ℕ) (entry : Entry) → slice_get history k ≡ Some entry → IsLawfulEntry config (take k history) entry

-- the lawful history of these requests; `one_history` of LawfulLaws says that there is at most one
abbrev pub Answers : Configuration → List Request → History → Type 0
Answers config requests history = IsLawful config history × (requests_of history ≡ requests)
