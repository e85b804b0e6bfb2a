-- The lines of a board's log, one after the other.
use Rattle.std.proofs.Common.{◌≡◌, ℕ, ◌+◌, ◌<◌, ◌≤◌, List, [], ◌++◌, length, drop, get_or, Some, sym, ap, ◌∙◌, refl}
use Rattle.std.specs.Prelude.{slice_get}
use Rattle.std.proofs.Math.ListN.{drop_of_length-le}
use Rattle.std.proofs.lemmas.Option.{slice_get-get_or}
use Rattle.apex_module.specs.Configuration.{Configuration, partition_name_of}
use Rattle.apex_ports.specs.declared.history.Entry.{Entry}
use Rattle.apex_ports.specs.History.{History}
use Rattle.apex_ports.specs.Lawful.{IsLawful}
use Rattle.apex_texts.specs.Report.{entry_line, entry_lines}
use Rattle.apex_texts.proofs.ReportLemmas.{drop_at}

found_at : (log : List Entry) (i : ℕ) (entry : Entry) → i < length log → entry ≡ get_or log i entry → slice_get log i ≡ Some entry
found_at log i entry inside is = slice_get-get_or log i entry inside ∙ ap Some (sym is)

-- the partition of an entry of a lawful log is the configuration's
pub entry_known : (config : Configuration) (log history : List Entry) (i : ℕ) (entry : Entry) → IsLawful config history → log ≡ history → i < length log → entry ≡ get_or log i entry → entry.partition < length config.partitions
entry_known config log history i entry lawful same inside is =
    (lawful i entry (ap (λ (entries : List Entry). slice_get entries i) (sym same) ∙ found_at log i entry inside is)).0

pub entry_cut : (config : Configuration) (log : History) (i : ℕ) (entry : Entry) (name : List ℕ) → i < length log → entry ≡ get_or log i entry → partition_name_of config entry.partition ≡ Some name
    → entry_lines config (i + 1) (drop i log) ≡ entry_line (i + 1) name entry.at entry.call entry.reply ++ entry_lines config (i + 1 + 1) (drop (i + 1) log)
unfolding entry_lines
entry_cut config log i entry name inside is named = rw (drop_at log i entry (found_at log i entry inside is), named) refl

pub entry_end : (config : Configuration) (log : History) (i : ℕ) → length log ≤ i → entry_lines config (i + 1) (drop i log) ≡ []
unfolding entry_lines
entry_end config log i past = rw (drop_of_length-le log past) refl
