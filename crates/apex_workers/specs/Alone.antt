-- What a run shows for partitions that share no channel with the others.
use Rattle.std.specs.Prelude.{ℕ, Bool, true, false, ◌≡◌, List, [], slice_get, Some}
use Rattle.apex_types.specs.declared.call.Call.{Call}
use Rattle.apex_types.specs.declared.moment.Moment.{Moment}
use Rattle.apex_types.specs.declared.reply.Reply.{Reply}
use Rattle.apex_module.specs.Configuration.{Configuration}
use Rattle.apex_ports.specs.History.{History, entries_of}
use Rattle.apex_ports.specs.Interference.{IsClosed, entries_inside}
use Rattle.apex_ports.specs.Lawful.{IsLawful}
use Rattle.apex_threads.specs.Partition.{calls_of, replies_of}

-- a lawful history in which each partition inside made the calls of its script and got these replies, and the others made no call
pub record IsRunInside (config : Configuration) (inside : ℕ → Bool) (scripts : List (List (Moment × Call))) (replies : List (List Reply)) (history : History) : Type 0 where
  pub lawful : IsLawful config history
  pub calls : (p : ℕ) (script : List (Moment × Call)) → inside p ≡ true → slice_get scripts p ≡ Some script → calls_of p history ≡ script
  pub answers : (p : ℕ) (own : List Reply) → inside p ≡ true → slice_get replies p ≡ Some own → replies_of p history ≡ own
  pub others : (p : ℕ) → inside p ≡ false → entries_of p history ≡ []

-- what the log shows for a set of partitions that is closed under channels is what the set's scripts alone can show
abbrev pub ShowsScriptsAlone : Configuration → List (List (Moment × Call)) → List (List Reply) → History → Type 0
ShowsScriptsAlone config scripts replies history =
    (inside : ℕ → Bool) → IsClosed config inside → IsRunInside config inside scripts replies (entries_inside inside history)
