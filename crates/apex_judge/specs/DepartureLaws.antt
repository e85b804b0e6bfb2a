-- What departures say of a log.
use Rattle.std.specs.Prelude.{ℕ, ◌≡◌, ◌≢◌, ◌<◌, List, [], ◌∷◌, length, take, slice_get, Some}
use Rattle.apex_judge.specs.Prelude.{Configuration, IsConfiguration, Entry, History, reply_to, seen, IsSound}
use Rattle.apex_ports.specs.Lawful.{IsLawful}
use Rattle.apex_judge.specs.declared.departure.Departure.{Departure}
use Rattle.apex_judge.specs.Departures.{departures_of}
use Rattle.apex_judge.specs.Shown.{shown}

-- a lawful log shows each partition what it sees
abbrev pub ShowsWhatIsSeen : Type 0
ShowsWhatIsSeen = (config : Configuration) (log : History) (p : ℕ) → IsSound config log → shown config log p ≡ seen config log p

-- each entry has a partition of the configuration
abbrev pub HasPartitions : Configuration → History → Type 0
HasPartitions config log = (k : ℕ) (entry : Entry) → slice_get log k ≡ Some entry → entry.partition < length config.partitions

-- a log of the configuration's partitions is lawful if and only if it has no departure
pub record IsJudged (config : Configuration) (log : History) : Type 0 where
  pub none : departures_of config log ≡ [] → IsLawful config log
  pub lawful : IsLawful config log → departures_of config log ≡ []

abbrev pub NoDepartureIsLawful : Type 0
NoDepartureIsLawful = (config : Configuration) (log : History) → IsConfiguration config → HasPartitions config log → IsJudged config log

-- the first entry whose reply isn't the table's, after lawful entries
pub record IsFirst (config : Configuration) (log : History) (departure : Departure) (entry : Entry) : Type 0 where
  pub here : slice_get log departure.index ≡ Some entry
  pub lawful : IsLawful config (take departure.index log)
  pub table : departure.expected.reply ≡ reply_to config (take departure.index log) entry.partition entry.at entry.call
  pub differs : entry.reply ≢ departure.expected.reply

abbrev pub FirstDeparture : Type 0
FirstDeparture = (config : Configuration) (log : History) (first : Departure) (rest : List Departure) → IsConfiguration config → HasPartitions config log
    → departures_of config log ≡ first ∷ rest → (entry : Entry) × IsFirst config log first entry
