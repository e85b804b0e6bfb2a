-- A log compared with the scripts and the replies of all partitions.
use Rattle.std.specs.Prelude.{ℕ, ◌≡◌, ◌<◌, ◌≤◌, List, length, take, slice_get, slice_index, Some}
use Rattle.apex_types.specs.declared.call.Call.{Call}
use Rattle.apex_types.specs.declared.moment.Moment.{Moment}
use Rattle.apex_types.specs.declared.reply.Reply.{Reply}
use Rattle.apex_module.specs.Configuration.{Configuration}
use Rattle.apex_ports.specs.declared.history.Entry.{Entry}
use Rattle.apex_ports.specs.History.{History}
use Rattle.apex_threads.specs.Partition.{calls_of, replies_of}

-- each partition made the calls of its script, each once and in order
abbrev pub HasScripts : History → List (List (Moment × Call)) → Type 0
HasScripts history scripts =
    (partition : ℕ) (script : List (Moment × Call)) → slice_get scripts partition ≡ Some script → calls_of partition history ≡ script

-- each partition got these replies, in order
abbrev pub HasReplies : History → List (List Reply) → Type 0
HasReplies history replies =
    (partition : ℕ) (own : List Reply) → slice_get replies partition ≡ Some own → replies_of partition history ≡ own

-- the log records what the workers were given and what they got: each entry is of a partition that has a script, and
-- each partition made the calls of its script and got its replies
pub record IsCollected (history : History) (scripts : List (List (Moment × Call))) (replies : List (List Reply)) : Type 0 where
  pub known : (k : ℕ) (entry : Entry) → slice_get history k ≡ Some entry → entry.partition < length scripts
  pub calls : HasScripts history scripts
  pub answers : HasReplies history replies

-- and the board has the configuration that was given
abbrev pub IsCollectedFor : Configuration → List (List (Moment × Call)) → Configuration → History → List (List Reply) → Type 0
IsCollectedFor config scripts board_config history replies = (board_config ≡ config) × IsCollected history scripts replies

-- the call and the reply at an index are those of the entry
abbrev pub IsNext : Entry → List (Moment × Call) → List Reply → ℕ → Type 0
IsNext entry script replies index =
    (slice_get script index ≡ Some (entry.at, entry.call)) × (slice_get replies index ≡ Some entry.reply)

-- this number of the partition's calls, with their replies, is all that the history has of it
pub record IsServed (history : History) (partition : ℕ) (script : List (Moment × Call)) (own : List Reply) (done : ℕ) : Type 0 where
  pub calls : calls_of partition history ≡ take done script
  pub replies : replies_of partition history ≡ take done own
  pub within_script : done ≤ length script
  pub within_replies : done ≤ length own

-- the number of calls that the history has of each partition
pub record AreCounted (history : History) (scripts : List (List (Moment × Call))) (replies : List (List Reply)) (counts : List ℕ) : Type 0 where
  pub all : length counts ≡ length scripts
  pub known : (k : ℕ) (entry : Entry) → slice_get history k ≡ Some entry → entry.partition < length scripts
  pub each : (p : ℕ) (script : List (Moment × Call)) (own : List Reply)
      → slice_get scripts p ≡ Some script → slice_get replies p ≡ Some own → IsServed history p script own (slice_index counts p)

-- each partition has as many calls and replies as were counted
abbrev pub AreComplete : List (List (Moment × Call)) → List (List Reply) → List ℕ → Type 0
AreComplete scripts replies counts =
    (p : ℕ) (script : List (Moment × Call)) (own : List Reply)
    → slice_get scripts p ≡ Some script → slice_get replies p ≡ Some own → (slice_index counts p ≡ length script) × (slice_index counts p ≡ length own)
