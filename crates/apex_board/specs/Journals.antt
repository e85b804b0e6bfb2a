-- The journals of queuing channels.
use Rattle.std.specs.Prelude.{ℕ, Bool, true, false, ◌≡◌, ◌==◌, ◌≤◌, if◌then◌else◌, List, [], length, slice_get, Option, Some, None}
use Rattle.apex_board.specs.Prelude.{vec_capacity, Configuration, History, is_queuing, accepted_on, taken_on}
use Rattle.std.specs.Borrow.{Bor}
use Rattle.apex_types.specs.declared.taken.Taken.{Taken}
use Rattle.apex_board.specs.declared.journal.Journal.{Journal}

-- the journal of a channel; a sampling channel has none
abbrev pub if_there : {A : Type 0} → Option (Option (Journal A)) → Option (Journal A)
if_there None = None
if_there (Some journal) = journal

abbrev pub journal_at : {A : Type 0} → List (Option (Journal A)) → ℕ → Option (Journal A)
journal_at journals c = if_there (slice_get journals c)

abbrev pub has_journal : {A : Type 0} → Option (Journal A) → Bool
has_journal None = false
has_journal (Some journal) = true

abbrev pub accepted_in : {A : Type 0} → Option (Journal A) → List (List ℕ)
accepted_in None = []
accepted_in (Some journal) = journal.accepted.items

abbrev pub taken_in : {A : Type 0} → Option (Journal A) → List Taken
taken_in None = []
taken_in (Some journal) = journal.taken.items

-- the journals follow the definitions: the messages that a history accepted, and those taken in what is recorded of it
pub record AreJournals {A : Type 0} (config : Configuration) (history recorded : History) (journals : List (Option (Journal A))) : Type 0 where
  pub all : length journals ≡ length config.channels
  pub kind : (c : ℕ) → has_journal (journal_at journals c) ≡ is_queuing config c
  pub accepted : (c : ℕ) → accepted_in (journal_at journals c) ≡ accepted_on config c history
  pub taken : (c : ℕ) → taken_in (journal_at journals c) ≡ taken_on config c recorded
  -- what is accepted can be taken without allocating
  pub fits : (c : ℕ) (journal : Journal A) → journal_at journals c ≡ Some journal → vec_capacity journal.accepted ≤ vec_capacity journal.taken

-- the journal of a channel without messages
abbrev pub IsFresh : {A : Type 0} → Configuration → ℕ → Option (Journal A) → Type 0
IsFresh config c None = is_queuing config c ≡ false
IsFresh config c (Some journal) =
    (is_queuing config c ≡ true) × (journal.accepted.items ≡ []) × (journal.taken.items ≡ []) × (vec_capacity journal.accepted ≤ vec_capacity journal.taken)

-- the message that is found for the channel
abbrev pub message_for : ℕ → Option (ℕ × Bor (List ℕ)) → Option (List ℕ)
message_for c None = None
message_for c (Some found) = if found.0 == c then Some found.1.now else None

-- the channel is the one that is found
abbrev pub is_for : ℕ → Option ℕ → Bool
is_for c None = false
is_for c (Some found) = found == c
