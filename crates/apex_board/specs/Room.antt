-- The number of calls that can be served without allocating.
use Rattle.std.specs.Prelude.{ℕ, ◌≡◌, ◌+◌, ◌-◌, ◌≤◌, min, List, [], ◌∷◌, Option, Some, None}
use Rattle.apex_board.specs.Prelude.{vec_len, vec_capacity, Call, Configuration, message_sent}
use Rattle.std.specs.declared.vec.Vec.{Vec}
use Rattle.apex_board.specs.declared.journal.Journal.{Journal}
use Rattle.apex_board.specs.declared.records.Records.{Records}
use Rattle.apex_board.specs.Journals.{journal_at}

-- the number of items for which a vector has spare room
abbrev pub spare : {X A : Type 0} → Vec X A → ℕ
spare v = vec_capacity v - vec_len v

-- the smaller of a journal's room, if there is one, and the given room
abbrev pub room_beside : {A : Type 0} → Option (Journal A) → ℕ → ℕ
room_beside None room = room
room_beside (Some journal) room = min room (spare journal.accepted)

-- the least room of the journals and the given room
abbrev pub least_room : {A : Type 0} → List (Option (Journal A)) → ℕ → ℕ
least_room [] room = room
least_room (journal ∷ journals) room = least_room journals (room_beside journal room)

-- the least room of the log and of each journal
abbrev pub room_of : {A : Type 0} → Records A → ℕ
room_of records = least_room records.journals.items (spare records.log)

-- ---- room

-- a channel's journal, if it has one, can store this many more accepted messages without allocating
abbrev pub HasRoomAt : {A : Type 0} → ℕ → ℕ → List (Option (Journal A)) → Type 0
HasRoomAt {A} n c journals =
    (journal : Journal A) → journal_at journals c ≡ Some journal → vec_len journal.accepted + n ≤ vec_capacity journal.accepted

-- each journal can
abbrev pub HasRoom : {A : Type 0} → ℕ → List (Option (Journal A)) → Type 0
HasRoom n journals = (c : ℕ) → HasRoomAt n c journals

-- the message that a call sends can be stored without allocating
abbrev pub HasRoomFor : {A : Type 0} → Configuration → ℕ → Call → List (Option (Journal A)) → Type 0
HasRoomFor config partition call journals =
    (c : ℕ) (message : List ℕ) → message_sent config c partition call ≡ Some message → HasRoomAt 1 c journals

-- no room is lost
abbrev pub KeepsRoom : {A : Type 0} → List (Option (Journal A)) → List (Option (Journal A)) → Type 0
KeepsRoom old new = (n c : ℕ) → HasRoomAt n c old → HasRoomAt n c new

-- room for at most one message is used
abbrev pub KeepsAllButOne : {A : Type 0} → List (Option (Journal A)) → List (Option (Journal A)) → Type 0
KeepsAllButOne old new = (n c : ℕ) → HasRoomAt (n + 1) c old → HasRoomAt n c new

-- the log has at least as much spare room, and no room is lost
pub record IsNoSmaller {A : Type 0} (old new : Records A) : Type 0 where
  pub log : spare old.log ≤ spare new.log
  pub journals : KeepsRoom old.journals.items new.journals.items

-- the log has spare room for at most one entry less, and room for at most one message is used
pub record IsOneLessAtMost {A : Type 0} (old new : Records A) : Type 0 where
  pub log : spare old.log ≤ spare new.log + 1
  pub journals : KeepsAllButOne old.journals.items new.journals.items
