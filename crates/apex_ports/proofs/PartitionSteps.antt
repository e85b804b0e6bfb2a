-- What a change of mode, a creation and a sampling read do to a partition.
use Rattle.apex_ports.proofs.Common.{◌≡◌, ◌≢◌, ℕ, ◌==◌, Bool, true, false, ◌&&◌, ◌||◌, not, if◌then◌else◌, List, [], ◌∷◌, ◌++◌, length, set, Option, Some, None, refl, sym, ap, ◌∙◌, arith, unwrap_or, nat_tests, mode_numbered, Call, SetMode, ReadSampling, Mode, Moment, Reply, Code, Id, Read, NoError, Invalid, Configuration, Entry, PartitionState, PortState, ChannelState, History, entry_of, mode_of, mode_set}
use Rattle.apex_ports.proofs.Common.{mode_asked, is_start, is_restart, is_code_no_error, is_created, creates, is_create, is_id, last_validity_of, validity_read, validity_in, is_read, IsPartitionKept, AreKept, created_in, last_in, state_at}
use Rattle.apex_types.specs.declared.validity.Validity.{Validity}
use Rattle.apex_ports.proofs.Appends.{mode_of-append, is_created-append, last_validity_of-append}
use Rattle.apex_ports.proofs.Stays.{LeavesPartition, IsElsewhere, leaves_channel, partition_changes, and_false}

same_number : (n : ℕ) → (n == n) ≡ true
same_number n = grind (arith, nat_tests)

other_number : (m n : ℕ) → n ≢ m → (m == n) ≡ false
other_number m n apart = grind (arith, nat_tests)

-- an entry concerns only its own partition
pub leaves_others : (p : ℕ) (at : Moment) (call : Call) (reply : Reply) (q : ℕ) → q ≢ p → LeavesPartition q (entry_of p at call reply)
leaves_others p at call reply q apart =
    let other = other_number p q apart in
    record {
      mode = (λ i. if is_code_no_error reply && other i then mode_asked call else None) ∙ (λ i. if and_false (is_code_no_error reply) i then mode_asked call else None);
      created = λ id. (λ i. (is_create call && is_id id reply) && other i) ∙ and_false (is_create call && is_id id reply);
      read = λ id. (λ i. if is_read id call && other i then validity_in reply else None) ∙ (λ i. if and_false (is_read id call) i then validity_in reply else None);
    }

restarted : (b created : Bool) → b ≡ true → (false || (created && not b)) ≡ false
restarted true created is = and_false created
restarted false created is = absurd (cc)

not_restarted : (b created : Bool) → b ≡ false → (false || (created && not b)) ≡ created
not_restarted true created is = absurd (cc)
not_restarted false true is = refl
not_restarted false false is = refl

-- a partition after an accepted change of mode
pub mode_set_keeps : {A : Type 0} (config : Configuration) (h : History) (partitions : List (PartitionState A)) (channels : List (ChannelState A)) (p : ℕ) (at : Moment) (number : ℕ) (mode : Mode) (old new : PartitionState A)
    → AreKept config h partitions channels → IsPartitionKept config h p old → mode_numbered number ≡ Some mode
    → new.mode ≡ mode → length new.ports.items ≡ length old.ports.items
    → ((id : ℕ) → is_start mode ≡ true → created_in (state_at new.ports.items id) ≡ false)
    → ((id : ℕ) → is_start mode ≡ false → created_in (state_at new.ports.items id) ≡ created_in (state_at old.ports.items id))
    → ((id : ℕ) → last_in (state_at new.ports.items id) ≡ last_in (state_at old.ports.items id))
    → AreKept config (h ++ entry_of p at (SetMode number) (Code NoError) ∷ []) (set partitions p new) channels
mode_set_keeps {A} config h partitions channels p at number mode old new kept was numbered new_mode count restart stay last =
    partition_changes config h e partitions channels kept p new (leaves_others p at (SetMode number) (Code NoError))
    (λ c. leaves_channel config c p at (SetMode number) (Code NoError) (record { sends = refl; receives = refl; clears = refl; writes = refl }))
    (record {
      mode = new_mode ∙ sym (mode_of-append p h e ∙ ap (λ o. unwrap_or o (mode_of p h)) sets);
      ports = count ∙ was.ports;
      created = λ id. by_start (is_start mode) refl id;
      last = λ id. last id ∙ (was.last id ∙ sym (last_validity_of-append p id h e));
    })
  where
    e : Entry
    e = entry_of p at (SetMode number) (Code NoError)

    sets : mode_set p e ≡ Some mode
    sets = (λ i. if same_number p i then mode_numbered number else None) ∙ numbered

    by_start : (b : Bool) → is_start mode ≡ b → (id : ℕ) → created_in (state_at new.ports.items id) ≡ is_created p id (h ++ e ∷ [])
    by_start true is id = restart id is ∙ sym (is_created-append p id h e ∙ ((λ i. false || (is_created p id h && not (is_restart (sets i)))) ∙ restarted (is_start mode) (is_created p id h) is))
    by_start false is id = stay id is ∙ (was.created id ∙ sym (is_created-append p id h e ∙ ((λ i. false || (is_created p id h && not (is_restart (sets i)))) ∙ not_restarted (is_start mode) (is_created p id h) is)))

-- ---- creation

created_in_now : (b : Bool) (state : Option PortState) → created_in (if b then Some (record { created = true; last = Invalid }) else state) ≡ (b || (created_in state && not false))
created_in_now true state = refl
created_in_now false state = keeps (created_in state)
  where
    keeps : (b : Bool) → b ≡ (false || (b && not false))
    keeps true = refl
    keeps false = refl

last_in_now : (b : Bool) (state : Option PortState) (last : Validity) → last_in state ≡ last → last_in (if b then Some (record { created = true; last = Invalid }) else state) ≡ (if b then Invalid else last)
last_in_now true state last is = refl
last_in_now false state last is = is

and_true_true : (b : Bool) → ((b && true)) ≡ b
and_true_true true = refl
and_true_true false = refl

swapped : (m n : ℕ) → (m == n) ≡ (n == m)
swapped m n = grind (arith, nat_tests)

-- a partition after a create call that made a port
pub created_keeps : {A : Type 0} (config : Configuration) (h : History) (partitions : List (PartitionState A)) (channels : List (ChannelState A)) (p : ℕ) (at : Moment) (call : Call) (number : ℕ) (old new : PartitionState A)
    → is_create call ≡ true → mode_asked call ≡ None → ((id : ℕ) → is_read id call ≡ false)
    → ((c : ℕ) → IsElsewhere config c p call)
    → AreKept config h partitions channels → IsPartitionKept config h p old
    → new.mode ≡ old.mode → length new.ports.items ≡ length old.ports.items
    → ((id : ℕ) → state_at new.ports.items id ≡ (if id == number then Some (record { created = true; last = Invalid }) else state_at old.ports.items id))
    → AreKept config (h ++ entry_of p at call (Id number) ∷ []) (set partitions p new) channels
created_keeps {A} config h partitions channels p at call number old new is_creation no_mode no_read elsewhere kept was mode count states =
    partition_changes config h e partitions channels kept p new (leaves_others p at call (Id number))
    (λ c. leaves_channel config c p at call (Id number) (elsewhere c))
    (record {
      mode = mode ∙ (was.mode ∙ sym (mode_of-append p h e));
      ports = count ∙ was.ports;
      created = λ id. ap created_in (states id) ∙ (created_in_now (id == number) (state_at old.ports.items id) ∙ ((λ i. sym (makes id) i || (was.created id i && not false)) ∙ sym (is_created-append p id h e)));
      last = λ id. ap last_in (states id) ∙ (last_in_now (id == number) (state_at old.ports.items id) (last_validity_of p id h) (was.last id)
          ∙ ((λ i. if sym (makes id) i then Invalid else last_validity_of p id h) ∙ ((λ i. if creates p id e then Invalid else unwrap_or (sym (reads id) i) (last_validity_of p id h)) ∙ sym (last_validity_of-append p id h e))));
    })
  where
    e : Entry
    e = entry_of p at call (Id number)

    makes : (id : ℕ) → creates p id e ≡ (id == number)
    makes id = (λ i. (is_creation i && (number == id)) && same_number p i) ∙ (and_true_true (number == id) ∙ swapped number id)

    reads : (id : ℕ) → validity_read p id e ≡ None
    reads id = λ i. if no_read id i && (p == p) then None else None

-- ---- sampling reads

created_in_read : (b : Bool) (state : Option PortState) (flag created : Bool) (last : Validity) → (b ≡ true → flag ≡ created) → created_in state ≡ created → created_in (if b then Some (record { created = flag; last = last }) else state) ≡ (false || (created && not false))
created_in_read b state flag created last mine was = by_index b mine ∙ keeps created
  where
    by_index : (b : Bool) → (b ≡ true → flag ≡ created) → created_in (if b then Some (record { created = flag; last = last }) else state) ≡ created
    by_index true mine = mine refl
    by_index false mine = was

    keeps : (b : Bool) → b ≡ (false || (b && not false))
    keeps true = refl
    keeps false = refl

last_in_read : (b : Bool) (state : Option PortState) (flag : Bool) (validity last : Validity) → last_in state ≡ last → last_in (if b then Some (record { created = flag; last = validity }) else state) ≡ unwrap_or (if b then Some validity else None) last
last_in_read true state flag validity last was = refl
last_in_read false state flag validity last was = was

-- a partition after a read that showed a sample
pub read_keeps : {A : Type 0} (config : Configuration) (h : History) (partitions : List (PartitionState A)) (channels : List (ChannelState A)) (p : ℕ) (at : Moment) (number : ℕ) (message : List ℕ) (validity : Validity) (flag : Bool) (old new : PartitionState A)
    → AreKept config h partitions channels → IsPartitionKept config h p old → flag ≡ is_created p number h
    → new.mode ≡ old.mode → length new.ports.items ≡ length old.ports.items
    → ((id : ℕ) → state_at new.ports.items id ≡ (if id == number then Some (record { created = flag; last = validity }) else state_at old.ports.items id))
    → AreKept config (h ++ entry_of p at (ReadSampling number) (Read message validity) ∷ []) (set partitions p new) channels
read_keeps {A} config h partitions channels p at number message validity flag old new kept was flag_is mode count states =
    partition_changes config h e partitions channels kept p new (leaves_others p at (ReadSampling number) (Read message validity))
    (λ c. leaves_channel config c p at (ReadSampling number) (Read message validity) (record { sends = refl; receives = refl; clears = refl; writes = refl }))
    (record {
      mode = mode ∙ (was.mode ∙ sym (mode_of-append p h e));
      ports = count ∙ was.ports;
      created = λ id. ap created_in (states id) ∙ (created_in_read (id == number) (state_at old.ports.items id) flag (is_created p id h) validity (mine id) (was.created id) ∙ sym (is_created-append p id h e));
      last = λ id. ap last_in (states id) ∙ (last_in_read (id == number) (state_at old.ports.items id) flag validity (last_validity_of p id h) (was.last id)
          ∙ ((λ i. unwrap_or (sym (reads id) i) (last_validity_of p id h)) ∙ sym (last_validity_of-append p id h e)));
    })
  where
    e : Entry
    e = entry_of p at (ReadSampling number) (Read message validity)

    mine : (id : ℕ) → (id == number) ≡ true → flag ≡ is_created p id h
    mine id same = let is : number ≡ id = grind (arith, nat_tests) in flag_is ∙ ap (λ n. is_created p n h) is

    reads : (id : ℕ) → validity_read p id e ≡ (if id == number then Some validity else None)
    reads id = (λ i. if (number == id) && same_number p i then Some validity else None) ∙ (λ i. if (and_true_true (number == id) ∙ swapped number id) i then Some validity else None)
