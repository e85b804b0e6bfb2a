-- One more entry keeps two histories with one state in one state.
use Rattle.apex_orders.proofs.Common.{◌≡◌, ℕ, ◌&&◌, ◌||◌, not, Bool, true, false, if◌then◌else◌, List, [], ◌∷◌, ◌++◌, length, drop, Option, Some, None, refl, sym, ap, ◌∙◌, append_assoc, length-append, unwrap_or, option_to_list, drop-append_seam, length-map, drop-drop, Sample, Taken, Invalid, Configuration, ports_of, port_of, Port, Entry, History, mode_set, restarts, IsIdentifier, is_created, creates, sampling_only}
use Rattle.apex_orders.proofs.Common.{accepted_on, taken_on, taken_by, waiting_on, last_write_on, messages_of, message_accepted, sample_written, last_validity_of, validity_read, seen, sampling_port, validity_shown, IsSound, mode_of-append, is_created-append, last_validity_of-append, accepted_on-append, taken_on-append, sample_stays, sample_changes, IsSameState, IsSamePartition, IsSamePorts, IsSameChannel}
use Rattle.apex_orders.proofs.Common.{last_shown}
use Rattle.apex_types.specs.declared.validity.Validity.{Validity}
use Rattle.apex_ports.specs.Rules.{IsConserved}
use Rattle.apex_ports.proofs.Conserved.{always_conserved}

-- ---- the last validity that is shown

abbrev of_port : Option Port → Validity → Validity
of_port None last = Invalid
of_port (Some port) last = last

abbrev pub shown_of : Bool → Option Port → Validity → Validity
shown_of created port last = of_port (sampling_only (if created then port else None)) last

pub shown_is : (config : Configuration) (h : History) (p id : ℕ) → last_shown config h p id ≡ shown_of (is_created p id h) (port_of config p id) (last_validity_of p id h)
shown_is config h p id = of_sampling (sampling_port config (seen config h p) p id)
  where
    of_sampling : (o : Option Port) → validity_shown (seen config h p) id o ≡ of_port o (last_validity_of p id h)
    of_sampling None = refl
    of_sampling (Some port) = refl

still_alike : (o : Option Port) (read : Option Validity) (x y : Validity) → of_port o x ≡ of_port o y → of_port o (unwrap_or read x) ≡ of_port o (unwrap_or read y)
still_alike None read x y same = refl
still_alike (Some port) None x y same = same
still_alike (Some port) (Some validity) x y same = refl

shown_alike : (creates_it created restarted : Bool) (o : Option Port) (read : Option Validity) (x y : Validity) → shown_of created o x ≡ shown_of created o y
    → shown_of (creates_it || (created && not restarted)) o (if creates_it then Invalid else unwrap_or read x)
    ≡ shown_of (creates_it || (created && not restarted)) o (if creates_it then Invalid else unwrap_or read y)
shown_alike true created restarted o read x y same = refl
shown_alike false false restarted o read x y same = refl
shown_alike false true true o read x y same = refl
shown_alike false true false o read x y same = still_alike (sampling_only o) read x y same

module _ (config : Configuration) (h other : History) (e : Entry) where
  module _ (p : ℕ) (same : IsSamePorts config h other p) where
    created_step : (id : ℕ) → IsIdentifier (ports_of config p) id → is_created p id (h ++ e ∷ []) ≡ is_created p id (other ++ e ∷ [])
    created_step id known =
        is_created-append p id h e
        ∙ (ap (λ (b : Bool). creates p id e || (b && not (restarts p e))) (same.created id known) ∙ sym (is_created-append p id other e))

    shown_step : (history : History) (id : ℕ) → last_shown config (history ++ e ∷ []) p id
        ≡ shown_of (creates p id e || (is_created p id history && not (restarts p e))) (port_of config p id) (if creates p id e then Invalid else unwrap_or (validity_read p id e) (last_validity_of p id history))
    shown_step history id =
        shown_is config (history ++ e ∷ []) p id
        ∙ (λ i. shown_of (is_created-append p id history e i) (port_of config p id) (last_validity_of-append p id history e i))

    last_step : (id : ℕ) → IsIdentifier (ports_of config p) id → last_shown config (h ++ e ∷ []) p id ≡ last_shown config (other ++ e ∷ []) p id
    last_step id known =
        let created = same.created id known in
        let before : shown_of (is_created p id other) (port_of config p id) (last_validity_of p id h) ≡ shown_of (is_created p id other) (port_of config p id) (last_validity_of p id other) =
        ap (λ (b : Bool). shown_of b (port_of config p id) (last_validity_of p id h)) (sym created)
        ∙ (sym (shown_is config h p id) ∙ (same.last id known ∙ shown_is config other p id)) in
        shown_step h id
        ∙ (ap (λ (b : Bool). shown_of (creates p id e || (b && not (restarts p e))) (port_of config p id) (if creates p id e then Invalid else unwrap_or (validity_read p id e) (last_validity_of p id h))) created
        ∙ (shown_alike (creates p id e) (is_created p id other) (restarts p e) (port_of config p id) (validity_read p id e) (last_validity_of p id h) (last_validity_of p id other) before
        ∙ sym (shown_step other id)))

    ports_step : IsSamePorts config (h ++ e ∷ []) (other ++ e ∷ []) p
    ports_step = record { created = created_step; last = last_step }

  partition_step : (p : ℕ) → IsSamePartition config h other p → IsSamePartition config (h ++ e ∷ []) (other ++ e ∷ []) p
  partition_step p same = record {
    mode = mode_of-append p h e ∙ (ap (λ mode. unwrap_or (mode_set p e) mode) same.mode ∙ sym (mode_of-append p other e));
    ports = ports_step p same.ports;
  }

-- ---- channels

-- what waits after an entry depends on what waited before it
pub waiting_step : (config : Configuration) (h : History) (e : Entry) (c : ℕ) → IsConserved config h c
    → waiting_on config c (h ++ e ∷ []) ≡ drop (length (taken_by config c (waiting_on config c h) e)) (waiting_on config c h ++ option_to_list (message_accepted config c e))
waiting_step config h e c conserved =
    (λ i. drop (length (taken_on-append config c h e i)) (accepted_on-append config c h e i))
    ∙ (ap (λ (n : ℕ). drop n (accepted ++ more)) (length-append taken now)
    ∙ (sym (drop-drop (length now) (length taken) (accepted ++ more)) ∙ ap (drop (length now)) behind))
  where
    taken : List Taken
    taken = taken_on config c h

    accepted : List (List ℕ)
    accepted = accepted_on config c h

    waiting : List (List ℕ)
    waiting = waiting_on config c h

    now : List Taken
    now = taken_by config c waiting e

    more : List (List ℕ)
    more = option_to_list (message_accepted config c e)

    behind : drop (length taken) (accepted ++ more) ≡ waiting ++ more
    behind =
        ap (λ (all : List (List ℕ)). drop (length taken) (all ++ more)) (sym conserved.messages)
        ∙ (ap (drop (length taken)) (append_assoc (messages_of taken) waiting more)
        ∙ (ap (λ (n : ℕ). drop n (messages_of taken ++ (waiting ++ more))) (sym (length-map taken (λ (one : Taken). one.message))) ∙ drop-append_seam (messages_of taken) (waiting ++ more)))

sample_step : (config : Configuration) (h other : History) (e : Entry) (c : ℕ) → last_write_on config c h ≡ last_write_on config c other
    → last_write_on config c (h ++ e ∷ []) ≡ last_write_on config c (other ++ e ∷ [])
sample_step config h other e c same = of_written (sample_written config c e) refl
  where
    of_written : (o : Option Sample) → sample_written config c e ≡ o → last_write_on config c (h ++ e ∷ []) ≡ last_write_on config c (other ++ e ∷ [])
    of_written None is = sample_stays config h e c is ∙ (same ∙ sym (sample_stays config other e c is))
    of_written (Some sample) is = sample_changes config h e c sample is ∙ sym (sample_changes config other e c sample is)

channel_step : (config : Configuration) (h other : History) (e : Entry) (c : ℕ) → IsSound config h → IsSound config other → IsSameChannel config h other c
    → IsSameChannel config (h ++ e ∷ []) (other ++ e ∷ []) c
channel_step config h other e c sound sound_too same = record {
  sample = sample_step config h other e c same.sample;
  waiting =
      waiting_step config h e c (always_conserved config h c sound)
      ∙ (ap (λ (waiting : List (List ℕ)). drop (length (taken_by config c waiting e)) (waiting ++ option_to_list (message_accepted config c e))) same.waiting
      ∙ sym (waiting_step config other e c (always_conserved config other c sound_too)));
}

pub state_step : (config : Configuration) (h other : History) (e : Entry) → IsSound config h → IsSound config other → IsSameState config h other
    → IsSameState config (h ++ e ∷ []) (other ++ e ∷ [])
state_step config h other e sound sound_too same = record {
  partitions = λ p within. partition_step config h other e p (same.partitions p within);
  channels = λ c within. channel_step config h other e c sound sound_too (same.channels c within);
}
