-- One key, one state: what follows one beginning of an order follows each other with its key.
use Rattle.apex_log_orders.proofs.Common.{◌≡◌, ⊎_elim, ℕ, zero, suc, ◌+◌, ◌-◌, ◌<◌, ◌≤◌, ◌==◌, Bool, true, false, if◌then◌else◌, List, [], ◌∷◌, ◌++◌, length, take, drop, Option, Some, None, refl, sym, ap, ◌∙◌, subst, arith, length-append, length-drop, slice_get, unwrap_or, cases_eq, cases_lt, slice_get_past, Source, Sample, Configuration, IsConfiguration, PartitionData, ports_of_partition, port_at, port_of, Port}
use Rattle.apex_log_orders.proofs.Common.{accepted_on, taken_on, waiting_on, writes_on, last_validity_of, History, entries_of, mode_of, is_created, sampling_only, seen, sampling_port, validity_shown, at_seam, stays_before, Logs, log_in, IsBeginning, Ends, HasKey}
use Rattle.apex_orders.specs.States.{IsSameState, IsSamePartition, IsSameChannel, last_shown}
use Rattle.apex_orders.proofs.GoingOn.{always_goes_on_alike}
use Rattle.apex_orders.proofs.Walks.{entries_of-append}
use Rattle.apex_log_orders.proofs.Fronts.{own_same}
use Rattle.apex_log_orders.proofs.OwnEntries.{own_mode, own_created, own_last, own_accepted, own_written}

-- ---- lists

-- what is left of a list is given by how much is left
same_left : {X : Type 0} (n m : ℕ) (xs : List X) → length (drop n xs) ≡ length (drop m xs) → drop n xs ≡ drop m xs
same_left zero zero xs same = refl
same_left (suc n) zero [] same = refl
same_left zero (suc m) [] same = refl
same_left (suc n) (suc m) [] same = refl
same_left (suc n) (suc m) (x ∷ xs) same = same_left n m xs same
same_left zero (suc m) (x ∷ xs) same = absurd (let left = length-drop m xs in omega (arith, same, left))
same_left (suc n) zero (x ∷ xs) same = absurd (let left = length-drop n xs in omega (arith, same, left))

within_get : {X : Type 0} (xs : List X) (k : ℕ) → k < length xs → (x : X) × (slice_get xs k ≡ Some x)
within_get [] k within = absurd (omega (arith, within))
within_get (x ∷ xs) zero within = (x, refl)
within_get (x ∷ xs) (suc k) within = within_get xs k (omega (arith, within))

-- ---- one more number of a key

module _ (config : Configuration) (h : History) (key : List ℕ) (c waits : ℕ) (count : length key ≡ length config.partitions + c) where
  abbrev pub longer : List ℕ
  longer = key ++ waits ∷ []

  pub count_push : length longer ≡ length config.partitions + (c + 1)
  count_push = omega (arith, count, length-append key (waits ∷ []))

  pub made_stays : ((p : ℕ) → p < length config.partitions → slice_get key p ≡ Some (length (entries_of p h)))
      → (p : ℕ) → p < length config.partitions → slice_get longer p ≡ Some (length (entries_of p h))
  made_stays made p within = stays_before key (waits ∷ []) p (length (entries_of p h)) (made p within)

  pub waiting_push : ((d : ℕ) → d < c → slice_get key (length config.partitions + d) ≡ Some (length (waiting_on config d h))) → waits ≡ length (waiting_on config c h)
      → (d : ℕ) → d < c + 1 → slice_get longer (length config.partitions + d) ≡ Some (length (waiting_on config d h))
  waiting_push waiting is d below = ⊎_elim
      (λ (last : d ≡ c). subst (λ (k : ℕ). slice_get longer (length config.partitions + k) ≡ Some (length (waiting_on config k h))) (sym last)
      (ap (slice_get longer) (sym count) ∙ (at_seam key waits [] ∙ ap Some is)))
      (λ (apart : d ≡ c → ⊥). stays_before key (waits ∷ []) (length config.partitions + d) (length (waiting_on config d h)) (waiting d (omega (arith, below, apart))))
      (cases_eq d c)

-- ---- a port that is configured has a partition

no_port : (id : ℕ) → port_at [] id ≡ None
no_port id = by_test (id == 0)
  where
    by_test : (b : Bool) → ◌≡◌ {A = Option Port} (if b then None else slice_get [] (id - 1)) None
    by_test true = refl
    by_test false = slice_get_past [] (id - 1) (omega arith)

port_within : (config : Configuration) (p id : ℕ) (port : Port) → port_of config p id ≡ Some port → p < length config.partitions
port_within config p id port here = ⊎_elim
    (λ (within : p < length config.partitions). within)
    (λ (beyond : length config.partitions ≤ p).
    let none : port_of config p id ≡ None = ap (λ (o : Option PartitionData). port_at (ports_of_partition o) id) (slice_get_past config.partitions p beyond) ∙ no_port id in
    absurd (let both = sym none ∙ here in cc))
    (cases_lt p (length config.partitions))

-- ---- one key, one state

module _ (config : Configuration) (logs : Logs) (h other : History) (key : List ℕ) (begins : IsBeginning config logs h) (leads : IsBeginning config logs other)
    (is : HasKey config h key) (is_too : HasKey config other key) where
  same_count : (p : ℕ) → p < length config.partitions → length (entries_of p h) ≡ length (entries_of p other)
  same_count p within =
      let both : Some (length (entries_of p h)) ≡ Some (length (entries_of p other)) = sym (is.made p within) ∙ is_too.made p within in
      cc

  own : (p : ℕ) → p < length config.partitions → entries_of p h ≡ entries_of p other
  own p within = own_same config logs p h other begins leads (same_count p within)

  module _ (p : ℕ) (within : p < length config.partitions) where
    same_created : (id : ℕ) → is_created p id h ≡ is_created p id other
    same_created id = sym (own_created p h id) ∙ (ap (is_created p id) (own p within) ∙ own_created p other id)

    same_last : (id : ℕ) → last_shown config h p id ≡ last_shown config other p id
    same_last id =
        ap (λ (b : Bool). validity_shown (seen config h p) id (sampling_only (if b then port_of config p id else None))) (same_created id)
        ∙ by_port (sampling_port config (seen config other p) p id)
      where
        last : last_validity_of p id h ≡ last_validity_of p id other
        last = sym (own_last p h id) ∙ (ap (last_validity_of p id) (own p within) ∙ own_last p other id)

        by_port : (o : Option Port) → validity_shown (seen config h p) id o ≡ validity_shown (seen config other p) id o
        by_port None = refl
        by_port (Some port) = last

    same_partition : IsSamePartition config h other p
    same_partition = record {
      mode = sym (own_mode p h) ∙ (ap (mode_of p) (own p within) ∙ own_mode p other);
      ports = record { created = λ id known. same_created id; last = λ id known. same_last id };
    }

  module _ (valid : IsConfiguration config) where
    module _ (c : ℕ) (within : c < length config.channels) where
      count_waits : length (waiting_on config c h) ≡ length (waiting_on config c other)
      count_waits =
          let both : Some (length (waiting_on config c h)) ≡ Some (length (waiting_on config c other)) = sym (is.waiting c within) ∙ is_too.waiting c within in
          cc

      source : (p : ℕ) × (id : ℕ) × (port : Port) × (port_of config p id ≡ Some port) × (port.direction ≡ Source) × (port.channel ≡ c)
      source = let found = within_get config.channels c within in valid.has_source c found.0 found.1

      own_source : entries_of source.0 h ≡ entries_of source.0 other
      own_source = own source.0 (port_within config source.0 source.1 source.2 source.3)

      same_accepted : accepted_on config c h ≡ accepted_on config c other
      same_accepted = subst (λ (d : ℕ). accepted_on config d h ≡ accepted_on config d other) source.5
          (let mine = own_accepted config valid source.0 source.1 source.2 source.3 source.4 in
          sym (mine h) ∙ (ap (λ (es : History). accepted_on config source.2.channel es) own_source ∙ mine other))

      same_writes : writes_on config c h ≡ writes_on config c other
      same_writes = subst (λ (d : ℕ). writes_on config d h ≡ writes_on config d other) source.5
          (let mine = own_written config valid source.0 source.1 source.2 source.3 source.4 in
          sym (mine h) ∙ (ap (λ (es : History). writes_on config source.2.channel es) own_source ∙ mine other))

      same_waiting : waiting_on config c h ≡ waiting_on config c other
      same_waiting =
          let there : waiting_on config c other ≡ drop (length (taken_on config c other)) (accepted_on config c h) = ap (λ (ms : List (List ℕ)). drop (length (taken_on config c other)) ms) (sym same_accepted) in
          same_left (length (taken_on config c h)) (length (taken_on config c other)) (accepted_on config c h) (count_waits ∙ ap (λ (ms : List (List ℕ)). length ms) there) ∙ sym there

      same_channel : IsSameChannel config h other c
      same_channel = record {
        sample = ap (λ (writes : List Sample). slice_get writes (length writes - 1)) same_writes;
        waiting = same_waiting;
      }

    same_state : IsSameState config h other
    same_state = record { partitions = same_partition; channels = same_channel }

    entries_beyond : length logs ≡ length config.partitions → (p : ℕ) → length config.partitions ≤ p → entries_of p h ≡ entries_of p other
    entries_beyond all p beyond =
        let none : log_in logs p ≡ [] = ap (λ (o : Option History). unwrap_or o []) (slice_get_past logs p (omega (arith, all, beyond))) in
        none_of (begins.entries p) none ∙ sym (none_of (leads.entries p) none)
      where
        none_of : {es log : History} → es ≡ take (length es) log → log ≡ [] → es ≡ []
        none_of {es} {log} front none = front ∙ (ap (take (length es)) none ∙ take_none (length es))
          where
            take_none : (n : ℕ) → ◌≡◌ {A = History} (take n []) []
            take_none zero = refl
            take_none (suc n) = refl

    -- what follows one up to an order follows the other
    pub ends_alike : length logs ≡ length config.partitions → Ends config logs h → Ends config logs other
    ends_alike all ends = record {
      rest = ends.rest;
      order = record {
        lawful = (always_goes_on_alike config h other (record { valid = valid; lawful = begins.lawful }) (record { valid = valid; lawful = leads.lawful }) same_state).lawful ends.rest ends.order.lawful;
        entries = λ p. entries_of-append p other ends.rest
            ∙ (ap (λ (es : History). es ++ entries_of p ends.rest) (sym (each p)) ∙ (sym (entries_of-append p h ends.rest) ∙ ends.order.entries p));
      };
    }
      where
        each : (p : ℕ) → entries_of p h ≡ entries_of p other
        each p = ⊎_elim (own p) (entries_beyond all p) (cases_lt p (length config.partitions))
