-- What the partitions inside see of their channels, and are told on them, does not depend on the calls outside.
use Rattle.apex_groups.proofs.Common.{◌≡◌, ◌≢◌, ⊎_elim, ℕ, ◌-◌, ◌==◌, ◌&&◌, ◌||◌, not, Bool, true, false, if◌then◌else◌, List, [], ◌∷◌, ◌++◌, length, drop, map, Option, Some, None, refl, sym, ap, ◌∙◌, subst, arith, append-nil, append_assoc, false≢true, nat_tests, cases_eq, slice_get, unwrap_or, Configuration, port_of, Port, Entry, History, entries_of, IsPart, Scripts, script_of, next_entries, entries_for, continued, IsWay}
use Rattle.apex_groups.proofs.Common.{IsDone, IsNext, answered, next_cases, one_longer, own_entry, entries_of-append}
use Rattle.std.proofs.lemmas.List.{length-map, map-append}
use Rattle.apex_types.specs.declared.call.Call.{Call}
use Rattle.apex_types.specs.declared.call.Call.TheVariants as call
use Rattle.apex_types.specs.declared.mode.Mode.{Mode}
use Rattle.apex_types.specs.declared.moment.Moment.{Moment}
use Rattle.apex_types.specs.declared.reply.Reply.{Reply}
use Rattle.apex_types.specs.declared.sample.Sample.{Sample}
use Rattle.apex_types.specs.declared.validity.Validity.{Validity}
use Rattle.apex_types.specs.declared.validity.Validity.TheVariants.{Invalid}
use Rattle.apex_ports.specs.Channels.{last_validity_of, validity_in, validity_read}
use Rattle.apex_ports.specs.History.{entry_of}
use Rattle.apex_ports.specs.Modes.{mode_of, mode_set, is_code_no_error, is_restart}
use Rattle.apex_ports.specs.Ports.{creates, is_created}
use Rattle.apex_ports.specs.ReplyTable.{reply_of, reply_to, row_of}
use Rattle.apex_ports.specs.Seen.{Seen, seen, sample_of, waiting_of}
use Rattle.apex_ports.proofs.Appends.{is_created-append, last_validity_of-append, mode_of-append}
use Rattle.apex_ports.proofs.PartitionSteps.{leaves_others}
use Rattle.apex_ports.proofs.Stays.{LeavesPartition, LeavesChannel, and_false, none_or_none, or_not}
use Rattle.apex_orders.specs.Commuting.{id_in, is_change, is_on, names, port_in}
use Rattle.apex_orders.specs.Orders.{order_of}
use Rattle.apex_orders.proofs.Alike.{IsChannelAlike, channel_along, channel_back, channel_left, channel_more}
use Rattle.apex_orders.proofs.Leaving.{at_id, leaves_unchanged, narrowed, replies_narrowed, status_in}
use Rattle.apex_orders.proofs.SameWays.{next_entry}
use Rattle.apex_orders.proofs.Walks.{other_entry, same_history}
use Rattle.apex_groups.specs.Parts.{IsFed, id_asked}
use Rattle.apex_groups.proofs.Exchanged.{here_inside, none_outside}
use Rattle.apex_groups.proofs.OutsideCalls.{outside_leaves}

module _ (config : Configuration) (own : ℕ → Bool) where
  -- no port, or one of a channel of the part
  abbrev pub is_own : Option Port → Bool
  is_own None = true
  is_own (Some port) = own port.channel

  abbrev pub is_own_call : ℕ → Call → Bool
  is_own_call p asked = is_own (port_in config p (id_asked asked))

  -- a call, and its reply if it names no other channel's port
  abbrev pub told : ℕ → Entry → (Moment × Call) × Option Reply
  told p e = ((e.at, e.call), if is_own_call p e.call then Some e.reply else None)

  -- ---- one partition

  pub record IsStateAlike (h g : History) (p : ℕ) : Type 0 where
    pub mode : mode_of p h ≡ mode_of p g
    pub created : (id : ℕ) → is_created p id h ≡ is_created p id g
    pub last : (id : ℕ) → is_own (port_of config p id) ≡ true → last_validity_of p id h ≡ last_validity_of p id g

  pub record IsToldAlike (h g : History) (p : ℕ) : Type 0 where
    pub state : IsStateAlike h g p
    pub told : map (told p) (entries_of p h) ≡ map (told p) (entries_of p g)

  abbrev pub AreChannelsAlike : History → History → Type 0
  AreChannelsAlike h g = (c : ℕ) → own c ≡ true → IsChannelAlike config h g c

  -- an entry that the partition does not see at its ports of the part
  record LeavesState (p : ℕ) (x : Entry) : Type 0 where
    mode : mode_set p x ≡ None
    created : (id : ℕ) → creates p id x ≡ false
    read : (id : ℕ) → is_own (port_of config p id) ≡ true → validity_read p id x ≡ None

  module _ (p : ℕ) where
    state_back : (h g : History) → IsStateAlike h g p → IsStateAlike g h p
    state_back h g s = record { mode = sym s.mode; created = λ id. sym (s.created id); last = λ id mine. sym (s.last id mine) }

    state_along : (f g h : History) → IsStateAlike f g p → IsStateAlike g h p → IsStateAlike f h p
    state_along f g h one two = record {
      mode = one.mode ∙ two.mode;
      created = λ id. one.created id ∙ two.created id;
      last = λ id mine. one.last id mine ∙ two.last id mine;
    }

    state_more : (g h : History) (x : Entry) → IsStateAlike g h p → IsStateAlike (g ++ x ∷ []) (h ++ x ∷ []) p
    state_more g h x alike = record {
      mode = mode_of-append p g x ∙ (ap (λ (mode : Mode). unwrap_or (mode_set p x) mode) alike.mode ∙ sym (mode_of-append p h x));
      created = λ id. is_created-append p id g x ∙ (ap (λ (b : Bool). creates p id x || (b && not (is_restart (mode_set p x)))) (alike.created id) ∙ sym (is_created-append p id h x));
      last = λ id mine. last_validity_of-append p id g x ∙ (ap (λ (v : Validity). if creates p id x then Invalid else unwrap_or (validity_read p id x) v) (alike.last id mine) ∙ sym (last_validity_of-append p id h x));
    }

    state_left : (h : History) (x : Entry) → LeavesState p x → IsStateAlike (h ++ x ∷ []) h p
    state_left h x left = record {
      mode = mode_of-append p h x ∙ ap (λ o. unwrap_or o (mode_of p h)) left.mode;
      created = λ id. is_created-append p id h x ∙ ((λ i. left.created id i || (is_created p id h && not (is_restart (left.mode i)))) ∙ or_not (is_created p id h));
      last = λ id mine. last_validity_of-append p id h x ∙ (λ i. if left.created id i then Invalid else unwrap_or (left.read id mine i) (last_validity_of p id h));
    }

    told_more : (h : History) (x : Entry) → map (told p) (entries_of p (h ++ x ∷ [])) ≡ map (told p) (entries_of p h) ++ map (told p) (entries_of p (x ∷ []))
    told_more h x = ap (map (told p)) (entries_of-append p h (x ∷ [])) ∙ map-append (told p) (entries_of p h) (entries_of p (x ∷ []))

    -- ---- replies

    module _ (h g : History) (state : IsStateAlike h g p) (channels : AreChannelsAlike h g) where
      waiting_same : (o : Option Port) → is_own o ≡ true → waiting_of config h o ≡ waiting_of config g o
      waiting_same None mine = refl
      waiting_same (Some port) mine = let c = channels port.channel mine in λ i. drop (length (c.taken i)) (c.accepted i)

      sample_same : (o : Option Port) → is_own o ≡ true → sample_of config h o ≡ sample_of config g o
      sample_same None mine = refl
      sample_same (Some port) mine = ap (λ (ws : List Sample). slice_get ws (length ws - 1)) (channels port.channel mine).writes

      record IsShownAlike (asked : Call) : Type 0 where
        last : at_id (status_in asked) (seen config h p).last Invalid ≡ at_id (status_in asked) (seen config g p).last Invalid
        waiting : at_id (id_in asked) (seen config h p).waiting [] ≡ at_id (id_in asked) (seen config g p).waiting []
        sample : at_id (id_in asked) (seen config h p).sample None ≡ at_id (id_in asked) (seen config g p).sample None

      shown_alike : (asked : Call) → is_own_call p asked ≡ true → IsShownAlike asked
      shown_alike (call.SamplingStatus id) mine = record { last = state.last id mine; waiting = refl; sample = refl }
      shown_alike (call.WriteSampling id message) mine = record { last = refl; waiting = waiting_same (port_of config p id) mine; sample = sample_same (port_of config p id) mine }
      shown_alike (call.ReadSampling id) mine = record { last = refl; waiting = waiting_same (port_of config p id) mine; sample = sample_same (port_of config p id) mine }
      shown_alike (call.SendQueuing id message) mine = record { last = refl; waiting = waiting_same (port_of config p id) mine; sample = sample_same (port_of config p id) mine }
      shown_alike (call.ReceiveQueuing id) mine = record { last = refl; waiting = waiting_same (port_of config p id) mine; sample = sample_same (port_of config p id) mine }
      shown_alike (call.QueuingStatus id) mine = record { last = refl; waiting = waiting_same (port_of config p id) mine; sample = sample_same (port_of config p id) mine }
      shown_alike (call.ClearQueuing id) mine = record { last = refl; waiting = waiting_same (port_of config p id) mine; sample = sample_same (port_of config p id) mine }
      shown_alike _ mine = record { last = refl; waiting = refl; sample = refl }

      reply_alike : (now : Moment) (asked : Call) → is_own_call p asked ≡ true → reply_to config h p now asked ≡ reply_to config g p now asked
      reply_alike now asked mine =
          let l = status_in asked in
          let o = id_in asked in
          replies_narrowed config p l (seen config h p) now asked refl
          ∙ (ap (λ (s : Seen). reply_of config s p (row_of config s p now asked)) narrowed_same
          ∙ sym (replies_narrowed config p l (seen config g p) now asked refl))
        where
          narrowed_same : narrowed config p (status_in asked) (id_in asked) (seen config h p) ≡ narrowed config p (status_in asked) (id_in asked) (seen config g p)
          narrowed_same =
              let shown = shown_alike asked mine in
              λ i. record {
                mode = state.mode i;
                created = λ id. state.created id i;
                last = λ _. shown.last i;
                waiting = λ _. shown.waiting i;
                sample = λ _. shown.sample i;
              }

  -- ---- calls that name another channel's port

  module _ (p : ℕ) where
    reads_other : (at : Moment) (number id : ℕ) (r : Reply) → is_own (port_of config p number) ≡ false → is_own (port_of config p id) ≡ true
        → validity_read p id (entry_of p at (call.ReadSampling number) r) ≡ None
    reads_other at number id r off mine = by_test (number == id) refl
      where
        by_test : (b : Bool) → (number == id) ≡ b → (if b && (p == p) then validity_in r else None) ≡ None
        by_test false is = refl
        by_test true is =
            let same : number ≡ id = grind (arith, nat_tests, is) in
            absurd (false≢true (sym off ∙ (ap (λ (n : ℕ). is_own (port_of config p n)) same ∙ mine)))

    foreign_leaves : (at : Moment) (asked : Call) (r : Reply) → is_own_call p asked ≡ false → LeavesState p (entry_of p at asked r)
    foreign_leaves at (call.SamplingStatus id) r off = record { mode = none_or_none (is_code_no_error r && (p == p)); created = λ _. refl; read = λ _ mine. refl }
    foreign_leaves at (call.WriteSampling id message) r off = record { mode = none_or_none (is_code_no_error r && (p == p)); created = λ _. refl; read = λ _ mine. refl }
    foreign_leaves at (call.ReadSampling number) r off = record { mode = none_or_none (is_code_no_error r && (p == p)); created = λ _. refl; read = λ id mine. reads_other at number id r off mine }
    foreign_leaves at (call.SendQueuing id message) r off = record { mode = none_or_none (is_code_no_error r && (p == p)); created = λ _. refl; read = λ _ mine. refl }
    foreign_leaves at (call.ReceiveQueuing id) r off = record { mode = none_or_none (is_code_no_error r && (p == p)); created = λ _. refl; read = λ _ mine. refl }
    foreign_leaves at (call.QueuingStatus id) r off = record { mode = none_or_none (is_code_no_error r && (p == p)); created = λ _. refl; read = λ _ mine. refl }
    foreign_leaves at (call.ClearQueuing id) r off = record { mode = none_or_none (is_code_no_error r && (p == p)); created = λ _. refl; read = λ _ mine. refl }
    foreign_leaves at _ r off = absurd (false≢true (sym off))

    not_on : (c : ℕ) (o : Option Port) → own c ≡ true → is_own o ≡ false → is_on c o ≡ false
    not_on c None mine off = refl
    not_on c (Some port) mine off = by_test (port.channel == c) refl
      where
        by_test : (b : Bool) → (port.channel == c) ≡ b → b ≡ false
        by_test false is = refl
        by_test true is =
            let same : port.channel ≡ c = grind (arith, nat_tests, is) in
            absurd (false≢true (sym off ∙ (ap own same ∙ mine)))

    foreign_unnamed : (c : ℕ) (asked : Call) → own c ≡ true → is_own_call p asked ≡ false → names config c p asked ≡ false
    foreign_unnamed c (call.SamplingStatus id) mine off = refl
    foreign_unnamed c (call.WriteSampling id message) mine off = not_on c (port_of config p id) mine off
    foreign_unnamed c (call.ReadSampling id) mine off = not_on c (port_of config p id) mine off
    foreign_unnamed c (call.SendQueuing id message) mine off = not_on c (port_of config p id) mine off
    foreign_unnamed c (call.ReceiveQueuing id) mine off = not_on c (port_of config p id) mine off
    foreign_unnamed c (call.QueuingStatus id) mine off = not_on c (port_of config p id) mine off
    foreign_unnamed c (call.ClearQueuing id) mine off = not_on c (port_of config p id) mine off
    foreign_unnamed c _ mine off = absurd (false≢true (sym off))

  unnamed_leaves : (c : ℕ) (x : Entry) → names config c x.partition x.call ≡ false → LeavesChannel config c x
  unnamed_leaves c x off = leaves_unchanged config c x ((λ i. is_change x.call && off i) ∙ and_false (is_change x.call))

  -- ---- one more call

  module _ (inside : ℕ → Bool) (scripts part : Scripts) (is : IsPart inside scripts part)
      (fed : (c : ℕ) → own c ≡ true → IsFed config inside c) where
    pub record AreAlike (h g : History) : Type 0 where
      pub partitions : (p : ℕ) → inside p ≡ true → IsToldAlike h g p
      pub channels : AreChannelsAlike h g

    pub alike_nil : AreAlike [] []
    alike_nil = record {
      partitions = λ p here. record { state = record { mode = refl; created = λ id. refl; last = λ id mine. refl }; told = refl };
      channels = λ c mine. record { accepted = refl; received = refl; taken = refl; writes = refl };
    }

    -- an entry of another partition
    other_more : (h g : History) (x : Entry) (p : ℕ) → (x.partition ≡ p → ⊥) → IsToldAlike h g p → IsToldAlike (h ++ x ∷ []) g p
    other_more h g x p apart alike =
        let left : LeavesPartition p x = leaves_others x.partition x.at x.call x.reply p (λ same. apart (sym same)) in
        record {
          state = state_along p (h ++ x ∷ []) h g (state_left p h x (record { mode = left.mode; created = left.created; read = λ id mine. left.read id })) alike.state;
          told = told_more p h x ∙ (ap (λ es. map (told p) (entries_of p h) ++ map (told p) es) (other_entry p x apart) ∙ (append-nil (map (told p) (entries_of p h)) ∙ alike.told));
        }

    told_back : (h g : History) (p : ℕ) → IsToldAlike h g p → IsToldAlike g h p
    told_back h g p alike = record { state = state_back p h g alike.state; told = sym alike.told }

    outside_more : (h g : History) (q : ℕ) (timed : Moment × Call) → inside q ≡ false → AreAlike h g → AreAlike (h ++ answered config scripts h q timed ∷ []) g
    outside_more h g q timed out alike =
        let x = answered config scripts h q timed in
        record {
          partitions = λ p here. other_more h g x p (λ same. absurd (false≢true (sym out ∙ (ap inside same ∙ here)))) (alike.partitions p here);
          channels = λ c mine. channel_along config c (h ++ x ∷ []) h g (channel_left config c h x (outside_leaves config inside c (fed c mine) h q out timed.0 timed.1)) (alike.channels c mine);
        }

    -- the same entry
    same_more : (h g : History) (x : Entry) → AreAlike h g → AreAlike (h ++ x ∷ []) (g ++ x ∷ [])
    same_more h g x alike = record {
      partitions = λ p here.
          let was = alike.partitions p here in
          record {
            state = state_more p h g x was.state;
            told = told_more p h x ∙ (ap (λ ts. ts ++ map (told p) (entries_of p (x ∷ []))) was.told ∙ sym (told_more p g x));
          };
      channels = λ c mine. channel_more config c h g x (alike.channels c mine);
    }

    -- a call that names another channel's port, whatever its reply
    module _ (h g : History) (p : ℕ) (timed : Moment × Call) (r s : Reply) (off : is_own_call p timed.1 ≡ false) (alike : AreAlike h g) where
      abbrev x : Entry
      x = entry_of p timed.0 timed.1 r

      abbrev y : Entry
      y = entry_of p timed.0 timed.1 s

      foreign_told : (t : Reply) → told p (entry_of p timed.0 timed.1 t) ≡ (timed, None)
      foreign_told t = ap (λ (b : Bool). (timed, if b then Some t else None)) off

      foreign_own : (q : ℕ) → p ≡ q → IsToldAlike h g q → IsToldAlike (h ++ x ∷ []) (g ++ y ∷ []) q
      foreign_own q own_call was = subst (IsToldAlike (h ++ x ∷ []) (g ++ y ∷ [])) own_call here
        where
          mine : IsToldAlike h g p
          mine = subst (IsToldAlike h g) (sym own_call) was

          one_told : (k : History) (t : Reply) → map (told p) (entries_of p (k ++ entry_of p timed.0 timed.1 t ∷ [])) ≡ map (told p) (entries_of p k) ++ (timed, None) ∷ []
          one_told k t =
              told_more p k (entry_of p timed.0 timed.1 t)
              ∙ (ap (λ es. map (told p) (entries_of p k) ++ map (told p) es) (own_entry p (entry_of p timed.0 timed.1 t) refl)
              ∙ ap (λ one. map (told p) (entries_of p k) ++ one ∷ []) (foreign_told t))

          here : IsToldAlike (h ++ x ∷ []) (g ++ y ∷ []) p
          here = record {
            state = state_along p (h ++ x ∷ []) h (g ++ y ∷ []) (state_left p h x (foreign_leaves p timed.0 timed.1 r off))
                (state_along p h g (g ++ y ∷ []) mine.state (state_back p (g ++ y ∷ []) g (state_left p g y (foreign_leaves p timed.0 timed.1 s off))));
            told = one_told h r ∙ (ap (λ ts. ts ++ (timed, None) ∷ []) mine.told ∙ sym (one_told g s));
          }

      foreign_more : AreAlike (h ++ x ∷ []) (g ++ y ∷ [])
      foreign_more = record {
        partitions = λ q here. ⊎_elim
            (λ (own_call : p ≡ q). foreign_own q own_call (alike.partitions q here))
            (λ (apart : p ≢ q). told_back (g ++ y ∷ []) (h ++ x ∷ []) q (other_more g (h ++ x ∷ []) y q apart (told_back (h ++ x ∷ []) g q (other_more h g x q apart (alike.partitions q here)))))
            (cases_eq p q);
        channels = λ c mine.
            let unnamed = foreign_unnamed p c timed.1 mine off in
            channel_along config c (h ++ x ∷ []) h (g ++ y ∷ []) (channel_left config c h x (unnamed_leaves c x unnamed))
            (channel_along config c h g (g ++ y ∷ []) (alike.channels c mine) (channel_back config c (g ++ y ∷ []) g (channel_left config c g y (unnamed_leaves c y unnamed))));
      }

    -- the next call of a partition inside
    next_more : (h g : History) (p : ℕ) (timed : Moment × Call) → inside p ≡ true → AreAlike h g
        → AreAlike (h ++ answered config scripts h p timed ∷ []) (g ++ answered config part g p timed ∷ [])
    next_more h g p timed here alike = by_test (is_own_call p timed.1) refl
      where
        by_test : (b : Bool) → is_own_call p timed.1 ≡ b → AreAlike (h ++ answered config scripts h p timed ∷ []) (g ++ answered config part g p timed ∷ [])
        by_test true mine =
            let same : answered config scripts h p timed ≡ answered config part g p timed =
            ap (entry_of p timed.0 timed.1) (reply_alike p h g (alike.partitions p here).state alike.channels timed.0 timed.1 mine) in
            subst (λ (e : Entry). AreAlike (h ++ answered config scripts h p timed ∷ []) (g ++ e ∷ [])) same (same_more h g (answered config scripts h p timed) alike)
        by_test false off = foreign_more h g p timed (reply_to config h p timed.0 timed.1) (reply_to config g p timed.0 timed.1) off alike

    pub step_alike : (h g : History) (p : ℕ) → AreAlike h g → AreAlike (h ++ next_entries config scripts h p) (g ++ next_entries config part g p)
    step_alike h g p alike = by_test (inside p) refl
      where
        by_test : (b : Bool) → inside p ≡ b → AreAlike (h ++ next_entries config scripts h p) (g ++ next_entries config part g p)
        by_test false out =
            let nothing : g ++ next_entries config part g p ≡ g =
            ap (λ (es : History). g ++ es) (ap (λ (script : List (Moment × Call)). entries_for config g p (slice_get script (length (entries_of p g)))) (none_outside inside scripts part is p out)) ∙ append-nil g in
            subst (AreAlike (h ++ next_entries config scripts h p)) (sym nothing) (⊎_elim
            (λ (done : IsDone config scripts h p). subst (λ (k : History). AreAlike k g) (sym (same_history config scripts h p done)) alike)
            (λ (next : IsNext config scripts h p). subst (λ (k : History). AreAlike k g) (sym (one_longer config scripts h p next)) (outside_more h g p next.timed out alike))
            (next_cases config scripts h p))
        by_test true here =
            let counts : length (entries_of p h) ≡ length (entries_of p g) =
            sym (length-map (entries_of p h) (told p)) ∙ (ap (λ ts. length ts) (alike.partitions p here).told ∙ length-map (entries_of p g) (told p)) in
            let same : slice_get (script_of part p) (length (entries_of p g)) ≡ slice_get (script_of scripts p) (length (entries_of p h)) =
            λ i. slice_get (here_inside inside scripts part is p here i) (sym counts i) in
            ⊎_elim
            (λ (done : IsDone config scripts h p).
            let done_too : IsDone config part g p = record { call = same ∙ done.call; entry = ap (entries_for config g p) (same ∙ done.call) } in
            subst (λ (both : History × History). AreAlike both.0 both.1) (λ i. (sym (same_history config scripts h p done) i, sym (same_history config part g p done_too) i)) alike)
            (λ (next : IsNext config scripts h p).
            let next_too : IsNext config part g p = record { timed = next.timed; call = same ∙ next.call; entry = ap (entries_for config g p) (same ∙ next.call) } in
            subst (λ (both : History × History). AreAlike both.0 both.1) (λ i. (sym (one_longer config scripts h p next) i, sym (one_longer config part g p next_too) i)) (next_more h g p next.timed here alike))
            (next_cases config scripts h p)

    -- a way, and what the part makes of its order
    pub way_alike : (rest : List Entry) (h g : History) → IsWay config scripts (h ++ rest) → AreAlike h g → AreAlike (h ++ rest) (continued config part g (order_of rest))
    way_alike [] h g is_way alike = subst (λ (k : History). AreAlike k g) (sym (append-nil h)) alike
    way_alike (e ∷ rest) h g is_way alike =
        subst (λ (k : History). AreAlike k (continued config part g (order_of (e ∷ rest)))) (append_assoc h (e ∷ []) rest)
        (way_alike rest (h ++ e ∷ []) (g ++ next_entries config part g e.partition)
        (subst (IsWay config scripts) (sym (append_assoc h (e ∷ []) rest)) is_way)
        (subst (λ (es : History). AreAlike (h ++ es) (g ++ next_entries config part g e.partition)) (next_entry config scripts h e rest is_way) (step_alike h g e.partition alike)))
