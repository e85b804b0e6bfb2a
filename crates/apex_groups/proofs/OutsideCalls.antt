-- What a call of a partition outside of a part leaves unchanged.
use Rattle.apex_groups.proofs.Common.{◌≡◌, ◌⊎◌, inl, inr, ⊎_elim, ℕ, ◌==◌, ◌&&◌, not, Bool, true, false, if◌then◌else◌, Option, Some, None, refl, sym, ap, ◌∙◌, arith, false≢true, nat_tests, Configuration, port_of, Port, History}
use Rattle.apex_types.specs.declared.call.Call.{Call}
use Rattle.apex_types.specs.declared.call.Call.TheVariants as call
use Rattle.apex_types.specs.declared.moment.Moment.{Moment}
use Rattle.apex_module.specs.Configuration.{is_queuing_port}
use Rattle.apex_ports.specs.declared.rows.Row.TheVariants as row
use Rattle.apex_ports.specs.Channels.{clears, message_in, message_received}
use Rattle.apex_ports.specs.History.{entry_of}
use Rattle.apex_ports.specs.Modes.{mode_of, is_code_no_error, is_idle}
use Rattle.apex_ports.specs.Ports.{is_created, is_destination_of, is_source, is_source_of, queuing_only}
use Rattle.apex_ports.specs.ReplyTable.{clear_row, receive_row, reply_of, reply_to}
use Rattle.apex_ports.specs.Seen.{queuing_port, seen}
use Rattle.apex_ports.proofs.Stays.{IsElsewhere, LeavesChannel, and_false, leaves_channel, none_or_none}
use Rattle.apex_groups.specs.Parts.{IsFed, IsReader}

module _ (config : Configuration) (inside : ℕ → Bool) (c : ℕ) (fed : IsFed config inside c) (h : History) (p : ℕ) (out : inside p ≡ false) where
  reader : (id : ℕ) (port : Port) → port_of config p id ≡ Some port → (port.channel == c) ≡ true → IsReader port
  reader id port found on =
      let same : port.channel ≡ c = grind (arith, nat_tests, on) in
      ⊎_elim (λ (here : inside p ≡ true). absurd (false≢true (sym out ∙ here))) (λ (reads : IsReader port). reads) (fed p id port found same)

  -- it can't put anything into the channel
  no_source : (id : ℕ) → is_source_of c (port_of config p id) ≡ false
  no_source id = of_port (port_of config p id) refl
    where
      of_port : (o : Option Port) → port_of config p id ≡ o → is_source_of c o ≡ false
      of_port None found = refl
      of_port (Some port) found = by_test (port.channel == c) refl
        where
          by_test : (b : Bool) → (port.channel == c) ≡ b → (is_source port.direction && (port.channel == c)) ≡ false
          by_test false off = (λ i. is_source port.direction && off i) ∙ and_false (is_source port.direction)
          by_test true on = λ i. (reader id port found on).reads i && (port.channel == c)

  -- nor take anything from it: either the port lies elsewhere, or it has no queue
  abbrev HasNoQueue : ℕ → Type 0
  HasNoQueue id = queuing_port config (seen config h p) p id ≡ None

  no_queue : (id : ℕ) → (is_destination_of c (port_of config p id) ≡ false) ⊎ HasNoQueue id
  no_queue id = of_port (port_of config p id) refl
    where
      none_created : (created : Bool) (port : Port) → is_queuing_port port.kind ≡ false → queuing_only (if created then Some port else None) ≡ None
      none_created true port is = λ i. if is i then Some port else None
      none_created false port is = refl

      of_port : (o : Option Port) → port_of config p id ≡ o → (is_destination_of c o ≡ false) ⊎ HasNoQueue id
      of_port None found = inl refl
      of_port (Some port) found = by_test (port.channel == c) refl
        where
          by_test : (b : Bool) → (port.channel == c) ≡ b → ((not (is_source port.direction) && (port.channel == c)) ≡ false) ⊎ HasNoQueue id
          by_test false off = inl ((λ i. not (is_source port.direction) && off i) ∙ and_false (not (is_source port.direction)))
          by_test true on = inr (ap (λ (o : Option Port). queuing_only (if is_created p id h then o else None)) found ∙ none_created (is_created p id h) port (reader id port found on).samples)

  receives_none : (now : Moment) (id : ℕ) → HasNoQueue id → message_in (reply_to config h p now (call.ReceiveQueuing id)) ≡ None
  receives_none now id none =
      ap (λ (o : Option Port). message_in (reply_of config (seen config h p) p (if is_idle (mode_of p h) then row.Idle else receive_row (seen config h p) id o))) none
      ∙ by_mode (is_idle (mode_of p h))
    where
      by_mode : (b : Bool) → message_in (reply_of config (seen config h p) p (if b then row.Idle else receive_row (seen config h p) id None)) ≡ None
      by_mode true = refl
      by_mode false = refl

  clears_none : (now : Moment) (id : ℕ) → HasNoQueue id → is_code_no_error (reply_to config h p now (call.ClearQueuing id)) ≡ false
  clears_none now id none =
      ap (λ (o : Option Port). is_code_no_error (reply_of config (seen config h p) p (if is_idle (mode_of p h) then row.Idle else clear_row o))) none
      ∙ by_mode (is_idle (mode_of p h))
    where
      by_mode : (b : Bool) → is_code_no_error (reply_of config (seen config h p) p (if b then row.Idle else clear_row None)) ≡ false
      by_mode true = refl
      by_mode false = refl

  received_none : (now : Moment) (id : ℕ) → (is_destination_of c (port_of config p id) ≡ false) ⊎ HasNoQueue id
      → message_received config c (entry_of p now (call.ReceiveQueuing id) (reply_to config h p now (call.ReceiveQueuing id))) ≡ None
  received_none now id (inl off) = λ i. if off i then message_in (reply_to config h p now (call.ReceiveQueuing id)) else None
  received_none now id (inr none) =
      ap (λ o. if is_destination_of c (port_of config p id) then o else None) (receives_none now id none) ∙ none_or_none (is_destination_of c (port_of config p id))

  cleared_none : (now : Moment) (id : ℕ) → (is_destination_of c (port_of config p id) ≡ false) ⊎ HasNoQueue id
      → clears config c (entry_of p now (call.ClearQueuing id) (reply_to config h p now (call.ClearQueuing id))) ≡ false
  cleared_none now id (inl off) =
      (λ i. is_code_no_error (reply_to config h p now (call.ClearQueuing id)) && off i) ∙ and_false (is_code_no_error (reply_to config h p now (call.ClearQueuing id)))
  cleared_none now id (inr none) = λ i. clears_none now id none i && is_destination_of c (port_of config p id)

  quiet : (now : Moment) (asked : Call) → IsElsewhere config c p asked → LeavesChannel config c (entry_of p now asked (reply_to config h p now asked))
  quiet now asked off = leaves_channel config c p now asked (reply_to config h p now asked) off

  pub outside_leaves : (now : Moment) (asked : Call) → LeavesChannel config c (entry_of p now asked (reply_to config h p now asked))
  outside_leaves now (call.SendQueuing id message) =
      quiet now (call.SendQueuing id message) (record { sends = λ i. if no_source id i then Some message else None; receives = refl; clears = refl; writes = refl })
  outside_leaves now (call.WriteSampling id message) =
      quiet now (call.WriteSampling id message) (record { sends = refl; receives = refl; clears = refl; writes = λ i. if no_source id i then Some message else None })
  outside_leaves now (call.ReceiveQueuing id) = record {
    accepted = none_or_none (is_code_no_error (reply_to config h p now (call.ReceiveQueuing id)));
    received = received_none now id (no_queue id);
    cleared = and_false (is_code_no_error (reply_to config h p now (call.ReceiveQueuing id)));
    written = none_or_none (is_code_no_error (reply_to config h p now (call.ReceiveQueuing id)));
  }
  outside_leaves now (call.ClearQueuing id) = record {
    accepted = none_or_none (is_code_no_error (reply_to config h p now (call.ClearQueuing id)));
    received = refl;
    cleared = cleared_none now id (no_queue id);
    written = none_or_none (is_code_no_error (reply_to config h p now (call.ClearQueuing id)));
  }
  outside_leaves now asked = quiet now asked (record { sends = refl; receives = refl; clears = refl; writes = refl })
