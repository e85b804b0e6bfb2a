-- A reply depends only on what a partition's configured ports show.
use Rattle.apex_orders.proofs.Common.{◌≡◌, ℕ, ◌<◌, Bool, true, false, if◌then◌else◌, ◌⊎◌, inl, inr, ⊎_elim, List, length, Option, Some, None, refl, sym, ap, ◌∙◌, is_some, slice_get_within, Call, Moment, Invalid, Configuration, IsConfiguration, port_of, id_named, is_queuing_port, refresh_of_kind, Port, Row, History, is_idle, is_created, NamedPort, queuing_only, sampling_only, with_id, queuing_of_id, queuing_named}
use Rattle.apex_orders.proofs.Common.{sampling_of_id, sampling_named, Seen, seen, waiting_of, sample_of, created_port, queuing_port, sampling_port, validity_shown, size_of, create_queuing_row, create_sampling_row, id_row, send_row, receive_row, clear_row, write_row, read_row, status_row, service_row, row_of, queuing_status_reply, sampling_status_reply, reply_of, reply_to, is_identifier, IsSameState, last_shown}
use Rattle.apex_types.specs.declared.call.Call.TheVariants as call
use Rattle.apex_types.specs.declared.reply.Reply.TheVariants as reply
use Rattle.apex_ports.specs.declared.rows.Row.TheVariants as row

abbrev is_port : Option Port → Bool
is_port port = is_some port

module _ (config : Configuration) (p : ℕ) where
  -- what is seen, without ports that don't exist
  abbrev configured : Seen → Seen
  configured s = record {
    mode = s.mode;
    created = λ id. is_some (created_port config s p id);
    last = λ id. validity_shown s id (sampling_port config s p id);
    waiting = s.waiting;
    sample = s.sample;
  }

  module _ (s : Seen) where
    created_port_same : (id : ℕ) → created_port config s p id ≡ created_port config (configured s) p id
    created_port_same id = of_port (s.created id) (port_of config p id)
      where
        of_port : (b : Bool) (o : Option Port) → ◌≡◌ {A = Option Port} (if b then o else None) (if is_some (if b then o else None) then o else None)
        of_port true None = refl
        of_port true (Some port) = refl
        of_port false o = refl

    queuing_port_same : (id : ℕ) → queuing_port config s p id ≡ queuing_port config (configured s) p id
    queuing_port_same id = ap queuing_only (created_port_same id)

    sampling_port_same : (id : ℕ) → sampling_port config s p id ≡ sampling_port config (configured s) p id
    sampling_port_same id = ap sampling_only (created_port_same id)

    -- both agree on whether a configured port with a name is created
    abbrev IsCreatedAlike : Option NamedPort → Type 0
    IsCreatedAlike None = Unit {0}
    IsCreatedAlike (Some named) = s.created named.id ≡ is_some (created_port config s p named.id)

    created_alike : (id : ℕ) (port : Port) → port_of config p id ≡ Some port → s.created id ≡ is_some (created_port config s p id)
    created_alike id port is = of_port (s.created id) ∙ (λ i. is_some (if s.created id then sym is i else None))
      where
        of_port : (b : Bool) → b ≡ is_port (if b then Some port else None)
        of_port true = refl
        of_port false = refl

    queuing_alike : (k : Option ℕ) → IsCreatedAlike (queuing_of_id config p k)
    queuing_alike None = tt
    queuing_alike (Some id) = of_port (port_of config p id) refl
      where
        of_kind : (port : Port) (b : Bool) → port_of config p id ≡ Some port → IsCreatedAlike (with_id id (if b then Some port else None))
        of_kind port true is = created_alike id port is
        of_kind port false is = tt

        of_port : (o : Option Port) → port_of config p id ≡ o → IsCreatedAlike (with_id id (queuing_only o))
        of_port None is = tt
        of_port (Some port) is = of_kind port (is_queuing_port port.kind) is

    sampling_alike : (k : Option ℕ) → IsCreatedAlike (sampling_of_id config p k)
    sampling_alike None = tt
    sampling_alike (Some id) = of_port (port_of config p id) refl
      where
        of_kind : (port : Port) (b : Bool) → port_of config p id ≡ Some port → IsCreatedAlike (with_id id (if b then None else Some port))
        of_kind port true is = tt
        of_kind port false is = created_alike id port is

        of_port : (o : Option Port) → port_of config p id ≡ o → IsCreatedAlike (with_id id (sampling_only o))
        of_port None is = tt
        of_port (Some port) is = of_kind port (is_queuing_port port.kind) is

    -- ---- rows

    create_queuing_same : (o : Option NamedPort) (size depth direction discipline : ℕ) → IsCreatedAlike o
        → create_queuing_row config s o size depth direction discipline ≡ create_queuing_row config (configured s) o size depth direction discipline
    create_queuing_same None size depth direction discipline alike = refl
    create_queuing_same (Some named) size depth direction discipline alike =
        ap (λ (b : Bool). create_queuing_row config (record s { created = λ _. b }) (Some named) size depth direction discipline) alike

    create_sampling_same : (o : Option NamedPort) (size direction refresh : ℕ) → IsCreatedAlike o
        → create_sampling_row config s o size direction refresh ≡ create_sampling_row config (configured s) o size direction refresh
    create_sampling_same None size direction refresh alike = refl
    create_sampling_same (Some named) size direction refresh alike =
        ap (λ (b : Bool). create_sampling_row config (record s { created = λ _. b }) (Some named) size direction refresh) alike

    id_row_same : (o : Option NamedPort) → IsCreatedAlike o → id_row s o ≡ id_row (configured s) o
    id_row_same None alike = refl
    id_row_same (Some named) alike = ap (λ (b : Bool). id_row (record s { created = λ _. b }) (Some named)) alike

    send_row_same : (id : ℕ) (o : Option Port) (message : List ℕ) → send_row config s id o message ≡ send_row config (configured s) id o message
    send_row_same id None message = refl
    send_row_same id (Some port) message = refl

    receive_row_same : (id : ℕ) (o : Option Port) → receive_row s id o ≡ receive_row (configured s) id o
    receive_row_same id None = refl
    receive_row_same id (Some port) = refl

    read_row_same : (now : Moment) (id : ℕ) (o : Option Port) → read_row s now id o ≡ read_row (configured s) now id o
    read_row_same now id None = refl
    read_row_same now id (Some port) = refl

    service_row_same : (now : Moment) (call : Call) → service_row config s p now call ≡ service_row config (configured s) p now call
    service_row_same now (call.CreateSampling name size direction refresh) =
        create_sampling_same (sampling_named config p name) size direction refresh (sampling_alike (id_named config p name))
    service_row_same now (call.WriteSampling id message) = ap (λ o. write_row config o message) (sampling_port_same id)
    service_row_same now (call.ReadSampling id) = ap (λ o. read_row s now id o) (sampling_port_same id) ∙ read_row_same now id (sampling_port config (configured s) p id)
    service_row_same now (call.SamplingId name) = id_row_same (sampling_named config p name) (sampling_alike (id_named config p name))
    service_row_same now (call.SamplingStatus id) = ap (λ o. status_row (row.SamplingStatus id) o) (sampling_port_same id)
    service_row_same now (call.CreateQueuing name size depth direction discipline) =
        create_queuing_same (queuing_named config p name) size depth direction discipline (queuing_alike (id_named config p name))
    service_row_same now (call.SendQueuing id message) = ap (λ o. send_row config s id o message) (queuing_port_same id) ∙ send_row_same id (queuing_port config (configured s) p id) message
    service_row_same now (call.ReceiveQueuing id) = ap (λ o. receive_row s id o) (queuing_port_same id) ∙ receive_row_same id (queuing_port config (configured s) p id)
    service_row_same now (call.QueuingId name) = id_row_same (queuing_named config p name) (queuing_alike (id_named config p name))
    service_row_same now (call.QueuingStatus id) = ap (λ o. status_row (row.QueuingStatus id) o) (queuing_port_same id)
    service_row_same now (call.ClearQueuing id) = ap (λ o. clear_row o) (queuing_port_same id)
    service_row_same now (call.SetMode number) = refl

    row_same : (now : Moment) (call : Call) → row_of config s p now call ≡ row_of config (configured s) p now call
    row_same now call = ap (λ (r : Row). if is_idle s.mode then row.Idle else r) (service_row_same now call)

    -- ---- replies

    queuing_status_same : (id : ℕ) (o : Option Port) → queuing_status_reply config s id o ≡ queuing_status_reply config (configured s) id o
    queuing_status_same id None = refl
    queuing_status_same id (Some port) = refl

    sampling_status_same : (id : ℕ) (o : Option Port) → o ≡ sampling_port config s p id → sampling_status_reply config s id o ≡ sampling_status_reply config (configured s) id o
    sampling_status_same id None is = refl
    sampling_status_same id (Some port) is =
        λ i. reply.SamplingStatus (refresh_of_kind port.kind) (size_of config port) port.direction (validity_shown s id (is i))

    reply_same : (r : Row) → reply_of config s p r ≡ reply_of config (configured s) p r
    reply_same (row.QueuingStatus id) = ap (λ o. queuing_status_reply config s id o) (queuing_port_same id) ∙ queuing_status_same id (queuing_port config (configured s) p id)
    reply_same (row.SamplingStatus id) =
        ap (λ o. sampling_status_reply config s id o) (sampling_port_same id) ∙ sampling_status_same id (sampling_port config (configured s) p id) (sym (sampling_port_same id))
    reply_same _ = refl

    -- the reply depends only on what the configured ports show
    reply_to_configured : (now : Moment) (call : Call) → reply_of config s p (row_of config s p now call) ≡ reply_of config (configured s) p (row_of config (configured s) p now call)
    reply_to_configured now call = reply_same (row_of config s p now call) ∙ ap (reply_of config (configured s) p) (row_same now call)

  -- ---- two histories with one state

  port_cases : (id : ℕ) → (port_of config p id ≡ None) ⊎ ((port : Port) × (port_of config p id ≡ Some port))
  port_cases id = of_port (port_of config p id) refl
    where
      of_port : (o : Option Port) → port_of config p id ≡ o → (port_of config p id ≡ None) ⊎ ((port : Port) × (port_of config p id ≡ Some port))
      of_port None is = inl is
      of_port (Some port) is = inr (port, is)

  shows_none : (s : Seen) (id : ℕ) (b : Bool) → validity_shown s id (sampling_only (if b then None else None)) ≡ Invalid
  shows_none s id true = refl
  shows_none s id false = refl

  none_created : (b : Bool) → is_port (if b then None else None) ≡ false
  none_created true = refl
  none_created false = refl

  module _ (valid : IsConfiguration config) (h other : History) (same : IsSameState config h other) (within : p < length config.partitions) where
    created_same : (id : ℕ) → is_some (created_port config (seen config h p) p id) ≡ is_some (created_port config (seen config other p) p id)
    created_same id =
        ⊎_elim
        (λ (none : port_of config p id ≡ None). (λ i. is_some (if is_created p id h then none i else None))
        ∙ (none_created (is_created p id h) ∙ sym ((λ i. is_some (if is_created p id other then none i else None)) ∙ none_created (is_created p id other))))
        (λ (found : (port : Port) × (port_of config p id ≡ Some port)).
        ap (λ (b : Bool). is_some (if b then port_of config p id else None)) ((same.partitions p within).ports.created id (is_identifier config p id found.0 found.1)))
        (port_cases id)

    last_same : (id : ℕ) → last_shown config h p id ≡ last_shown config other p id
    last_same id =
        ⊎_elim
        (λ (none : port_of config p id ≡ None). (λ i. validity_shown (seen config h p) id (sampling_only (if is_created p id h then none i else None)))
        ∙ (shows_none (seen config h p) id (is_created p id h)
        ∙ sym ((λ i. validity_shown (seen config other p) id (sampling_only (if is_created p id other then none i else None))) ∙ shows_none (seen config other p) id (is_created p id other))))
        (λ (found : (port : Port) × (port_of config p id ≡ Some port)). (same.partitions p within).ports.last id (is_identifier config p id found.0 found.1))
        (port_cases id)

    channel_within : (id : ℕ) (port : Port) → port_of config p id ≡ Some port → port.channel < length config.channels
    channel_within id port is =
        let link = valid.linked p id port is in
        slice_get_within config.channels port.channel link.0 link.1

    waiting_same : (id : ℕ) (o : Option Port) → port_of config p id ≡ o → waiting_of config h o ≡ waiting_of config other o
    waiting_same id None is = refl
    waiting_same id (Some port) is = (same.channels port.channel (channel_within id port is)).waiting

    sample_same : (id : ℕ) (o : Option Port) → port_of config p id ≡ o → sample_of config h o ≡ sample_of config other o
    sample_same id None is = refl
    sample_same id (Some port) is = (same.channels port.channel (channel_within id port is)).sample

    mode_same : (seen config h p).mode ≡ (seen config other p).mode
    mode_same = (same.partitions p within).mode

    seen_same : configured (seen config h p) ≡ configured (seen config other p)
    seen_same = λ i. record {
      mode = mode_same i;
      created = λ id. created_same id i;
      last = λ id. last_same id i;
      waiting = λ id. waiting_same id (port_of config p id) refl i;
      sample = λ id. sample_same id (port_of config p id) refl i;
    }

    -- the next call gets the same reply
    pub same_reply : (now : Moment) (call : Call) → reply_to config h p now call ≡ reply_to config other p now call
    same_reply now call =
        reply_to_configured (seen config h p) now call
        ∙ (ap (λ (s : Seen). reply_of config s p (row_of config s p now call)) seen_same ∙ sym (reply_to_configured (seen config other p) now call))
