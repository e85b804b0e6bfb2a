-- What a call reads of a channel, and what it leaves unchanged.
use Rattle.std.specs.Prelude.{nat_lt}
use Rattle.apex_orders.proofs.Common.{nat_tests, not, length, arith, ◌≡◌, ◌≢◌, ◌⊎◌, inl, inr, ℕ, ◌==◌, ◌&&◌, Bool, true, false, if◌then◌else◌, List, [], ◌∷◌, ◌++◌, Option, Some, None, refl, sym, ap, ◌∙◌, Call, Moment, Sample, Invalid, Configuration, port_of, refresh_of_kind, Port, Entry, Row, History, is_idle, is_normal, is_cold_start, is_source, NamedPort, queuing_named, sampling_named, size_of, depth_of}
use Rattle.apex_orders.proofs.Common.{create_queuing_row, create_sampling_row, id_row, send_row, oldest_row, receive_row, clear_row, write_row, last_row, read_row, status_row, set_mode_row, service_row, row_of, queuing_status_reply, sampling_status_reply, reply_of, reply_to, Seen, seen, waiting_of, sample_of, queuing_port, sampling_port, leaves_others, LeavesPartition, LeavesChannel, IsElsewhere, leaves_channel}
use Rattle.apex_orders.proofs.Common.{waiting_stays, sample_stays, and_false, id_in, port_in, is_on, names, is_change, changes, IsApart}
use Rattle.apex_types.specs.Direction.{number_of}
use Rattle.apex_types.specs.Mode.{mode_numbered}
use Rattle.apex_types.specs.declared.call.Call.TheVariants as call
use Rattle.apex_types.specs.declared.mode.Mode.{Mode}
use Rattle.apex_types.specs.declared.mode.Mode.TheVariants.{Normal, WarmStart, ColdStart, Idle}
use Rattle.apex_types.specs.declared.reply.Reply.TheVariants as reply
use Rattle.apex_ports.specs.declared.rows.Row.TheVariants as row
use Rattle.apex_ports.proofs.OneChannel.{LiesElsewhere, off_channel, sends_elsewhere, receives_elsewhere, clears_elsewhere, writes_elsewhere}
use Rattle.apex_orders.proofs.Alike.{partition_left}

-- ---- channels that a call leaves unchanged

lies_elsewhere : (c : ℕ) (port : Option Port) → is_on c port ≡ false → LiesElsewhere c port
lies_elsewhere c None off = record { source = refl; destination = refl }
lies_elsewhere c (Some port) off = off_channel port c off

is_elsewhere : (config : Configuration) (c p : ℕ) (asked : Call) → changes config c p asked ≡ false → IsElsewhere config c p asked
is_elsewhere config c p (call.SendQueuing id message) off = sends_elsewhere config c p id message (lies_elsewhere c (port_of config p id) off)
is_elsewhere config c p (call.ReceiveQueuing id) off = receives_elsewhere config c p id (lies_elsewhere c (port_of config p id) off)
is_elsewhere config c p (call.ClearQueuing id) off = clears_elsewhere config c p id (lies_elsewhere c (port_of config p id) off)
is_elsewhere config c p (call.WriteSampling id message) off = writes_elsewhere config c p id message (lies_elsewhere c (port_of config p id) off)
is_elsewhere config c p _ off = record { sends = refl; receives = refl; clears = refl; writes = refl }

-- an entry leaves each channel unchanged that its call can't change
pub leaves_unchanged : (config : Configuration) (c : ℕ) (e : Entry) → changes config c e.partition e.call ≡ false → LeavesChannel config c e
leaves_unchanged config c e off = leaves_channel config c e.partition e.at e.call e.reply (is_elsewhere config c e.partition e.call off)

-- if the calls of two entries are apart, one of them leaves each channel unchanged
pub one_leaves : (config : Configuration) (e f : Entry) → IsApart config e.partition e.call f.partition f.call → (c : ℕ) → LeavesChannel config c e ⊎ LeavesChannel config c f
one_leaves config e f apart c = by_test (names config c e.partition e.call) refl
  where
    by_test : (b : Bool) → names config c e.partition e.call ≡ b → LeavesChannel config c e ⊎ LeavesChannel config c f
    by_test true on = inr (leaves_unchanged config c f (apart.others c on))
    by_test false off = inl (leaves_unchanged config c e ((λ i. is_change e.call && off i) ∙ and_false (is_change e.call)))

-- ---- what a reply depends on

-- the identifier whose last validity a call shows
abbrev pub status_in : Call → Option ℕ
status_in (call.SamplingStatus id) = Some id
status_in _ = None

-- only what the port of the identifier shows
abbrev pub at_id : {X : Type 0} → Option ℕ → (ℕ → X) → X → X
at_id None f x = x
at_id (Some id) f x = f id

module _ (config : Configuration) (p : ℕ) (l : Option ℕ) where
  abbrev pub narrowed : Option ℕ → Seen → Seen
  narrowed o s = record {
    mode = s.mode;
    created = s.created;
    last = λ _. at_id l s.last Invalid;
    waiting = λ _. at_id o s.waiting [];
    sample = λ _. at_id o s.sample None;
  }

  module _ (s : Seen) where
    -- the reply depends only on what the named port shows
    abbrev Same : Option ℕ → Row → Row → Type 0
    Same o full narrow = reply_of config s p full ≡ reply_of config (narrowed o s) p narrow

    same_if : (o : Option ℕ) (b : Bool) (x y u v : Row) → Same o x u → Same o y v → Same o (if b then x else y) (if b then u else v)
    same_if o true x y u v one two = one
    same_if o false x y u v one two = two

    creates_queuing : (named : Option NamedPort) (size depth direction discipline : ℕ)
        → Same None (create_queuing_row config s named size depth direction discipline) (create_queuing_row config (narrowed None s) named size depth direction discipline)
    creates_queuing None size depth direction discipline = refl
    creates_queuing (Some named) size depth direction discipline =
        same_if None (s.created named.id) _ _ _ _ refl
        (same_if None (not (size == size_of config named.port)) _ _ _ _ refl
        (same_if None (not (depth == depth_of config named.port.channel)) _ _ _ _ refl
        (same_if None (not (direction == number_of named.port.direction)) _ _ _ _ refl
        (same_if None (nat_lt 1 discipline) _ _ _ _ refl
        (same_if None (is_normal s.mode) _ _ _ _ refl refl)))))

    creates_sampling : (named : Option NamedPort) (size direction refresh : ℕ)
        → Same None (create_sampling_row config s named size direction refresh) (create_sampling_row config (narrowed None s) named size direction refresh)
    creates_sampling None size direction refresh = refl
    creates_sampling (Some named) size direction refresh =
        same_if None (s.created named.id) _ _ _ _ refl
        (same_if None (not (size == size_of config named.port)) _ _ _ _ refl
        (same_if None (not (direction == number_of named.port.direction)) _ _ _ _ refl
        (same_if None (not (refresh == refresh_of_kind named.port.kind)) _ _ _ _ refl
        (same_if None (is_normal s.mode) _ _ _ _ refl refl))))

    identifies : (named : Option NamedPort) → Same None (id_row s named) (id_row (narrowed None s) named)
    identifies None = refl
    identifies (Some named) = same_if None (s.created named.id) _ _ _ _ refl refl

    sends : (id : ℕ) (port : Option Port) (message : List ℕ) → Same (Some id) (send_row config s id port message) (send_row config (narrowed (Some id) s) id port message)
    sends id None message = refl
    sends id (Some port) message =
        same_if (Some id) (length message == 0) _ _ _ _ refl
        (same_if (Some id) (nat_lt (size_of config port) (length message)) _ _ _ _ refl
        (same_if (Some id) (not (is_source port.direction)) _ _ _ _ refl
        (same_if (Some id) (length (s.waiting id) == depth_of config port.channel) _ _ _ _ refl refl)))

    oldest : (id : ℕ) (waiting : List (List ℕ)) → Same (Some id) (oldest_row id waiting) (oldest_row id waiting)
    oldest id [] = refl
    oldest id (message ∷ rest) = refl

    receives : (id : ℕ) (port : Option Port) → Same (Some id) (receive_row s id port) (receive_row (narrowed (Some id) s) id port)
    receives id None = refl
    receives id (Some port) = same_if (Some id) (is_source port.direction) _ _ _ _ refl (oldest id (s.waiting id))

    clears_it : (id : ℕ) (port : Option Port) → Same (Some id) (clear_row port) (clear_row port)
    clears_it id None = refl
    clears_it id (Some port) = same_if (Some id) (is_source port.direction) _ _ _ _ refl refl

    writes : (id : ℕ) (port : Option Port) (message : List ℕ) → Same (Some id) (write_row config port message) (write_row config port message)
    writes id None message = refl
    writes id (Some port) message =
        same_if (Some id) (length message == 0) _ _ _ _ refl
        (same_if (Some id) (nat_lt (size_of config port) (length message)) _ _ _ _ refl
        (same_if (Some id) (not (is_source port.direction)) _ _ _ _ refl refl))

    last_one : (now : Moment) (id refresh : ℕ) (sample : Option Sample) → Same (Some id) (last_row now id refresh sample) (last_row now id refresh sample)
    last_one now id refresh None = refl
    last_one now id refresh (Some sample) = refl

    reads : (now : Moment) (id : ℕ) (port : Option Port) → Same (Some id) (read_row s now id port) (read_row (narrowed (Some id) s) now id port)
    reads now id None = refl
    reads now id (Some port) = same_if (Some id) (is_source port.direction) _ _ _ _ refl (last_one now id (refresh_of_kind port.kind) (s.sample id))

    queuing_status : (id : ℕ) (port : Option Port) → queuing_status_reply config s id port ≡ queuing_status_reply config (narrowed (Some id) s) id port
    queuing_status id None = refl
    queuing_status id (Some port) = refl

    shows_queuing : (id : ℕ) (port : Option Port) → Same (Some id) (status_row (row.QueuingStatus id) port) (status_row (row.QueuingStatus id) port)
    shows_queuing id None = refl
    shows_queuing id (Some port) = queuing_status id (queuing_port config s p id)

    sampling_status : (id : ℕ) (port : Option Port) → l ≡ Some id → sampling_status_reply config s id port ≡ sampling_status_reply config (narrowed None s) id port
    sampling_status id None is = refl
    sampling_status id (Some port) is = λ i. reply.SamplingStatus (refresh_of_kind port.kind) (size_of config port) port.direction (at_id (sym is i) s.last Invalid)

    shows_sampling : (id : ℕ) (port : Option Port) → l ≡ Some id → Same None (status_row (row.SamplingStatus id) port) (status_row (row.SamplingStatus id) port)
    shows_sampling id None is = refl
    shows_sampling id (Some port) is = sampling_status id (sampling_port config s p id) is

    sets : (mode : Option Mode) → Same None (set_mode_row s.mode mode) (set_mode_row s.mode mode)
    sets None = refl
    sets (Some Normal) = same_if None (is_normal s.mode) _ _ _ _ refl refl
    sets (Some WarmStart) = same_if None (is_cold_start s.mode) _ _ _ _ refl refl
    sets (Some ColdStart) = refl
    sets (Some Idle) = refl

    serves : (now : Moment) (asked : Call) → l ≡ status_in asked → Same (id_in asked) (service_row config s p now asked) (service_row config (narrowed (id_in asked) s) p now asked)
    serves now (call.CreateSampling name size direction refresh) is = creates_sampling (sampling_named config p name) size direction refresh
    serves now (call.WriteSampling id message) is = writes id (sampling_port config s p id) message
    serves now (call.ReadSampling id) is = reads now id (sampling_port config s p id)
    serves now (call.SamplingId name) is = identifies (sampling_named config p name)
    serves now (call.SamplingStatus id) is = shows_sampling id (sampling_port config s p id) is
    serves now (call.CreateQueuing name size depth direction discipline) is = creates_queuing (queuing_named config p name) size depth direction discipline
    serves now (call.SendQueuing id message) is = sends id (queuing_port config s p id) message
    serves now (call.ReceiveQueuing id) is = receives id (queuing_port config s p id)
    serves now (call.QueuingId name) is = identifies (queuing_named config p name)
    serves now (call.QueuingStatus id) is = shows_queuing id (queuing_port config s p id)
    serves now (call.ClearQueuing id) is = clears_it id (queuing_port config s p id)
    serves now (call.SetMode number) is = sets (mode_numbered number)

    pub replies_narrowed : (now : Moment) (asked : Call) → l ≡ status_in asked → Same (id_in asked) (row_of config s p now asked) (row_of config (narrowed (id_in asked) s) p now asked)
    replies_narrowed now asked is = same_if (id_in asked) (is_idle s.mode) _ _ _ _ refl (serves now asked is)

same_number : (n : ℕ) → (n == n) ≡ true
same_number n = grind (arith, nat_tests)

module _ (config : Configuration) (h : History) (x : Entry) where
  -- the entry leaves the channel of the port unchanged
  abbrev pub LeavesPort : Option Port → Type 0
  LeavesPort port = (c : ℕ) → is_on c port ≡ true → LeavesChannel config c x

  waiting_left : (port : Option Port) → LeavesPort port → waiting_of config (h ++ x ∷ []) port ≡ waiting_of config h port
  waiting_left None left = refl
  waiting_left (Some port) left = let here = left port.channel (same_number port.channel) in waiting_stays config port.channel h x here.accepted here.received here.cleared

  sample_left : (port : Option Port) → LeavesPort port → sample_of config (h ++ x ∷ []) port ≡ sample_of config h port
  sample_left None left = refl
  sample_left (Some port) left = let here = left port.channel (same_number port.channel) in sample_stays config h x port.channel here.written

  module _ (p : ℕ) (left : LeavesPartition p x) where
    shows_waiting : (o : Option ℕ) → LeavesPort (port_in config p o) → at_id o (seen config (h ++ x ∷ []) p).waiting [] ≡ at_id o (seen config h p).waiting []
    shows_waiting None off = refl
    shows_waiting (Some id) off = waiting_left (port_of config p id) off

    shows_sample : (o : Option ℕ) → LeavesPort (port_in config p o) → at_id o (seen config (h ++ x ∷ []) p).sample None ≡ at_id o (seen config h p).sample None
    shows_sample None off = refl
    shows_sample (Some id) off = sample_left (port_of config p id) off

    seen_left : (l o : Option ℕ) → LeavesPort (port_in config p o) → narrowed config p l o (seen config (h ++ x ∷ []) p) ≡ narrowed config p l o (seen config h p)
    seen_left l o off =
        let alike = partition_left p h x left in
        λ i. record {
          mode = alike.mode i;
          created = λ id. alike.created id i;
          last = λ _. at_id l (λ id. alike.last id i) Invalid;
          waiting = λ _. shows_waiting o off i;
          sample = λ _. shows_sample o off i;
        }

    pub reply_left : (now : Moment) (asked : Call) → LeavesPort (port_in config p (id_in asked)) → reply_to config (h ++ x ∷ []) p now asked ≡ reply_to config h p now asked
    reply_left now asked off =
        let l = status_in asked in
        let o = id_in asked in
        replies_narrowed config p l (seen config (h ++ x ∷ []) p) now asked refl
        ∙ (ap (λ (s : Seen). reply_of config s p (row_of config s p now asked)) (seen_left l o off)
        ∙ sym (replies_narrowed config p l (seen config h p) now asked refl))

-- a call gets the same reply after another partition's entry that changes no channel that it names
pub reply_unchanged : (config : Configuration) (h : History) (x : Entry) (p : ℕ) (now : Moment) (asked : Call) → x.partition ≢ p
    → ((c : ℕ) → names config c p asked ≡ true → changes config c x.partition x.call ≡ false)
    → reply_to config (h ++ x ∷ []) p now asked ≡ reply_to config h p now asked
reply_unchanged config h x p now asked other apart =
    reply_left config h x p (leaves_others x.partition x.at x.call x.reply p (λ same. other (sym same))) now asked
    (λ c on. leaves_unchanged config c x (apart c on))
