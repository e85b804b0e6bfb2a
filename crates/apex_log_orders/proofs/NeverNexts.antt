-- Next calls that can't be made before others, or would come too soon for others.
use Rattle.apex_log_orders.proofs.Common.{◌≡◌, ◌⊎◌, inl, ⊎_elim, ℕ, suc, ◌+◌, ◌<◌, ◌≤◌, ◌==◌, Bool, true, false, not, ◌&&◌, if◌then◌else◌, List, [], ◌∷◌, ◌++◌, length, take, drop, Option, Some, None, refl, sym, ap, ◌∙◌, subst, arith, length-append, length-drop, slice_get, option_to_list, cases_eq, cases_lt, nat_tests, length-map, drop-append-le, Call, SendQueuing, ReceiveQueuing, Source, Destination, Moment, Sample}
use Rattle.apex_log_orders.proofs.Common.{Configuration, IsConfiguration, port_of, channel_of, is_queuing_port, is_queuing_channel, Port, Entry, Row, History, entries_of, last_validity_of, accepted_on, received_on, taken_on, waiting_on, messages_of, as_received, message_accepted, message_received, mode_of, is_idle, is_created, is_source, is_source_of, is_destination_of, queuing_only, depth_of, send_row, receive_row}
use Rattle.apex_log_orders.proofs.Common.{row_of, reply_of, reply_to, Seen, seen, waiting_of, sample_of, queuing_port, IsSound, HasNoClear, is_code_not_available, accepted_on-append, received_on-append, always_conserved, Logs, log_in, IsBeginning, GoesOn, Ends, next_of, IsWithin, NeverNext, HaveNoClear, is_transfer, is_own, IsEnd, HasEnd}
use Rattle.std.proofs.lemmas.List.Elements.{filter_map-append}
use Rattle.apex_types.specs.declared.direction.Direction.{Direction}
use Rattle.apex_types.specs.declared.taken.Taken.{Taken}
use Rattle.apex_module.specs.declared.channel.Channel.{Channel}
use Rattle.apex_ports.specs.declared.rows.Row.TheVariants as row
use Rattle.apex_judge.proofs.WaitingLaws.{none_waits}
use Rattle.apex_ports.proofs.WithoutClears.{without_clears}
use Rattle.apex_log_orders.proofs.Beginnings.{begins_push, made_mine, made_others}
use Rattle.apex_log_orders.proofs.Fronts.{own_grows, own_same, never_passed}
use Rattle.apex_log_orders.proofs.OwnEntries.{own_mode, own_created, own_last, own_accepted, own_received, no_clears, no_clear_front}
use Rattle.apex_log_orders.proofs.OwnReplies.{own_reply}
use Rattle.apex_log_orders.proofs.NextReplies.{not_available, send_replies, receive_replies, none_free}

-- the port is created, so it is configured, and it is a queuing port
queuing_here : (b : Bool) (port : Option Port) (q : Port) → queuing_only (if b then port else None) ≡ Some q → (port ≡ Some q) × (is_queuing_port q.kind ≡ true)
queuing_here false port q is = absurd cc
queuing_here true None q is = absurd cc
queuing_here true (Some port) q is = by_kind (is_queuing_port port.kind) refl is
  where
    by_kind : (b : Bool) → is_queuing_port port.kind ≡ b → ◌≡◌ {A = Option Port} (if b then Some port else None) (Some q) → (Some port ≡ Some q) × (is_queuing_port q.kind ≡ true)
    by_kind true kind h = let same : port ≡ q = cc in (h, subst (λ (x : Port). is_queuing_port x.kind ≡ true) same kind)
    by_kind false kind h = absurd cc

source_way : (way : Direction) → is_source way ≡ true → way ≡ Source
source_way Source is = refl
source_way Destination is = absurd cc

destination_way : (way : Direction) → is_source way ≡ false → way ≡ Destination
destination_way Source is = absurd cc
destination_way Destination is = refl

module _ (config : Configuration) (valid : IsConfiguration config) (logs : Logs) (none : HaveNoClear logs) where
  sound : (h : History) → IsBeginning config logs h → IsSound config h
  sound h begins = record { valid = valid; lawful = begins.lawful }

  unclear : (h : History) → IsBeginning config logs h → HasNoClear h
  unclear h begins = no_clears h (λ p. subst HasNoClear (sym (begins.entries p)) (no_clear_front (length (entries_of p h)) (log_in logs p) (none p)))

  -- the number of waiting messages is that of the accepted ones that were not received
  pub waits : (c : ℕ) (h : History) → IsBeginning config logs h → waiting_on config c h ≡ drop (length (received_on config c h)) (accepted_on config c h)
  waits c h begins = (without_clears config h c (unclear h begins)).waiting

  received_within : (c : ℕ) (h : History) → IsBeginning config logs h → length (received_on config c h) ≤ length (accepted_on config c h)
  received_within c h begins =
      let alone = without_clears config h c (unclear h begins) in
      let kept = ap (λ (ms : List (List ℕ)). length ms) (always_conserved config h c (sound h begins)).messages in
      let both = length-append (messages_of (taken_on config c h)) (waiting_on config c h) in
      let taken : length (messages_of (taken_on config c h)) ≡ length (received_on config c h) =
      length-map (taken_on config c h) (λ (one : Taken). one.message) ∙ (ap (λ (ts : List Taken). length ts) alone.taken ∙ length-map (received_on config c h) as_received) in
      omega (arith, kept, both, taken)

  -- ---- the two ends of a queuing channel

  module _ (c p id : ℕ) (port : Port) (h front : History) (begins : IsBeginning config logs h) (leads : IsBeginning config logs front) where
    -- if the source made no more calls, what was accepted is a prefix of what is accepted
    pub accepted_grows : IsEnd config c p id port Source → length (entries_of p h) ≤ length (entries_of p front)
        → (more : List (List ℕ)) × (accepted_on config c front ≡ accepted_on config c h ++ more)
    accepted_grows end few = subst (λ (d : ℕ). (more : List (List ℕ)) × (accepted_on config d front ≡ accepted_on config d h ++ more)) end.channel
        (let grown = own_grows config logs p h front begins leads few in
        let own = own_accepted config valid p id port end.here end.direction in (
          accepted_on config port.channel grown.0,
          sym (own front) ∙ (ap (λ (es : History). accepted_on config port.channel es) grown.1 ∙ (filter_map-append (message_accepted config port.channel) (entries_of p h) grown.0 ∙ ap (λ (ms : List (List ℕ)). ms ++ accepted_on config port.channel grown.0) (own h))),
        ))

    pub accepted_same : IsEnd config c p id port Source → entries_of p h ≡ entries_of p front → accepted_on config c h ≡ accepted_on config c front
    accepted_same end same = subst (λ (d : ℕ). accepted_on config d h ≡ accepted_on config d front) end.channel
        (let own = own_accepted config valid p id port end.here end.direction in
        sym (own h) ∙ (ap (λ (es : History). accepted_on config port.channel es) same ∙ own front))

    pub received_grows : IsEnd config c p id port Destination → length (entries_of p h) ≤ length (entries_of p front)
        → (more : List (List ℕ)) × (received_on config c front ≡ received_on config c h ++ more)
    received_grows end few = subst (λ (d : ℕ). (more : List (List ℕ)) × (received_on config d front ≡ received_on config d h ++ more)) end.channel
        (let grown = own_grows config logs p h front begins leads few in
        let own = own_received config valid p id port end.here end.direction end.kind in (
          received_on config port.channel grown.0,
          sym (own front) ∙ (ap (λ (es : History). received_on config port.channel es) grown.1 ∙ (filter_map-append (message_received config port.channel) (entries_of p h) grown.0 ∙ ap (λ (ms : List (List ℕ)). ms ++ received_on config port.channel grown.0) (own h))),
        ))

    pub received_same : IsEnd config c p id port Destination → entries_of p h ≡ entries_of p front → received_on config c h ≡ received_on config c front
    received_same end same = subst (λ (d : ℕ). received_on config d h ≡ received_on config d front) end.channel
        (let own = own_received config valid p id port end.here end.direction end.kind in
        sym (own h) ∙ (ap (λ (es : History). received_on config port.channel es) same ∙ own front))

  -- what a partition received and sent in its first calls
  pub received_before : (c p id : ℕ) (port : Port) → IsEnd config c p id port Destination → (h : History) → IsBeginning config logs h → (n : ℕ) → length (entries_of p h) ≡ n
      → length (received_on config c h) ≡ length (received_on config c (take n (log_in logs p)))
  received_before c p id port end h begins n count = subst (λ (d : ℕ). length (received_on config d h) ≡ length (received_on config d (take n (log_in logs p)))) end.channel
      (ap (λ (ms : List (List ℕ)). length ms) (sym (own_received config valid p id port end.here end.direction end.kind h)
      ∙ ap (λ (es : History). received_on config port.channel es) (begins.entries p ∙ ap (λ (k : ℕ). take k (log_in logs p)) count)))

  pub accepted_before : (c p id : ℕ) (port : Port) → IsEnd config c p id port Source → (h : History) → IsBeginning config logs h → (n : ℕ) → length (entries_of p h) ≡ n
      → length (accepted_on config c h) ≡ length (accepted_on config c (take n (log_in logs p)))
  accepted_before c p id port end h begins n count = subst (λ (d : ℕ). length (accepted_on config d h) ≡ length (accepted_on config d (take n (log_in logs p)))) end.channel
      (ap (λ (ms : List (List ℕ)). length ms) (sym (own_accepted config valid p id port end.here end.direction h)
      ∙ ap (λ (es : History). accepted_on config port.channel es) (begins.entries p ∙ ap (λ (k : ℕ). take k (log_in logs p)) count)))

  -- the other end of a queuing port's channel
  same_kind : (p id : ℕ) (port : Port) (q jd : ℕ) (other : Port) → port_of config p id ≡ Some port → port_of config q jd ≡ Some other → other.channel ≡ port.channel
      → is_queuing_port port.kind ≡ true → is_queuing_port other.kind ≡ true
  same_kind p id port q jd other here there shared kind =
      let mine = valid.linked p id port here in
      let theirs = valid.linked q jd other there in
      let both : Some mine.0 ≡ Some theirs.0 = sym mine.1 ∙ (ap (channel_of config) (sym shared) ∙ theirs.1) in
      let same : mine.0 ≡ theirs.0 = cc in
      theirs.2 ∙ (ap (λ (channel : Channel). is_queuing_channel channel.kind) (sym same) ∙ (sym mine.2 ∙ kind))

  has_destination : (c p id : ℕ) (port : Port) → IsEnd config c p id port Source → (q : ℕ) × (jd : ℕ) × HasEnd config c q jd Destination
  has_destination c p id port end =
      let link = valid.linked p id port end.here in
      let found = valid.has_destination port.channel link.0 link.1 in
      let other = found.2 in (
        found.0,
        found.1,
        (
          other,
          record {
            here = found.3;
            direction = found.4;
            channel = found.5 ∙ end.channel;
            kind = same_kind p id port found.0 found.1 other end.here found.3 found.5 end.kind;
          },
        ),
      )

  has_source : (c p id : ℕ) (port : Port) → IsEnd config c p id port Destination → (q : ℕ) × (jd : ℕ) × HasEnd config c q jd Source
  has_source c p id port end =
      let link = valid.linked p id port end.here in
      let found = valid.has_source port.channel link.0 link.1 in
      let other = found.2 in (
        found.0,
        found.1,
        (
          other,
          record {
            here = found.3;
            direction = found.4;
            channel = found.5 ∙ end.channel;
            kind = same_kind p id port found.0 found.1 other end.here found.3 found.5 end.kind;
          },
        ),
      )

  -- ---- what a partition gets while others made fewer calls

  module _ (front : History) (leads : IsBeginning config logs front) (p : ℕ) (h : History) (begins : IsBeginning config logs h) (within : IsWithin h front)
      (same : length (entries_of p h) ≡ length (entries_of p front)) where
    own : entries_of p h ≡ entries_of p front
    own = own_same config logs p h front begins leads same

    same_mode : mode_of p h ≡ mode_of p front
    same_mode = sym (own_mode p h) ∙ (ap (mode_of p) own ∙ own_mode p front)

    same_created : (id : ℕ) → is_created p id h ≡ is_created p id front
    same_created id = sym (own_created p h id) ∙ (ap (is_created p id) own ∙ own_created p front id)

    same_port : (id : ℕ) → queuing_port config (seen config h p) p id ≡ queuing_port config (seen config front p) p id
    same_port id = ap (λ (b : Bool). queuing_only (if b then port_of config p id else None)) (same_created id)

    source_waits : (c id : ℕ) (port : Port) → IsEnd config c p id port Source
        → (length (waiting_on config c front) ≤ length (waiting_on config c h)) × (length (waiting_on config c h) ≤ depth_of config c)
    source_waits c id port end =
        let other = has_destination c p id port end in
        let accepted = ap (λ (ms : List (List ℕ)). length ms) (accepted_same c p id port h front begins leads end own) in
        let received = received_grows c other.0 other.1 other.2.0 h front begins leads other.2.1 (within other.0) in
        let more = ap (λ (ms : List (List ℕ)). length ms) received.1 ∙ length-append (received_on config c h) received.0 in
        let now = ap (λ (ms : List (List ℕ)). length ms) (waits c h begins) ∙ length-drop (length (received_on config c h)) (accepted_on config c h) in
        let later = ap (λ (ms : List (List ℕ)). length ms) (waits c front leads) ∙ length-drop (length (received_on config c front)) (accepted_on config c front) in
        (omega (arith, accepted, more, now, later), (always_conserved config h c (sound h begins)).depth)

    destination_waits : (c id : ℕ) (port : Port) → IsEnd config c p id port Destination → (more : List (List ℕ)) × (waiting_on config c front ≡ waiting_on config c h ++ more)
    destination_waits c id port end =
        let other = has_source c p id port end in
        let received = received_same c p id port h front begins leads end own in
        let accepted = accepted_grows c other.0 other.1 other.2.0 h front begins leads other.2.1 (within other.0) in
        let few = received_within c h begins in (
          accepted.0,
          waits c front leads ∙ (ap (λ (ms : List (List ℕ)). drop (length ms) (accepted_on config c front)) (sym received)
              ∙ (ap (λ (ms : List (List ℕ)). drop (length (received_on config c h)) ms) accepted.1
              ∙ (drop-append-le (length (received_on config c h)) (accepted_on config c h) accepted.0 few ∙ ap (λ (ms : List (List ℕ)). ms ++ accepted.0) (sym (waits c h begins))))),
        )

    -- by the mode, which is the same
    by_idle : (early late : Seen) (a b : Bool) (now after : Row) → a ≡ b
        → (reply_of config early p now ≡ reply_of config late p after) ⊎ (reply_of config early p now ≡ not_available)
        → (reply_of config early p (if a then row.Idle else now) ≡ reply_of config late p (if b then row.Idle else after)) ⊎ (reply_of config early p (if a then row.Idle else now) ≡ not_available)
    by_idle early late true true now after alike given = inl refl
    by_idle early late true false now after alike given = absurd cc
    by_idle early late false true now after alike given = absurd cc
    by_idle early late false false now after alike given = given

    abbrev early : Seen
    early = seen config h p

    abbrev late : Seen
    late = seen config front p

    end_of : (id : ℕ) (q : Port) (way : Direction) → queuing_port config early p id ≡ Some q → q.direction ≡ way → (port_of config p id ≡ Some q) × IsEnd config q.channel p id q way
    end_of id q way is of_way = let found = queuing_here (is_created p id h) (port_of config p id) q is in (found.0, record { here = found.0; direction = of_way; channel = refl; kind = found.1 })

    pub send_alike : (at : Moment) (id : ℕ) (m : List ℕ) → (reply_to config h p at (SendQueuing id m) ≡ reply_to config front p at (SendQueuing id m)) ⊎ (reply_to config h p at (SendQueuing id m) ≡ not_available)
    send_alike at id m = by_idle early late (is_idle (mode_of p h)) (is_idle (mode_of p front)) (send_row config early id (queuing_port config early p id) m) (send_row config late id (queuing_port config late p id) m) (ap is_idle same_mode)
        (subst (λ (port : Option Port). (reply_of config early p (send_row config early id (queuing_port config early p id) m) ≡ reply_of config late p (send_row config late id port m)) ⊎ (reply_of config early p (send_row config early id (queuing_port config early p id) m) ≡ not_available))
        (same_port id)
        (send_replies config early late p id (queuing_port config early p id) m
        (λ q is way.
        let end = end_of id q Source is (source_way q.direction way) in
        let counts = source_waits q.channel id q end.1 in
        subst (λ (port : Option Port). (length (waiting_of config front port) ≤ length (waiting_of config h port)) × (length (waiting_of config h port) ≤ depth_of config q.channel)) (sym end.0) counts)))

    pub receive_alike : (at : Moment) (id : ℕ) → (reply_to config h p at (ReceiveQueuing id) ≡ reply_to config front p at (ReceiveQueuing id)) ⊎ (reply_to config h p at (ReceiveQueuing id) ≡ not_available)
    receive_alike at id = by_idle early late (is_idle (mode_of p h)) (is_idle (mode_of p front)) (receive_row early id (queuing_port config early p id)) (receive_row late id (queuing_port config late p id)) (ap is_idle same_mode)
        (subst (λ (port : Option Port). (reply_of config early p (receive_row early id (queuing_port config early p id)) ≡ reply_of config late p (receive_row late id port)) ⊎ (reply_of config early p (receive_row early id (queuing_port config early p id)) ≡ not_available))
        (same_port id)
        (receive_replies config early late p id (queuing_port config early p id)
        (λ q is way.
        let end = end_of id q Destination is (destination_way q.direction way) in
        let begun = destination_waits q.channel id q end.1 in
        subst (λ (port : Option Port). (more : List (List ℕ)) × (waiting_of config front port ≡ waiting_of config h port ++ more)) (sym end.0) begun)))

    same_last : (id : ℕ) → last_validity_of p id h ≡ last_validity_of p id front
    same_last id = sym (own_last p h id) ∙ (ap (last_validity_of p id) own ∙ own_last p front id)

    abbrev early_waiting : ℕ → List (List ℕ)
    early_waiting id = waiting_of config h (port_of config p id)

    abbrev early_sample : ℕ → Option Sample
    early_sample id = sample_of config h (port_of config p id)

    -- the partition itself sees the same
    seen_same : seen config h p ≡ record { mode = mode_of p front; created = λ id. is_created p id front; last = λ id. last_validity_of p id front; waiting = early_waiting; sample = early_sample }
    seen_same = λ i. record {
      mode = same_mode i;
      created = λ id. same_created id i;
      last = λ id. same_last id i;
      waiting = λ id. waiting_of config h (port_of config p id);
      sample = λ id. sample_of config h (port_of config p id);
    }

    pub own_alike : (at : Moment) (call : Call) → is_own call ≡ true → reply_to config h p at call ≡ reply_to config front p at call
    own_alike at call own =
        ap (λ (s : Seen). reply_of config s p (row_of config s p at call)) seen_same
        ∙ own_reply config p (mode_of p front) (λ id. is_created p id front) (λ id. last_validity_of p id front) early_waiting (λ id. waiting_of config front (port_of config p id)) early_sample (λ id. sample_of config front (port_of config p id)) at call own

  -- ---- next calls that can't be made before others

  pub same_entry : (front : History) (p : ℕ) (h : History) → length (entries_of p h) ≡ length (entries_of p front) → (e entry : Entry) → next_of logs front p ≡ Some e → GoesOn config logs h p entry → entry ≡ e
  same_entry front p h same e entry next goes = let both : Some entry ≡ Some e = sym goes.next ∙ (ap (slice_get (log_in logs p)) same ∙ next) in cc

  pub table : (h : History) (p : ℕ) (e : Entry) → GoesOn config logs h p e → e.reply ≡ reply_to config h p e.at e.call
  table h p e goes = goes.lawful.1 ∙ ap (λ (q : ℕ). reply_to config h q e.at e.call) goes.own

  pub own_held : (front : History) → IsBeginning config logs front → (p : ℕ) (e : Entry) → next_of logs front p ≡ Some e → is_own e.call ≡ true
      → (e.reply ≡ reply_to config front p e.at e.call → ⊥) → NeverNext config logs front p
  own_held front leads p e next kind differs h begins within same entry goes ends =
      let mine : GoesOn config logs h p e = subst (GoesOn config logs h p) (same_entry front p h same e entry next goes) goes in
      differs (table h p e mine ∙ own_alike front leads p h begins within same e.at e.call kind)

  pub held : (front : History) → IsBeginning config logs front → (p : ℕ) (e : Entry) → next_of logs front p ≡ Some e → is_transfer e.call ≡ true
      → (e.reply ≡ reply_to config front p e.at e.call → ⊥) → (e.reply ≡ not_available → ⊥) → NeverNext config logs front p
  held front leads p e next kind differs some h begins within same entry goes ends =
      let mine : GoesOn config logs h p e = subst (GoesOn config logs h p) (same_entry front p h same e entry next goes) goes in
      let is = table h p e mine in
      ⊎_elim (λ (alike : reply_to config h p e.at e.call ≡ reply_to config front p e.at e.call). differs (is ∙ alike)) (λ (no : reply_to config h p e.at e.call ≡ not_available). some (is ∙ no)) (alike e.at e.call kind)
    where
      alike : (at : Moment) (call : Call) → is_transfer call ≡ true → (reply_to config h p at call ≡ reply_to config front p at call) ⊎ (reply_to config h p at call ≡ not_available)
      alike at (SendQueuing id m) kind = send_alike front leads p h begins within same at id m
      alike at (ReceiveQueuing id) kind = receive_alike front leads p h begins within same at id
      alike at _ kind = absurd cc

  -- ---- next calls that would come too soon

  pub source_test : (c p id : ℕ) (port : Port) → IsEnd config c p id port Source → is_source_of c (port_of config p id) ≡ true
  source_test c p id port end = ap (is_source_of c) end.here ∙ ((λ i. is_source (end.direction i) && (port.channel == c)) ∙ (let same = end.channel in grind (arith, nat_tests)))

  pub destination_test : (c p id : ℕ) (port : Port) → IsEnd config c p id port Destination → is_destination_of c (port_of config p id) ≡ true
  destination_test c p id port end = ap (is_destination_of c) end.here ∙ ((λ i. not (is_source (end.direction i)) && (port.channel == c)) ∙ (let same = end.channel in grind (arith, nat_tests)))

  -- the calls at both ends of a channel: the next one, and one to come
  module _ (c p id : ℕ) (port : Port) (q jd : ℕ) (other : Port) (front : History) (leads : IsBeginning config logs front) (e : Entry) (next : next_of logs front p ≡ Some e)
      (j : ℕ) (f : Entry) (here : slice_get (log_in logs q) j ≡ Some f) (later : length (entries_of q front) ≤ j) (none_left : is_code_not_available f.reply ≡ true) where
    -- it is still to come after the next one
    to_come : is_code_not_available e.reply ≡ false → (h : History) → IsBeginning config logs h → IsWithin h front → length (entries_of p h) ≡ length (entries_of p front) → GoesOn config logs h p e
        → length (entries_of q (h ++ e ∷ [])) ≤ j
    to_come given h begins within same goes = ⊎_elim
        (λ (own : p ≡ q).
        let one = subst (λ (n : ℕ). length (entries_of n (h ++ e ∷ [])) ≡ suc (length (entries_of n h))) own (made_mine config logs h p e begins goes) in
        let mine = subst (λ (n : ℕ). length (entries_of n h) ≡ length (entries_of n front)) own same in
        ⊎_elim
        (λ (fewer : length (entries_of q front) < j). omega (arith, one, mine, fewer))
        (λ (no_fewer : j ≤ length (entries_of q front)).
        let at : length (entries_of q front) ≡ j = omega (arith, later, no_fewer) in
        let there : slice_get (log_in logs q) (length (entries_of q front)) ≡ Some e = subst (λ (n : ℕ). slice_get (log_in logs n) (length (entries_of n front)) ≡ Some e) own next in
        let both : Some e ≡ Some f = sym there ∙ (ap (slice_get (log_in logs q)) at ∙ here) in
        let is : e ≡ f = cc in
        absurd (let wrong = ap (λ (x : Entry). is_code_not_available x.reply) is in cc))
        (cases_lt (length (entries_of q front)) j))
        (λ (apart : p ≡ q → ⊥).
        let others = made_others config logs h p e begins goes q apart in
        let few = within q in
        omega (arith, others, few, later))
        (cases_eq p q)

    pub soon_send : IsEnd config c p id port Source → IsEnd config c q jd other Destination → (m : List ℕ) → message_accepted config c e ≡ Some m → f.call ≡ ReceiveQueuing jd → is_code_not_available e.reply ≡ false
        → length (received_on config c (take j (log_in logs q))) ≤ length (accepted_on config c front) → NeverNext config logs front p
    soon_send source destination m sent call given few h begins within same entry goes ends =
        let is = same_entry front p h same e entry next goes in
        let mine : GoesOn config logs h p e = subst (GoesOn config logs h p) is goes in
        let rest : Ends config logs (h ++ e ∷ []) = subst (λ (x : Entry). Ends config logs (h ++ x ∷ [])) is ends in
        never_passed config logs valid front leads q j f here (λ g. n < length (accepted_on config c g)) grows never (h ++ e ∷ []) (begins_push config logs h p e begins mine valid) (to_come given h begins within same mine) (holds mine) rest
      where
        n : ℕ
        n = length (received_on config c (take j (log_in logs q)))

        grows : (g : History) (x : Entry) → n < length (accepted_on config c g) → n < length (accepted_on config c (g ++ x ∷ []))
        grows g x before =
            let more = ap (λ (ms : List (List ℕ)). length ms) (accepted_on-append config c g x) ∙ length-append (accepted_on config c g) (option_to_list (message_accepted config c x)) in
            omega (arith, more, before)

        holds : GoesOn config logs h p e → n < length (accepted_on config c (h ++ e ∷ []))
        holds mine =
            let one = ap (λ (ms : List (List ℕ)). length ms) (accepted_on-append config c h e ∙ ap (λ (o : Option (List ℕ)). accepted_on config c h ++ option_to_list o) sent) ∙ length-append (accepted_on config c h) (m ∷ []) in
            let before = ap (λ (ms : List (List ℕ)). length ms) (accepted_same c p id port h front begins leads source (own_same config logs p h front begins leads same)) in
            omega (arith, one, before, few)

        never : (g : History) → IsBeginning config logs g → length (entries_of q g) ≡ j → n < length (accepted_on config c g) → GoesOn config logs g q f → ⊥
        never g starts count more goes =
            let reply : f.reply ≡ reply_to config g q f.at (ReceiveQueuing jd) = table g q f goes ∙ ap (λ (call : Call). reply_to config g q f.at call) call in
            let empty = none_waits config g q f.at jd f.reply c reply none_left (destination_test c q jd other destination) in
            let all = ap (λ (ms : List (List ℕ)). length ms) (sym (waits c g starts) ∙ empty) in
            let left = length-drop (length (received_on config c g)) (accepted_on config c g) in
            let so_far : length (received_on config c g) ≡ n = received_before c q jd other destination g starts j count in
            omega (arith, all, left, so_far, more)

    pub soon_receive : IsEnd config c p id port Destination → IsEnd config c q jd other Source → (m : List ℕ) → message_received config c e ≡ Some m → (mm : List ℕ) → f.call ≡ SendQueuing jd mm → is_code_not_available e.reply ≡ false
        → length (accepted_on config c (take j (log_in logs q))) < depth_of config c + suc (length (received_on config c front)) → NeverNext config logs front p
    soon_receive destination source m shown mm call given few h begins within same entry goes ends =
        let is = same_entry front p h same e entry next goes in
        let mine : GoesOn config logs h p e = subst (GoesOn config logs h p) is goes in
        let rest : Ends config logs (h ++ e ∷ []) = subst (λ (x : Entry). Ends config logs (h ++ x ∷ [])) is ends in
        never_passed config logs valid front leads q j f here (λ g. n < length (received_on config c g)) grows never (h ++ e ∷ []) (begins_push config logs h p e begins mine valid) (to_come given h begins within same mine) (holds mine) rest
      where
        n : ℕ
        n = length (received_on config c front)

        grows : (g : History) (x : Entry) → n < length (received_on config c g) → n < length (received_on config c (g ++ x ∷ []))
        grows g x before =
            let more = ap (λ (ms : List (List ℕ)). length ms) (received_on-append config c g x) ∙ length-append (received_on config c g) (option_to_list (message_received config c x)) in
            omega (arith, more, before)

        holds : GoesOn config logs h p e → n < length (received_on config c (h ++ e ∷ []))
        holds mine =
            let one = ap (λ (ms : List (List ℕ)). length ms) (received_on-append config c h e ∙ ap (λ (o : Option (List ℕ)). received_on config c h ++ option_to_list o) shown) ∙ length-append (received_on config c h) (m ∷ []) in
            let before = ap (λ (ms : List (List ℕ)). length ms) (received_same c p id port h front begins leads destination (own_same config logs p h front begins leads same)) in
            omega (arith, one, before)

        never : (g : History) → IsBeginning config logs g → length (entries_of q g) ≡ j → n < length (received_on config c g) → GoesOn config logs g q f → ⊥
        never g starts count more goes =
            let reply : f.reply ≡ reply_to config g q f.at (SendQueuing jd mm) = table g q f goes ∙ ap (λ (call : Call). reply_to config g q f.at call) call in
            let full = none_free config g q f.at jd mm f.reply c reply none_left (source_test c q jd other source) in
            let all = ap (λ (ms : List (List ℕ)). length ms) (sym (waits c g starts)) in
            let left = length-drop (length (received_on config c g)) (accepted_on config c g) in
            let within_accepted = received_within c g starts in
            let so_far : length (accepted_on config c g) ≡ length (accepted_on config c (take j (log_in logs q))) = accepted_before c q jd other source g starts j count in
            omega (arith, all, left, so_far, more, full, few, within_accepted)
