-- The law of every lawful history: no message is lost, doubled or reordered, and at most the depth wait.
use Rattle.apex_ports.proofs.Common.{◌≡◌, ℕ, ◌≤◌, ◌==◌, Bool, true, false, if◌then◌else◌, List, [], ◌∷◌, ◌++◌, length, drop, map, Option, Some, None, refl, sym, ap, ◌∙◌, subst, arith, length-append, append_assoc, append-nil, slice_get, nat_tests, length-map, Call, SendQueuing, ReceiveQueuing, ClearQueuing, WriteSampling, Moment, Taken, Reply, Configuration, IsConfiguration, port_of, channel_of, is_queuing_port}
use Rattle.apex_ports.proofs.Common.{is_queuing_channel, depth_of_kind, Port, Entry, Row, Refused, Sent, History, entry_of, mode_of, is_idle, is_code_no_error, is_created, queuing_only, sampling_only, is_queuing, is_queue, is_source, is_source_of, is_destination_of, accepted_on, taken_on, cleared_on, waiting_on, messages_of, message_in, message_sent, message_accepted, message_received, clears, as_cleared}
use Rattle.apex_ports.proofs.Common.{sample_at, depth_of, depth_in, send_row, oldest_row, receive_row, write_row, oldest_reply, reply_of, reply_to, IsConserved, AlwaysConserved, Seen, seen, waiting_of, queuing_port, sampling_port, IsSound}
use Rattle.std.proofs.Common.{length-drop}
use Rattle.std.proofs.lemmas.List.Sums.{length-filter, count_by-le-length}
use Rattle.apex_module.specs.declared.channel.Channel.{Channel}
use Rattle.apex_module.specs.declared.channel.ChannelKind.{ChannelKind}
use Rattle.apex_module.specs.declared.channel.ChannelKind.TheVariants.{Queuing, Sampling}
use Rattle.apex_ports.specs.declared.rows.Refusal.TheVariants.{EmptyMessage, MessageTooLong, NotSource, NotDestination, QueueFull}
use Rattle.apex_ports.specs.declared.rows.Row.TheVariants as row
use Rattle.apex_ports.specs.LawfulLaws.{along_lawful}
use Rattle.apex_ports.proofs.Histories.{accepted-sent, taken-received, taken-cleared, waiting-sent, waiting-received, waiting-cleared, received_conserved, cleared_conserved}
use Rattle.apex_ports.proofs.Stays.{LeavesChannel, leaves_channel, accepted_stays, taken_stays, waiting_stays, sample_stays, none_or_none, and_true, and_false}

-- ---- what a reply of the table says about the port

-- the port is created, so it is configured
pub queuing_configured : (b : Bool) (port : Option Port) (q : Port) → queuing_only (if b then port else None) ≡ Some q → port ≡ Some q
queuing_configured false port q is = absurd (cc)
queuing_configured true None q is = absurd (cc)
queuing_configured true (Some port) q is = by_kind (is_queuing_port port.kind) is
  where
    by_kind : (b : Bool) → ◌≡◌ {A = Option Port} (if b then Some port else None) (Some q) → Some port ≡ Some q
    by_kind true h = h
    by_kind false h = absurd (cc)

-- a sampling port that is created is configured
pub sampling_configured : (b : Bool) (port : Option Port) (q : Port) → sampling_only (if b then port else None) ≡ Some q → (port ≡ Some q) × (is_queuing_port q.kind ≡ false)
sampling_configured false port q is = absurd (cc)
sampling_configured true None q is = absurd (cc)
sampling_configured true (Some port) q is = by_kind (is_queuing_port port.kind) refl is
  where
    by_kind : (b : Bool) → is_queuing_port port.kind ≡ b → ◌≡◌ {A = Option Port} (if b then None else Some port) (Some q) → (Some port ≡ Some q) × (is_queuing_port q.kind ≡ false)
    by_kind true kind h = absurd (cc)
    by_kind false kind h = let same : port ≡ q = cc in (h, subst (λ (x : Port). is_queuing_port x.kind ≡ false) same kind)

pub channel_of_source : (port : Option Port) (q : Port) (c : ℕ) → port ≡ Some q → is_source_of c port ≡ true → q.channel ≡ c
channel_of_source port q c is source =
    let test = (and_true (is_source q.direction) (q.channel == c) (ap (is_source_of c) (sym is) ∙ source)).1 in
    grind (arith, nat_tests)

channel_of_destination : (port : Option Port) (q : Port) (c : ℕ) → port ≡ Some q → is_destination_of c port ≡ true → q.channel ≡ c
channel_of_destination None q c is destination = absurd (cc)
channel_of_destination (Some port) q c is destination =
    let same : port ≡ q = cc in
    let test = (and_true _ (port.channel == c) destination).1 in
    let here : port.channel ≡ c = grind (arith, nat_tests) in
    subst (λ (x : Port). x.channel ≡ c) same here

module _ (config : Configuration) (s : Seen) (p : ℕ) where
  served : (idle : Bool) (given : Row) → is_code_no_error (reply_of config s p (if idle then row.Idle else given)) ≡ true → is_code_no_error (reply_of config s p given) ≡ true
  served true given ok = absurd (cc)
  served false given ok = ok

  received_served : (idle : Bool) (given : Row) (m : List ℕ) → message_in (reply_of config s p (if idle then row.Idle else given)) ≡ Some m → message_in (reply_of config s p given) ≡ Some m
  received_served true given m ok = absurd (cc)
  received_served false given m ok = ok

  -- an accepted send found a port with room
  accepting : (id : ℕ) (port : Option Port) (m : List ℕ) → is_code_no_error (reply_of config s p (send_row config s id port m)) ≡ true
      → (q : Port) × (port ≡ Some q) × ((length (s.waiting id) == depth_of config q.channel) ≡ false)
  accepting id None m ok = absurd (cc)
  accepting id (Some q) m ok = (q, refl, by_tests _ _ _ _ ok)
    where
      by_tests : (empty long destination full : Bool) → is_code_no_error (reply_of config s p (if empty then Refused EmptyMessage else if long then Refused MessageTooLong else if destination then Refused NotSource else if full then Refused QueueFull else Sent)) ≡ true → full ≡ false
      by_tests true long destination full h = absurd (cc)
      by_tests false true destination full h = absurd (cc)
      by_tests false false true full h = absurd (cc)
      by_tests false false false true h = absurd (cc)
      by_tests false false false false h = refl

  -- a receive that shows a message shows the oldest
  receiving : (id : ℕ) (port : Option Port) (m : List ℕ) → message_in (reply_of config s p (receive_row s id port)) ≡ Some m → (q : Port) × (port ≡ Some q) × (slice_get (s.waiting id) 0 ≡ Some m)
  receiving id None m ok = absurd (cc)
  receiving id (Some q) m ok = (q, refl, by_test (is_source q.direction) (s.waiting id) ok)
    where
      oldest : (waiting : List (List ℕ)) → message_in (oldest_reply waiting) ≡ Some m → slice_get waiting 0 ≡ Some m
      oldest [] h = absurd (cc)
      oldest (x ∷ rest) h = h

      by_test : (source : Bool) (waiting : List (List ℕ)) → message_in (reply_of config s p (if source then Refused NotDestination else oldest_row id waiting)) ≡ Some m → slice_get (s.waiting id) 0 ≡ Some m
      by_test true waiting h = absurd (cc)
      by_test false [] h = absurd (cc)
      by_test false (x ∷ rest) h = oldest (s.waiting id) h

  -- an accepted write found a sampling port
  writing : (port : Option Port) (m : List ℕ) → is_code_no_error (reply_of config s p (write_row config port m)) ≡ true → (q : Port) × (port ≡ Some q)
  writing None m ok = absurd (cc)
  writing (Some q) m ok = (q, refl)

module _ (config : Configuration) (h : History) (p : ℕ) (at : Moment) (id : ℕ) (m : List ℕ) (reply : Reply) (c : ℕ) where
  abbrev here : Seen
  here = seen config h p

  pub send_free : reply ≡ reply_to config h p at (SendQueuing id m) → is_code_no_error reply ≡ true → is_source_of c (port_of config p id) ≡ true
      → (length (waiting_on config c h) == depth_of config c) ≡ false
  send_free is ok source =
      let found = accepting config here p id (queuing_port config here p id) m (served config here p (is_idle (mode_of p h)) _ (ap is_code_no_error (sym is) ∙ ok)) in
      let configured = queuing_configured (is_created p id h) (port_of config p id) found.0 found.1 in
      let free = subst (λ (o : Option Port). (length (waiting_of config h o) == depth_of config found.0.channel) ≡ false) configured found.2 in
      subst (λ (d : ℕ). (length (waiting_on config d h) == depth_of config d) ≡ false) (channel_of_source (port_of config p id) found.0 c configured source) free

  receive_oldest : reply ≡ reply_to config h p at (ReceiveQueuing id) → message_in reply ≡ Some m → is_destination_of c (port_of config p id) ≡ true
      → slice_get (waiting_on config c h) 0 ≡ Some m
  receive_oldest is shown destination =
      let found = receiving config here p id (queuing_port config here p id) m (received_served config here p (is_idle (mode_of p h)) _ m (ap message_in (sym is) ∙ shown)) in
      let configured = queuing_configured (is_created p id h) (port_of config p id) found.0 found.1 in
      let oldest = subst (λ (o : Option Port). slice_get (waiting_of config h o) 0 ≡ Some m) configured found.2 in
      subst (λ (d : ℕ). slice_get (waiting_on config d h) 0 ≡ Some m) (channel_of_destination (port_of config p id) found.0 c configured destination) oldest

  pub write_sampling : IsConfiguration config → reply ≡ reply_to config h p at (WriteSampling id m) → is_code_no_error reply ≡ true → is_source_of c (port_of config p id) ≡ true
      → is_queuing config c ≡ false
  write_sampling valid is ok source =
      let found = writing config here p (sampling_port config here p id) m (served config here p (is_idle (mode_of p h)) _ (ap is_code_no_error (sym is) ∙ ok)) in
      let configured = sampling_configured (is_created p id h) (port_of config p id) found.0 found.1 in
      let link = valid.linked p id found.0 configured.0 in
      let kind : is_queuing config found.0.channel ≡ false = ap is_queue link.1 ∙ sym link.2 ∙ configured.1 in
      subst (λ (d : ℕ). is_queuing config d ≡ false) (channel_of_source (port_of config p id) found.0 c configured.0 source) kind

-- no message can wait on a sampling channel
no_depth : (channel : Option Channel) → is_queue channel ≡ false → depth_in channel ≡ 0
no_depth None kind = refl
no_depth (Some channel) kind = by_kind channel.kind kind
  where
    by_kind : (of_channel : ChannelKind) → is_queuing_channel of_channel ≡ false → depth_of_kind of_channel ≡ 0
    by_kind (Queuing depth) h = absurd (cc)
    by_kind Sampling h = refl

-- ---- one more entry

module _ (config : Configuration) (h : History) (c p : ℕ) (at : Moment) (reply : Reply) (was : IsConserved config h c) where
  stays : (call : Call) → LeavesChannel config c (entry_of p at call reply) → IsConserved config (h ++ entry_of p at call reply ∷ []) c
  stays call left =
      let e = entry_of p at call reply in
      let accepted = accepted_stays config c h e left.accepted in
      let taken = taken_stays config c h e left.received left.cleared in
      let waiting = waiting_stays config c h e left.accepted left.received left.cleared in
      record {
        messages = (λ i. messages_of (taken i) ++ waiting i) ∙ (was.messages ∙ sym accepted);
        depth = subst (λ (xs : List (List ℕ)). length xs ≤ depth_of config c) (sym waiting) was.depth;
        sampling = λ kind. accepted ∙ was.sampling kind;
        queuing = λ kind. sample_stays config h e c left.written ∙ was.queuing kind;
      }

  sends : (id : ℕ) (m : List ℕ) → reply ≡ reply_to config h p at (SendQueuing id m) → IsConserved config (h ++ entry_of p at (SendQueuing id m) reply ∷ []) c
  sends id m is = by_source (is_source_of c (port_of config p id)) refl
    where
      e : Entry
      e = entry_of p at (SendQueuing id m) reply

      by_code : (b : Bool) → is_code_no_error reply ≡ b → is_source_of c (port_of config p id) ≡ true → IsConserved config (h ++ e ∷ []) c
      by_code false refused source = stays (SendQueuing id m) (record {
        accepted = λ i. if refused i then message_sent config c p (SendQueuing id m) else None;
        received = refl;
        cleared = and_false (is_code_no_error reply);
        written = λ i. if refused i then sample_at at None else None;
      })
      by_code true ok source =
          let sent : message_accepted config c e ≡ Some m = λ i. if ok i then (if source i then Some m else None) else None in
          let accepted = accepted-sent config c h e m sent in
          let no_clear = and_false (is_code_no_error reply) in
          let taken = taken_stays config c h e refl no_clear in
          let waiting = waiting-sent config c h e was m sent refl no_clear in
          let free = send_free config h p at id m reply c is ok source in
          let before = was.depth in
          record {
            messages = (λ i. messages_of (taken i) ++ waiting i) ∙ (sym (append_assoc (messages_of (taken_on config c h)) (waiting_on config c h) (m ∷ [])) ∙ (ap (λ xs. xs ++ m ∷ []) was.messages ∙ sym accepted));
            depth =
                let grown : length (waiting_on config c (h ++ e ∷ [])) ≡ length (waiting_on config c h ++ m ∷ []) = ap (λ (xs : List (List ℕ)). length xs) waiting in
                let longer = length-append (waiting_on config c h) (m ∷ []) in
                grind (arith, nat_tests);
            sampling = λ kind.
                let none : depth_of config c ≡ 0 = no_depth (channel_of config c) kind in
                absurd (grind (arith, nat_tests));
            queuing = λ kind. sample_stays config h e c ((λ i. if ok i then sample_at at None else None)) ∙ was.queuing kind;
          }

      by_source : (b : Bool) → is_source_of c (port_of config p id) ≡ b → IsConserved config (h ++ e ∷ []) c
      by_source false off = stays (SendQueuing id m) (leaves_channel config c p at (SendQueuing id m) reply (record { sends = λ i. if off i then Some m else None; receives = refl; clears = refl; writes = refl }))
      by_source true source = by_code (is_code_no_error reply) refl source

  receives : (id : ℕ) → reply ≡ reply_to config h p at (ReceiveQueuing id) → IsConserved config (h ++ entry_of p at (ReceiveQueuing id) reply ∷ []) c
  receives id is = by_destination (is_destination_of c (port_of config p id)) refl
    where
      e : Entry
      e = entry_of p at (ReceiveQueuing id) reply

      by_message : (shown : Option (List ℕ)) → message_in reply ≡ shown → is_destination_of c (port_of config p id) ≡ true → IsConserved config (h ++ e ∷ []) c
      by_message None none destination = stays (ReceiveQueuing id) (record {
        accepted = none_or_none (is_code_no_error reply);
        received = λ i. if destination i then none i else None;
        cleared = and_false (is_code_no_error reply);
        written = none_or_none (is_code_no_error reply);
      })
      by_message (Some m) shown destination =
          let no_send : message_accepted config c e ≡ None = none_or_none (is_code_no_error reply) in
          let received_now : message_received config c e ≡ Some m = λ i. if destination i then shown i else None in
          let oldest = receive_oldest config h p at id m reply c is shown destination in
          let accepted = accepted_stays config c h e no_send in
          let no_clear = and_false (is_code_no_error reply) in
          let taken = taken-received config c h e m received_now no_clear in
          let waiting = waiting-received config c h e was m no_send received_now no_clear oldest in
          let before = was.depth in
          record {
            messages = (λ i. messages_of (taken i) ++ waiting i) ∙ (received_conserved config c h e was m oldest ∙ sym accepted);
            depth =
                let fewer : length (waiting_on config c (h ++ e ∷ [])) ≡ length (drop 1 (waiting_on config c h)) = ap (λ (xs : List (List ℕ)). length xs) waiting in
                omega (arith, length-drop 1 (waiting_on config c h));
            sampling = λ kind. accepted ∙ was.sampling kind;
            queuing = λ kind. sample_stays config h e c (none_or_none (is_code_no_error reply)) ∙ was.queuing kind;
          }

      by_destination : (b : Bool) → is_destination_of c (port_of config p id) ≡ b → IsConserved config (h ++ e ∷ []) c
      by_destination false off = stays (ReceiveQueuing id) (leaves_channel config c p at (ReceiveQueuing id) reply (record { sends = refl; receives = off; clears = refl; writes = refl }))
      by_destination true destination = by_message (message_in reply) refl destination

  clears_all : (id : ℕ) → IsConserved config (h ++ entry_of p at (ClearQueuing id) reply ∷ []) c
  clears_all id = by_clear (clears config c e) refl
    where
      e : Entry
      e = entry_of p at (ClearQueuing id) reply

      no_send : message_accepted config c e ≡ None
      no_send = none_or_none (is_code_no_error reply)

      by_clear : (b : Bool) → clears config c e ≡ b → IsConserved config (h ++ e ∷ []) c
      by_clear false none = stays (ClearQueuing id) (record { accepted = no_send; received = refl; cleared = none; written = none_or_none (is_code_no_error reply) })
      by_clear true clear =
          let accepted = accepted_stays config c h e no_send in
          let taken = taken-cleared config c h e clear in
          let waiting = waiting-cleared config c h e was no_send clear in
          record {
            messages = (λ i. messages_of (taken i) ++ waiting i) ∙ (append-nil (messages_of (taken_on config c h ++ map as_cleared (waiting_on config c h))) ∙ (cleared_conserved config c h e was ∙ sym accepted));
            depth = subst (λ (xs : List (List ℕ)). length xs ≤ depth_of config c) (sym waiting) (omega arith);
            sampling = λ kind. accepted ∙ was.sampling kind;
            queuing = λ kind. sample_stays config h e c (none_or_none (is_code_no_error reply)) ∙ was.queuing kind;
          }

  writes : (id : ℕ) (m : List ℕ) → IsConfiguration config → reply ≡ reply_to config h p at (WriteSampling id m) → IsConserved config (h ++ entry_of p at (WriteSampling id m) reply ∷ []) c
  writes id m valid is = by_source (is_source_of c (port_of config p id)) refl
    where
      e : Entry
      e = entry_of p at (WriteSampling id m) reply

      by_code : (b : Bool) → is_code_no_error reply ≡ b → is_source_of c (port_of config p id) ≡ true → IsConserved config (h ++ e ∷ []) c
      by_code false refused source = stays (WriteSampling id m) (record {
        accepted = none_or_none (is_code_no_error reply);
        received = refl;
        cleared = and_false (is_code_no_error reply);
        written = λ i. if refused i then sample_at at (if is_source_of c (port_of config p id) then Some m else None) else None;
      })
      by_code true ok source =
          let no_send : message_accepted config c e ≡ None = none_or_none (is_code_no_error reply) in
          let accepted = accepted_stays config c h e no_send in
          let no_clear = and_false (is_code_no_error reply) in
          let taken = taken_stays config c h e refl no_clear in
          let waiting = waiting_stays config c h e no_send refl no_clear in
          let sampling_kind = write_sampling config h p at id m reply c valid is ok source in
          record {
            messages = (λ i. messages_of (taken i) ++ waiting i) ∙ (was.messages ∙ sym accepted);
            depth = subst (λ (xs : List (List ℕ)). length xs ≤ depth_of config c) (sym waiting) was.depth;
            sampling = λ kind. accepted ∙ was.sampling kind;
            queuing = λ kind. absurd (cc);
          }

      by_source : (b : Bool) → is_source_of c (port_of config p id) ≡ b → IsConserved config (h ++ e ∷ []) c
      by_source false off = stays (WriteSampling id m) (leaves_channel config c p at (WriteSampling id m) reply (record { sends = refl; receives = refl; clears = refl; writes = λ i. if off i then Some m else None }))
      by_source true source = by_code (is_code_no_error reply) refl source

  one_more : (call : Call) → IsConfiguration config → reply ≡ reply_to config h p at call → IsConserved config (h ++ entry_of p at call reply ∷ []) c
  one_more (SendQueuing id m) valid is = sends id m is
  one_more (ReceiveQueuing id) valid is = receives id is
  one_more (ClearQueuing id) valid is = clears_all id
  one_more (WriteSampling id m) valid is = writes id m valid is
  one_more call valid is = stays call (leaves_channel config c p at call reply (record { sends = refl; receives = refl; clears = refl; writes = refl }))

none_yet : (config : Configuration) (c : ℕ) → IsConserved config [] c
none_yet config c = record {
  messages = refl;
  depth = omega arith;
  sampling = λ _. refl;
  queuing = λ _. refl;
}

pub always_conserved : AlwaysConserved
always_conserved config h c sound =
    along_lawful config (λ (g : History). IsConserved config g c)
    (λ g e lawful was. one_more config g c e.partition e.at e.reply was e.call sound.valid lawful.1)
    [] h sound.lawful (none_yet config c)

-- no message waits on a sampling channel
pub sampling_waits_nothing : (config : Configuration) (h : History) (c : ℕ) → IsSound config h → is_queuing config c ≡ false → waiting_on config c h ≡ []
sampling_waits_nothing config h c sound sampling =
    let conserved = always_conserved config h c sound in
    back_of_nil (messages_of (taken_on config c h)) (waiting_on config c h) (conserved.messages ∙ conserved.sampling sampling)
  where
    back_of_nil : (xs ys : List (List ℕ)) → xs ++ ys ≡ [] → ys ≡ []
    back_of_nil [] ys e = e
    back_of_nil (x ∷ xs) ys e = absurd (cc)

-- no more messages are cleared than were accepted
pub cleared_within : (config : Configuration) (h : History) (c : ℕ) → IsSound config h → length (cleared_on config c h) ≤ length (accepted_on config c h)
cleared_within config h c sound =
    let taken = taken_on config c h in
    let whole = ap (λ (xs : List (List ℕ)). length xs) (always_conserved config h c sound).messages in
    let fewer : length (cleared_on config c h) ≤ length taken = rw (length-filter (λ (one : Taken). one.cleared) taken) (count_by-le-length (λ (one : Taken). one.cleared) taken) in
    omega (arith, whole, fewer, length-map taken (λ (one : Taken). one.message), length-append (messages_of taken) (waiting_on config c h))
