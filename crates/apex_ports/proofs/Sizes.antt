-- No message on a channel is longer than the channel's size.
use Rattle.apex_ports.proofs.Common.{◌≡◌, ℕ, zero, suc, ◌-◌, ◌≤◌, Bool, true, false, if◌then◌else◌, List, [], ◌∷◌, length, take, Option, None, Some, refl, sym, ap, ◌∙◌, subst, arith, slice_get, filter_map, cons_option, slice_get-drop, Call, SendQueuing, WriteSampling, Moment, Received, Sample, Configuration, channel_of, port_of, Port, Entry, accepted_on, last_write_on, message_accepted, message_sent}
use Rattle.apex_ports.proofs.Common.{message_written, sample_at, sample_written, taken_on, waiting_on, writes_on, History, is_code_no_error, IsLawful, is_source_of, oldest_reply, reply_to, size_in, size_of_port, seen, sample_of, waiting_of}
use Rattle.apex_ports.proofs.Conserved.{channel_of_source}
use Rattle.apex_ports.proofs.RowCalls.{sent_by_code, written_by_code}
use Rattle.apex_ports.proofs.RowFacts.{sent_at, written_at}

-- one of the list's items gives what the list gives
pub member : {Y : Type 0} (f : Entry → Option Y) (xs : History) (n : ℕ) (y : Y) → slice_get (filter_map f xs) n ≡ Some y
    → (k : ℕ) × (e : Entry) × (slice_get xs k ≡ Some e) × (f e ≡ Some y)
member f [] n y at = absurd cc
member {Y} f (x ∷ xs) n y at = by_first (f x) refl n at (λ k here. member f xs k y here)
  where
    by_first : (o : Option Y) → f x ≡ o → (n : ℕ) → slice_get (cons_option o (filter_map f xs)) n ≡ Some y → ((k : ℕ) → slice_get (filter_map f xs) k ≡ Some y → (j : ℕ) × (e : Entry) × (slice_get xs j ≡ Some e) × (f e ≡ Some y))
        → (j : ℕ) × (e : Entry) × (slice_get (x ∷ xs) j ≡ Some e) × (f e ≡ Some y)
    by_first None is n at rest = let found = rest n at in (suc found.0, found.1, found.2, found.3)
    by_first (Some z) is zero at rest = (0, x, refl, is ∙ at)
    by_first (Some z) is (suc n) at rest = let found = rest n at in (suc found.0, found.1, found.2, found.3)

module _ (config : Configuration) (c : ℕ) where
  -- ---- one entry

  sent_short : (before : History) (p : ℕ) (at : Moment) (call : Call) (m : List ℕ) → is_code_no_error (reply_to config before p at call) ≡ true
      → message_sent config c p call ≡ Some m → length m ≤ size_in (channel_of config c)
  sent_short before p at (SendQueuing id message) m ok is = by_source (is_source_of c (port_of config p id)) refl is
    where
      by_source : (b : Bool) → is_source_of c (port_of config p id) ≡ b → ◌≡◌ {A = Option (List ℕ)} (if b then Some message else None) (Some m) → length m ≤ size_in (channel_of config c)
      by_source false other h = absurd (cc)
      by_source true source h =
          let same : message ≡ m = cc in
          let sent = sent_at config (seen config before p) p at id message (sent_by_code config (seen config before p) p at id message ok) in
          let channel = channel_of_source (port_of config p id) sent.0 c sent.1.found source in
          subst (λ (x : List ℕ × ℕ). length x.0 ≤ size_in (channel_of config x.1)) (λ i. (same i, channel i)) sent.2
  sent_short before p at _ m ok is = absurd (cc)

  written_short : (before : History) (p : ℕ) (at : Moment) (call : Call) (m : List ℕ) → is_code_no_error (reply_to config before p at call) ≡ true
      → message_written config c p call ≡ Some m → length m ≤ size_in (channel_of config c)
  written_short before p at (WriteSampling id message) m ok is = by_source (is_source_of c (port_of config p id)) refl is
    where
      by_source : (b : Bool) → is_source_of c (port_of config p id) ≡ b → ◌≡◌ {A = Option (List ℕ)} (if b then Some message else None) (Some m) → length m ≤ size_in (channel_of config c)
      by_source false other h = absurd (cc)
      by_source true source h =
          let same : message ≡ m = cc in
          let written = written_at config (seen config before p) p at id message (written_by_code config (seen config before p) p at id message ok) in
          let channel = channel_of_source (port_of config p id) written.0 c written.1.found source in
          subst (λ (x : List ℕ × ℕ). length x.0 ≤ size_in (channel_of config x.1)) (λ i. (same i, channel i)) written.2
  written_short before p at _ m ok is = absurd (cc)

  accepted_entry : (before : History) (e : Entry) (m : List ℕ) → e.reply ≡ reply_to config before e.partition e.at e.call → message_accepted config c e ≡ Some m → length m ≤ size_in (channel_of config c)
  accepted_entry before e m replied is = by_code (is_code_no_error e.reply) refl is
    where
      by_code : (b : Bool) → is_code_no_error e.reply ≡ b → ◌≡◌ {A = Option (List ℕ)} (if b then message_sent config c e.partition e.call else None) (Some m) → length m ≤ size_in (channel_of config c)
      by_code false refused h = absurd (cc)
      by_code true ok h = sent_short before e.partition e.at e.call m (ap is_code_no_error (sym replied) ∙ ok) h

  written_entry : (before : History) (e : Entry) (w : Sample) → e.reply ≡ reply_to config before e.partition e.at e.call → sample_written config c e ≡ Some w → length w.message ≤ size_in (channel_of config c)
  written_entry before e w replied is = by_code (is_code_no_error e.reply) refl is
    where
      by_message : (o : Option (List ℕ)) → sample_at e.at o ≡ Some w → o ≡ Some w.message
      by_message None h = absurd (cc)
      by_message (Some m) h = let same : record { message = m; at = e.at } ≡ w = cc in ap (λ (s : Sample). Some s.message) same

      by_code : (b : Bool) → is_code_no_error e.reply ≡ b → ◌≡◌ {A = Option Sample} (if b then sample_at e.at (message_written config c e.partition e.call) else None) (Some w) → length w.message ≤ size_in (channel_of config c)
      by_code false refused h = absurd (cc)
      by_code true ok h =
          written_short before e.partition e.at e.call w.message (ap is_code_no_error (sym replied) ∙ ok) (by_message (message_written config c e.partition e.call) h)

  -- ---- a history

  module _ (h : History) (lawful : IsLawful config h) where
    oldest_short : (m : List ℕ) → slice_get (waiting_on config c h) 0 ≡ Some m → length m ≤ size_in (channel_of config c)
    oldest_short m at =
        let taken = length (taken_on config c h) in
        let among : slice_get (accepted_on config c h) taken ≡ Some m = sym (slice_get-drop taken (accepted_on config c h) 0 taken (omega arith)) ∙ at in
        let found = member (message_accepted config c) h taken m among in
        accepted_entry (take found.0 h) found.1 m (lawful found.0 found.1 found.2).1 found.3

    last_short : (w : Sample) → last_write_on config c h ≡ Some w → length w.message ≤ size_in (channel_of config c)
    last_short w at =
        let found = member (sample_written config c) h (length (writes_on config c h) - 1) w at in
        written_entry (take found.0 h) found.1 w (lawful found.0 found.1 found.2).1 found.3

-- ---- at a port

module _ (config : Configuration) (h : History) (lawful : IsLawful config h) where
  waiting_short : (port : Option Port) (m : List ℕ) → slice_get (waiting_of config h port) 0 ≡ Some m → length m ≤ size_of_port config port
  waiting_short None m at = absurd (cc)
  waiting_short (Some port) m at = oldest_short config port.channel h lawful m at

  first_given : (waiting : List (List ℕ)) (m : List ℕ) → oldest_reply waiting ≡ Received m → slice_get waiting 0 ≡ Some m
  first_given [] m is = absurd (cc)
  first_given (x ∷ rest) m is = let same : x ≡ m = cc in ap Some same

  pub received_short : (port : Option Port) (m : List ℕ) → oldest_reply (waiting_of config h port) ≡ Received m → length m ≤ size_of_port config port
  received_short port m is = waiting_short port m (first_given (waiting_of config h port) m is)

  pub sample_short : (port : Option Port) (w : Sample) → sample_of config h port ≡ Some w → length w.message ≤ size_of_port config port
  sample_short None w at = absurd (cc)
  sample_short (Some port) w at = last_short config port.channel h lawful w at
