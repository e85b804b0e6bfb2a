-- Reads of messages that can't have been written yet, and writes that come too soon for a read.
use Rattle.apex_log_orders.proofs.Common.{◌≡◌, ℕ, zero, suc, ◌<◌, ◌==◌, Bool, true, false, cond, if◌then◌else◌, List, [], ◌∷◌, length, Option, Some, None, refl, sym, ap, ◌∙◌, subst, arith, slice_get, nat_tests, slice_get_within, ReadSampling, Moment, Read, Sample, Configuration, IsConfiguration, port_of, refresh_of_kind, Port, Entry, NotDestination, Row, History, entries_of, sample_at, sample_written, message_written}
use Rattle.apex_log_orders.proofs.Common.{last_write_on, mode_of, is_idle, is_code_no_error, is_created, is_source, read_row, last_row, last_reply, reply_of, reply_to, Seen, seen, sample_of, sampling_port, sampling_configured, taken_from, Logs, log_in, IsBeginning, GoesOn, next_of, NeverNext, HaveNoClear, Writes, NoneWrites}
use Rattle.apex_types.specs.declared.validity.Validity.{Validity}
use Rattle.apex_types.specs.Sample.{validity_at}
use Rattle.apex_ports.specs.declared.rows.Row.TheVariants as row
use Rattle.apex_ports.specs.declared.rows.Row.TheVariants.{Refused}
use Rattle.apex_ports.proofs.Sizes.{member}
use Rattle.apex_log_orders.proofs.NeverNexts.{same_entry, table}

-- ---- lists

-- an entry is among its partition's own
in_own : (p : ℕ) (h : History) (k : ℕ) (e : Entry) → e.partition ≡ p → slice_get h k ≡ Some e → (j : ℕ) × (slice_get (entries_of p h) j ≡ Some e)
in_own p [] k e own at = absurd cc
in_own p (x ∷ h) zero e own at = by_test (x.partition == p) refl
  where
    by_test : (b : Bool) → (x.partition == p) ≡ b → (j : ℕ) × (slice_get (cond b (x ∷ entries_of p h) (entries_of p h)) j ≡ Some e)
    by_test true is = (0, at)
    by_test false is = absurd (let same : x ≡ e = cc in let mine : x.partition ≡ p = ap (λ (y : Entry). y.partition) same ∙ own in grind (arith, nat_tests))
in_own p (x ∷ h) (suc k) e own at = by_test (x.partition == p) (in_own p h k e own at)
  where
    by_test : (b : Bool) → (j : ℕ) × (slice_get (entries_of p h) j ≡ Some e) → (j : ℕ) × (slice_get (cond b (x ∷ entries_of p h) (entries_of p h)) j ≡ Some e)
    by_test true rest = (suc rest.0, rest.1)
    by_test false rest = rest

-- ---- what is written and read

writes_its : (config : Configuration) (c : ℕ) (e : Entry) (w : Sample) → sample_written config c e ≡ Some w → Writes config c w.message e
writes_its config c e w is = by_code (is_code_no_error e.reply) is
  where
    by_message : (o : Option (List ℕ)) → sample_at e.at o ≡ Some w → o ≡ Some w.message
    by_message None h = absurd cc
    by_message (Some m) h = let same : record { message = m; at = e.at } ≡ w = cc in ap (λ (s : Sample). Some s.message) same

    by_code : (b : Bool) → ◌≡◌ {A = Option Sample} (if b then sample_at e.at (message_written config c e.partition e.call) else None) (Some w) → Writes config c w.message e
    by_code true h = by_message (message_written config c e.partition e.call) h
    by_code false h = absurd cc

module _ (config : Configuration) (s : Seen) (p : ℕ) (m : List ℕ) (v : Validity) where
  made : (idle : Bool) (given : Row) → reply_of config s p (if idle then row.Idle else given) ≡ Read m v → reply_of config s p given ≡ Read m v
  made true given is = absurd cc
  made false given is = is

  reading : (now : Moment) (id : ℕ) (port : Option Port) → reply_of config s p (read_row s now id port) ≡ Read m v → (q : Port) × (w : Sample) × (port ≡ Some q) × (s.sample id ≡ Some w) × (w.message ≡ m)
  reading now id None is = absurd cc
  reading now id (Some q) is = by_test (is_source q.direction) (s.sample id) refl is
    where
      by_test : (source : Bool) (sample : Option Sample) → s.sample id ≡ sample → reply_of config s p (if source then Refused NotDestination else last_row now id (refresh_of_kind q.kind) sample) ≡ Read m v
          → (x : Port) × (w : Sample) × (Some q ≡ Some x) × (s.sample id ≡ Some w) × (w.message ≡ m)
      by_test true sample at h = absurd cc
      by_test false None at h = absurd cc
      by_test false (Some w) at h =
          let shown : last_reply (validity_at now.0 w.at.0 (refresh_of_kind q.kind)) (Some w) ≡ Read m v =
          ap (last_reply (validity_at now.0 w.at.0 (refresh_of_kind q.kind))) (sym at) ∙ h in
          (q, w, refl, at, cc)

-- a read that shows a message shows the last sample's
shows : (config : Configuration) (h : History) (p : ℕ) (at : Moment) (id : ℕ) (m : List ℕ) (v : Validity) (q : Port) → port_of config p id ≡ Some q
    → reply_to config h p at (ReadSampling id) ≡ Read m v → (w : Sample) × (last_write_on config q.channel h ≡ Some w) × (w.message ≡ m)
shows config h p at id m v q here is =
    let now = seen config h p in
    let found = reading config now p m v at id (sampling_port config now p id) (made config now p m v (is_idle (mode_of p h)) _ is) in
    let configured = (sampling_configured (is_created p id h) (port_of config p id) found.0 found.2).0 in
    let last : sample_of config h (port_of config p id) ≡ Some found.1 = found.3 in
    (found.1, ap (sample_of config h) (sym here) ∙ last, found.4)

module _ (config : Configuration) (valid : IsConfiguration config) (logs : Logs) (none : HaveNoClear logs) where
  pub read_held : (front : History) → IsBeginning config logs front → (p : ℕ) (e : Entry) → next_of logs front p ≡ Some e
      → (id : ℕ) (m : List ℕ) (v : Validity) (q : Port) → e.call ≡ ReadSampling id → e.reply ≡ Read m v → port_of config p id ≡ Some q
      → ((s : ℕ) → s < length config.partitions → NoneWrites config q.channel m (log_in logs s) 0 (length (entries_of s front))) → NeverNext config logs front p
  read_held front leads p e next id m v q call reply here unwritten h begins within same entry goes ends =
      let c = q.channel in
      let mine : GoesOn config logs h p e = subst (GoesOn config logs h p) (same_entry config valid logs none front p h same e entry next goes) goes in
      let is : reply_to config h p e.at (ReadSampling id) ≡ Read m v = ap (reply_to config h p e.at) (sym call) ∙ (sym (table config valid logs none h p e mine) ∙ reply) in
      let shown = shows config h p e.at id m v q here is in
      let found = member (sample_written config c) h _ shown.0 shown.1 in
      let x = found.1 in
      let s = x.partition in
      let own = in_own s h found.0 x refl found.2 in
      let j = own.0 in
      let few : j < length (entries_of s h) = slice_get_within (entries_of s h) j x own.1 in
      let more = within s in
      let there : slice_get (log_in logs s) j ≡ Some x = taken_from (length (entries_of s h)) (log_in logs s) j x (ap (λ (es : History). slice_get es j) (sym (begins.entries s)) ∙ own.1) in
      unwritten s (begins.lawful found.0 x found.2).0 j x (omega arith) (omega (arith, few, more)) there
      (writes_its config c x shown.0 found.3 ∙ ap Some shown.2)
