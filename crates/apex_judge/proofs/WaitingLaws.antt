-- What waits after a lawful entry.
use Rattle.apex_judge.proofs.Common.{◌≡◌, ℕ, suc, ◌==◌, Bool, true, false, ◌&&◌, ◌||◌, if◌then◌else◌, List, [], ◌∷◌, ◌++◌, length, Option, Some, None, refl, sym, ap, ◌∙◌, subst, arith, append_assoc, bytes_eq, nat_tests, map-append, bytes_eq-Decides, Call, SendQueuing, ReceiveQueuing, ClearQueuing, Moment, Reply, Configuration, port_of, Port, Entry, History, entry_of, mode_of, is_idle, is_code_no_error, is_created}
use Rattle.apex_judge.proofs.Common.{is_source, is_source_of, is_destination_of, accepted_on, taken_on, waiting_on, messages_of, as_received, message_in, message_accepted, message_received, clears, oldest_row, receive_row, oldest_reply, reply_of, reply_to, Seen, seen, waiting_of, queuing_port, IsSound, none_or_none, and_true, and_false, accepted_stays, waiting_stays, is_code_not_available, empties, behind}
use Rattle.apex_judge.proofs.Common.{left_after, waiting_after}
use Rattle.std.specs.Prelude.{nat_lt}
use Rattle.apex_types.specs.declared.taken.Taken.{Taken}
use Rattle.apex_ports.specs.declared.rows.Refusal.TheVariants.{NotDestination}
use Rattle.apex_ports.specs.declared.rows.Row.{Row}
use Rattle.apex_ports.specs.declared.rows.Row.TheVariants as row
use Rattle.apex_ports.specs.declared.rows.Row.TheVariants.{Refused}
use Rattle.apex_ports.proofs.Conserved.{always_conserved, queuing_configured}
use Rattle.apex_ports.proofs.Histories.{taken-received, waiting-sent, waiting-cleared}
use Rattle.apex_judge.proofs.ChannelSteps.{LeavesShown, same_after, both_off, send_elsewhere, send_refused, sent_after, receive_elsewhere, receive_without, received_after, none_after, clear_elsewhere, clear_refused, cleared_after}

first_taken : (m : List ℕ) (rest : List (List ℕ)) → left_after (Some m) (m ∷ rest) ≡ rest
first_taken m rest =
    let same : bytes_eq m m ≡ true = (bytes_eq-Decides m m).1 refl in
    let some : nat_lt 0 (suc (length rest)) ≡ true = grind (arith, nat_tests) in
    rw same (ap (λ (b : Bool). behind (if b then Some 0 else None) (m ∷ rest)) some)

same_rest : {X : Type 0} (front xs ys : List X) → front ++ xs ≡ front ++ ys → xs ≡ ys
same_rest [] xs ys same = same
same_rest (z ∷ front) xs ys same = let rest : front ++ xs ≡ front ++ ys = cc in same_rest front xs ys rest

left_off : (a b : Bool) → (a || b) ≡ false → a ≡ false
left_off true b off = absurd (cc)
left_off false b off = refl

channel_of_destination : (port : Option Port) (q : Port) (c : ℕ) → port ≡ Some q → is_destination_of c port ≡ true → q.channel ≡ c
channel_of_destination None q c is destination = absurd (cc)
channel_of_destination (Some port) q c is destination =
    let same : port ≡ q = cc in
    let test = (and_true _ (port.channel == c) destination).1 in
    let here : port.channel ≡ c = grind (arith, nat_tests) in
    subst (λ (x : Port). x.channel ≡ c) same here

-- ---- a receive of the table that finds nothing

module _ (config : Configuration) (s : Seen) (p : ℕ) where
  served : (idle : Bool) (given : Row) → is_code_not_available (reply_of config s p (if idle then row.Idle else given)) ≡ true → is_code_not_available (reply_of config s p given) ≡ true
  served true given none = absurd (cc)
  served false given none = none

  finding_none : (id : ℕ) (port : Option Port) → is_code_not_available (reply_of config s p (receive_row s id port)) ≡ true → (q : Port) × (port ≡ Some q) × (s.waiting id ≡ [])
  finding_none id None none = absurd (cc)
  finding_none id (Some q) none = (q, refl, by_test (is_source q.direction) (s.waiting id) refl none)
    where
      by_test : (source : Bool) (waiting : List (List ℕ)) → s.waiting id ≡ waiting → is_code_not_available (reply_of config s p (if source then Refused NotDestination else oldest_row id waiting)) ≡ true → s.waiting id ≡ []
      by_test true waiting is h = absurd (cc)
      by_test false [] is h = is
      by_test false (x ∷ rest) is h =
          let shown : is_code_not_available (oldest_reply (x ∷ rest)) ≡ true = subst (λ (ws : List (List ℕ)). is_code_not_available (oldest_reply ws) ≡ true) is h in
          absurd (cc)

pub none_waits : (config : Configuration) (h : History) (p : ℕ) (at : Moment) (id : ℕ) (reply : Reply) (c : ℕ) → reply ≡ reply_to config h p at (ReceiveQueuing id) → is_code_not_available reply ≡ true → is_destination_of c (port_of config p id) ≡ true → waiting_on config c h ≡ []
none_waits config h p at id reply c is none destination =
    let here = seen config h p in
    let found = finding_none config here p id (queuing_port config here p id) (served config here p (is_idle (mode_of p h)) _ (ap is_code_not_available (sym is) ∙ none)) in
    let configured = queuing_configured (is_created p id h) (port_of config p id) found.0 found.1 in
    let waits = subst (λ (o : Option Port). waiting_of config h o ≡ []) configured found.2 in
    subst (λ (d : ℕ). waiting_on config d h ≡ []) (channel_of_destination (port_of config p id) found.0 c configured destination) waits

-- ---- one lawful entry more

module _ (config : Configuration) (h : History) (c p : ℕ) (at : Moment) (reply : Reply) (sound : IsSound config h) where
  abbrev Goes : Call → Type 0
  Goes call = waiting_on config c (h ++ entry_of p at call reply ∷ []) ≡ waiting_after config c (waiting_on config c h) (entry_of p at call reply)

  stays : (call : Call) → message_accepted config c (entry_of p at call reply) ≡ None → message_received config c (entry_of p at call reply) ≡ None → empties config c (entry_of p at call reply) ≡ false → Goes call
  stays call accepted received emptied =
      let e = entry_of p at call reply in
      waiting_stays config c h e accepted received (left_off _ _ emptied) ∙ sym (same_after config c (waiting_on config c h) e accepted received emptied)

  left : (call : Call) → LeavesShown config c (entry_of p at call reply) → Goes call
  left call leaves = stays call leaves.accepted leaves.received leaves.emptied

  sends : (id : ℕ) (m : List ℕ) → Goes (SendQueuing id m)
  sends id m = by_source (is_source_of c (port_of config p id)) refl
    where
      by_code : (b : Bool) → is_code_no_error reply ≡ b → is_source_of c (port_of config p id) ≡ true → Goes (SendQueuing id m)
      by_code false refused source = left (SendQueuing id m) (send_refused config c p at id m reply refused)
      by_code true ok source =
          let e = entry_of p at (SendQueuing id m) reply in
          let sent : message_accepted config c e ≡ Some m = λ i. if ok i then (if source i then Some m else None) else None in
          waiting-sent config c h e (always_conserved config h c sound) m sent refl (and_false (is_code_no_error reply))
          ∙ sym (sent_after config c p at id m reply (waiting_on config c h) source ok)

      by_source : (b : Bool) → is_source_of c (port_of config p id) ≡ b → Goes (SendQueuing id m)
      by_source false off = left (SendQueuing id m) (send_elsewhere config c p at id m reply off)
      by_source true source = by_code (is_code_no_error reply) refl source

  takes : (id : ℕ) (m : List ℕ) → IsSound config (h ++ entry_of p at (ReceiveQueuing id) reply ∷ []) → message_in reply ≡ Some m → is_destination_of c (port_of config p id) ≡ true → Goes (ReceiveQueuing id)
  takes id m after shown destination =
      let e = entry_of p at (ReceiveQueuing id) reply in
      let rest = waiting_on config c (h ++ e ∷ []) in
      let no_send : message_accepted config c e ≡ None = none_or_none (is_code_no_error reply) in
      let received : message_received config c e ≡ Some m = λ i. if destination i then shown i else None in
      let taken = taken-received config c h e m received (and_false (is_code_no_error reply)) in
      let front = messages_of (taken_on config c h) in
      let split : messages_of (taken_on config c h ++ as_received m ∷ []) ++ rest ≡ front ++ m ∷ rest =
      ap (λ (xs : List (List ℕ)). xs ++ rest) (map-append (λ (one : Taken). one.message) (taken_on config c h) (as_received m ∷ [])) ∙ append_assoc front (m ∷ []) rest in
      let whole : front ++ m ∷ rest ≡ accepted_on config c h =
      sym split ∙ (ap (λ (ts : List Taken). messages_of ts ++ rest) (sym taken) ∙ ((always_conserved config (h ++ e ∷ []) c after).messages ∙ accepted_stays config c h e no_send)) in
      let waits : m ∷ rest ≡ waiting_on config c h = same_rest front (m ∷ rest) (waiting_on config c h) (whole ∙ sym (always_conserved config h c sound).messages) in
      sym (received_after config c p at id reply (waiting_on config c h) m destination shown ∙ (ap (λ (ws : List (List ℕ)). left_after (Some m) ws) (sym waits) ∙ first_taken m rest))

  receives : (id : ℕ) → IsSound config (h ++ entry_of p at (ReceiveQueuing id) reply ∷ []) → reply ≡ reply_to config h p at (ReceiveQueuing id) → Goes (ReceiveQueuing id)
  receives id after is = by_destination (is_destination_of c (port_of config p id)) refl
    where
      e : Entry
      e = entry_of p at (ReceiveQueuing id) reply

      by_code : (b : Bool) → is_code_not_available reply ≡ b → message_in reply ≡ None → is_destination_of c (port_of config p id) ≡ true → Goes (ReceiveQueuing id)
      by_code false other none destination = left (ReceiveQueuing id) (receive_without config c p at id reply none other)
      by_code true found none destination =
          let received : message_received config c e ≡ None = λ i. if destination i then none i else None in
          waiting_stays config c h e (none_or_none (is_code_no_error reply)) received (and_false (is_code_no_error reply))
          ∙ (none_waits config h p at id reply c is found destination ∙ sym (none_after config c p at id reply (waiting_on config c h) destination found))

      by_message : (shown : Option (List ℕ)) → message_in reply ≡ shown → is_destination_of c (port_of config p id) ≡ true → Goes (ReceiveQueuing id)
      by_message None none destination = by_code (is_code_not_available reply) refl none destination
      by_message (Some m) shown destination = takes id m after shown destination

      by_destination : (b : Bool) → is_destination_of c (port_of config p id) ≡ b → Goes (ReceiveQueuing id)
      by_destination false off = left (ReceiveQueuing id) (receive_elsewhere config c p at id reply off)
      by_destination true destination = by_message (message_in reply) refl destination

  clears_all : (id : ℕ) → Goes (ClearQueuing id)
  clears_all id = by_destination (is_destination_of c (port_of config p id)) refl
    where
      by_code : (b : Bool) → is_code_no_error reply ≡ b → is_destination_of c (port_of config p id) ≡ true → Goes (ClearQueuing id)
      by_code false refused destination = left (ClearQueuing id) (clear_refused config c p at id reply refused)
      by_code true ok destination =
          let e = entry_of p at (ClearQueuing id) reply in
          let clear : clears config c e ≡ true = λ i. ok i && destination i in
          waiting-cleared config c h e (always_conserved config h c sound) (none_or_none (is_code_no_error reply)) clear
          ∙ sym (cleared_after config c p at id reply (waiting_on config c h) destination ok)

      by_destination : (b : Bool) → is_destination_of c (port_of config p id) ≡ b → Goes (ClearQueuing id)
      by_destination false off = left (ClearQueuing id) (clear_elsewhere config c p at id reply off)
      by_destination true destination = by_code (is_code_no_error reply) refl destination

  pub one_more : (call : Call) → IsSound config (h ++ entry_of p at call reply ∷ []) → reply ≡ reply_to config h p at call → Goes call
  one_more (SendQueuing id m) after is = sends id m
  one_more (ReceiveQueuing id) after is = receives id after is
  one_more (ClearQueuing id) after is = clears_all id
  one_more call after is = stays call (none_or_none (is_code_no_error reply)) refl (both_off (is_code_no_error reply) (is_code_not_available reply))
