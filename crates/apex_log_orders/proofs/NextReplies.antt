-- The replies that a call can get while others made fewer calls.
use Rattle.apex_log_orders.proofs.Common.{◌≡◌, ◌⊎◌, inl, inr, ℕ, ◌≤◌, ◌==◌, nat_lt, not, Bool, true, false, if◌then◌else◌, List, [], ◌∷◌, ◌++◌, length, Option, Some, None, refl, sym, ap, ◌∙◌, subst, arith, nat_tests, SendQueuing, Moment, Code, Received, Configuration, port_of, Port, EmptyMessage, MessageTooLong, NotSource, NotDestination, QueueFull, Row, waiting_on, History, mode_of, is_idle, is_created, is_source}
use Rattle.apex_log_orders.proofs.Common.{is_source_of, size_of, depth_of, send_row, receive_row, oldest_row, oldest_reply, reply_of, reply_to, Seen, seen, waiting_of, queuing_port, queuing_configured, and_true, is_code_not_available}
use Rattle.apex_types.specs.declared.reply.Reply.{Reply}
use Rattle.apex_types.specs.declared.return_code.ReturnCode.TheVariants.{NotAvailable}
use Rattle.apex_ports.specs.declared.rows.Row.TheVariants as row
use Rattle.apex_ports.specs.declared.rows.Row.TheVariants.{Refused, Sent}

abbrev pub not_available : Reply
not_available = Code NotAvailable

module _ (config : Configuration) (early late : Seen) (p id : ℕ) where
  -- what a send gets, by the tests of its rows
  abbrev sending : Seen → Bool → Bool → Bool → Bool → Reply
  sending seen empty long destination full =
      reply_of config seen p (if empty then Refused EmptyMessage else if long then Refused MessageTooLong else if destination then Refused NotSource else if full then Refused QueueFull else Sent)

  -- with as many waiting messages or more, a send gets the same reply, or finds no room
  pub send_replies : (port : Option Port) (m : List ℕ)
      → ((q : Port) → port ≡ Some q → is_source q.direction ≡ true → (length (late.waiting id) ≤ length (early.waiting id)) × (length (early.waiting id) ≤ depth_of config q.channel))
      → (reply_of config early p (send_row config early id port m) ≡ reply_of config late p (send_row config late id port m))
      ⊎ (reply_of config early p (send_row config early id port m) ≡ not_available)
  send_replies None m more = inl refl
  send_replies (Some q) m more = by_tests (length m == 0) (nat_lt (size_of config q) (length m)) (is_source q.direction) _ _ refl refl refl
    where
      by_tests : (empty long source full fuller : Bool) → is_source q.direction ≡ source
          → (length (late.waiting id) == depth_of config q.channel) ≡ full → (length (early.waiting id) == depth_of config q.channel) ≡ fuller
          → (sending early empty long (not source) fuller ≡ sending late empty long (not source) full) ⊎ (sending early empty long (not source) fuller ≡ not_available)
      by_tests true long source full fuller way is are = inl refl
      by_tests false true source full fuller way is are = inl refl
      by_tests false false false full fuller way is are = inl refl
      by_tests false false true full true way is are = inr refl
      by_tests false false true false false way is are = inl refl
      by_tests false false true true false way is are = absurd (let counts = more q refl way in grind (arith, nat_tests))

  -- with the first of the waiting messages, a receive gets the same reply, or finds none
  pub receive_replies : (port : Option Port) → ((q : Port) → port ≡ Some q → is_source q.direction ≡ false → (more : List (List ℕ)) × (late.waiting id ≡ early.waiting id ++ more))
      → (reply_of config early p (receive_row early id port) ≡ reply_of config late p (receive_row late id port))
      ⊎ (reply_of config early p (receive_row early id port) ≡ not_available)
  receive_replies None fewer = inl refl
  receive_replies (Some q) fewer = by_test (is_source q.direction) refl
    where
      by_oldest : (m : List ℕ) (ms : List (List ℕ)) (n : List ℕ) (ns : List (List ℕ)) → early.waiting id ≡ m ∷ ms → late.waiting id ≡ n ∷ ns → m ≡ n
          → reply_of config early p (oldest_row id (m ∷ ms)) ≡ reply_of config late p (oldest_row id (n ∷ ns))
      by_oldest m ms n ns is are same =
          ap (λ (ws : List (List ℕ)). oldest_reply ws) is ∙ (ap (λ (x : List ℕ). Received x) same ∙ sym (ap (λ (ws : List (List ℕ)). oldest_reply ws) are))

      by_waiting : (first after rest : List (List ℕ)) → early.waiting id ≡ first → late.waiting id ≡ after → after ≡ first ++ rest
          → (reply_of config early p (oldest_row id first) ≡ reply_of config late p (oldest_row id after)) ⊎ (reply_of config early p (oldest_row id first) ≡ not_available)
      by_waiting [] after rest is are begins = inr refl
      by_waiting (m ∷ ms) [] rest is are begins = absurd cc
      by_waiting (m ∷ ms) (n ∷ ns) rest is are begins = let same : m ≡ n = cc in inl (by_oldest m ms n ns is are same)

      by_test : (source : Bool) → is_source q.direction ≡ source
          → (reply_of config early p (if source then Refused NotDestination else oldest_row id (early.waiting id)) ≡ reply_of config late p (if source then Refused NotDestination else oldest_row id (late.waiting id)))
          ⊎ (reply_of config early p (if source then Refused NotDestination else oldest_row id (early.waiting id)) ≡ not_available)
      by_test true way = inl refl
      by_test false way = let rest = fewer q refl way in by_waiting (early.waiting id) (late.waiting id) rest.0 refl refl rest.1

-- ---- a send of the table that finds no room

module _ (config : Configuration) (s : Seen) (p : ℕ) where
  refused_in : (idle : Bool) (given : Row) → is_code_not_available (reply_of config s p (if idle then row.Idle else given)) ≡ true → is_code_not_available (reply_of config s p given) ≡ true
  refused_in true given none = absurd cc
  refused_in false given none = none

  finding_full : (id : ℕ) (port : Option Port) (m : List ℕ) → is_code_not_available (reply_of config s p (send_row config s id port m)) ≡ true
      → (q : Port) × (port ≡ Some q) × ((length (s.waiting id) == depth_of config q.channel) ≡ true)
  finding_full id None m none = absurd cc
  finding_full id (Some q) m none = (q, refl, by_tests (length m == 0) (nat_lt (size_of config q) (length m)) (not (is_source q.direction)) _ none)
    where
      by_tests : (empty long destination full : Bool)
          → is_code_not_available (reply_of config s p (if empty then Refused EmptyMessage else if long then Refused MessageTooLong else if destination then Refused NotSource else if full then Refused QueueFull else Sent)) ≡ true → full ≡ true
      by_tests true long destination full h = absurd cc
      by_tests false true destination full h = absurd cc
      by_tests false false true full h = absurd cc
      by_tests false false false false h = absurd cc
      by_tests false false false true h = refl

channel_of_source : (port : Option Port) (q : Port) (c : ℕ) → port ≡ Some q → is_source_of c port ≡ true → q.channel ≡ c
channel_of_source port q c is source =
    let test = (and_true (is_source q.direction) (q.channel == c) (ap (is_source_of c) (sym is) ∙ source)).1 in
    grind (arith, nat_tests)

pub none_free : (config : Configuration) (h : History) (p : ℕ) (at : Moment) (id : ℕ) (m : List ℕ) (reply : Reply) (c : ℕ) → reply ≡ reply_to config h p at (SendQueuing id m)
    → is_code_not_available reply ≡ true → is_source_of c (port_of config p id) ≡ true → length (waiting_on config c h) ≡ depth_of config c
none_free config h p at id m reply c is none source =
    let here = seen config h p in
    let found = finding_full config here p id (queuing_port config here p id) m (refused_in config here p (is_idle (mode_of p h)) _ (ap is_code_not_available (sym is) ∙ none)) in
    let configured = queuing_configured (is_created p id h) (port_of config p id) found.0 found.1 in
    let full = subst (λ (o : Option Port). (length (waiting_of config h o) == depth_of config found.0.channel) ≡ true) configured found.2 in
    let there = subst (λ (d : ℕ). (length (waiting_on config d h) == depth_of config d) ≡ true) (channel_of_source (port_of config p id) found.0 c configured source) full in
    grind (arith, nat_tests)
