-- What is taken from a channel and what waits on it, after a send, a receive and a clear.
use Rattle.apex_ports.proofs.Common.{◌≡◌, List, [], ◌∷◌, ◌++◌, ℕ, true, false, if◌then◌else◌, length, drop, map, filter, Some, None, refl, sym, ap, ◌∙◌, append_assoc, append-nil, option_to_list, slice_get, drop-append_seam, length-map, map-append, filter-append, Taken, Configuration, Entry, History, accepted_on, received_on, taken_on, cleared_on, waiting_on, message_accepted, message_received, clears, as_received}
use Rattle.apex_ports.proofs.Common.{as_cleared, messages_of, IsConserved}
use Rattle.apex_ports.proofs.Appends.{accepted_on-append, received_on-append, taken_on-append}
use Rattle.apex_ports.proofs.Stays.{accepted_stays, taken_stays}

-- the rest of a list after its front
rest_is : (taken : List Taken) (rest all : List (List ℕ)) → messages_of taken ++ rest ≡ all → drop (length taken) all ≡ rest
rest_is taken rest all whole =
    ap (λ (xs : List (List ℕ)). drop (length taken) xs) (sym whole)
    ∙ (ap (λ (n : ℕ). drop n (messages_of taken ++ rest)) (sym (length-map taken (λ (one : Taken). one.message))) ∙ drop-append_seam (messages_of taken) rest)

messages_of-append : (front rest : List Taken) → messages_of (front ++ rest) ≡ messages_of front ++ messages_of rest
messages_of-append front rest = map-append (λ (one : Taken). one.message) front rest

messages_of-cleared : (messages : List (List ℕ)) → messages_of (map as_cleared messages) ≡ messages
messages_of-cleared [] = refl
messages_of-cleared (message ∷ rest) = ap (λ (xs : List (List ℕ)). message ∷ xs) (messages_of-cleared rest)

all_cleared : (messages : List (List ℕ)) → filter (λ (one : Taken). one.cleared) (map as_cleared messages) ≡ map as_cleared messages
all_cleared [] = refl
all_cleared (message ∷ rest) = ap (λ (xs : List Taken). as_cleared message ∷ xs) (all_cleared rest)

pub accepted-sent : (config : Configuration) (c : ℕ) (h : History) (e : Entry) (m : List ℕ) → message_accepted config c e ≡ Some m → accepted_on config c (h ++ e ∷ []) ≡ accepted_on config c h ++ m ∷ []
accepted-sent config c h e m sent = accepted_on-append config c h e ∙ ap (λ o. accepted_on config c h ++ option_to_list o) sent

pub received-received : (config : Configuration) (c : ℕ) (h : History) (e : Entry) (m : List ℕ) → message_received config c e ≡ Some m → received_on config c (h ++ e ∷ []) ≡ received_on config c h ++ m ∷ []
received-received config c h e m received = received_on-append config c h e ∙ ap (λ o. received_on config c h ++ option_to_list o) received

first_and_rest : (xs : List (List ℕ)) (x : List ℕ) → slice_get xs 0 ≡ Some x → xs ≡ x ∷ drop 1 xs
first_and_rest [] x at = absurd (cc)
first_and_rest (y ∷ xs) x at = let same : y ≡ x = cc in ap (λ z. z ∷ xs) same

module _ (config : Configuration) (c : ℕ) (h : History) (e : Entry) where
  -- a received message is taken
  pub taken-received : (m : List ℕ) → message_received config c e ≡ Some m → clears config c e ≡ false → taken_on config c (h ++ e ∷ []) ≡ taken_on config c h ++ as_received m ∷ []
  taken-received m received no_clear =
      taken_on-append config c h e ∙ (λ i. taken_on config c h ++ (if no_clear i then map as_cleared (waiting_on config c h) else map as_received (option_to_list (received i))))

  -- a clear takes all waiting messages
  pub taken-cleared : clears config c e ≡ true → taken_on config c (h ++ e ∷ []) ≡ taken_on config c h ++ map as_cleared (waiting_on config c h)
  taken-cleared clear =
      taken_on-append config c h e ∙ (λ i. taken_on config c h ++ (if clear i then map as_cleared (waiting_on config c h) else map as_received (option_to_list (message_received config c e))))

  pub cleared-received : (m : List ℕ) → message_received config c e ≡ Some m → clears config c e ≡ false → cleared_on config c (h ++ e ∷ []) ≡ cleared_on config c h
  cleared-received m received no_clear =
      ap (filter (λ (one : Taken). one.cleared)) (taken-received m received no_clear) ∙ (filter-append (λ (one : Taken). one.cleared) (taken_on config c h) (as_received m ∷ []) ∙ append-nil (cleared_on config c h))

  pub cleared-cleared : clears config c e ≡ true → cleared_on config c (h ++ e ∷ []) ≡ cleared_on config c h ++ map as_cleared (waiting_on config c h)
  cleared-cleared clear =
      ap (filter (λ (one : Taken). one.cleared)) (taken-cleared clear)
      ∙ (filter-append (λ (one : Taken). one.cleared) (taken_on config c h) (map as_cleared (waiting_on config c h)) ∙ ap (λ (xs : List Taken). cleared_on config c h ++ xs) (all_cleared (waiting_on config c h)))

module _ (config : Configuration) (c : ℕ) (h : History) (e : Entry) (was : IsConserved config h c) where
  -- a sent message waits behind all others
  pub waiting-sent : (m : List ℕ) → message_accepted config c e ≡ Some m → message_received config c e ≡ None → clears config c e ≡ false → waiting_on config c (h ++ e ∷ []) ≡ waiting_on config c h ++ m ∷ []
  waiting-sent m sent no_receive no_clear =
      let accepted = accepted-sent config c h e m sent in
      let taken = taken_stays config c h e no_receive no_clear in
      let whole : messages_of (taken_on config c h) ++ (waiting_on config c h ++ m ∷ []) ≡ accepted_on config c h ++ m ∷ [] =
      sym (append_assoc (messages_of (taken_on config c h)) (waiting_on config c h) (m ∷ [])) ∙ ap (λ xs. xs ++ m ∷ []) was.messages in
      (λ i. drop (length (taken i)) (accepted i)) ∙ rest_is (taken_on config c h) (waiting_on config c h ++ m ∷ []) (accepted_on config c h ++ m ∷ []) whole

  -- taken and waiting messages after the oldest was received
  pub received_conserved : (m : List ℕ) → slice_get (waiting_on config c h) 0 ≡ Some m → messages_of (taken_on config c h ++ as_received m ∷ []) ++ drop 1 (waiting_on config c h) ≡ accepted_on config c h
  received_conserved m oldest =
      ap (λ (xs : List (List ℕ)). xs ++ drop 1 (waiting_on config c h)) (messages_of-append (taken_on config c h) (as_received m ∷ []))
      ∙ (append_assoc (messages_of (taken_on config c h)) (m ∷ []) (drop 1 (waiting_on config c h))
      ∙ (ap (λ (xs : List (List ℕ)). messages_of (taken_on config c h) ++ xs) (sym (first_and_rest (waiting_on config c h) m oldest)) ∙ was.messages))

  -- after a receive, the oldest message no longer waits
  pub waiting-received : (m : List ℕ) → message_accepted config c e ≡ None → message_received config c e ≡ Some m → clears config c e ≡ false → slice_get (waiting_on config c h) 0 ≡ Some m → waiting_on config c (h ++ e ∷ []) ≡ drop 1 (waiting_on config c h)
  waiting-received m no_send received no_clear oldest =
      let accepted = accepted_stays config c h e no_send in
      let taken = taken-received config c h e m received no_clear in
      (λ i. drop (length (taken i)) (accepted i)) ∙ rest_is (taken_on config c h ++ as_received m ∷ []) (drop 1 (waiting_on config c h)) (accepted_on config c h) (received_conserved m oldest)

  -- after a clear, the taken messages are all that were accepted
  pub cleared_conserved : messages_of (taken_on config c h ++ map as_cleared (waiting_on config c h)) ≡ accepted_on config c h
  cleared_conserved =
      messages_of-append (taken_on config c h) (map as_cleared (waiting_on config c h))
      ∙ (ap (λ (xs : List (List ℕ)). messages_of (taken_on config c h) ++ xs) (messages_of-cleared (waiting_on config c h)) ∙ was.messages)

  -- no message waits after a clear
  pub waiting-cleared : message_accepted config c e ≡ None → clears config c e ≡ true → waiting_on config c (h ++ e ∷ []) ≡ []
  waiting-cleared no_send clear =
      let accepted = accepted_stays config c h e no_send in
      let taken = taken-cleared config c h e clear in
      let front = taken_on config c h ++ map as_cleared (waiting_on config c h) in
      (λ i. drop (length (taken i)) (accepted i)) ∙ rest_is front [] (accepted_on config c h) (append-nil (messages_of front) ∙ cleared_conserved)
