-- How the taken messages relate to the received ones, entry by entry.
use Rattle.apex_ports.proofs.Common.{◌≡◌, ℕ, Bool, true, false, ◌&&◌, ◌||◌, not, if◌then◌else◌, List, [], ◌∷◌, ◌++◌, length, drop, map, filter, Option, Some, None, refl, sym, ap, ◌∙◌, append_assoc, append-nil, option_to_list, list_any, length-map, map-append, filter-append, filter_map-append, Call, ClearQueuing, Taken, Configuration, Entry, History, is_code_no_error, accepted_on, received_on, taken_on, taken_after}
use Rattle.apex_ports.proofs.Common.{taken_by, message_received, clears, is_clear, as_received, as_cleared}
use Rattle.apex_ports.specs.WithoutClears.{AlwaysReceivedOrCleared, WithoutClears, HasNoClear, asks_clear}
use Rattle.apex_ports.proofs.Appends.{one_more}
use Rattle.apex_ports.proofs.Stays.{receives_no_clear, and_false}

-- the received messages of one entry and of those after it
received_first : (config : Configuration) (c : ℕ) (e : Entry) (h : History) → map as_received (received_on config c (e ∷ h)) ≡ map as_received (option_to_list (message_received config c e)) ++ map as_received (received_on config c h)
received_first config c e h =
    ap (map as_received) (filter_map-append (message_received config c) (e ∷ []) h ∙ ap (λ xs. xs ++ received_on config c h) (one_more (message_received config c) e))
    ∙ map-append as_received (option_to_list (message_received config c e)) (received_on config c h)

-- ---- every history

none_kept : (messages : List (List ℕ)) → filter (λ (one : Taken). not one.cleared) (map as_cleared messages) ≡ []
none_kept [] = refl
none_kept (message ∷ rest) = none_kept rest

all_kept : (messages : List (List ℕ)) → filter (λ (one : Taken). not one.cleared) (map as_received messages) ≡ map as_received messages
all_kept [] = refl
all_kept (message ∷ rest) = ap (λ (xs : List Taken). as_received message ∷ xs) (all_kept rest)

kept_by : (config : Configuration) (c : ℕ) (waiting : List (List ℕ)) (e : Entry) → filter (λ (one : Taken). not one.cleared) (taken_by config c waiting e) ≡ map as_received (option_to_list (message_received config c e))
kept_by config c waiting e = by_message (message_received config c e) refl
  where
    by_clear : (b : Bool) → filter (λ (one : Taken). not one.cleared) (if b then map as_cleared waiting else []) ≡ []
    by_clear true = none_kept waiting
    by_clear false = refl

    by_message : (shown : Option (List ℕ)) → message_received config c e ≡ shown → filter (λ (one : Taken). not one.cleared) (if clears config c e then map as_cleared waiting else map as_received (option_to_list shown)) ≡ map as_received (option_to_list shown)
    by_message None is = by_clear (clears config c e)
    by_message (Some m) is = λ i. filter (λ (one : Taken). not one.cleared) (if receives_no_clear config c e m is c i then map as_cleared waiting else as_received m ∷ [])

kept_after : (config : Configuration) (c : ℕ) (before h : History) (taken : List Taken) →
    filter (λ (one : Taken). not one.cleared) (taken_after config c before taken h) ≡ filter (λ (one : Taken). not one.cleared) taken ++ map as_received (received_on config c h)
kept_after config c before [] taken = sym (append-nil _)
kept_after config c before (e ∷ h) taken =
    let kept = λ (xs : List Taken). filter (λ (one : Taken). not one.cleared) xs in
    let by_this = taken_by config c (drop (length taken) (accepted_on config c before)) e in
    kept_after config c (before ++ e ∷ []) h (taken ++ by_this)
    ∙ (ap (λ (xs : List Taken). xs ++ map as_received (received_on config c h)) (filter-append (λ (one : Taken). not one.cleared) taken by_this ∙ ap (λ (xs : List Taken). kept taken ++ xs) (kept_by config c (drop (length taken) (accepted_on config c before)) e))
    ∙ (append_assoc (kept taken) (map as_received (option_to_list (message_received config c e))) (map as_received (received_on config c h)) ∙ ap (λ (xs : List Taken). kept taken ++ xs) (sym (received_first config c e h))))

pub always_received_or_cleared : AlwaysReceivedOrCleared
always_received_or_cleared config h c = kept_after config c [] h []

-- ---- histories without a clear

neither : (a b : Bool) → (a || b) ≡ false → (a ≡ false) × (b ≡ false)
neither true b h = absurd (cc)
neither false b h = (refl, h)

no_clear : (config : Configuration) (c p : ℕ) (call : Call) → asks_clear call ≡ false → is_clear config c p call ≡ false
no_clear config c p (ClearQueuing id) not_asked = absurd (cc)
no_clear config c p _ not_asked = refl

received_after : (config : Configuration) (c : ℕ) (before h : History) (taken : List Taken) → HasNoClear h → taken_after config c before taken h ≡ taken ++ map as_received (received_on config c h)
received_after config c before [] taken none = sym (append-nil taken)
received_after config c before (e ∷ h) taken none =
    let both = neither (asks_clear e.call) (list_any (λ (entry : Entry). asks_clear entry.call) h) none in
    let waiting = drop (length taken) (accepted_on config c before) in
    let received = map as_received (option_to_list (message_received config c e)) in
    let off : clears config c e ≡ false = (λ i. is_code_no_error e.reply && no_clear config c e.partition e.call both.0 i) ∙ and_false (is_code_no_error e.reply) in
    received_after config c (before ++ e ∷ []) h (taken ++ taken_by config c waiting e) both.1
    ∙ ((λ i. (taken ++ (if off i then map as_cleared waiting else received)) ++ map as_received (received_on config c h))
    ∙ (append_assoc taken received (map as_received (received_on config c h)) ∙ ap (λ (xs : List Taken). taken ++ xs) (sym (received_first config c e h))))

none_cleared : (messages : List (List ℕ)) → filter (λ (one : Taken). one.cleared) (map as_received messages) ≡ []
none_cleared [] = refl
none_cleared (message ∷ rest) = none_cleared rest

pub without_clears : WithoutClears
without_clears config h c none =
    let taken : taken_on config c h ≡ map as_received (received_on config c h) = received_after config c [] h [] none in
    record {
      taken = taken;
      cleared = ap (filter (λ (one : Taken). one.cleared)) taken ∙ none_cleared (received_on config c h);
      waiting = ap (λ (n : ℕ). drop n (accepted_on config c h)) (ap (λ (xs : List Taken). length xs) taken ∙ length-map (received_on config c h) as_received);
    }
