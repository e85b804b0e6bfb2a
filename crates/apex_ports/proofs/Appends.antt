-- How one more entry changes what the definitions filter out of a history.
use Rattle.apex_ports.proofs.Common.{◌≡◌, ℕ, false, ◌&&◌, ◌||◌, not, if◌then◌else◌, List, [], ◌∷◌, ◌++◌, length, drop, Option, Some, None, refl, sym, ap, ◌∙◌, append_assoc, append-nil, unwrap_or, option_to_list, filter_map, filter_map-append, Configuration, ColdStart, Taken, Invalid, Entry, History, mode_of, mode_set, restarts, is_created, creates, accepted_on, received_on, taken_after, taken_on, taken_by}
use Rattle.apex_ports.proofs.Common.{waiting_on, writes_on, message_accepted, message_received, sample_written, last_validity_of, validity_read}
use Rattle.std.proofs.lemmas.List.Sums.{fold-append}

pub mode_of-append : (p : ℕ) (h : History) (e : Entry) → mode_of p (h ++ e ∷ []) ≡ unwrap_or (mode_set p e) (mode_of p h)
mode_of-append p h e = fold-append (λ mode entry. unwrap_or (mode_set p entry) mode) ColdStart h (e ∷ [])

pub is_created-append : (p id : ℕ) (h : History) (e : Entry) → is_created p id (h ++ e ∷ []) ≡ (creates p id e || (is_created p id h && not (restarts p e)))
is_created-append p id h e = fold-append (λ created entry. creates p id entry || (created && not (restarts p entry))) false h (e ∷ [])

pub last_validity_of-append : (p id : ℕ) (h : History) (e : Entry) → last_validity_of p id (h ++ e ∷ []) ≡ (if creates p id e then Invalid else unwrap_or (validity_read p id e) (last_validity_of p id h))
last_validity_of-append p id h e =
    fold-append (λ last entry. if creates p id entry then Invalid else unwrap_or (validity_read p id entry) last) Invalid h (e ∷ [])

-- filtering one more item
pub one_more : {X Y : Type 0} (f : X → Option Y) (x : X) → filter_map f (x ∷ []) ≡ option_to_list (f x)
one_more {X} {Y} f x = of_item (f x)
  where
    of_item : (o : Option Y) → filter_map (λ (_ : X). o) (x ∷ []) ≡ option_to_list o
    of_item (Some y) = refl
    of_item None = refl

pub accepted_on-append : (config : Configuration) (c : ℕ) (h : History) (e : Entry) → accepted_on config c (h ++ e ∷ []) ≡ accepted_on config c h ++ option_to_list (message_accepted config c e)
accepted_on-append config c h e =
    filter_map-append (message_accepted config c) h (e ∷ []) ∙ ap (λ ys. accepted_on config c h ++ ys) (one_more (message_accepted config c) e)

pub received_on-append : (config : Configuration) (c : ℕ) (h : History) (e : Entry) → received_on config c (h ++ e ∷ []) ≡ received_on config c h ++ option_to_list (message_received config c e)
received_on-append config c h e =
    filter_map-append (message_received config c) h (e ∷ []) ∙ ap (λ ys. received_on config c h ++ ys) (one_more (message_received config c) e)

taken_after-append : (config : Configuration) (c : ℕ) (before h : History) (taken : List Taken) (e : Entry) → taken_after config c before taken (h ++ e ∷ []) ≡
    taken_after config c before taken h ++ taken_by config c (drop (length (taken_after config c before taken h)) (accepted_on config c (before ++ h))) e
taken_after-append config c before [] taken e = ap (λ (g : History). taken ++ taken_by config c (drop (length taken) (accepted_on config c g)) e) (sym (append-nil before))
taken_after-append config c before (x ∷ h) taken e =
    let more = taken ++ taken_by config c (drop (length taken) (accepted_on config c before)) x in
    let after = taken_after config c (before ++ x ∷ []) more h in
    taken_after-append config c (before ++ x ∷ []) h more e ∙ ap (λ (g : History). after ++ taken_by config c (drop (length after) (accepted_on config c g)) e) (append_assoc before (x ∷ []) h)

pub taken_on-append : (config : Configuration) (c : ℕ) (h : History) (e : Entry) → taken_on config c (h ++ e ∷ []) ≡ taken_on config c h ++ taken_by config c (waiting_on config c h) e
taken_on-append config c h e = taken_after-append config c [] h [] e

pub writes_on-append : (config : Configuration) (c : ℕ) (h : History) (e : Entry) → writes_on config c (h ++ e ∷ []) ≡ writes_on config c h ++ option_to_list (sample_written config c e)
writes_on-append config c h e =
    filter_map-append (sample_written config c) h (e ∷ []) ∙ ap (λ ys. writes_on config c h ++ ys) (one_more (sample_written config c) e)
