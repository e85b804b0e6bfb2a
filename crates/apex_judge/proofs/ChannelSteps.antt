-- What an entry of a log does to the channels.
use Rattle.apex_judge.proofs.Common.{◌≡◌, ◌≢◌, ℕ, ◌==◌, ◌≤◌, ◌^◌, ◌-◌, ◌+◌, Bool, true, false, ◌&&◌, ◌||◌, if◌then◌else◌, List, [], ◌∷◌, ◌++◌, length, set, position, Option, Some, None, refl, sym, ap, ◌∙◌, arith, append-nil, option_to_list, slice_get, bytes_eq, nat_tests, length-drop, Call, SendQueuing, ReceiveQueuing, ClearQueuing, WriteSampling, Moment, Reply, Code, Configuration, port_of, Entry, entry_of}
use Rattle.apex_judge.proofs.Common.{EachAt, is_code_no_error, is_source_of, is_destination_of, message_sent, message_accepted, message_in, message_received, message_written, sample_at, sample_written, none_or_none, and_false, each_at_set, ChannelState, Subject, IsChannelShown, ChannelsStay, Picture, sample_after, with_effects, with_doubt, is_code_not_available, empties, behind, left_after, waiting_after}
use Rattle.apex_types.specs.declared.sample.Sample.{Sample}

-- ---- entries that leave a channel alone

pub record LeavesShown (config : Configuration) (c : ℕ) (e : Entry) : Type 0 where
  pub accepted : message_accepted config c e ≡ None
  pub received : message_received config c e ≡ None
  pub emptied : empties config c e ≡ false
  pub written : sample_written config c e ≡ None

pub same_after : (config : Configuration) (c : ℕ) (waiting : List (List ℕ)) (e : Entry) → message_accepted config c e ≡ None → message_received config c e ≡ None → empties config c e ≡ false → waiting_after config c waiting e ≡ waiting
same_after config c waiting e accepted received emptied =
    (λ i. if emptied i then [] else left_after (received i) waiting ++ option_to_list (accepted i)) ∙ append-nil waiting

module _ {A : Type 0} (config : Configuration) (picture : Picture) (e : Entry) where
  channel_stays : (c : ℕ) (state : ChannelState A) → IsChannelShown picture c state → LeavesShown config c e → IsChannelShown (with_effects config e picture) c state
  channel_stays c state was left = record {
    waiting = was.waiting ∙ sym (same_after config c (picture.waiting c) e left.accepted left.received left.emptied);
    few = was.few;
    sample = was.sample ∙ sym (ap (λ (written : Option Sample). sample_after written (picture.sample c)) left.written);
  }

  pub all_stay : (channels : List (ChannelState A)) → EachAt (IsChannelShown picture) channels → ((c : ℕ) → LeavesShown config c e) → EachAt (IsChannelShown (with_effects config e picture)) channels
  all_stay channels each left = λ c state at. channel_stays c state (each c state at) (left c)

  one_changes : (channels : List (ChannelState A)) (i : ℕ) (new : ChannelState A) → EachAt (IsChannelShown picture) channels → ((c : ℕ) → c ≢ i → LeavesShown config c e) → IsChannelShown (with_effects config e picture) i new → EachAt (IsChannelShown (with_effects config e picture)) (set channels i new)
  one_changes channels i new each left mine =
      each_at_set (IsChannelShown picture) (IsChannelShown (with_effects config e picture)) channels i new each (λ c state apart was. channel_stays c state was (left c apart)) mine

few_behind : (at : Option ℕ) (waiting : List (List ℕ)) → length (behind at waiting) ≤ length waiting
few_behind None waiting = omega arith
few_behind (Some index) waiting = let left = length-drop (index + 1) waiting in omega (arith, left)

-- a channel that shows what it showed
pub one_same : {A : Type 0} (channels : List (ChannelState A)) (i : ℕ) (old new : ChannelState A) → slice_get channels i ≡ Some old
    → new.waiting ≡ old.waiting → new.sample ≡ old.sample → ChannelsStay channels (set channels i new)
one_same channels i old new here waiting sample picture each =
    let was = each i old here in
    each_at_set (IsChannelShown picture) (IsChannelShown picture) channels i new each (λ c state apart was. was) (record {
      waiting = waiting ∙ was.waiting;
      few = let few = was.few in let count : length new.waiting ≡ length old.waiting = ap (λ (xs : List (List ℕ)). length xs) waiting in omega (arith, count, few);
      sample = sample ∙ was.sample;
    })

pub both_off : (a b : Bool) → ((a && false) || (b && false)) ≡ false
both_off a b = λ i. and_false a i || and_false b i

pub same_number : (n : ℕ) → (n == n) ≡ true
same_number n = grind (arith, nat_tests)

pub other_number : (m n : ℕ) → n ≢ m → (m == n) ≡ false
other_number m n apart = grind (arith, nat_tests)

-- a reply with a message is no bare code
message_no_code : (reply : Reply) (m : List ℕ) → message_in reply ≡ Some m → is_code_not_available reply ≡ false
message_no_code (Code code) m is = absurd (cc)
message_no_code _ m is = refl

-- ---- calls that no channel takes part in

pub others_leave : (config : Configuration) (c p : ℕ) (at : Moment) (call : Call) (reply : Reply) → ((id : ℕ) (m : List ℕ) → call ≢ SendQueuing id m) → ((id : ℕ) → call ≢ ReceiveQueuing id) → ((id : ℕ) → call ≢ ClearQueuing id) → ((id : ℕ) (m : List ℕ) → call ≢ WriteSampling id m)
    → LeavesShown config c (entry_of p at call reply)
others_leave config c p at (SendQueuing id m) reply no_send no_receive no_clear no_write = absurd (no_send id m refl)
others_leave config c p at (ReceiveQueuing id) reply no_send no_receive no_clear no_write = absurd (no_receive id refl)
others_leave config c p at (ClearQueuing id) reply no_send no_receive no_clear no_write = absurd (no_clear id refl)
others_leave config c p at (WriteSampling id m) reply no_send no_receive no_clear no_write = absurd (no_write id m refl)
others_leave config c p at call reply no_send no_receive no_clear no_write = record {
  accepted = none_or_none (is_code_no_error reply);
  received = refl;
  emptied = both_off (is_code_no_error reply) (is_code_not_available reply);
  written = none_or_none (is_code_no_error reply);
}

-- ---- sends and writes

module _ (config : Configuration) (c p : ℕ) (at : Moment) (id : ℕ) (m : List ℕ) (reply : Reply) where
  pub send_elsewhere : is_source_of c (port_of config p id) ≡ false → LeavesShown config c (entry_of p at (SendQueuing id m) reply)
  send_elsewhere off = record {
    accepted = (λ i. if is_code_no_error reply then (if off i then Some m else None) else None) ∙ none_or_none (is_code_no_error reply);
    received = refl;
    emptied = both_off (is_code_no_error reply) (is_code_not_available reply);
    written = none_or_none (is_code_no_error reply);
  }

  pub send_refused : is_code_no_error reply ≡ false → LeavesShown config c (entry_of p at (SendQueuing id m) reply)
  send_refused refused = record {
    accepted = λ i. if refused i then message_sent config c p (SendQueuing id m) else None;
    received = refl;
    emptied = both_off (is_code_no_error reply) (is_code_not_available reply);
    written = none_or_none (is_code_no_error reply);
  }

  pub sent_after : (waiting : List (List ℕ)) → is_source_of c (port_of config p id) ≡ true → is_code_no_error reply ≡ true → waiting_after config c waiting (entry_of p at (SendQueuing id m) reply) ≡ waiting ++ m ∷ []
  sent_after waiting source ok =
      let e = entry_of p at (SendQueuing id m) reply in
      let accepted : message_accepted config c e ≡ Some m = λ i. if ok i then (if source i then Some m else None) else None in
      let off = both_off (is_code_no_error reply) (is_code_not_available reply) in
      λ i. if off i then [] else waiting ++ option_to_list (accepted i)

  pub write_elsewhere : is_source_of c (port_of config p id) ≡ false → LeavesShown config c (entry_of p at (WriteSampling id m) reply)
  write_elsewhere off = record {
    accepted = none_or_none (is_code_no_error reply);
    received = refl;
    emptied = both_off (is_code_no_error reply) (is_code_not_available reply);
    written = (λ i. if is_code_no_error reply then sample_at at (if off i then Some m else None) else None) ∙ none_or_none (is_code_no_error reply);
  }

  pub write_refused : is_code_no_error reply ≡ false → LeavesShown config c (entry_of p at (WriteSampling id m) reply)
  write_refused refused = record {
    accepted = none_or_none (is_code_no_error reply);
    received = refl;
    emptied = both_off (is_code_no_error reply) (is_code_not_available reply);
    written = λ i. if refused i then sample_at at (message_written config c p (WriteSampling id m)) else None;
  }

-- ---- receives and clears

module _ (config : Configuration) (c p : ℕ) (at : Moment) (id : ℕ) (reply : Reply) where
  pub receive_elsewhere : is_destination_of c (port_of config p id) ≡ false → LeavesShown config c (entry_of p at (ReceiveQueuing id) reply)
  receive_elsewhere off = record {
    accepted = none_or_none (is_code_no_error reply);
    received = λ i. if off i then message_in reply else None;
    emptied = (λ i. (is_code_no_error reply && false) || (is_code_not_available reply && off i)) ∙ both_off (is_code_no_error reply) (is_code_not_available reply);
    written = none_or_none (is_code_no_error reply);
  }

  pub receive_without : message_in reply ≡ None → is_code_not_available reply ≡ false → LeavesShown config c (entry_of p at (ReceiveQueuing id) reply)
  receive_without none other = record {
    accepted = none_or_none (is_code_no_error reply);
    received = (λ i. if is_destination_of c (port_of config p id) then none i else None) ∙ none_or_none (is_destination_of c (port_of config p id));
    emptied = λ i. and_false (is_code_no_error reply) i || (other i && is_destination_of c (port_of config p id));
    written = none_or_none (is_code_no_error reply);
  }

  pub received_after : (waiting : List (List ℕ)) (m : List ℕ) → is_destination_of c (port_of config p id) ≡ true → message_in reply ≡ Some m → waiting_after config c waiting (entry_of p at (ReceiveQueuing id) reply) ≡ left_after (Some m) waiting
  received_after waiting m destination shown =
      let e = entry_of p at (ReceiveQueuing id) reply in
      let accepted : message_accepted config c e ≡ None = none_or_none (is_code_no_error reply) in
      let received : message_received config c e ≡ Some m = λ i. if destination i then shown i else None in
      let off : empties config c e ≡ false = λ i. and_false (is_code_no_error reply) i || (message_no_code reply m shown i && is_destination_of c (port_of config p id)) in
      (λ i. if off i then [] else left_after (received i) waiting ++ option_to_list (accepted i)) ∙ append-nil (left_after (Some m) waiting)

  pub none_after : (waiting : List (List ℕ)) → is_destination_of c (port_of config p id) ≡ true → is_code_not_available reply ≡ true → waiting_after config c waiting (entry_of p at (ReceiveQueuing id) reply) ≡ []
  none_after waiting destination none =
      let e = entry_of p at (ReceiveQueuing id) reply in
      let on : empties config c e ≡ true = λ i. and_false (is_code_no_error reply) i || (none i && destination i) in
      λ i. if on i then [] else left_after (message_received config c e) waiting ++ option_to_list (message_accepted config c e)

  pub clear_elsewhere : is_destination_of c (port_of config p id) ≡ false → LeavesShown config c (entry_of p at (ClearQueuing id) reply)
  clear_elsewhere off = record {
    accepted = none_or_none (is_code_no_error reply);
    received = refl;
    emptied = (λ i. (is_code_no_error reply && off i) || (is_code_not_available reply && false)) ∙ both_off (is_code_no_error reply) (is_code_not_available reply);
    written = none_or_none (is_code_no_error reply);
  }

  pub clear_refused : is_code_no_error reply ≡ false → LeavesShown config c (entry_of p at (ClearQueuing id) reply)
  clear_refused refused = record {
    accepted = none_or_none (is_code_no_error reply);
    received = refl;
    emptied = λ i. (refused i && is_destination_of c (port_of config p id)) || and_false (is_code_not_available reply) i;
    written = none_or_none (is_code_no_error reply);
  }

  pub cleared_after : (waiting : List (List ℕ)) → is_destination_of c (port_of config p id) ≡ true → is_code_no_error reply ≡ true → waiting_after config c waiting (entry_of p at (ClearQueuing id) reply) ≡ []
  cleared_after waiting destination ok =
      let e = entry_of p at (ClearQueuing id) reply in
      let on : empties config c e ≡ true = λ i. (ok i && destination i) || (is_code_not_available reply && false) in
      λ i. if on i then [] else left_after (message_received config c e) waiting ++ option_to_list (message_accepted config c e)

-- ---- one channel changes

module _ {A : Type 0} (config : Configuration) (p : ℕ) (at : Moment) (id : ℕ) (reply : Reply) (channels : List (ChannelState A)) (i : ℕ) (old new : ChannelState A) (here : slice_get channels i ≡ Some old) (picture : Picture) (each : EachAt (IsChannelShown picture) channels) where
  -- a call that writes nothing
  unwritten : (c : ℕ) → sample_after (if is_code_no_error reply then None else None) (picture.sample c) ≡ picture.sample c
  unwritten c = ap (λ (written : Option Sample). sample_after written (picture.sample c)) (none_or_none (is_code_no_error reply))

  pub sent_notes : (m : List ℕ) → ((c : ℕ) → is_source_of c (port_of config p id) ≡ (i == c)) → is_code_no_error reply ≡ true
      → new.waiting ≡ old.waiting ++ m ∷ [] → length new.waiting ≤ 2 ^ 32 - 1 → new.sample ≡ old.sample
      → EachAt (IsChannelShown (with_effects config (entry_of p at (SendQueuing id m) reply) picture)) (set channels i new)
  sent_notes m source ok waiting few sample =
      let was = each i old here in
      one_changes config picture (entry_of p at (SendQueuing id m) reply) channels i new each
      (λ c apart. send_elsewhere config c p at id m reply (source c ∙ other_number i c apart)) (record {
        waiting = waiting ∙ (ap (λ (xs : List (List ℕ)). xs ++ m ∷ []) was.waiting ∙ sym (sent_after config i p at id m reply (picture.waiting i) (source i ∙ same_number i) ok));
        few = few;
        sample = sample ∙ (was.sample ∙ sym (unwritten i));
      })

  pub written_notes : (m : List ℕ) → ((c : ℕ) → is_source_of c (port_of config p id) ≡ (i == c)) → is_code_no_error reply ≡ true
      → new.waiting ≡ old.waiting → new.sample ≡ Some (record { message = m; at = at })
      → EachAt (IsChannelShown (with_effects config (entry_of p at (WriteSampling id m) reply) picture)) (set channels i new)
  written_notes m source ok waiting sample =
      let was = each i old here in
      let few = was.few in
      let e = entry_of p at (WriteSampling id m) reply in
      let count : length new.waiting ≡ length old.waiting = ap (λ (xs : List (List ℕ)). length xs) waiting in
      let here_source = source i ∙ same_number i in
      one_changes config picture e channels i new each
      (λ c apart. write_elsewhere config c p at id m reply (source c ∙ other_number i c apart)) (record {
        waiting = waiting ∙ (was.waiting ∙ sym (same_after config i (picture.waiting i) e (none_or_none (is_code_no_error reply)) refl (both_off (is_code_no_error reply) (is_code_not_available reply))));
        few = omega (arith, count, few);
        sample = sample ∙ sym (λ j. sample_after (if ok j then sample_at at (if here_source j then Some m else None) else None) (picture.sample i));
      })

  pub received_notes : (m : List ℕ) → ((c : ℕ) → is_destination_of c (port_of config p id) ≡ (i == c)) → message_in reply ≡ Some m
      → new.waiting ≡ left_after (Some m) old.waiting → new.sample ≡ old.sample
      → EachAt (IsChannelShown (with_effects config (entry_of p at (ReceiveQueuing id) reply) picture)) (set channels i new)
  received_notes m destination shown waiting sample =
      let was = each i old here in
      let few = was.few in
      let count : length new.waiting ≡ length (left_after (Some m) old.waiting) = ap (λ (xs : List (List ℕ)). length xs) waiting in
      let fewer = few_behind (position (λ one. bytes_eq one m) old.waiting) old.waiting in
      one_changes config picture (entry_of p at (ReceiveQueuing id) reply) channels i new each
      (λ c apart. receive_elsewhere config c p at id reply (destination c ∙ other_number i c apart)) (record {
        waiting = waiting ∙ (ap (λ (xs : List (List ℕ)). left_after (Some m) xs) was.waiting ∙ sym (received_after config i p at id reply (picture.waiting i) m (destination i ∙ same_number i) shown));
        few = omega (arith, count, fewer, few);
        sample = sample ∙ (was.sample ∙ sym (unwritten i));
      })

  pub emptied_notes : ((c : ℕ) → is_destination_of c (port_of config p id) ≡ (i == c)) → is_code_not_available reply ≡ true
      → new.waiting ≡ [] → new.sample ≡ old.sample
      → EachAt (IsChannelShown (with_effects config (entry_of p at (ReceiveQueuing id) reply) picture)) (set channels i new)
  emptied_notes destination none waiting sample =
      let was = each i old here in
      let count : length new.waiting ≡ 0 = ap (λ (xs : List (List ℕ)). length xs) waiting in
      one_changes config picture (entry_of p at (ReceiveQueuing id) reply) channels i new each
      (λ c apart. receive_elsewhere config c p at id reply (destination c ∙ other_number i c apart)) (record {
        waiting = waiting ∙ sym (none_after config i p at id reply (picture.waiting i) (destination i ∙ same_number i) none);
        few = omega (arith, count);
        sample = sample ∙ (was.sample ∙ sym (unwritten i));
      })

  pub cleared_notes : ((c : ℕ) → is_destination_of c (port_of config p id) ≡ (i == c)) → is_code_no_error reply ≡ true
      → new.waiting ≡ [] → new.sample ≡ old.sample
      → EachAt (IsChannelShown (with_effects config (entry_of p at (ClearQueuing id) reply) picture)) (set channels i new)
  cleared_notes destination ok waiting sample =
      let was = each i old here in
      let count : length new.waiting ≡ 0 = ap (λ (xs : List (List ℕ)). length xs) waiting in
      one_changes config picture (entry_of p at (ClearQueuing id) reply) channels i new each
      (λ c apart. clear_elsewhere config c p at id reply (destination c ∙ other_number i c apart)) (record {
        waiting = waiting ∙ sym (cleared_after config i p at id reply (picture.waiting i) (destination i ∙ same_number i) ok);
        few = omega (arith, count);
        sample = sample ∙ (was.sample ∙ sym (unwritten i));
      })

-- ---- doubts are none of a channel's

pub doubt_stays : {A : Type 0} (picture : Picture) (p : ℕ) (subject : Subject) (doubted : Bool) (channels : List (ChannelState A)) → EachAt (IsChannelShown picture) channels → EachAt (IsChannelShown (with_doubt p subject doubted picture)) channels
doubt_stays picture p subject doubted channels each c state at =
    let was = each c state at in
    record {
      waiting = was.waiting;
      few = was.few;
      sample = was.sample;
    }
