-- What is kept for each channel, before and after one more entry.
use Rattle.dekarino_drawings.proofs.Common.{◌≡◌, ◌≢◌, ℕ, suc, ◌+◌, ◌-◌, ◌^◌, ◌<◌, ◌≤◌, min, max, Bool, true, false, if◌then◌else◌, List, [], ◌∷◌, ◌++◌, length, length-append, length-set, set, drop, arith, Option, Some, None, is_some, refl, sym, ap, ◌∙◌, subst, append_assoc, append-nil, slice_get, option_map, cons_option, filter_map, flat_map, length-drop, slice_get_within, Configuration, port_of, History, ChannelCalls}
use Rattle.dekarino_drawings.proofs.Common.{index_if, indexes_from, sends_on, writes_on, last_write, on_channel_of, origin_of, waiting_from, IsFollowed, AreFollowed, waits_in, channel_changed}
use Rattle.std.proofs.lemmas.Bool.Decides.{nat_tests}
use Rattle.apex_types.specs.declared.call.Call.{Call}
use Rattle.apex_types.specs.declared.call.Call.TheVariants.{SendQueuing, ReceiveQueuing, ClearQueuing, WriteSampling, ReadSampling}
use Rattle.apex_types.specs.declared.reply.Reply.{Reply}
use Rattle.apex_types.specs.declared.reply.Reply.TheVariants.{Read}
use Rattle.apex_types.specs.declared.taken.Taken.{Taken}
use Rattle.apex_types.specs.declared.validity.Validity.{Validity}
use Rattle.apex_module.specs.declared.channel.Channel.{Channel}
use Rattle.apex_module.specs.declared.port.Port.{Port}
use Rattle.apex_ports.specs.declared.history.Entry.{Entry}
use Rattle.apex_ports.specs.Channels.{message_accepted, accepted_on, taken_on, taken_by, waiting_on, sample_written}
use Rattle.apex_ports.proofs.Appends.{taken_on-append}
use Rattle.apex_ports.proofs.OneChannel.{LiesElsewhere, off_channel, sends_elsewhere, receives_elsewhere, clears_elsewhere, writes_elsewhere}
use Rattle.apex_ports.proofs.Stays.{IsElsewhere, LeavesChannel, leaves_channel, taken_stays, each_at_set}

-- ---- indexes

index_last : (test : Entry → Bool) (n : ℕ) (h : History) (e : Entry) → indexes_from test n (h ++ e ∷ []) ≡ indexes_from test n h ++ index_if (test e) (n + length h)
unfolding indexes_from
index_last test n [] e =
    let here : n ≡ n + 0 = omega arith in
    append-nil (index_if (test e) n) ∙ ap (λ (k : ℕ). index_if (test e) k) here
index_last test n (x ∷ h) e =
    let there : n + 1 + length h ≡ n + length (x ∷ h) = omega arith in
    ap (λ (ys : List ℕ). index_if (test x) n ++ ys) (index_last test (n + 1) h e ∙ ap (λ (k : ℕ). indexes_from test (n + 1) h ++ index_if (test e) k) there)
    ∙ sym (append_assoc (index_if (test x) n) (indexes_from test (n + 1) h) (index_if (test e) (n + length (x ∷ h))))

index_pushed : (test : Entry → Bool) (h : History) (e : Entry) (n : ℕ) → length h ≡ n → indexes_from test 0 (h ++ e ∷ []) ≡ indexes_from test 0 h ++ index_if (test e) n
index_pushed test h e n is =
    let here : 0 + length h ≡ n = omega arith in
    index_last test 0 h e ∙ ap (λ (k : ℕ). indexes_from test 0 h ++ index_if (test e) k) here

one_index : (test : Bool) (n : ℕ) → length (index_if test n) ≤ 1
one_index true n = omega arith
one_index false n = omega arith

-- as many indexes as items that are found
index_count : {Y : Type 0} (find : Entry → Option Y) (n : ℕ) (h : History) → length (indexes_from (λ entry. is_some (find entry)) n h) ≡ length (filter_map find h)
unfolding indexes_from
index_count find n [] = refl
index_count {Y} find n (x ∷ h) = one_more (find x) (indexes_from (λ entry. is_some (find entry)) (n + 1) h) (filter_map find h) (index_count find (n + 1) h)
  where
    one_more : (found : Option Y) (indexes : List ℕ) (items : List Y) → length indexes ≡ length items → length (index_if (is_some found) n ++ indexes) ≡ length (cons_option found items)
    one_more None indexes items same = same
    one_more (Some y) indexes items same = ap suc same

-- ---- the last write

last_or : Option ℕ → List ℕ → Option ℕ
last_or found [] = found
last_or found (x ∷ rest) = last_or (Some x) rest

last_is : (x : ℕ) (xs : List ℕ) → last_or (Some x) xs ≡ slice_get (x ∷ xs) (length xs)
unfolding last_or
last_is x [] = refl
last_is x (y ∷ rest) = last_is y rest

last_of : (xs : List ℕ) → last_or None xs ≡ slice_get xs (length xs - 1)
unfolding last_or
last_of [] = refl
last_of (x ∷ rest) =
    let shorter : length rest ≡ length (x ∷ rest) - 1 = omega arith in
    last_is x rest ∙ ap (λ (n : ℕ). slice_get (x ∷ rest) n) shorter

last_pushed : (found : Option ℕ) (xs : List ℕ) (x : ℕ) → last_or found (xs ++ x ∷ []) ≡ Some x
unfolding last_or
last_pushed found [] x = refl
last_pushed found (y ∷ rest) x = last_pushed (Some y) rest x

last_index : (xs : List ℕ) (test : Bool) (n : ℕ) → slice_get (xs ++ index_if test n) (length (xs ++ index_if test n) - 1) ≡ (if test then Some n else slice_get xs (length xs - 1))
last_index xs true n = sym (last_of (xs ++ n ∷ [])) ∙ last_pushed None xs n
last_index xs false n = ap (λ (ys : List ℕ). slice_get ys (length ys - 1)) (append-nil xs)

last_write_step : (config : Configuration) (c : ℕ) (h : History) (e : Entry) (n : ℕ) → length h ≡ n → last_write config (h ++ e ∷ []) c ≡ (if is_some (sample_written config c e) then Some n else last_write config h c)
last_write_step config c h e n is =
    ap (λ (ys : List ℕ). slice_get ys (length ys - 1)) (index_pushed (λ entry. is_some (sample_written config c entry)) h e n is)
    ∙ last_index (writes_on config c h) (is_some (sample_written config c e)) n

-- ---- what was taken

taken_step : (config : Configuration) (c : ℕ) (h : History) (e : Entry) (sent taken more : ℕ) → sent ≡ length (accepted_on config c h) → taken ≡ length (taken_on config c h)
    → ((messages : List (List ℕ)) → length messages ≡ sent - taken → more ≡ length (taken_by config c messages e))
    → taken + more ≡ length (taken_on config c (h ++ e ∷ []))
taken_step config c h e sent taken more accepted was is =
    let grown = ap (λ (all : List Taken). length all) (taken_on-append config c h e) in
    let apart = length-append (taken_on config c h) (taken_by config c (waiting_on config c h) e) in
    let waits : length (waiting_on config c h) ≡ sent - taken = length-drop (length (taken_on config c h)) (accepted_on config c h) ∙ (λ i. sym accepted i - sym was i) in
    let now = is (waiting_on config c h) waits in
    cc

-- ---- a channel

-- before any entry
pub none_followed : (config : Configuration) (c : ℕ) (calls : ChannelCalls) → calls.sends.items ≡ [] → calls.taken ≡ 0 → calls.last_write ≡ None → IsFollowed config [] c calls
unfolding indexes_from
none_followed config c calls sends taken last = record {
  sends = sends;
  taken = taken;
  last_write = last;
  few_sends = omega (arith, ap (λ (xs : List ℕ). length xs) sends);
  few_taken = omega arith;
}

-- what an entry does to it
pub follows : (config : Configuration) (before : History) (e : Entry) (c index : ℕ) (old new : ChannelCalls) (more : ℕ) → length before ≡ index → index < 2 ^ 64 - 1 → IsFollowed config before c old
    → ((messages : List (List ℕ)) → length messages ≡ length old.sends.items - old.taken → more ≡ length (taken_by config c messages e))
    → more ≤ max 1 (length old.sends.items - old.taken)
    → new.taken ≡ min (old.taken + more) (2 ^ 64 - 1)
    → new.last_write ≡ (if is_some (sample_written config c e) then Some index else old.last_write)
    → new.sends.items ≡ old.sends.items ++ index_if (is_some (message_accepted config c e)) index
    → IsFollowed config (before ++ e ∷ []) c new
follows config before e c index old new more size small was is few taken last sends =
    let sent : length old.sends.items ≡ length (accepted_on config c before) = ap (λ (xs : List ℕ). length xs) was.sends ∙ index_count (message_accepted config c) 0 before in
    let total : old.taken + more ≡ length (taken_on config c (before ++ e ∷ [])) = taken_step config c before e (length old.sends.items) old.taken more sent was.taken is in
    let longer = length-append before (e ∷ []) in
    let room = was.few_taken in
    let room_sends = was.few_sends in
    let exact : new.taken ≡ old.taken + more = omega arith in
    record {
      sends = sends ∙ (ap (λ (xs : List ℕ). xs ++ index_if (is_some (message_accepted config c e)) index) was.sends ∙ sym (index_pushed (λ entry. is_some (message_accepted config c entry)) before e index size));
      taken = exact ∙ total;
      last_write = last ∙ ((λ i. if is_some (sample_written config c e) then Some index else was.last_write i) ∙ sym (last_write_step config c before e index size));
      few_sends = omega (arith, ap (λ (xs : List ℕ). length xs) sends, length-append old.sends.items (index_if (is_some (message_accepted config c e)) index), one_index (is_some (message_accepted config c e)) index);
      few_taken = omega arith;
    }

-- an entry that leaves it unchanged
stays : (config : Configuration) (before : History) (e : Entry) (c : ℕ) (calls : ChannelCalls) → LeavesChannel config c e → IsFollowed config before c calls → IsFollowed config (before ++ e ∷ []) c calls
stays config before e c calls left was =
    let longer = length-append before (e ∷ []) in
    let none_sent : is_some (message_accepted config c e) ≡ false = ap (λ (o : Option (List ℕ)). is_some o) left.accepted in
    let none_written : is_some (sample_written config c e) ≡ false = rw left.written refl in
    let n = length before in
    record {
      sends = was.sends ∙ sym (index_pushed (λ entry. is_some (message_accepted config c entry)) before e n refl ∙ ((λ i. sends_on config c before ++ index_if (none_sent i) n) ∙ append-nil (sends_on config c before)));
      taken = was.taken ∙ ap (λ (all : List Taken). length all) (sym (taken_stays config c before e left.received left.cleared));
      last_write = was.last_write ∙ sym (last_write_step config c before e n refl ∙ (λ i. if none_written i then Some n else last_write config before c));
      few_sends = omega (arith, was.few_sends);
      few_taken = omega (arith, was.few_taken);
    }

-- ---- the channel that an entry can change

port_apart : (port : Option Port) (c : ℕ) → option_map (λ (one : Port). one.channel) port ≢ Some c → LiesElsewhere c port
port_apart None c apart = record { source = refl; destination = refl }
port_apart (Some port) c apart =
    let other : port.channel ≢ c = λ same. apart (ap Some same) in
    off_channel port c (grind (arith, nat_tests))

call_apart : (config : Configuration) (c p : ℕ) (call : Call) → channel_changed config p call ≢ Some c → IsElsewhere config c p call
call_apart config c p (SendQueuing id message) apart = sends_elsewhere config c p id message (port_apart (port_of config p id) c apart)
call_apart config c p (ReceiveQueuing id) apart = receives_elsewhere config c p id (port_apart (port_of config p id) c apart)
call_apart config c p (ClearQueuing id) apart = clears_elsewhere config c p id (port_apart (port_of config p id) c apart)
call_apart config c p (WriteSampling id message) apart = writes_elsewhere config c p id message (port_apart (port_of config p id) c apart)
call_apart config c p _ apart = record { sends = refl; receives = refl; clears = refl; writes = refl }

entry_apart : (config : Configuration) (c : ℕ) (e : Entry) → channel_changed config e.partition e.call ≢ Some c → LeavesChannel config c e
entry_apart config c e apart = leaves_channel config c e.partition e.at e.call e.reply (call_apart config c e.partition e.call apart)

-- ---- all channels

-- one of them is changed
pub one_follows : (config : Configuration) (before : History) (e : Entry) (channels : List ChannelCalls) (c : ℕ) (new : ChannelCalls) → channel_changed config e.partition e.call ≡ Some c
    → AreFollowed config before channels → IsFollowed config (before ++ e ∷ []) c new → AreFollowed config (before ++ e ∷ []) (set channels c new)
one_follows config before e channels c new changed was now = record {
  count = length-set channels c new ∙ was.count;
  each = each_at_set (IsFollowed config before) (IsFollowed config (before ++ e ∷ [])) channels c new was.each
      (λ k calls apart kept. stays config before e k calls (entry_apart config k e (λ same. apart (let both : Some k ≡ Some c = sym same ∙ changed in cc))) kept) now;
}

-- none of them is changed
pub none_follows : (config : Configuration) (before : History) (e : Entry) (channels : List ChannelCalls) → ((c : ℕ) → c < length channels → channel_changed config e.partition e.call ≢ Some c)
    → AreFollowed config before channels → AreFollowed config (before ++ e ∷ []) channels
none_follows config before e channels apart was = record {
  count = was.count;
  each = λ k calls at. stays config before e k calls (entry_apart config k e (apart k (slice_get_within channels k calls at))) (was.each k calls at);
}

-- ---- what a read shows

pub read_origin : (config : Configuration) (before : History) (p id : ℕ) (call : Call) (reply : Reply) (message : List ℕ) (validity : Validity) (port : Port) → call ≡ ReadSampling id → reply ≡ Read message validity
    → port_of config p id ≡ Some port → last_write config before port.channel ≡ origin_of config before p call reply
read_origin config before p id call reply message validity port is shows found =
    sym ((λ i. origin_of config before p (is i) (shows i)) ∙ ap (on_channel_of (last_write config before)) found)

-- ---- what waits at the end

waits_from : (config : Configuration) (h : History) (n : ℕ) (kept : List ChannelCalls) (channels : List Channel) → length kept ≡ length channels
    → ((k : ℕ) (calls : ChannelCalls) → slice_get kept k ≡ Some calls → IsFollowed config h (n + k) calls) → flat_map waits_in kept ≡ waiting_from config h n channels
unfolding waiting_from
waits_from config h n [] [] count each = refl
waits_from config h n [] (channel ∷ rest) count each = absurd (omega arith)
waits_from config h n (calls ∷ kept) [] count each = absurd (omega arith)
waits_from config h n (calls ∷ kept) (channel ∷ rest) count each =
    let first : n + 0 ≡ n = omega arith in
    let here : IsFollowed config h n calls = subst (λ (c : ℕ). IsFollowed config h c calls) first (each 0 calls refl) in
    let shorter : length kept ≡ length rest = omega arith in
    let behind = waits_from config h (n + 1) kept rest shorter
    (λ k one at. let next : n + suc k ≡ n + 1 + k = omega arith in subst (λ (c : ℕ). IsFollowed config h c one) next (each (suc k) one at)) in
    λ i. drop (here.taken i) (here.sends i) ++ behind i

pub all_wait : (config : Configuration) (h : History) (kept : List ChannelCalls) → AreFollowed config h kept → flat_map waits_in kept ≡ waiting_from config h 0 config.channels
all_wait config h kept was =
    waits_from config h 0 kept config.channels was.count
    (λ k calls at. let here : k ≡ 0 + k = omega arith in subst (λ (c : ℕ). IsFollowed config h c calls) here (was.each k calls at))
