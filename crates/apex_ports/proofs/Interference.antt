-- Partitions that share no channel with the others get the replies that they would get if the others made no call.
use Rattle.apex_ports.proofs.Common.{◌≡◌, ◌≢◌, ℕ, ◌-◌, ◌&&◌, ◌||◌, not, Bool, true, false, cond, if◌then◌else◌, List, [], ◌∷◌, ◌++◌, length, drop, fold, Option, Some, None, refl, sym, ap, ◌∙◌, subst, arith, append-nil, slice_get, filter_map, cons_option, unwrap_or, option_to_list, nat_tests, filter-append, Call, Moment, ColdStart, Sample, Taken, Invalid, Configuration, port_of, Port, Entry, History, mode_of}
use Rattle.apex_ports.proofs.Common.{mode_set, restarts, is_restart, is_created, creates, accepted_on, taken_after, taken_by, taken_on, last_validity_of, validity_read, message_accepted, sample_written, IsLawful, IsLawfulEntry, reply_to, reply_of, row_of, Seen, seen, waiting_of, sample_of}
use Rattle.apex_types.specs.declared.call.Call.TheVariants as call
use Rattle.apex_ports.specs.Interference.{IsClosed, entries_inside, requests_inside, IsIndependent, AlwaysFreeFromInterference}
use Rattle.apex_ports.specs.LawfulLaws.{along_lawful, one_history}
use Rattle.apex_ports.proofs.Appends.{accepted_on-append}
use Rattle.apex_ports.proofs.LawfulSteps.{lawful_push}
use Rattle.apex_ports.proofs.OneChannel.{LiesElsewhere, off_channel, sends_elsewhere, receives_elsewhere, clears_elsewhere, writes_elsewhere}
use Rattle.apex_ports.proofs.PartitionSteps.{leaves_others}
use Rattle.apex_ports.proofs.Stays.{LeavesPartition, LeavesChannel, IsElsewhere, leaves_channel, or_not, accepted_stays, takes_nothing}

-- ---- what is filtered out of a history, without the entries outside

pub filter_map-inside : {Y : Type 0} (f : Entry → Option Y) (inside : ℕ → Bool) (h : History) → ((e : Entry) → inside e.partition ≡ false → f e ≡ None) → filter_map f (entries_inside inside h) ≡ filter_map f h
filter_map-inside f inside [] none = refl
filter_map-inside f inside (e ∷ h) none = by_test (inside e.partition) refl (filter_map-inside f inside h none)
  where
    by_test : (b : Bool) → inside e.partition ≡ b → filter_map f (entries_inside inside h) ≡ filter_map f h → filter_map f (cond b (e ∷ entries_inside inside h) (entries_inside inside h)) ≡ filter_map f (e ∷ h)
    by_test true here rest = ap (cons_option (f e)) rest
    by_test false outside rest = rest ∙ ap (λ o. cons_option o (filter_map f h)) (sym (none e outside))

pub fold-inside : {B : Type 0} (f : B → Entry → B) (inside : ℕ → Bool) (h : History) (b : B) → ((b : B) (e : Entry) → inside e.partition ≡ false → f b e ≡ b) → fold f b (entries_inside inside h) ≡ fold f b h
fold-inside {B} f inside [] b stays = refl
fold-inside {B} f inside (e ∷ h) b stays = by_test (inside e.partition) refl (λ c. fold-inside f inside h c stays)
  where
    by_test : (t : Bool) → inside e.partition ≡ t → ((c : B) → fold f c (entries_inside inside h) ≡ fold f c h)
        → fold f b (cond t (e ∷ entries_inside inside h) (entries_inside inside h)) ≡ fold f (f b e) h
    by_test true here rest = rest (f b e)
    by_test false outside rest = rest b ∙ ap (λ c. fold f c h) (sym (stays b e outside))

-- the same messages are taken from a channel if entries that leave it unchanged are dropped
pub taken-inside : (config : Configuration) (c : ℕ) (inside : ℕ → Bool) → ((e : Entry) → inside e.partition ≡ false → LeavesChannel config c e) → (before other : History) (taken : List Taken) (h : List Entry)
    → accepted_on config c other ≡ accepted_on config c before → taken_after config c other taken (entries_inside inside h) ≡ taken_after config c before taken h
taken-inside config c inside leaves before other taken [] same = refl
taken-inside config c inside leaves before other taken (e ∷ h) same = by_test (inside e.partition) refl (λ before other taken same. taken-inside config c inside leaves before other taken h same)
  where
    by_test : (b : Bool) → inside e.partition ≡ b
        → ((before other : History) (taken : List Taken) → accepted_on config c other ≡ accepted_on config c before → taken_after config c other taken (entries_inside inside h) ≡ taken_after config c before taken h)
        → taken_after config c other taken (cond b (e ∷ entries_inside inside h) (entries_inside inside h)) ≡ taken_after config c before taken (e ∷ h)
    by_test true here rest =
        (λ i. taken_after config c (other ++ e ∷ []) (taken ++ taken_by config c (drop (length taken) (same i)) e) (entries_inside inside h))
        ∙ rest (before ++ e ∷ []) (other ++ e ∷ []) (taken ++ taken_by config c (drop (length taken) (accepted_on config c before)) e)
        (accepted_on-append config c other e ∙ (ap (λ messages. messages ++ option_to_list (message_accepted config c e)) same ∙ sym (accepted_on-append config c before e)))
    by_test false outside rest =
        let left = leaves e outside in
        rest (before ++ e ∷ []) other taken (same ∙ sym (accepted_stays config c before e left.accepted))
        ∙ sym (ap (λ more. taken_after config c (before ++ e ∷ []) more h) (ap (λ more. taken ++ more) (takes_nothing config c (drop (length taken) (accepted_on config c before)) e left.received left.cleared) ∙ append-nil taken))

-- ---- entries outside a closed set

off_port : (c : ℕ) (port : Option Port) → ((other : Port) → port ≡ Some other → other.channel ≢ c) → LiesElsewhere c port
off_port c None off = record { source = refl; destination = refl }
off_port c (Some other) off = let apart : other.channel ≢ c = off other refl in off_channel other c (grind (arith, nat_tests))

off_call : (config : Configuration) (c q : ℕ) (asked : Call) → ((id : ℕ) → LiesElsewhere c (port_of config q id)) → IsElsewhere config c q asked
off_call config c q (call.SendQueuing id message) off = sends_elsewhere config c q id message (off id)
off_call config c q (call.ReceiveQueuing id) off = receives_elsewhere config c q id (off id)
off_call config c q (call.ClearQueuing id) off = clears_elsewhere config c q id (off id)
off_call config c q (call.WriteSampling id message) off = writes_elsewhere config c q id message (off id)
off_call config c q _ off = record { sends = refl; receives = refl; clears = refl; writes = refl }

module _ (config : Configuration) (inside : ℕ → Bool) (closed : IsClosed config inside) where
  leaves_inside : (p : ℕ) → inside p ≡ true → (e : Entry) → inside e.partition ≡ false → LeavesPartition p e
  leaves_inside p here e outside = leaves_others e.partition e.at e.call e.reply p (λ same. absurd (let both : inside p ≡ inside e.partition = ap inside same in cc))

  pub leaves_channel_inside : (p id : ℕ) (port : Port) → inside p ≡ true → port_of config p id ≡ Some port → (e : Entry) → inside e.partition ≡ false → LeavesChannel config port.channel e
  leaves_channel_inside p id port here mine e outside =
      leaves_channel config port.channel e.partition e.at e.call e.reply
      (off_call config port.channel e.partition e.call
      (λ jd. off_port port.channel (port_of config e.partition jd)
      (λ other theirs shared. absurd (grind (arith, closed p id e.partition jd port other mine theirs (sym shared), here, outside)))))

  module _ (h : History) (p : ℕ) (here : inside p ≡ true) where
    waiting_inside : (id : ℕ) (port : Option Port) → port_of config p id ≡ port → waiting_of config (entries_inside inside h) port ≡ waiting_of config h port
    waiting_inside id None mine = refl
    waiting_inside id (Some port) mine = λ i. drop (length (taken i)) (accepted i)
      where
        accepted : accepted_on config port.channel (entries_inside inside h) ≡ accepted_on config port.channel h
        accepted = filter_map-inside (message_accepted config port.channel) inside h (λ e outside. (leaves_channel_inside p id port here mine e outside).accepted)

        taken : taken_on config port.channel (entries_inside inside h) ≡ taken_on config port.channel h
        taken = taken-inside config port.channel inside (leaves_channel_inside p id port here mine) [] [] [] h refl

    sample_inside : (id : ℕ) (port : Option Port) → port_of config p id ≡ port → sample_of config (entries_inside inside h) port ≡ sample_of config h port
    sample_inside id None mine = refl
    sample_inside id (Some port) mine =
        ap (λ (writes : List Sample). slice_get writes (length writes - 1)) (filter_map-inside (sample_written config port.channel) inside h (λ e outside. (leaves_channel_inside p id port here mine e outside).written))

    -- a partition inside sees the same after only the entries inside
    seen_inside : seen config (entries_inside inside h) p ≡ seen config h p
    seen_inside = λ i. record {
      mode = mode i;
      created = λ id. created id i;
      last = λ id. last id i;
      waiting = λ id. waiting_inside id (port_of config p id) refl i;
      sample = λ id. sample_inside id (port_of config p id) refl i;
    }
      where
        mode : mode_of p (entries_inside inside h) ≡ mode_of p h
        mode = fold-inside (λ mode entry. unwrap_or (mode_set p entry) mode) inside h ColdStart (λ mode e outside. ap (λ o. unwrap_or o mode) (leaves_inside p here e outside).mode)

        created : (id : ℕ) → is_created p id (entries_inside inside h) ≡ is_created p id h
        created id = fold-inside (λ created entry. creates p id entry || (created && not (restarts p entry))) inside h false
            (λ created e outside. let left = leaves_inside p here e outside in (λ i. left.created id i || (created && not (is_restart (left.mode i)))) ∙ or_not created)

        last : (id : ℕ) → last_validity_of p id (entries_inside inside h) ≡ last_validity_of p id h
        last id = fold-inside (λ last entry. if creates p id entry then Invalid else unwrap_or (validity_read p id entry) last) inside h Invalid
            (λ last e outside. let left = leaves_inside p here e outside in λ i. if left.created id i then Invalid else unwrap_or (left.read id i) last)

    reply_inside : (now : Moment) (asked : Call) → reply_to config h p now asked ≡ reply_to config (entries_inside inside h) p now asked
    reply_inside now asked = ap (λ (s : Seen). reply_of config s p (row_of config s p now asked)) (sym seen_inside)

  -- ---- histories

  one_more : (h : History) (e : Entry) → IsLawfulEntry config h e → IsLawful config (entries_inside inside h) → IsLawful config (entries_inside inside (h ++ e ∷ []))
  one_more h e lawful alone = subst (IsLawful config) (sym (filter-append (λ (entry : Entry). inside entry.partition) h (e ∷ []))) (by_test (inside e.partition) refl)
    where
      by_test : (b : Bool) → inside e.partition ≡ b → IsLawful config (entries_inside inside h ++ cond b (e ∷ []) [])
      by_test true here = lawful_push config (entries_inside inside h) e.partition e.at e.call e.reply alone lawful.0 (lawful.1 ∙ reply_inside h e.partition here e.at e.call)
      by_test false outside = subst (IsLawful config) (sym (append-nil (entries_inside inside h))) alone

  lawful_inside : (h : History) → IsLawful config h → IsLawful config (entries_inside inside h)
  lawful_inside h lawful = along_lawful config (λ past. IsLawful config (entries_inside inside past)) one_more [] h lawful (λ k e here. absurd (cc))

  pub independent : (h : History) → IsLawful config h → IsIndependent config inside h
  independent h lawful = record {
    alone = lawful_inside h lawful;
    same = λ other lawful_too calls. one_history config (requests_inside inside h) (entries_inside inside other) (entries_inside inside h) (lawful_inside other lawful_too, calls) (lawful_inside h lawful, refl);
    reply = λ p now asked here. reply_inside h p here now asked;
  }

pub always_free : AlwaysFreeFromInterference
always_free config h lawful inside closed = independent config inside closed h lawful
