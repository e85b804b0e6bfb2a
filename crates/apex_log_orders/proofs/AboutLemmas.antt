-- A history without what isn't about a channel is lawful too.
use Rattle.apex_log_orders.proofs.Common.{◌≡◌, ◌⊎◌, inl, inr, ⊎_elim, ℕ, zero, suc, ◌+◌, ◌-◌, ◌==◌, ◌&&◌, ◌||◌, not, Bool, true, false, cond, if◌then◌else◌, List, [], ◌∷◌, ◌++◌, length, take, drop, fold, Option, Some, None, refl, sym, ap, ◌∙◌, subst, arith, append-nil, slice_get, filter, filter_map, cons_option, list_any, unwrap_or, option_to_list, nat_tests, Call, ColdStart, Sample, Configuration, port_of, ports_of}
use Rattle.apex_log_orders.proofs.Common.{Port, Entry, History, entries_of, mode_of, mode_set, mode_asked, restarts, is_restart, is_code_no_error, is_created, creates, is_create, is_id, accepted_on, taken_after, taken_by, taken_on, last_validity_of, validity_read, validity_in, is_read, message_accepted, sample_written, reply_to, reply_of, row_of, Seen, seen, waiting_of, sample_of, accepted_on-append, LeavesChannel}
use Rattle.apex_log_orders.proofs.Common.{accepted_stays, takes_nothing, and_false, none_or_none, or_not, has_end, id_used, is_elsewhere, is_about, about, logs_about, Logs, log_in, IsOrder, HasNoOrder}
use Rattle.std.proofs.lemmas.List.Elements.{filter-append}
use Rattle.apex_types.specs.declared.call.Call.TheVariants as call
use Rattle.apex_types.specs.declared.taken.Taken.{Taken}
use Rattle.apex_types.specs.declared.validity.Validity.TheVariants.{Invalid}
use Rattle.apex_ports.specs.Lawful.{IsLawful, IsLawfulEntry}
use Rattle.apex_ports.specs.LawfulLaws.{along_lawful}
use Rattle.apex_ports.proofs.LawfulSteps.{lawful_push}
use Rattle.apex_ports.proofs.PartitionSteps.{leaves_others}
use Rattle.apex_orders.specs.Commuting.{id_in, port_in, is_on, names, is_change}
use Rattle.apex_orders.proofs.Leaving.{leaves_unchanged, status_in, at_id, narrowed, replies_narrowed}

-- ---- what is filtered out of a history, without entries that show nothing of it

module _ (keep : Entry → Bool) where
  filter_map-kept : {Y : Type 0} (f : Entry → Option Y) (h : History) → ((e : Entry) → keep e ≡ false → f e ≡ None) → filter_map f (filter keep h) ≡ filter_map f h
  filter_map-kept f [] none = refl
  filter_map-kept f (e ∷ h) none = by_test (keep e) refl (filter_map-kept f h none)
    where
      by_test : (b : Bool) → keep e ≡ b → filter_map f (filter keep h) ≡ filter_map f h → filter_map f (cond b (e ∷ filter keep h) (filter keep h)) ≡ filter_map f (e ∷ h)
      by_test true here rest = ap (cons_option (f e)) rest
      by_test false gone rest = rest ∙ ap (λ o. cons_option o (filter_map f h)) (sym (none e gone))

  fold-kept : {B : Type 0} (f : B → Entry → B) (h : History) (b : B) → ((b : B) (e : Entry) → keep e ≡ false → f b e ≡ b) → fold f b (filter keep h) ≡ fold f b h
  fold-kept {B} f [] b stays = refl
  fold-kept {B} f (e ∷ h) b stays = by_test (keep e) refl (λ c. fold-kept f h c stays)
    where
      by_test : (t : Bool) → keep e ≡ t → ((c : B) → fold f c (filter keep h) ≡ fold f c h)
          → fold f b (cond t (e ∷ filter keep h) (filter keep h)) ≡ fold f (f b e) h
      by_test true here rest = rest (f b e)
      by_test false gone rest = rest b ∙ ap (λ c. fold f c h) (sym (stays b e gone))

  entries-kept : (p : ℕ) (h : History) → entries_of p (filter keep h) ≡ filter keep (entries_of p h)
  entries-kept p [] = refl
  entries-kept p (e ∷ h) = by_tests (keep e) (e.partition == p) refl refl (entries-kept p h)
    where
      by_tests : (a b : Bool) → keep e ≡ a → (e.partition == p) ≡ b → entries_of p (filter keep h) ≡ filter keep (entries_of p h)
          → entries_of p (cond a (e ∷ filter keep h) (filter keep h)) ≡ filter keep (cond b (e ∷ entries_of p h) (entries_of p h))
      by_tests true true here own rest =
          (λ i. cond (own i) (e ∷ entries_of p (filter keep h)) (entries_of p (filter keep h)))
          ∙ (ap (λ (es : History). e ∷ es) rest ∙ sym (λ i. cond (here i) (e ∷ filter keep (entries_of p h)) (filter keep (entries_of p h))))
      by_tests true false here own rest = (λ i. cond (own i) (e ∷ entries_of p (filter keep h)) (entries_of p (filter keep h))) ∙ rest
      by_tests false true here own rest = rest ∙ sym (λ i. cond (here i) (e ∷ filter keep (entries_of p h)) (filter keep (entries_of p h)))
      by_tests false false here own rest = rest

  module _ (config : Configuration) (c : ℕ) (leaves : (e : Entry) → keep e ≡ false → LeavesChannel config c e) where
    taken-kept : (before other : History) (taken : List Taken) (h : List Entry)
        → accepted_on config c other ≡ accepted_on config c before → taken_after config c other taken (filter keep h) ≡ taken_after config c before taken h
    taken-kept before other taken [] same = refl
    taken-kept before other taken (e ∷ h) same = by_test (keep e) refl (λ before other taken same. taken-kept before other taken h same)
      where
        by_test : (b : Bool) → keep e ≡ b
            → ((before other : History) (taken : List Taken) → accepted_on config c other ≡ accepted_on config c before → taken_after config c other taken (filter keep h) ≡ taken_after config c before taken h)
            → taken_after config c other taken (cond b (e ∷ filter keep h) (filter keep h)) ≡ taken_after config c before taken (e ∷ h)
        by_test true here rest =
            (λ i. taken_after config c (other ++ e ∷ []) (taken ++ taken_by config c (drop (length taken) (same i)) e) (filter keep h))
            ∙ rest (before ++ e ∷ []) (other ++ e ∷ []) (taken ++ taken_by config c (drop (length taken) (accepted_on config c before)) e)
            (accepted_on-append config c other e ∙ (ap (λ messages. messages ++ option_to_list (message_accepted config c e)) same ∙ sym (accepted_on-append config c before e)))
        by_test false gone rest =
            let left = leaves e gone in
            rest (before ++ e ∷ []) other taken (same ∙ sym (accepted_stays config c before e left.accepted))
            ∙ sym (ap (λ more. taken_after config c (before ++ e ∷ []) more h) (ap (λ more. taken ++ more) (takes_nothing config c (drop (length taken) (accepted_on config c before)) e left.received left.cleared) ∙ append-nil taken))

-- ---- entries that aren't about the channel

none_of : {X : Type 0} (f : X → Bool) (xs : List X) (k : ℕ) (x : X) → list_any f xs ≡ false → slice_get xs k ≡ Some x → f x ≡ false
none_of f [] k x none here = absurd cc
none_of f (y ∷ ys) zero x none here = by_test (f y) refl none
  where
    by_test : (b : Bool) → f y ≡ b → (b || list_any f ys) ≡ false → f x ≡ false
    by_test true is all = absurd cc
    by_test false is all = let same : y ≡ x = cc in subst (λ (z : _). f z ≡ false) same is
none_of f (y ∷ ys) (suc k) x none here = by_test (f y) none (λ all. none_of f ys k x all here)
  where
    by_test : (b : Bool) → (b || list_any f ys) ≡ false → (list_any f ys ≡ false → f x ≡ false) → f x ≡ false
    by_test true all rest = absurd cc
    by_test false all rest = rest all

-- one more element, if there is one
pub any_next : {X : Type 0} (f : X → Bool) (xs : List X) (i : ℕ) (x : X) → slice_get xs i ≡ Some x → f x ≡ false → list_any f (take i xs) ≡ false → list_any f (take (suc i) xs) ≡ false
any_next f [] i x here is none = absurd cc
any_next f (y ∷ ys) zero x here is none = let same : y ≡ x = cc in λ j. (ap f same ∙ is) j || false
any_next f (y ∷ ys) (suc i) x here is none = by_test (f y) none (any_next f ys i x here is)
  where
    by_test : (b : Bool) → (b || list_any f (take i ys)) ≡ false → (list_any f (take i ys) ≡ false → list_any f (take (suc i) ys) ≡ false) → (b || list_any f (take (suc i) ys)) ≡ false
    by_test true all rest = absurd cc
    by_test false all rest = rest all

pub any_past : {X : Type 0} (f : X → Bool) (xs : List X) (i : ℕ) → slice_get xs i ≡ None → list_any f (take i xs) ≡ false → list_any f (take (suc i) xs) ≡ false
any_past f [] i here none = refl
any_past f (y ∷ ys) zero here none = absurd cc
any_past f (y ∷ ys) (suc i) here none = by_test (f y) none (any_past f ys i here)
  where
    by_test : (b : Bool) → (b || list_any f (take i ys)) ≡ false → (list_any f (take i ys) ≡ false → list_any f (take (suc i) ys) ≡ false) → (b || list_any f (take (suc i) ys)) ≡ false
    by_test true all rest = absurd cc
    by_test false all rest = rest all

pub any_here : {X : Type 0} (f : X → Bool) (xs : List X) (k : ℕ) (x : X) → slice_get xs k ≡ Some x → f x ≡ true → list_any f xs ≡ true
any_here f xs k x here is = by_test (list_any f xs) refl
  where
    by_test : (b : Bool) → list_any f xs ≡ b → b ≡ true
    by_test true all = refl
    by_test false all = absurd (let not_it : f x ≡ false = none_of f xs k x all here in cc)

-- the port of an identifier is found by its index
pub port_at_index : (config : Configuration) (p index : ℕ) → port_of config p (index + 1) ≡ slice_get (ports_of config p) index
port_at_index config p index =
    let not_zero : (index + 1 == 0) ≡ false = grind (arith, nat_tests) in
    let back : index + 1 - 1 ≡ index = omega arith in
    (λ i. if not_zero i then None else slice_get (ports_of config p) (index + 1 - 1)) ∙ ap (slice_get (ports_of config p)) back

both_or : (a b : Bool) → (a && not b) ≡ false → (a ≡ false) ⊎ (b ≡ true)
both_or false b is = inl refl
both_or true true is = inr refl
both_or true false is = absurd cc

both_and : (a b : Bool) → (a && not b) ≡ true → (a ≡ true) × (b ≡ false)
both_and false b is = absurd cc
both_and true true is = absurd cc
both_and true false is = (refl, refl)

module _ (config : Configuration) (c : ℕ) where
  abbrev IsAway : ℕ → Call → Type 0
  IsAway p asked = is_elsewhere c (port_in config p (id_used asked)) ≡ true

  away : (e : Entry) → is_about config c e ≡ false → (has_end config c e.partition ≡ false) ⊎ IsAway e.partition e.call
  away e gone = both_or (has_end config c e.partition) (is_elsewhere c (port_in config e.partition (id_used e.call))) gone

  elsewhere_off : (o : Option Port) → is_elsewhere c o ≡ true → is_on c o ≡ false
  elsewhere_off None is = absurd cc
  elsewhere_off (Some port) is = of (port.channel == c) is
    where
      of : (b : Bool) → not b ≡ true → b ≡ false
      of true is = absurd cc
      of false is = refl

  no_end : (p : ℕ) → has_end config c p ≡ false → (o : Option ℕ) → is_on c (port_in config p o) ≡ false
  no_end p none None = refl
  no_end p none (Some id) = of_port (port_of config p id) refl
    where
      of_id : (b : Bool) (port : Port) → (if b then None else slice_get (ports_of config p) (id - 1)) ≡ Some port → (port.channel == c) ≡ false
      of_id true port is = absurd cc
      of_id false port is = none_of (λ (port : Port). port.channel == c) (ports_of config p) (id - 1) port none is

      of_port : (o : Option Port) → port_of config p id ≡ o → is_on c o ≡ false
      of_port None is = refl
      of_port (Some port) is = of_id (id == 0) port is

  names_away : (p : ℕ) (asked : Call) → IsAway p asked → names config c p asked ≡ false
  names_away p (call.SamplingStatus id) is = refl
  names_away p (call.WriteSampling id message) is = elsewhere_off (port_of config p id) is
  names_away p (call.ReadSampling id) is = elsewhere_off (port_of config p id) is
  names_away p (call.SendQueuing id message) is = elsewhere_off (port_of config p id) is
  names_away p (call.ReceiveQueuing id) is = elsewhere_off (port_of config p id) is
  names_away p (call.QueuingStatus id) is = elsewhere_off (port_of config p id) is
  names_away p (call.ClearQueuing id) is = elsewhere_off (port_of config p id) is
  names_away p _ is = refl

  leaves_it : (e : Entry) → is_about config c e ≡ false → LeavesChannel config c e
  leaves_it e gone = leaves_unchanged config c e ((λ i. is_change e.call && off i) ∙ and_false (is_change e.call))
    where
      off : names config c e.partition e.call ≡ false
      off = ⊎_elim
          (λ (none : has_end config c e.partition ≡ false). no_end e.partition none (id_in e.call))
          (λ (is : IsAway e.partition e.call). names_away e.partition e.call is)
          (away e gone)

  -- ---- what it leaves of a partition at the channel

  no_mode : (p : ℕ) (asked : Call) → IsAway p asked → mode_asked asked ≡ None
  no_mode p (call.SetMode number) is = absurd cc
  no_mode p _ is = refl

  no_create : (p : ℕ) (asked : Call) → IsAway p asked → is_create asked ≡ false
  no_create p (call.CreateSampling name size direction refresh) is = absurd cc
  no_create p (call.CreateQueuing name size depth direction discipline) is = absurd cc
  no_create p _ is = refl

  no_read : (p : ℕ) (asked : Call) (id : ℕ) → IsAway p asked → is_elsewhere c (port_of config p id) ≡ false → is_read id asked ≡ false
  no_read p (call.ReadSampling number) id is here = by_test (number == id) refl
    where
      by_test : (b : Bool) → (number == id) ≡ b → b ≡ false
      by_test true same =
          let number_is : number ≡ id = grind (arith, nat_tests, same) in
          absurd (let both : is_elsewhere c (port_of config p number) ≡ is_elsewhere c (port_of config p id) = ap (λ (n : ℕ). is_elsewhere c (port_of config p n)) number_is in cc)
      by_test false same = refl
  no_read p _ id is here = refl

  record Leaves (p : ℕ) (e : Entry) : Type 0 where
    mode : mode_set p e ≡ None
    created : (id : ℕ) → creates p id e ≡ false
    read : (id : ℕ) → is_elsewhere c (port_of config p id) ≡ false → validity_read p id e ≡ None

  leaves_partition : (p : ℕ) → has_end config c p ≡ true → (e : Entry) → is_about config c e ≡ false → Leaves p e
  leaves_partition p here e gone = ⊎_elim others own (away e gone)
    where
      others : has_end config c e.partition ≡ false → Leaves p e
      others none =
          let left = leaves_others e.partition e.at e.call e.reply p (λ same. absurd (let both : has_end config c p ≡ has_end config c e.partition = ap (has_end config c) same in cc)) in
          record { mode = left.mode; created = left.created; read = λ id on. left.read id }

      own : IsAway e.partition e.call → Leaves p e
      own is = record {
        mode = (λ i. if is_code_no_error e.reply && (e.partition == p) then no_mode e.partition e.call is i else None) ∙ none_or_none (is_code_no_error e.reply && (e.partition == p));
        created = λ id. λ i. (no_create e.partition e.call is i && is_id id e.reply) && (e.partition == p);
        read = λ id on. by_test id on (e.partition == p) refl;
      }
        where
          by_test : (id : ℕ) → is_elsewhere c (port_of config p id) ≡ false → (b : Bool) → (e.partition == p) ≡ b → (if is_read id e.call && b then validity_in e.reply else None) ≡ None
          by_test id on true same =
              let it : e.partition ≡ p = grind (arith, nat_tests, same) in
              λ i. if no_read e.partition e.call id is (ap (λ (q : ℕ). is_elsewhere c (port_of config q id)) it ∙ on) i && true then validity_in e.reply else None
          by_test id on false same = λ i. if and_false (is_read id e.call) i then validity_in e.reply else None

  -- ---- what a partition at the channel sees

  module _ (h : History) where
    accepted_about : accepted_on config c (about config c h) ≡ accepted_on config c h
    accepted_about = filter_map-kept (is_about config c) (message_accepted config c) h (λ e gone. (leaves_it e gone).accepted)

    taken_about : taken_on config c (about config c h) ≡ taken_on config c h
    taken_about = taken-kept (is_about config c) config c leaves_it [] [] [] h refl

    this_channel : (port : Port) → is_elsewhere c (Some port) ≡ false → c ≡ port.channel
    this_channel port on = by_test (port.channel == c) refl on
      where
        by_test : (b : Bool) → (port.channel == c) ≡ b → not b ≡ false → c ≡ port.channel
        by_test true is all = grind (arith, nat_tests, is)
        by_test false is all = absurd cc

    waiting_about : (o : Option Port) → is_elsewhere c o ≡ false → waiting_of config (about config c h) o ≡ waiting_of config h o
    waiting_about None on = refl
    waiting_about (Some port) on = subst (λ (d : ℕ). waiting_of config (about config c h) (Some (record port { channel = d })) ≡ waiting_of config h (Some (record port { channel = d }))) (this_channel port on)
        (λ i. drop (length (taken_about i)) (accepted_about i))

    sample_about : (o : Option Port) → is_elsewhere c o ≡ false → sample_of config (about config c h) o ≡ sample_of config h o
    sample_about None on = refl
    sample_about (Some port) on = subst (λ (d : ℕ). sample_of config (about config c h) (Some (record port { channel = d })) ≡ sample_of config h (Some (record port { channel = d }))) (this_channel port on)
        (ap (λ (writes : List Sample). slice_get writes (length writes - 1)) (filter_map-kept (is_about config c) (sample_written config c) h (λ e gone. (leaves_it e gone).written)))

    module _ (p : ℕ) (here : has_end config c p ≡ true) where
      mode : mode_of p (about config c h) ≡ mode_of p h
      mode = fold-kept (is_about config c) (λ mode entry. unwrap_or (mode_set p entry) mode) h ColdStart (λ mode e gone. ap (λ o. unwrap_or o mode) (leaves_partition p here e gone).mode)

      created : (id : ℕ) → is_created p id (about config c h) ≡ is_created p id h
      created id = fold-kept (is_about config c) (λ created entry. creates p id entry || (created && not (restarts p entry))) h false
          (λ created e gone. let left = leaves_partition p here e gone in (λ i. left.created id i || (created && not (is_restart (left.mode i)))) ∙ or_not created)

      last : (id : ℕ) → is_elsewhere c (port_of config p id) ≡ false → last_validity_of p id (about config c h) ≡ last_validity_of p id h
      last id on = fold-kept (is_about config c) (λ last entry. if creates p id entry then Invalid else unwrap_or (validity_read p id entry) last) h Invalid
          (λ last e gone. let left = leaves_partition p here e gone in λ i. if left.created id i then Invalid else unwrap_or (left.read id on i) last)

      last_at : (o : Option ℕ) → is_elsewhere c (port_in config p o) ≡ false → at_id o (seen config (about config c h) p).last Invalid ≡ at_id o (seen config h p).last Invalid
      last_at None on = refl
      last_at (Some id) on = last id on

      waiting_at : (o : Option ℕ) → is_elsewhere c (port_in config p o) ≡ false → at_id o (seen config (about config c h) p).waiting [] ≡ at_id o (seen config h p).waiting []
      waiting_at None on = refl
      waiting_at (Some id) on = waiting_about (port_of config p id) on

      sample_at : (o : Option ℕ) → is_elsewhere c (port_in config p o) ≡ false → at_id o (seen config (about config c h) p).sample None ≡ at_id o (seen config h p).sample None
      sample_at None on = refl
      sample_at (Some id) on = sample_about (port_of config p id) on

      seen_about : (l o : Option ℕ) → is_elsewhere c (port_in config p l) ≡ false → is_elsewhere c (port_in config p o) ≡ false
          → narrowed config p l o (seen config (about config c h) p) ≡ narrowed config p l o (seen config h p)
      seen_about l o shown used = λ i. record {
        mode = mode i;
        created = λ id. created id i;
        last = λ _. last_at l shown i;
        waiting = λ _. waiting_at o used i;
        sample = λ _. sample_at o used i;
      }

  in_used : (p : ℕ) (asked : Call) → is_elsewhere c (port_in config p (id_used asked)) ≡ false → is_elsewhere c (port_in config p (id_in asked)) ≡ false
  in_used p (call.SamplingStatus id) on = refl
  in_used p (call.WriteSampling id message) on = on
  in_used p (call.ReadSampling id) on = on
  in_used p (call.SendQueuing id message) on = on
  in_used p (call.ReceiveQueuing id) on = on
  in_used p (call.QueuingStatus id) on = on
  in_used p (call.ClearQueuing id) on = on
  in_used p _ on = refl

  status_used : (p : ℕ) (asked : Call) → is_elsewhere c (port_in config p (id_used asked)) ≡ false → is_elsewhere c (port_in config p (status_in asked)) ≡ false
  status_used p (call.SamplingStatus id) on = on
  status_used p _ on = refl

  reply_about : (h : History) (e : Entry) → is_about config c e ≡ true → reply_to config h e.partition e.at e.call ≡ reply_to config (about config c h) e.partition e.at e.call
  reply_about h e kept =
      let p = e.partition in
      let both = both_and (has_end config c p) (is_elsewhere c (port_in config p (id_used e.call))) kept in
      let l = status_in e.call in
      let o = id_in e.call in
      replies_narrowed config p l (seen config h p) e.at e.call refl
      ∙ (ap (λ (s : Seen). reply_of config s p (row_of config s p e.at e.call)) (sym (seen_about h p both.0 l o (status_used p e.call both.1) (in_used p e.call both.1)))
      ∙ sym (replies_narrowed config p l (seen config (about config c h) p) e.at e.call refl))

  -- ---- histories

  one_more : (h : History) (e : Entry) → IsLawfulEntry config h e → IsLawful config (about config c h) → IsLawful config (about config c (h ++ e ∷ []))
  one_more h e lawful alone = subst (IsLawful config) (sym (filter-append (is_about config c) h (e ∷ []))) (by_test (is_about config c e) refl)
    where
      by_test : (b : Bool) → is_about config c e ≡ b → IsLawful config (about config c h ++ cond b (e ∷ []) [])
      by_test true here = lawful_push config (about config c h) e.partition e.at e.call e.reply alone lawful.0 (lawful.1 ∙ reply_about h e here)
      by_test false gone = subst (IsLawful config) (sym (append-nil (about config c h))) alone

  lawful_about : (h : History) → IsLawful config h → IsLawful config (about config c h)
  lawful_about h lawful = along_lawful config (λ past. IsLawful config (about config c past)) one_more [] h lawful (λ k e here. absurd (cc))

  log_about : (logs : Logs) (p : ℕ) → log_in (logs_about config c logs) p ≡ about config c (log_in logs p)
  log_about [] p = refl
  log_about (log ∷ logs) zero = refl
  log_about (log ∷ logs) (suc p) = log_about logs p

  -- an order of all entries gives one of those about the channel
  pub order_about : (logs : Logs) (h : History) → IsOrder config logs h → IsOrder config (logs_about config c logs) (about config c h)
  order_about logs h order = record {
    lawful = lawful_about h order.lawful;
    entries = λ p. entries-kept (is_about config c) p h ∙ (ap (about config c) (order.entries p) ∙ sym (log_about logs p));
  }

  pub no_order_about : (logs : Logs) → HasNoOrder config (logs_about config c logs) → HasNoOrder config logs
  no_order_about logs none h order = none (about config c h) (order_about logs h order)
