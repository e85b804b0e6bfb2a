-- What is found for the scripts of a part is so for all scripts: the replies to its calls, and what its channels count.
use Rattle.apex_groups.proofs.Common.{◌≡◌, ℕ, zero, suc, ◌<◌, Bool, true, false, if◌then◌else◌, List, [], ◌∷◌, ◌++◌, length, drop, filter, map, take, Option, Some, None, refl, sym, ap, ◌∙◌, subst, arith, slice_get, take_all, append_assoc, append-nil, Configuration, IsConfiguration, Entry, History, entries_of, IsPart, Scripts, script_of, calls_of, continued, history_of, IsWay, Asked, PossibleReply}
use Rattle.apex_groups.proofs.Common.{IsGood, HasSameTotals, IsMerged, IsOrder, IsBeginning, next_of, CanOccurWith, CanBeAnsweredWith, IsAnsweredByWith, IsGivenByWith, next_entries}
use Rattle.apex_types.specs.declared.call.Call.{Call}
use Rattle.apex_types.specs.declared.moment.Moment.{Moment}
use Rattle.apex_types.specs.declared.reply.Reply.{Reply}
use Rattle.apex_types.specs.declared.taken.Taken.{Taken}
use Rattle.apex_ports.specs.Counts.{count_of}
use Rattle.apex_orders.specs.Orders.{order_of}
use Rattle.apex_orders.specs.Points.{IsSamePoint}
use Rattle.apex_orders.specs.Clock.{IsClocked, IsNextDue}
use Rattle.apex_orders.proofs.Alike.{IsChannelAlike}
use Rattle.apex_orders.proofs.ClockLemmas.{clocked_next, clocked_none, next_due}
use Rattle.apex_orders.proofs.Completing.{begins_of, good_history}
use Rattle.apex_orders.proofs.Lists.{at_seam, taken_from}
use Rattle.apex_orders.proofs.SameWays.{next_entry}
use Rattle.apex_orders.proofs.Walks.{entries_of-append, is_beginning, ordered, own_entry}
use Rattle.apex_groups.proofs.AlikeInside.{AreAlike, alike_nil, is_own_call, step_alike, told, way_alike}
use Rattle.apex_groups.specs.Parts.{IsFed}
use Rattle.apex_groups.proofs.Exchanged.{here_inside, none_outside}
use Rattle.apex_groups.proofs.Lists.{mapped_at, nothing_mapped}
use Rattle.apex_groups.proofs.MergedEnds.{HasWhole, complete}
use Rattle.apex_groups.proofs.MergeSteps.{made_one}
use Rattle.apex_groups.proofs.PartOrders.{made_alike, order_alike, part_same}
use Rattle.apex_groups.proofs.WholeLemmas.{same_walk}
use Rattle.std.proofs.lemmas.List.{length-map, map-append}

abbrev timed_of : Entry → Moment × Call
timed_of entry = (entry.at, entry.call)

abbrev reply_in : Entry → Reply
reply_in entry = entry.reply

-- ---- items of mapped lists

at_mapped : {X Y : Type 0} (f : X → Y) (xs : List X) (k : ℕ) (y : Y) → slice_get (map f xs) k ≡ Some y → (x : X) × (slice_get xs k ≡ Some x) × (f x ≡ y)
at_mapped f [] k y at = absurd (cc)
at_mapped f (x ∷ xs) zero y at = (x, refl, let same : f x ≡ y = cc in same)
at_mapped f (x ∷ xs) (suc k) y at = at_mapped f xs k y at

-- ---- counts

module _ (config : Configuration) (c : ℕ) where
  totals_alike : (h g : History) → IsChannelAlike config h g c → HasSameTotals config h g c
  totals_alike h g alike = record {
    counts = record {
      accepted = ap count_of alike.accepted;
      received = ap count_of alike.received;
      cleared = ap (λ (taken : List Taken). count_of (filter (λ (one : Taken). one.cleared) taken)) alike.taken;
    };
    waiting = λ i. length (drop (length (alike.taken i)) (alike.accepted i));
  }

  pub totals_along : (f g h : History) → HasSameTotals config f g c → HasSameTotals config g h c → HasSameTotals config f h c
  totals_along f g h one two = record {
    counts = record {
      accepted = one.counts.accepted ∙ two.counts.accepted;
      received = one.counts.received ∙ two.counts.received;
      cleared = one.counts.cleared ∙ two.counts.cleared;
    };
    waiting = one.waiting ∙ two.waiting;
  }

  totals_back : (g h : History) → HasSameTotals config g h c → HasSameTotals config h g c
  totals_back g h same = record {
    counts = record { accepted = sym same.counts.accepted; received = sym same.counts.received; cleared = sym same.counts.cleared };
    waiting = sym same.waiting;
  }

  pub totals_at : (h g : History) → c < length config.channels → IsSamePoint config h g → HasSameTotals config h g c
  totals_at h g within same = record {
    counts = same.counts c within;
    waiting = ap (λ (messages : List (List ℕ)). length messages) (same.state.channels c within).waiting;
  }

module _ (config : Configuration) (own : ℕ → Bool) (inside : ℕ → Bool) (scripts part : Scripts) (is : IsPart inside scripts part)
    (fed : (c : ℕ) → own c ≡ true → IsFed config inside c) (valid : IsConfiguration config) where
  -- ---- ways

  -- what the part makes of the way's order
  abbrev pub part_way : History → History
  part_way way = history_of config part (order_of way)

  abbrev Alike : History → History → Type 0
  Alike h g = AreAlike config own inside scripts part is fed h g

  none_alike : Alike [] []
  none_alike = alike_nil config own inside scripts part is fed

  alike : (way : History) → IsWay config scripts way → Alike way (part_way way)
  alike way is_way = way_alike config own inside scripts part is fed way [] [] is_way none_alike

  told_calls : (p : ℕ) (es : History) → map (λ (one : (Moment × Call) × Option Reply). one.0) (map (told config own p) es) ≡ map timed_of es
  told_calls p [] = refl
  told_calls p (e ∷ es) = ap (λ (calls : List (Moment × Call)). (e.at, e.call) ∷ calls) (told_calls p es)

  pub way_in_part : (way : History) → IsWay config scripts way → IsWay config part (part_way way)
  way_in_part way is_way = record { lawful = good.sound.lawful; calls = λ p. by_test p (inside p) refl }
    where
      good : IsGood config part (part_way way)
      good = good_history config part valid (order_of way) (ordered config scripts way is_way.lawful)

      by_test : (p : ℕ) (b : Bool) → inside p ≡ b → calls_of p (part_way way) ≡ script_of part p
      by_test p true here =
          sym (told_calls p (entries_of p (part_way way)))
          ∙ (ap (map (λ (one : (Moment × Call) × Option Reply). one.0)) (sym ((alike way is_way).partitions p here).told)
          ∙ (told_calls p (entries_of p way) ∙ (is_way.calls p ∙ sym (here_inside inside scripts part is p here))))
      by_test p false out =
          let none = none_outside inside scripts part is p out in
          good.calls p ∙ (ap (take (length (calls_of p (part_way way)))) none ∙ (take_all (length (calls_of p (part_way way))) [] (omega arith) ∙ sym none))

  -- ---- the clock

  -- the part's next calls are among all next calls
  next_in_part : (h g : History) → Alike h g → (q : ℕ) (timed : Moment × Call) → next_of part g q ≡ Some timed → next_of scripts h q ≡ Some timed
  next_in_part h g both q timed at = by_test (inside q) refl
    where
      by_test : (b : Bool) → inside q ≡ b → next_of scripts h q ≡ Some timed
      by_test true here =
          let made = made_alike config own inside scripts part is fed h g both q here in
          (λ i. slice_get (sym (here_inside inside scripts part is q here) i) (made i)) ∙ at
      by_test false out =
          let none : slice_get {X = Moment × Call} [] (length (entries_of q g)) ≡ Some timed = sym (ap (λ (script : List (Moment × Call)). slice_get script (length (entries_of q g))) (none_outside inside scripts part is q out)) ∙ at in
          absurd (cc)

  clocked_rest : (clock : Bool) (rest : List Entry) (h g : History) → IsWay config scripts (h ++ rest) → IsClocked clock scripts (h ++ rest) → Alike h g → IsClocked clock part g
      → IsClocked clock part (continued config part g (order_of rest))
  clocked_rest clock [] h g is_way clocked both there = there
  clocked_rest clock (e ∷ rest) h g is_way clocked both there =
      clocked_rest clock rest (h ++ e ∷ []) (g ++ next_entries config part g e.partition)
      (subst (IsWay config scripts) (sym (append_assoc h (e ∷ []) rest)) is_way)
      (subst (IsClocked clock scripts) (sym (append_assoc h (e ∷ []) rest)) clocked)
      (subst (λ (es : History). Alike (h ++ es) (g ++ next_entries config part g e.partition)) (next_entry config scripts h e rest is_way) (step_alike config own inside scripts part is fed h g e.partition both))
      (clocked_next clock part config g e.partition there due)
    where
      due : IsNextDue clock part g e.partition
      due timed at on q other here =
          next_due clock scripts config h e rest is_way clocked timed (next_in_part h g both e.partition timed at) on q other (next_in_part h g both q other here)

  pub clocked_in_part : (clock : Bool) (way : History) → IsWay config scripts way → IsClocked clock scripts way → IsClocked clock part (part_way way)
  clocked_in_part clock way is_way clocked = clocked_rest clock way [] [] is_way clocked none_alike (clocked_none clock part)

  -- ---- replies

  -- the call of the partition's script at the index names no port, or one of a channel of the part
  abbrev pub IsOwnIndex : ℕ → ℕ → Type 0
  IsOwnIndex p index = (timed : Moment × Call) → slice_get (script_of scripts p) index ≡ Some timed → is_own_call config own p timed.1 ≡ true

  abbrev pub IsReply : History → ℕ → ℕ → Reply → Type 0
  IsReply h p index r = slice_get (map reply_in (entries_of p h)) index ≡ Some r

  -- where a partition is told the same, its own calls get the same replies
  reply_told : (h g : History) (p index : ℕ) (r : Reply) → map (told config own p) (entries_of p h) ≡ map (told config own p) (entries_of p g)
      → ((e : Entry) → slice_get (entries_of p h) index ≡ Some e → is_own_call config own p e.call ≡ true) → IsReply h p index r → IsReply g p index r
  reply_told h g p index r same mine replied = mapped_at reply_in (entries_of p g) index e_too found_too.1 ∙ ap Some (same_reply ∙ found.2)
    where
      found : (e : Entry) × (slice_get (entries_of p h) index ≡ Some e) × (e.reply ≡ r)
      found = at_mapped reply_in (entries_of p h) index r replied

      e : Entry
      e = found.0

      own_here : is_own_call config own p e.call ≡ true
      own_here = mine e found.1

      told_at : slice_get (map (told config own p) (entries_of p g)) index ≡ Some (told config own p e)
      told_at =
          sym (ap (λ (ts : List ((Moment × Call) × Option Reply)). slice_get ts index) same)
          ∙ mapped_at (told config own p) (entries_of p h) index e found.1

      found_too : (x : Entry) × (slice_get (entries_of p g) index ≡ Some x) × (told config own p x ≡ told config own p e)
      found_too = at_mapped (told config own p) (entries_of p g) index (told config own p e) told_at

      e_too : Entry
      e_too = found_too.0

      own_too : is_own_call config own p e_too.call ≡ true
      own_too = ap (λ (one : (Moment × Call) × Option Reply). is_own_call config own p one.0.1) found_too.2 ∙ own_here

      same_reply : e_too.reply ≡ e.reply
      same_reply =
          let both : Some e_too.reply ≡ Some e.reply =
          sym (ap (λ (b : Bool). if b then Some e_too.reply else None) own_too)
          ∙ (ap (λ (one : (Moment × Call) × Option Reply). one.1) found_too.2 ∙ ap (λ (b : Bool). if b then Some e.reply else None) own_here) in
          cc

  pub occurs_in_part : (clock : Bool) (one : PossibleReply) → inside one.partition ≡ true → IsOwnIndex one.partition one.index → CanOccurWith clock config scripts one → CanOccurWith clock config part one
  occurs_in_part clock one here mine can = record {
    way = part_way can.way;
    is_way = way_in_part can.way can.is_way;
    clocked = clocked_in_part clock can.way can.is_way can.clocked;
    reply = reply_told can.way (part_way can.way) p one.index one.reply ((alike can.way can.is_way).partitions p here).told
        (λ e at. mine (e.at, e.call) (sym (ap (λ (calls : List (Moment × Call)). slice_get calls one.index) (can.is_way.calls p)) ∙ mapped_at timed_of (entries_of p can.way) one.index e at)) can.reply;
  }
    where
      p : ℕ
      p = one.partition

  pub answered_in_part : (clock : Bool) (asked : Asked) → inside asked.partition ≡ true → IsOwnIndex asked.partition asked.index → CanBeAnsweredWith clock config scripts asked → CanBeAnsweredWith clock config part asked
  answered_in_part clock asked here mine can = record {
    one = can.one;
    answers = can.answers;
    occurs = occurs_in_part clock can.one (ap inside can.answers.partition ∙ here)
        (subst (λ (place : ℕ × ℕ). IsOwnIndex place.0 place.1) (λ i. (sym can.answers.partition i, sym can.answers.index i)) mine) can.occurs;
  }

  -- ---- merged orders

  module _ (order whole : List ℕ) (same : history_of config scripts (filter inside whole) ≡ history_of config scripts (filter inside order)) where
    -- what is seen inside is what the part's order shows
    pub merged_alike : Alike (history_of config scripts whole) (history_of config part order)
    merged_alike =
        subst (Alike (history_of config scripts whole)) (part_same config inside scripts part is whole order same)
        (order_alike config own inside scripts part is fed whole [] [] none_alike)

    -- a reply of the part's order
    module _ (p index : ℕ) (r : Reply) (begins : IsBeginning config part (history_of config part order)) (replied : IsReply (history_of config part order) p index r) where
      abbrev there : History
      there = history_of config part order

      reply_inside : inside p ≡ true
      reply_inside = by_test (inside p) refl
        where
          by_test : (b : Bool) → inside p ≡ b → inside p ≡ true
          by_test true here = here
          by_test false out =
              let none : map timed_of (entries_of p there) ≡ [] = begins.calls p ∙ (ap (take (length (calls_of p there))) (none_outside inside scripts part is p out) ∙ take_all (length (calls_of p there)) [] (omega arith)) in
              let nothing : slice_get {X = Reply} [] index ≡ Some r = sym (ap (λ (es : History). slice_get (map reply_in es) index) (nothing_mapped timed_of (entries_of p there) none)) ∙ replied in
              absurd (cc)

      pub merged_reply : IsOwnIndex p index → IsReply (history_of config scripts whole) p index r
      merged_reply mine =
          reply_told there (history_of config scripts whole) p index r (sym (merged_alike.partitions p reply_inside).told)
          (λ e at. mine (e.at, e.call) (in_script e at)) replied
        where
          in_script : (e : Entry) → slice_get (entries_of p there) index ≡ Some e → slice_get (script_of scripts p) index ≡ Some (e.at, e.call)
          in_script e at =
              let call : slice_get (calls_of p there) index ≡ Some (e.at, e.call) = mapped_at timed_of (entries_of p there) index e at in
              let taken : slice_get (take (length (calls_of p there)) (script_of part p)) index ≡ Some (e.at, e.call) = sym (ap (λ (calls : List (Moment × Call)). slice_get calls index) (begins.calls p)) ∙ call in
              ap (λ (script : List (Moment × Call)). slice_get script index) (sym (here_inside inside scripts part is p reply_inside)) ∙ taken_from (length (calls_of p there)) (script_of part p) index (e.at, e.call) taken

  -- the calls of an order, merged with those outside, give the reply too
  pub merged_gives : (clock : Bool) (one : PossibleReply) (order whole : List ℕ) → IsOwnIndex one.partition one.index → IsGivenByWith clock config part one order
      → IsMerged clock config scripts inside order whole → IsOrder config whole → IsGivenByWith clock config scripts one whole
  merged_gives clock one order whole mine given merged ordered = record {
    valid = ordered;
    begins = is_beginning config scripts h (good_history config scripts valid whole ordered);
    clocked = merged.clocked;
    reply = replied;
    last = record {
      before = last.0;
      entry = last.1;
      whole = last.2;
      partition = is_own;
      index = place;
      reply =
          let both : Some last.1.reply ≡ Some one.reply = sym (ap (λ (rs : List Reply). slice_get rs one.index) replies ∙ (ap (slice_get (map reply_in (entries_of p last.0) ++ last.1.reply ∷ [])) at_end ∙ at_seam (map reply_in (entries_of p last.0)) last.1.reply [])) ∙ replied in
          cc;
    };
  }
    where
      p : ℕ
      p = one.partition

      h : History
      h = history_of config scripts whole

      there : History
      there = history_of config part order

      replied : IsReply h p one.index one.reply
      replied = merged_reply order whole merged.same p one.index one.reply given.begins given.reply mine

      last : (ahead : History) × (x : Entry) × (h ≡ ahead ++ x ∷ []) × (x.partition ≡ given.last.entry.partition)
      last = merged.ends given.last.before given.last.entry (same_walk config inside scripts part is [] order ∙ given.last.whole)

      is_own : last.1.partition ≡ p
      is_own = last.3 ∙ given.last.partition

      place : one.index ≡ length (entries_of p last.0)
      place =
          let here = reply_inside order whole merged.same p one.index one.reply given.begins given.reply in
          let count = made_alike config own inside scripts part is fed h there (merged_alike order whole merged.same) p here in
          let one_more = ap (λ (g : History). length (entries_of p g)) last.2 in
          let own_more = made_one last.0 last.1 p is_own in
          let part_more = ap (λ (g : History). length (entries_of p g)) given.last.whole in
          let part_own = made_one given.last.before given.last.entry p given.last.partition in
          let index = given.last.index in
          omega (arith, count, one_more, own_more, part_more, part_own, index)

      at_end : one.index ≡ length (map reply_in (entries_of p last.0))
      at_end = place ∙ sym (length-map (entries_of p last.0) reply_in)

      replies : map reply_in (entries_of p h) ≡ map reply_in (entries_of p last.0) ++ last.1.reply ∷ []
      replies =
          ap (λ (g : History). map reply_in (entries_of p g)) last.2
          ∙ (ap (map reply_in) (entries_of-append p last.0 (last.1 ∷ []) ∙ ap (λ (es : History). entries_of p last.0 ++ es) (own_entry p last.1 is_own))
          ∙ map-append reply_in (entries_of p last.0) (last.1 ∷ []))

  pub merged_answers : (clock : Bool) (asked : Asked) (order whole : List ℕ) → IsOwnIndex asked.partition asked.index → IsAnsweredByWith clock config part asked order
      → IsMerged clock config scripts inside order whole → IsOrder config whole → IsAnsweredByWith clock config scripts asked whole
  merged_answers clock asked order whole mine answered merged ordered = record {
    one = answered.one;
    answers = answered.answers;
    given = merged_gives clock answered.one order whole
        (subst (λ (place : ℕ × ℕ). IsOwnIndex place.0 place.1) (λ i. (sym answered.answers.partition i, sym answered.answers.index i)) mine) answered.given merged ordered;
  }

  -- a way is the history of its order
  walk_of : (rest : List Entry) (h : History) → IsWay config part (h ++ rest) → continued config part h (order_of rest) ≡ h ++ rest
  walk_of [] h is_way = sym (append-nil h)
  walk_of (e ∷ rest) h is_way =
      ap (λ (es : History). continued config part (h ++ es) (order_of rest)) (next_entry config part h e rest is_way)
      ∙ (walk_of rest (h ++ e ∷ []) (subst (IsWay config part) (sym (append_assoc h (e ∷ []) rest)) is_way) ∙ append_assoc h (e ∷ []) rest)

  pub occurs_in_all : (clock : Bool) → length scripts ≡ length config.partitions → (one : PossibleReply) → IsOwnIndex one.partition one.index → CanOccurWith clock config part one → CanOccurWith clock config scripts one
  occurs_in_all clock count one mine can = record {
    way = history_of config scripts all.whole;
    is_way = all.is.is_way;
    clocked = all.is.clocked;
    reply = merged_reply order all.whole all.is.same one.partition one.index one.reply (begins_of config part valid there is_way) (subst (λ (g : History). IsReply g one.partition one.index one.reply) (sym same) can.reply) mine;
  }
    where
      order : List ℕ
      order = order_of can.way

      there : History
      there = history_of config part order

      same : there ≡ can.way
      same = walk_of can.way [] can.is_way

      is_way : IsWay config part there
      is_way = subst (IsWay config part) (sym same) can.is_way

      all : HasWhole clock config scripts inside count order
      all = complete clock config scripts inside count valid order (record {
        of_part = record { part = part; is = is; clocked = subst (IsClocked clock part) (sym same) can.clocked };
        is_way = is_way;
      })

  -- ---- ends

  -- what the channel counts after a way, it counts after the part's order to the same counts, merged with all other calls
  pub same_totals : (c : ℕ) → own c ≡ true → (way : History) → IsWay config scripts way → (order whole : List ℕ) → HasSameTotals config (part_way way) (history_of config part order) c
      → history_of config scripts (filter inside whole) ≡ history_of config scripts (filter inside order) → HasSameTotals config way (history_of config scripts whole) c
  same_totals c mine way is_way order whole counted same =
      let there = history_of config part order in
      let all = history_of config scripts whole in
      totals_along config c way (part_way way) all (totals_alike config c way (part_way way) ((alike way is_way).channels c mine))
      (totals_along config c (part_way way) there all counted
      (totals_back config c all there (totals_alike config c all there ((merged_alike order whole same).channels c mine))))
