-- A complete search has found each reply and each end.
use Rattle.apex_orders.proofs.Common.{◌≡◌, ◌⊎◌, inl, inr, ⊎_elim, ℕ, zero, suc, ◌<◌, ◌≤◌, Bool, List, [], ◌∷◌, ◌++◌, length, map, Option, Some, None, refl, sym, ap, ◌∙◌, subst, arith, append_assoc, append-nil, length-append, slice_get, unwrap_or, cases_eq, slice_get_within, take_all, Call, Moment, Reply, Configuration, IsConfiguration, Entry, History, entry_of, entries_of, sound-nil, PossibleReply, IsNextDue}
use Rattle.apex_orders.proofs.Common.{IsClocked, Scripts, script_of, calls_of, replies_of, IsBeginning, IsWay, IsOrder, next_entries, continued, history_of, CanOccurWith, AreRepliesWith, AreEndsWith, EndsAtOne, IsSamePoint, Has, IsSearched, IsGivenByAnOrder, Makes}
use Rattle.apex_orders.proofs.ClockLemmas.{MadeAsMany, clocked_follow, clocked_next, goes_first, next_due}
use Rattle.apex_orders.proofs.Enough.{begins}
use Rattle.apex_orders.proofs.Finishing.{Finishes, finish_all}
use Rattle.apex_orders.proofs.GoingOn.{lawful_here}
use Rattle.apex_orders.proofs.Lists.{stays_before, before_or_last, none_past, at_seam, past_both}
use Rattle.apex_orders.proofs.SameWays.{next_entry}
use Rattle.apex_orders.proofs.Swapping.{lawful_start}
use Rattle.apex_orders.proofs.Walks.{own_entry, other_entry, calls_of-append, replies_of-append, calls_count, replies_count, IsGood, IsDone, IsNext, answered, next_cases, same_history, one_longer, good_next, good_walk, continued-append}
use Rattle.apex_orders.proofs.Following.{same_self, same_along, same_next, same_count, point_next}

-- the call at the index got this reply
abbrev pub IsAnswered : History → PossibleReply → Type 0
IsAnswered h one = slice_get (replies_of one.partition h) one.index ≡ Some one.reply

pub good_nil : (config : Configuration) (scripts : Scripts) → IsConfiguration config → IsGood config scripts []
good_nil config scripts valid = record { sound = sound-nil config valid; calls = λ p. refl }

module _ (config : Configuration) (scripts : Scripts) (valid : IsConfiguration config) where
  pub good_history : (order : List ℕ) → IsOrder config order → IsGood config scripts (history_of config scripts order)
  good_history order is = good_walk config scripts [] order (good_nil config scripts valid) is

  -- ---- replies of histories that continue

  still_answered : (h more : History) (one : PossibleReply) → IsAnswered h one → IsAnswered (h ++ more) one
  still_answered h more one here =
      ap (λ (replies : List Reply). slice_get replies one.index) (replies_of-append one.partition h more)
      ∙ stays_before (replies_of one.partition h) (replies_of one.partition more) one.index one.reply here

  pub answered_on : (h : History) (order : List ℕ) (one : PossibleReply) → IsAnswered h one → IsAnswered (continued config scripts h order) one
  answered_on h [] one here = here
  answered_on h (p ∷ order) one here = answered_on (h ++ next_entries config scripts h p) order one (still_answered h (next_entries config scripts h p) one here)

  -- the reply that a step gives is in the history after it
  pub made_is_answered : (h : History) (p : ℕ) (one : PossibleReply) → Makes config scripts h p one → IsAnswered (h ++ next_entries config scripts h p) one
  made_is_answered h p one makes =
      let e = entry_of p makes.at makes.call one.reply in
      let longer : replies_of one.partition (h ++ next_entries config scripts h p) ≡ replies_of one.partition h ++ one.reply ∷ [] =
      ap (λ (es : History). replies_of one.partition (h ++ es)) makes.entry
      ∙ (replies_of-append one.partition h (e ∷ []) ∙ ap (λ (es : History). replies_of one.partition h ++ map (λ (entry : Entry). entry.reply) es) (own_entry one.partition e (sym makes.partition))) in
      let index : one.index ≡ length (replies_of one.partition h) =
      makes.index ∙ (ap (λ (n : ℕ). length (entries_of n h)) (sym makes.partition) ∙ sym (replies_count one.partition h)) in
      ap (λ (replies : List Reply). slice_get replies one.index) longer
      ∙ (ap (λ (n : ℕ). slice_get (replies_of one.partition h ++ one.reply ∷ []) n) index ∙ at_seam (replies_of one.partition h) one.reply [])

  -- what is answered after a step was answered before it, or by it
  answered_by : (h : History) (p : ℕ) (one : PossibleReply) → IsAnswered (h ++ next_entries config scripts h p) one → IsAnswered h one ⊎ Makes config scripts h p one
  answered_by h p one here =
      ⊎_elim
      (λ (done : IsDone config scripts h p). inl (subst (λ (g : History). IsAnswered g one) (same_history config scripts h p done) here))
      (λ (next : IsNext config scripts h p). of_next next (subst (λ (g : History). IsAnswered g one) (one_longer config scripts h p next) here))
      (next_cases config scripts h p)
    where
      of_next : (next : IsNext config scripts h p) → IsAnswered (h ++ answered config scripts h p next.timed ∷ []) one → IsAnswered h one ⊎ Makes config scripts h p one
      of_next next at = ⊎_elim mine others (cases_eq p one.partition)
        where
          e : Entry
          e = answered config scripts h p next.timed

          split : replies_of one.partition (h ++ e ∷ []) ≡ replies_of one.partition h ++ replies_of one.partition (e ∷ [])
          split = replies_of-append one.partition h (e ∷ [])

          mine : p ≡ one.partition → IsAnswered h one ⊎ Makes config scripts h p one
          mine own =
              let longer : replies_of one.partition (h ++ e ∷ []) ≡ replies_of one.partition h ++ e.reply ∷ [] =
              split ∙ ap (λ (es : History). replies_of one.partition h ++ map (λ (entry : Entry). entry.reply) es) (own_entry one.partition e own) in
              ⊎_elim
              (λ (before : slice_get (replies_of one.partition h) one.index ≡ Some one.reply). inl before)
              (λ (last : (one.index ≡ length (replies_of one.partition h)) × (e.reply ≡ one.reply)). inr (record {
                partition = sym own;
                index = last.0 ∙ (replies_count one.partition h ∙ ap (λ (n : ℕ). length (entries_of n h)) (sym own));
                at = next.timed.0;
                call = next.timed.1;
                entry = next.entry ∙ ap (λ (r : Reply). entry_of p next.timed.0 next.timed.1 r ∷ []) last.1;
              }))
              (before_or_last (replies_of one.partition h) e.reply one.index one.reply (ap (λ (replies : List Reply). slice_get replies one.index) (sym longer) ∙ at))

          others : (p ≡ one.partition → ⊥) → IsAnswered h one ⊎ Makes config scripts h p one
          others apart =
              let same : replies_of one.partition (h ++ e ∷ []) ≡ replies_of one.partition h =
              split ∙ (ap (λ (es : History). replies_of one.partition h ++ map (λ (entry : Entry). entry.reply) es) (other_entry one.partition e apart) ∙ append-nil (replies_of one.partition h)) in
              inl (ap (λ (replies : List Reply). slice_get replies one.index) (sym same) ∙ at)

  -- ---- each beginning can be finished

  abbrev pub IsFull : ℕ → History → Type 0
  IsFull p h = length (script_of scripts p) ≤ length (calls_of p h)

  pub grows : (h : History) (order : List ℕ) (p : ℕ) → length (calls_of p h) ≤ length (calls_of p (continued config scripts h order))
  grows h [] p = omega arith
  grows h (q ∷ order) p =
      let longer = ap (λ (calls : List (Moment × Call)). length calls) (calls_of-append p h (next_entries config scripts h q)) in
      let rest = grows (h ++ next_entries config scripts h q) order p in
      omega (arith, longer, rest, length-append (calls_of p h) (calls_of p (next_entries config scripts h q)))

  abbrev AreFull : ℕ → History → Type 0
  AreFull n h = (p : ℕ) → p < n → IsFull p h

  -- if every partition has made as many calls as its script has, the beginning is a way
  pub way_of : length scripts ≡ length config.partitions → (h : History) → IsGood config scripts h → AreFull (length config.partitions) h → IsWay config scripts h
  way_of count h good full = record {
    lawful = good.sound.lawful;
    calls = λ p. good.calls p ∙ take_all (length (calls_of p h)) (script_of scripts p) (of_index p (slice_get scripts p) refl);
  }
    where
      of_index : (p : ℕ) (o : Option (List (Moment × Call))) → slice_get scripts p ≡ o → length (script_of scripts p) ≤ length (calls_of p h)
      of_index p None none = subst (λ (o : Option (List (Moment × Call))). length (unwrap_or o []) ≤ length (calls_of p h)) (sym none) (omega arith)
      of_index p (Some script) here = full p (let within = slice_get_within scripts p script here in omega (arith, within, count))

  pub finish : (clock : Bool) → length scripts ≡ length config.partitions → (h : History) → IsGood config scripts h → IsClocked clock scripts h
      → Finishes config scripts h (λ g. IsWay config scripts g × IsClocked clock scripts g)
  finish clock count h good clocked =
      let full = finish_all config scripts clock count h good clocked in
      record {
        order = full.order;
        is_order = full.is_order;
        finished = (
          way_of count (continued config scripts h full.order) (good_walk config scripts h full.order good full.is_order) full.finished.0,
          full.finished.1,
        );
      }

  -- a way is a beginning
  pub begins_of : (h : History) → IsWay config scripts h → IsBeginning config scripts h
  begins_of h way = record {
    lawful = way.lawful;
    calls = λ p. way.calls p ∙ sym (take_all (length (calls_of p h)) (script_of scripts p) (let same = ap (λ (calls : List (Moment × Call)). length calls) (way.calls p) in omega (arith, same)));
  }

  -- ---- what a complete search knows

  good_start : (h rest : History) → IsWay config scripts (h ++ rest) → IsGood config scripts h
  good_start h rest is = record {
    sound = record { valid = valid; lawful = lawful_start config h rest is.lawful };
    calls = (begins config scripts h rest is).calls;
  }

  -- what is answered at the end was answered before, or is answered later
  now_or_later : (h more : History) (one : PossibleReply) → IsAnswered (h ++ more) one → IsAnswered h one ⊎ (length (replies_of one.partition h) ≤ one.index)
  now_or_later h more one here = by_item (slice_get (replies_of one.partition h) one.index) refl
    where
      by_item : (o : Option Reply) → slice_get (replies_of one.partition h) one.index ≡ o → IsAnswered h one ⊎ (length (replies_of one.partition h) ≤ one.index)
      by_item None none = inr (none_past (replies_of one.partition h) one.index none)
      by_item (Some reply) at =
          let both : Some reply ≡ Some one.reply =
          sym (stays_before (replies_of one.partition h) (replies_of one.partition more) one.index reply at)
          ∙ (ap (λ (replies : List Reply). slice_get replies one.index) (sym (replies_of-append one.partition h more)) ∙ here) in
          inl (at ∙ both)

  -- what is answered later is answered the same way after another history with as many replies
  carried : (h other more : History) (one : PossibleReply) → length (replies_of one.partition h) ≡ length (replies_of one.partition other) → length (replies_of one.partition h) ≤ one.index
      → IsAnswered (h ++ more) one → IsAnswered (other ++ more) one
  carried h other more one as_many past here =
      let q = one.partition in
      ap (λ (replies : List Reply). slice_get replies one.index) (replies_of-append q other more)
      ∙ (sym (past_both (replies_of q h) (replies_of q other) (replies_of q more) one.index as_many past)
      ∙ (ap (λ (replies : List Reply). slice_get replies one.index) (sym (replies_of-append q h more)) ∙ here))

  -- only partitions with a script make calls on a way
  is_partition : length scripts ≡ length config.partitions → (way : History) (one : PossibleReply) → IsWay config scripts way → IsAnswered way one → one.partition < length config.partitions
  is_partition all way one is here =
      let q = one.partition in
      let made = slice_get_within (replies_of q way) one.index one.reply here in
      let replies = replies_count q way in
      let calls = calls_count q way in
      let own = ap (λ (calls : List (Moment × Call)). length calls) (is.calls q) in
      of_script q (omega (arith, made, replies, calls, own))
    where
      of_script : (q : ℕ) → 0 < length (script_of scripts q) → q < length config.partitions
      of_script q some = by_script (slice_get scripts q) refl
        where
          by_script : (o : Option (List (Moment × Call))) → slice_get scripts q ≡ o → q < length config.partitions
          by_script None none =
              let empty = ap (λ (o : Option (List (Moment × Call))). length (unwrap_or o [])) none in
              absurd (omega (arith, empty, some))
          by_script (Some script) here = let within = slice_get_within scripts q script here in omega (arith, within, all)

  module _ (clock : Bool) (orders : List (List ℕ)) (replies : List PossibleReply) (done : IsSearched clock config scripts orders replies) where
    -- what continues one history to a way does so for another that led to the same point
    follow : (rest : List Entry) (h other : History) → IsWay config scripts (h ++ rest) → IsGood config scripts h → IsGood config scripts other → IsSamePoint config h other
        → IsGood config scripts (other ++ rest) × IsSamePoint config (h ++ rest) (other ++ rest)
    follow [] h other is good good_too same = (
      subst (IsGood config scripts) (sym (append-nil other)) good_too,
      subst (λ (both : History × History). IsSamePoint config both.0 both.1) (λ i. (sym (append-nil h) i, sym (append-nil other) i)) same,
    )
    follow (e ∷ rest) h other is good good_too same =
        let p = e.partition in
        let within : p < length config.partitions = (lawful_here config h e rest is.lawful).0 in
        let next : next_entries config scripts h p ≡ e ∷ [] = next_entry config scripts h e rest is in
        let next_too : next_entries config scripts other p ≡ e ∷ [] = sym (same_next config scripts done.short h other p within good good_too same) ∙ next in
        let good_on = subst (λ (es : History). IsGood config scripts (h ++ es)) next (good_next config scripts h p within good) in
        let good_on_too = subst (λ (es : History). IsGood config scripts (other ++ es)) next_too (good_next config scripts other p within good_too) in
        let stepped : IsSamePoint config (h ++ e ∷ []) (other ++ e ∷ []) =
        subst (λ (both : History × History). IsSamePoint config (h ++ both.0) (other ++ both.1)) (λ i. (next i, next_too i)) (point_next config scripts done.short h other p within good good_too same) in
        let both = follow rest (h ++ e ∷ []) (other ++ e ∷ []) (subst (IsWay config scripts) (sym (append_assoc h (e ∷ []) rest)) is) good_on good_on_too stepped in (
          subst (IsGood config scripts) (append_assoc other (e ∷ []) rest) both.0,
          subst (λ (two : History × History). IsSamePoint config two.0 two.1) (λ i. (append_assoc h (e ∷ []) rest i, append_assoc other (e ∷ []) rest i)) both.1,
        )

    is_full : (way other : History) → IsWay config scripts way → IsGood config scripts way → IsGood config scripts other → IsSamePoint config way other → AreFull (length config.partitions) other
    is_full way other is good good_too same p within =
        let entries = same_count config scripts done.short way other p within good good_too same in
        let mine = calls_count p way in
        let theirs = calls_count p other in
        let all = ap (λ (calls : List (Moment × Call)). length calls) (is.calls p) in
        omega (arith, entries, mine, theirs, all)

    -- a reply is given after one of the orders, and was found
    record IsGivenAndFound (one : PossibleReply) : Type 0 where
      by : IsGivenByAnOrder clock config scripts orders one
      found : Has replies one

    -- the search has the way's end, and each reply that the way gives after the history
    record IsFollowed (h way : History) : Type 0 where
      end : EndsAtOne config scripts orders way
      given : (one : PossibleReply) → one.partition < length config.partitions → IsAnswered way one → IsAnswered h one ⊎ IsGivenAndFound one

    follow_way : (n : ℕ) (order : List ℕ) (has : Has orders order) (rest : List Entry) → length rest ≤ n → IsWay config scripts (history_of config scripts order ++ rest)
        → IsClocked clock scripts (history_of config scripts order ++ rest) → IsFollowed (history_of config scripts order) (history_of config scripts order ++ rest)
    follow_way n order has [] few is clocked =
        let g = history_of config scripts order in record {
          end = record { order = order; here = has; same = subst (λ (h : History). IsSamePoint config h g) (sym (append-nil g)) (same_self config g) };
          given = λ one within here. inl (subst (λ (h : History). IsAnswered h one) (append-nil g) here);
        }
    follow_way zero order has (x ∷ rest) few is clocked = absurd (omega arith)
    follow_way (suc n) order has (x ∷ rest) few is clocked =
        let g = history_of config scripts order in
        let t = done.tried has.0 (slice_get_within orders has.0 order has.1) order has.1 in
        let goes = goes_first clock config scripts g t.tried x rest t.enough is clocked in
        let first = goes.first in
        let e = first.e in
        let more = first.rest in
        let fewer = first.as_long in
        let within : e.partition < length config.partitions = (lawful_here config g e more first.is_way.lawful).0 in
        let step = t.each e.partition within first.own in
        let point = step.point in
        let g_too = history_of config scripts point.order in
        let ahead : history_of config scripts (order ++ e.partition ∷ []) ≡ g ++ e ∷ [] = continued-append config scripts [] order (e.partition ∷ []) ∙ ap (λ (es : History). g ++ es) first.next in
        let same : IsSamePoint config (g ++ e ∷ []) g_too = subst (λ (h : History). IsSamePoint config h g_too) ahead point.same in
        let regroup = append_assoc g (e ∷ []) more in
        let on : IsWay config scripts ((g ++ e ∷ []) ++ more) = subst (IsWay config scripts) (sym regroup) first.is_way in
        let good = good_start (g ++ e ∷ []) more on in
        let good_too = good_history point.order (done.valid point.here.0 point.order point.here.1) in
        let followed = follow more (g ++ e ∷ []) g_too on good good_too same in
        let whole : IsGood config scripts ((g ++ e ∷ []) ++ more) = good_start ((g ++ e ∷ []) ++ more) [] (subst (IsWay config scripts) (sym (append-nil ((g ++ e ∷ []) ++ more))) on) in
        let there = way_of done.all (g_too ++ more) followed.0 (is_full ((g ++ e ∷ []) ++ more) (g_too ++ more) on whole followed.0 followed.1) in
        let all = done.all in
        let as_many : MadeAsMany scripts (g ++ e ∷ []) g_too = λ q has. same_count config scripts done.short (g ++ e ∷ []) g_too q (omega (arith, has, all)) good good_too same in
        let clocked_too = clocked_follow clock scripts more (g ++ e ∷ []) g_too as_many (subst (IsClocked clock scripts) (sym regroup) goes.clocked)
        (done.clocked point.here.0 point.order point.here.1) in
        let last = follow_way n point.order point.here more (omega (arith, few, fewer)) there clocked_too in
        record {
          end = record {
            order = last.end.order;
            here = last.end.here;
            same = same_along config (g ++ x ∷ rest) (g ++ e ∷ more) (history_of config scripts last.end.order) first.same.point
                (same_along config (g ++ e ∷ more) (g_too ++ more) (history_of config scripts last.end.order)
                (subst (λ (h : History). IsSamePoint config h (g_too ++ more)) regroup followed.1) last.end.same);
          };
          given = λ one inside here.
              let q = one.partition in
              let moved : IsAnswered (g ++ e ∷ more) one = ap (λ (es : List Entry). slice_get (map (λ (entry : Entry). entry.reply) es) one.index) (first.same.entries q) ∙ here in
              let at : IsAnswered ((g ++ e ∷ []) ++ more) one = subst (λ (h : History). IsAnswered h one) (sym regroup) moved in
              ⊎_elim
              (λ (now : IsAnswered (g ++ e ∷ []) one).
              ⊎_elim
              (λ (before : IsAnswered g one). inl before)
              (λ (makes : Makes config scripts g e.partition one).
              inr (record {
                by = record {
                  order = order;
                  here = has;
                  given = record {
                    within = subst (λ (p : ℕ). p < length config.partitions) (sym makes.partition) within;
                    makes = subst (λ (p : ℕ). Makes config scripts g p one) (sym makes.partition) makes;
                    due = subst (IsNextDue clock scripts g) (sym makes.partition) (next_due clock scripts config g e more first.is_way goes.clocked);
                  };
                };
                found = step.reply one makes;
              }))
              (answered_by g e.partition one (subst (λ (es : History). IsAnswered (g ++ es) one) (sym first.next) now)))
              (λ (past : length (replies_of q (g ++ e ∷ [])) ≤ one.index).
              let counts = same_count config scripts done.short (g ++ e ∷ []) g_too q inside good good_too same in
              let mine = replies_count q (g ++ e ∷ []) in
              let theirs = replies_count q g_too in
              let as_many : length (replies_of q (g ++ e ∷ [])) ≡ length (replies_of q g_too) = omega (arith, counts, mine, theirs) in
              ⊎_elim
              (λ (early : IsAnswered g_too one). absurd (let few = slice_get_within (replies_of q g_too) one.index one.reply early in omega (arith, few, past, as_many)))
              (λ (later : IsGivenAndFound one). inr later)
              (last.given one inside (carried (g ++ e ∷ []) g_too more one as_many past at)))
              (now_or_later (g ++ e ∷ []) more one at);
        }

    follow_from_start : (way : History) → IsWay config scripts way → IsClocked clock scripts way → IsFollowed [] way
    follow_from_start way is clocked = follow_way (length way) [] done.first way (omega arith) is clocked

    found_of_occurs : (one : PossibleReply) → CanOccurWith clock config scripts one → IsGivenAndFound one
    found_of_occurs one can =
        ⊎_elim
        (λ (never : IsAnswered [] one). absurd (cc))
        (λ (found : IsGivenAndFound one). found)
        ((follow_from_start can.way can.is_way can.clocked).given one (is_partition done.all can.way one can.is_way can.reply) can.reply)

    -- each reply that can occur is given after one of the orders
    pub given_of_occurs : (one : PossibleReply) → CanOccurWith clock config scripts one → IsGivenByAnOrder clock config scripts orders one
    given_of_occurs one can = (found_of_occurs one can).by

    pub are_replies : AreRepliesWith clock config scripts replies
    are_replies one = (occurs, λ (can : CanOccurWith clock config scripts one). (found_of_occurs one can).found)
      where
        occurs : Has replies one → CanOccurWith clock config scripts one
        occurs has =
            let here = done.found one has in
            let h = history_of config scripts here.order in
            let good = good_history here.order here.valid in
            let ahead = h ++ next_entries config scripts h here.partition in
            let ended = finish clock done.all ahead (good_next config scripts h here.partition here.within good) (clocked_next clock scripts config h here.partition here.clocked here.due) in
            record {
              way = continued config scripts ahead ended.order;
              is_way = ended.finished.0;
              clocked = ended.finished.1;
              reply = answered_on ahead ended.order one (made_is_answered h here.partition one here.makes);
            }

    -- the orders that make all calls are the ends
    pub are_ends : (ends : List (List ℕ))
        → ((order : List ℕ) → Has ends order → Has orders order × AreFull (length config.partitions) (history_of config scripts order))
        → ((order : List ℕ) → Has orders order → AreFull (length config.partitions) (history_of config scripts order) → Has ends order)
        → AreEndsWith clock config scripts ends
    are_ends ends each every = record {
      ways = λ order has.
          let is = each order has in
          way_of done.all (history_of config scripts order) (good_history order (done.valid is.0.0 order is.0.1)) is.1;
      clocked = λ order has. let is = each order has in done.clocked is.0.0 order is.0.1;
      all = λ way is clocked.
          let end = (follow_from_start way is clocked).end in
          let good : IsGood config scripts way = record { sound = record { valid = valid; lawful = is.lawful }; calls = (begins_of way is).calls } in
          let good_too = good_history end.order (done.valid end.here.0 end.order end.here.1) in
          record {
            order = end.order;
            here = every end.order end.here (is_full way (history_of config scripts end.order) is good good_too end.same);
            same = end.same;
          };
    }
