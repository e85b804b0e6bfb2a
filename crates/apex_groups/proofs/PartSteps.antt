-- Parts searched one after the other.
use Rattle.apex_groups.proofs.Common.{◌≡◌, ◌⊎◌, inl, inr, ⊎_elim, ℕ, ◌≤◌, ◌+◌, ◌<◌, Bool, true, false, List, ◌++◌, length, filter, Option, Some, None, refl, sym, ap, ◌∙◌, subst, arith, cases_eq, cases_lt, slice_get_past, nat_tests, false≢true, slice_get, Configuration, IsConfiguration, History, port_of, Port, IsPart, group_of, in_group, Asked, PossibleReply, Scripts, script_of, IsWay, AreRepliesWith, CanOccurWith, CanBeAnsweredWith, Has, ShowAllCounts, IsAnsweredByWith, IsMerged, IsOrder, IsClockedWay, IsWholeOf, AreEndsAdded, ◌∷◌, []}
use Rattle.apex_groups.proofs.Common.{ShowsCounts, AreRepliesBelow, ShowCountsBelow}
use Rattle.apex_types.specs.declared.call.Call.{Call}
use Rattle.apex_types.specs.declared.moment.Moment.{Moment}
use Rattle.apex_orders.specs.Commuting.{port_in}
use Rattle.apex_ports.specs.Ports.{is_source}
use Rattle.apex_groups.specs.Parts.{AreBelow, HoldsPart, IsFed, IsReader, id_asked, is_of_part, part_in, part_of_id, part_of_index, part_of_named, part_of_port, part_of_timed}
use Rattle.apex_groups.specs.declared.parts.Parts.{Parts}
use Rattle.apex_groups.proofs.AlikeInside.{is_own, is_own_call}
use Rattle.apex_groups.proofs.GroupLemmas.{owner_within}
use Rattle.apex_groups.proofs.Lists.{has_filtered, has_kept, is_kept, item_at}
use Rattle.apex_orders.proofs.Having.{has_before, first_or_rest, has_behind, has_either, has_none}
use Rattle.apex_groups.proofs.PartLemmas.{occurs_within}
use Rattle.apex_orders.specs.Clock.{IsClocked}
use Rattle.apex_groups.proofs.PartWays.{answered_in_part, clocked_in_part, merged_answers, occurs_in_all, occurs_in_part, part_way, same_totals, way_in_part}

-- one more end
pub end_added : (clock : Bool) (config : Configuration) (inside : ℕ → Bool) (scripts : Scripts) (ends old all : List (List ℕ)) (end whole : List ℕ) → AreEndsAdded clock config inside scripts ends old all
    → IsWholeOf clock config scripts inside end whole → AreEndsAdded clock config inside scripts (ends ++ end ∷ []) old (all ++ whole ∷ [])
end_added clock config inside scripts ends old all end whole added is = record {
  kept = λ order has. has_before all (whole ∷ []) order (added.kept order has);
  each = λ order has. ⊎_elim
      (λ (earlier : Has all order). added.each order earlier)
      (λ (last : Has (whole ∷ []) order). inr (subst (λ (one : List ℕ). IsClockedWay clock config scripts one) (only whole order last) (record { is_way = is.is_way; clocked = is.clocked })))
      (has_either all (whole ∷ []) order has);
  every = λ order has. ⊎_elim
      (λ (earlier : Has ends order). let was = added.every order earlier in record { whole = was.whole; here = has_before all (whole ∷ []) was.whole was.here; is = was.is })
      (λ (last : Has (end ∷ []) order). record {
        whole = whole;
        here = has_behind all (whole ∷ []) whole (0, refl);
        is = subst (λ (one : List ℕ). IsWholeOf clock config scripts inside one whole) (only end order last) is;
      })
      (has_either ends (end ∷ []) order has);
}
  where
    only : (x y : List ℕ) → Has (x ∷ []) y → x ≡ y
    only x y has = ⊎_elim (λ (first : x ≡ y). first) (λ (rest : Has [] y). absurd (has_none y rest)) (first_or_rest x [] y has)

-- ---- what is checked of parts

pub is_in : (groups : List ℕ) (p : ℕ) → group_of groups p ≡ 1 → in_group groups 1 p ≡ true
is_in groups p same = grind (arith, nat_tests, same)

pub below_of : (parts : Parts) → ((p id : ℕ) → p < length parts.of_ports.items → part_of_port parts p id < parts.count)
    → ((c : ℕ) → group_of parts.of_channels.items c < parts.count) → ((p : ℕ) → group_of parts.of_partitions.items p < parts.count) → AreBelow parts
below_of parts ports channels partitions = record { ports = λ p id. of_ports p id (cases_lt p (length parts.of_ports.items)); channels = channels; partitions = partitions }
  where
    of_ports : (p id : ℕ) → (p < length parts.of_ports.items) ⊎ (length parts.of_ports.items ≤ p) → part_of_port parts p id < parts.count
    of_ports p id (inl within) = ports p id within
    of_ports p id (inr beyond) =
        let none : part_of_port parts p id ≡ 0 = ap (λ o. part_in o id) (slice_get_past parts.of_ports.items p beyond) in
        let some = partitions 0 in
        omega (arith, none, some)

module _ (clock : Bool) (config : Configuration) (scripts : Scripts) (parts : Parts) where
  -- ---- one part

  module _ (n : ℕ) (inside own : ℕ → Bool) (holds : HoldsPart config parts n inside own) where
    own_index : (p index : ℕ) → part_of_index config parts scripts p index ≡ n
        → (timed : Moment × Call) → slice_get (script_of scripts p) index ≡ Some timed → is_own_call config own p timed.1 ≡ true
    own_index p index same timed at = of_id (id_asked timed.1) (sym (ap (part_of_timed config parts p) at) ∙ same)
      where
        of_id : (o : Option ℕ) → part_of_id config parts p o ≡ n → is_own config own (port_in config p o) ≡ true
        of_id None is = refl
        of_id (Some id) is = of_port (port_of config p id) refl
          where
            of_port : (o : Option Port) → port_of config p id ≡ o → is_own config own o ≡ true
            of_port None found = refl
            of_port (Some port) found =
                (((holds.each p (owner_within config p id port found)).port id port found).mine (sym (ap (part_of_named parts p id) found) ∙ is)).1

    inside_of : (p index : ℕ) → p < length config.partitions → part_of_index config parts scripts p index ≡ n → inside p ≡ true
    inside_of p index within same = of_timed (slice_get (script_of scripts p) index) same
      where
        of_id : (o : Option ℕ) → part_of_id config parts p o ≡ n → inside p ≡ true
        of_id None is = (holds.each p within).partition is
        of_id (Some id) is = of_port (port_of config p id) refl
          where
            of_port : (o : Option Port) → port_of config p id ≡ o → inside p ≡ true
            of_port None found = (holds.each p within).partition (sym (ap (part_of_named parts p id) found) ∙ is)
            of_port (Some port) found = (((holds.each p within).port id port found).mine (sym (ap (part_of_named parts p id) found) ∙ is)).0

        of_timed : (o : Option (Moment × Call)) → part_of_timed config parts p o ≡ n → inside p ≡ true
        of_timed None is = (holds.each p within).partition is
        of_timed (Some timed) is = of_id (id_asked timed.1) is

    fed : (c : ℕ) → own c ≡ true → IsFed config inside c
    fed c mine p id port found same = ((holds.each p (owner_within config p id port found)).port id port found).fed (ap own same ∙ mine)

    -- the partition at the channel's source is inside
    source_inside : IsConfiguration config → (c : ℕ) → c < length config.channels → group_of parts.of_channels.items c ≡ n → (p : ℕ) × (p < length config.partitions) × (inside p ≡ true)
    source_inside valid c within same =
        let channel = item_at config.channels c within in
        let source = valid.has_source c channel.0 channel.1 in
        let p = source.0 in (
          p,
          owner_within config p source.1 source.2 source.3,
          ⊎_elim
              (λ (here : inside p ≡ true). here)
              (λ (reads : IsReader source.2). absurd (false≢true (sym reads.reads ∙ ap is_source source.4)))
              (fed c (holds.channel c within same) p source.1 source.2 source.3 source.5),
        )

    module _ (valid : IsConfiguration config) (count : length scripts ≡ length config.partitions) where
      -- ---- no partition inside

      module _ (none : (p : ℕ) → p < length config.partitions → inside p ≡ false) where
        pub replies_pass : (replies : List PossibleReply) → AreRepliesBelow clock config scripts parts n replies → AreRepliesBelow clock config scripts parts (n + 1) replies
        replies_pass replies are one = (
          λ has. let was = (are one).0 has in let few = was.1 in (was.0, omega (arith, few)),
          λ both.
              let within = occurs_within clock config scripts count one both.0 in
              let apart : part_of_index config parts scripts one.partition one.index ≡ n → ⊥ =
              λ same. absurd (false≢true (sym (none one.partition within) ∙ inside_of one.partition one.index within same)) in
              let few = both.1 in
              (are one).1 (both.0, grind (arith, few, apart)),
        )

        pub counts_pass : (ends : List (List ℕ)) → ShowCountsBelow clock config scripts parts n ends → ShowCountsBelow clock config scripts parts (n + 1) ends
        counts_pass ends show = record {
          ways = show.ways;
          counts = λ c within few way is_way clocked.
              let apart : group_of parts.of_channels.items c ≡ n → ⊥ =
              λ same. let source = source_inside valid c within same in absurd (false≢true (sym (none source.0 source.1) ∙ source.2)) in
              show.counts c within (grind (arith, few, apart)) way is_way clocked;
        }

      -- ---- the part's scripts

      module _ (part : Scripts) (is : IsPart inside scripts part) where
        pub replies_added : (replies found : List PossibleReply) → AreRepliesWith clock config part found → AreRepliesBelow clock config scripts parts n replies
            → AreRepliesBelow clock config scripts parts (n + 1) (replies ++ filter (is_of_part config parts scripts n) found)
        replies_added replies found are before one = (goes, comes)
          where
            kept : List PossibleReply
            kept = filter (is_of_part config parts scripts n) found

            of_one : ℕ
            of_one = part_of_index config parts scripts one.partition one.index

            goes : Has (replies ++ kept) one → CanOccurWith clock config scripts one × (of_one < n + 1)
            goes has = ⊎_elim
                (λ (earlier : Has replies one). let was = (before one).0 earlier in let few = was.1 in (was.0, omega (arith, few)))
                (λ (new : Has kept one).
                let can = (are one).0 (has_filtered (is_of_part config parts scripts n) found one new) in
                let mine = is_kept (is_of_part config parts scripts n) found one new in
                let same : of_one ≡ n = grind (arith, nat_tests, mine) in
                (occurs_in_all config own inside scripts part is fed valid clock count one (own_index one.partition one.index same) can, omega (arith, same)))
                (has_either replies kept one has)

            comes : CanOccurWith clock config scripts one × (of_one < n + 1) → Has (replies ++ kept) one
            comes both = ⊎_elim
                (λ (same : of_one ≡ n).
                let here = inside_of one.partition one.index (occurs_within clock config scripts count one both.0) same in
                has_behind replies kept one (has_kept (is_of_part config parts scripts n) found one
                ((are one).1 (occurs_in_part config own inside scripts part is fed valid clock one here (own_index one.partition one.index same) both.0))
                (grind (arith, nat_tests, same))))
                (λ (other : of_one ≡ n → ⊥).
                has_before replies kept one ((before one).1 (both.0, let few = both.1 in grind (arith, few, other))))
                (cases_eq of_one n)

        pub counts_added : (ends found new : List (List ℕ)) → ShowAllCounts clock config part found → AreEndsAdded clock config inside scripts found ends new → ShowCountsBelow clock config scripts parts n ends
            → ShowCountsBelow clock config scripts parts (n + 1) new
        counts_added ends found new are added before = record { ways = ways; counts = counts }
          where
            ways : (order : List ℕ) → Has new order → IsClockedWay clock config scripts order
            ways order has = ⊎_elim (λ (earlier : Has ends order). before.ways order earlier) (λ (way : IsClockedWay clock config scripts order). way) (added.each order has)

            counts : (c : ℕ) → c < length config.channels → group_of parts.of_channels.items c < n + 1 → (way : History) → IsWay config scripts way → IsClocked clock scripts way → ShowsCounts config scripts new way c
            counts c within few way is_way clocked = ⊎_elim
                (λ (same : group_of parts.of_channels.items c ≡ n).
                let other = part_way config own inside scripts part is fed valid way in
                let one = are.counts other (way_in_part config own inside scripts part is fed valid way is_way) (clocked_in_part config own inside scripts part is fed valid clock way is_way clocked) c within in
                let all = added.every one.order one.here in
                record {
                  order = all.whole;
                  here = all.here;
                  same = same_totals config own inside scripts part is fed valid c (holds.channel c within same) way is_way one.order all.whole one.same all.is.same;
                })
                (λ (apart : group_of parts.of_channels.items c ≡ n → ⊥).
                let was = before.counts c within (grind (arith, few, apart)) way is_way clocked in
                record { order = was.order; here = added.kept was.order was.here; same = was.same })
                (cases_eq (group_of parts.of_channels.items c) n)

        -- ---- a question

        pub answered_there : (asked : Asked) → part_of_index config parts scripts asked.partition asked.index ≡ n → CanBeAnsweredWith clock config scripts asked → CanBeAnsweredWith clock config part asked
        answered_there asked same can =
            let within = subst (λ (p : ℕ). p < length config.partitions) can.answers.partition (occurs_within clock config scripts count can.one can.occurs) in
            answered_in_part config own inside scripts part is fed valid clock asked (inside_of asked.partition asked.index within same) (own_index asked.partition asked.index same) can

        pub answered_here : (asked : Asked) (order whole : List ℕ) → part_of_index config parts scripts asked.partition asked.index ≡ n → IsAnsweredByWith clock config part asked order
            → IsMerged clock config scripts inside order whole → IsOrder config whole → IsAnsweredByWith clock config scripts asked whole
        answered_here asked order whole same answered merged ordered =
            merged_answers config own inside scripts part is fed valid clock asked order whole (own_index asked.partition asked.index same) answered merged ordered

  -- ---- all parts

  module _ (below : AreBelow parts) where
    part_below : (p index : ℕ) → part_of_index config parts scripts p index < parts.count
    part_below p index = of_timed (slice_get (script_of scripts p) index)
      where
        of_port : (id : ℕ) (o : Option Port) → part_of_named parts p id o < parts.count
        of_port id None = below.partitions p
        of_port id (Some port) = below.ports p id

        of_id : (o : Option ℕ) → part_of_id config parts p o < parts.count
        of_id None = below.partitions p
        of_id (Some id) = of_port id (port_of config p id)

        of_timed : (o : Option (Moment × Call)) → part_of_timed config parts p o < parts.count
        of_timed None = below.partitions p
        of_timed (Some timed) = of_id (id_asked timed.1)

    pub all_replies : (replies : List PossibleReply) → AreRepliesBelow clock config scripts parts parts.count replies → AreRepliesWith clock config scripts replies
    all_replies replies are one = (λ has. ((are one).0 has).0, λ can. (are one).1 (can, part_below one.partition one.index))

    pub all_counts : (ends : List (List ℕ)) → ShowCountsBelow clock config scripts parts parts.count ends → ShowAllCounts clock config scripts ends
    all_counts ends show = record {
      ways = λ order has. (show.ways order has).is_way;
      clocked = λ order has. (show.ways order has).clocked;
      counts = λ way is_way clocked c within. show.counts c within (below.channels c) way is_way clocked;
    }
