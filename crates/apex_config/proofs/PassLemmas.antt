-- What holds for one entry if a pass finds no place in a text.
use Rattle.apex_config.proofs.Common.{◌≡◌, ℕ, zero, suc, ◌+◌, ◌<◌, ◌≤◌, ℤ, pos, negsuc, Bool, true, false, cond, ◌||◌, not, eqb, ltb, leb, List, [], ◌∷◌, ◌++◌, map, length, take, Option, Some, None, option_map, Result, Ok, Err, is_ok, refl, sym, ap, subst, ◌∙◌, arith, slice_get, list_all, list_any, count_by, and_parts, false≢true, not-true, leb-true, eqb-true, ltb-false, length-map, same_Some, slice_get-map}
use Rattle.apex_config.proofs.Common.{bytes_eq, Direction, Place, PartitionData, ports_of_partition, port_at, port_of, is_queuing_port, is_queuing_channel, IsRefresh, IsDepth, unless, at_each, PortText, PartitionText, ChannelText, ConfigText, at_ports, is_name, occurred_before, repeated, is_within, is_from_one_to, is_from_one_to_if_any, index_of_channel, channel_of_port, is_of_kind, is_end, end_count}
use Rattle.apex_config.proofs.Common.{may_have_several, is_alone, too_many_ports, passes, natural, channel_kind_of, port_kind_of, port_of_text, partition_of_text, configuration_of}
use Rattle.std.specs.Prelude.{is_some, is_none}
use Rattle.std.proofs.lemmas.Bool.Decides.{nat_tests}
use Rattle.std.proofs.lemmas.Slice.Eq.{bytes_eq-Decides}
use Rattle.apex_types.specs.Name.{IsName, is_name_byte}
use Rattle.apex_types.specs.declared.name.NameFault.{NameFault}
use Rattle.apex_types.specs.declared.name.NameFault.TheVariants.{Empty, TooLong, BadCharacter}
use Rattle.apex_module.specs.declared.port.Port.{Port}
use Rattle.apex_module.specs.declared.limits.TheConstants.{PORT_LIMIT, DEPTH_LIMIT, REFRESH_LIMIT}
use Rattle.apex_config.specs.declared.place.Part.{Part}
use Rattle.apex_module.specs.Equality.{same_direction}
use Rattle.apex_module.specs.EqualityLaws.{direction_decides}
use Rattle.apex_module.proofs.PortLemmas.{port_at_suc}
use Rattle.apex_config.proofs.Indexes.{no_index, same_index, any_at, part-le-sum_by, one_part, some_part}

-- ---- lists in which nothing is found

pub append_empty : {X : Type 0} (xs ys : List X) → xs ++ ys ≡ [] → (xs ≡ []) × (ys ≡ [])
append_empty [] ys h = (refl, h)
append_empty (x ∷ xs) ys h = absurd cc

pub unless_empty : (passes : Bool) (place : Place) → unless passes place ≡ [] → passes ≡ true
unless_empty true place h = refl
unless_empty false place h = absurd cc

empty_at : {X : Type 0} (find : ℕ → X → List Place) (n : ℕ) (xs : List X) (i : ℕ) (x : X) → at_each find n xs ≡ [] → slice_get xs i ≡ Some x → find (n + i) x ≡ []
empty_at find n [] i x none found = no_index i x found
empty_at find n (y ∷ ys) zero x none found =
    let at : n + 0 ≡ n = omega arith in
    ap (λ (k : ℕ). find k x) at ∙ ap (find n) (sym (same_Some y x found)) ∙ (append_empty (find n y) (at_each find (suc n) ys) none).0
empty_at find n (y ∷ ys) (suc i) x none found =
    let at : n + suc i ≡ suc n + i = omega arith in
    ap (λ (k : ℕ). find k x) at ∙ empty_at find (suc n) ys i x (append_empty (find n y) (at_each find (suc n) ys) none).1 found

pub found_at : {X : Type 0} (find : ℕ → X → List Place) (xs : List X) (i : ℕ) (x : X) → at_each find 0 xs ≡ [] → slice_get xs i ≡ Some x → find i x ≡ []
found_at find xs i x none found =
    let at : i ≡ 0 + i = omega arith in
    ap (λ (k : ℕ). find k x) at ∙ empty_at find 0 xs i x none found

-- the element that was mapped to an element of a mapped list
pub from_map : {X Y : Type 0} (f : X → Y) (xs : List X) (i : ℕ) (y : Y) → slice_get (map f xs) i ≡ Some y → (x : X) × (slice_get xs i ≡ Some x) × (y ≡ f x)
from_map f xs i y found = by_element (slice_get xs i) refl (sym (slice_get-map f xs i) ∙ found)
  where
    by_element : (o : Option _) → slice_get xs i ≡ o → option_map f o ≡ Some y → (x : _) × (slice_get xs i ≡ Some x) × (y ≡ f x)
    by_element None is h = absurd cc
    by_element (Some x) is h = (x, is, sym (same_Some (f x) y h))

pub to_map : {X Y : Type 0} (f : X → Y) (xs : List X) (i : ℕ) (x : X) → slice_get xs i ≡ Some x → slice_get (map f xs) i ≡ Some (f x)
to_map f xs i x found = slice_get-map f xs i ∙ ap (option_map f) found

-- ---- where a port is

pub record IsPortAt (text : ConfigText) (p id : ℕ) (port : Port) : Type 0 where
  pub partition : PartitionText
  pub entry : PortText
  pub index : ℕ
  pub found : slice_get text.partitions p ≡ Some partition
  pub inside : slice_get partition.ports index ≡ Some entry
  pub is : port ≡ port_of_text text.channels entry
  pub numbered : id ≡ suc index

is_port_in : (text : ConfigText) (p : ℕ) (o : Option PartitionText) (id : ℕ) (port : Port) → slice_get text.partitions p ≡ o
    → port_at (ports_of_partition (option_map (partition_of_text text.channels) o)) id ≡ Some port → IsPortAt text p id port
is_port_in text p None zero port is found = absurd cc
is_port_in text p None (suc id) port is found = no_index id port (sym (port_at_suc [] id) ∙ found)
is_port_in text p (Some partition) zero port is found = absurd cc
is_port_in text p (Some partition) (suc id) port is found =
    let at = from_map (port_of_text text.channels) partition.ports id port (sym (port_at_suc (map (port_of_text text.channels) partition.ports) id) ∙ found) in
    record { partition = partition; entry = at.0; index = id; found = is; inside = at.1; is = at.2; numbered = refl }

pub is_port_at : (text : ConfigText) (p id : ℕ) (port : Port) → port_of (configuration_of text) p id ≡ Some port → IsPortAt text p id port
is_port_at text p id port found =
    is_port_in text p (slice_get text.partitions p) id port refl
    (ap (λ (o : Option PartitionData). port_at (ports_of_partition o) id) (sym (slice_get-map (partition_of_text text.channels) text.partitions p)) ∙ found)

found_from : (text : ConfigText) (p i : ℕ) (partition : PartitionText) (entry : PortText) → slice_get text.partitions p ≡ Some partition → slice_get partition.ports i ≡ Some entry
    → port_of (configuration_of text) p (suc i) ≡ Some (port_of_text text.channels entry)
found_from text p i partition entry here inside =
    ap (λ (o : Option PartitionData). port_at (ports_of_partition o) (suc i)) (to_map (partition_of_text text.channels) text.partitions p partition here)
    ∙ (port_at_suc (map (port_of_text text.channels) partition.ports) i ∙ to_map (port_of_text text.channels) partition.ports i entry inside)

pub port_found : (text : ConfigText) (find : ℕ → ℕ → PortText → List Place) (p id : ℕ) (port : Port) (at : IsPortAt text p id port) → at_ports find text.partitions ≡ [] → find p at.index at.entry ≡ []
port_found text find p id port at none =
    found_at (find p) at.partition.ports at.index at.entry (found_at (λ (p : ℕ) (partition : PartitionText). at_each (find p) 0 partition.ports) text.partitions p at.partition none at.found) at.inside

-- ---- names

name_step : (b : Bool) (fault : NameFault) (rest : Result (List ℕ) NameFault) → is_ok (cond b (Err fault) rest) ≡ true → (b ≡ false) × (is_ok rest ≡ true)
name_step true fault rest h = absurd (false≢true h)
name_step false fault rest h = (refl, h)

name_end : (b : Bool) (fault : NameFault) (text : List ℕ) → is_ok (cond b (Ok text) (Err fault)) ≡ true → b ≡ true
name_end true fault text h = refl
name_end false fault text h = absurd (false≢true h)

not_empty : (n : ℕ) → eqb n 0 ≡ false → 0 < n
not_empty n h = grind (arith, nat_tests)

pub IsName-from : (text : List ℕ) → is_name text ≡ true → IsName text
IsName-from text h =
    let one = name_step (eqb (length text) 0) Empty (cond (ltb 30 (length text)) (Err TooLong) (cond (list_all is_name_byte text) (Ok text) (Err BadCharacter))) h in
    let two = name_step (ltb 30 (length text)) TooLong (cond (list_all is_name_byte text) (Ok text) (Err BadCharacter)) one.1 in
    record { not_empty = not_empty (length text) one.0; short = ltb-false 30 (length text) two.0; characters = name_end (list_all is_name_byte text) BadCharacter text two.1 }

-- ---- numbers

pub within : (limit number : ℕ) → is_within limit number ≡ true → (1 ≤ number) × (number ≤ limit)
within limit number h =
    let parts = and_parts (leb 1 number) (leb number limit) h in
    (leb-true 1 number parts.0, leb-true number limit parts.1)

pub within_natural : (limit : ℕ) (number : ℤ) → is_from_one_to limit number ≡ true → (1 ≤ natural number) × (natural number ≤ limit)
within_natural limit (pos number) h = within limit number h
within_natural limit (negsuc number) h = absurd (false≢true h)

pub refresh_from : (refresh : Option ℤ) → is_from_one_to_if_any REFRESH_LIMIT refresh ≡ true → IsRefresh (port_kind_of refresh)
refresh_from None h = tt
refresh_from (Some refresh) h = within_natural REFRESH_LIMIT refresh h

pub depth_from : (depth : Option ℤ) → is_from_one_to_if_any DEPTH_LIMIT depth ≡ true → IsDepth (channel_kind_of depth)
depth_from None h = tt
depth_from (Some depth) h = within_natural DEPTH_LIMIT depth h

pub few_in : (text : ConfigText) (p : ℕ) (o : Option PartitionText) → slice_get text.partitions p ≡ o → at_each too_many_ports 0 text.partitions ≡ []
    → length (ports_of_partition (option_map (partition_of_text text.channels) o)) ≤ PORT_LIMIT
few_in text p None is none = omega arith
few_in text p (Some partition) is none =
    let few = leb-true (length partition.ports) PORT_LIMIT (unless_empty _ _ (found_at too_many_ports text.partitions p partition none is)) in
    subst (λ (n : ℕ). n ≤ PORT_LIMIT) (sym (length-map partition.ports (port_of_text text.channels))) few

-- ---- distinct names

get_take : {X : Type 0} (xs : List X) (j i : ℕ) → i < j → slice_get (take j xs) i ≡ slice_get xs i
get_take xs zero i before = absurd (omega (arith, before))
get_take [] (suc j) i before = refl
get_take (x ∷ xs) (suc j) zero before = refl
get_take (x ∷ xs) (suc j) (suc i) before = get_take xs j i (omega (arith, before))

not_before : (part : ℕ → Part) (names : List (List ℕ)) (i j : ℕ) (name : List ℕ) → repeated part names ≡ [] → slice_get names i ≡ Some name → slice_get names j ≡ Some name → i < j → false ≡ true
not_before part names i j name once here there before =
    let new : not (list_any (λ other. bytes_eq other name) (take j names)) ≡ true = unless_empty _ _ (found_at (occurred_before part names) names j name once there) in
    sym (not-true (list_any (λ other. bytes_eq other name) (take j names)) new)
    ∙ any_at (λ other. bytes_eq other name) (take j names) i name (get_take names j i before ∙ here) ((bytes_eq-Decides name name).1 refl)

pub distinct_at : (part : ℕ → Part) (names : List (List ℕ)) (i j : ℕ) (name : List ℕ) → repeated part names ≡ [] → slice_get names i ≡ Some name → slice_get names j ≡ Some name → i ≡ j
distinct_at part names i j name once here there = by_order (ltb i j) (ltb j i) refl refl
  where
    by_order : (a b : Bool) → ltb i j ≡ a → ltb j i ≡ b → i ≡ j
    by_order true b h k = absurd (false≢true (not_before part names i j name once here there (grind (arith, nat_tests))))
    by_order false true h k = absurd (false≢true (not_before part names j i name once there here (grind (arith, nat_tests))))
    by_order false false h k = omega (arith, ltb-false i j h, ltb-false j i k)

-- ---- links

kinds_agree : (refresh depth : Option ℤ) → cond (is_none refresh) (is_some depth) (is_none depth) ≡ true → is_queuing_port (port_kind_of refresh) ≡ is_queuing_channel (channel_kind_of depth)
kinds_agree None None h = absurd (false≢true h)
kinds_agree None (Some depth) h = refl
kinds_agree (Some refresh) None h = refl
kinds_agree (Some refresh) (Some depth) h = absurd (false≢true h)

pub linked_in : (entry : PortText) (o : Option ChannelText) → is_some o ≡ true → is_of_kind entry o ≡ true
    → (channel : ChannelText) × (o ≡ Some channel) × (is_queuing_port (port_kind_of entry.refresh) ≡ is_queuing_channel (channel_kind_of channel.depth))
linked_in entry None there kind = absurd (false≢true there)
linked_in entry (Some channel) there kind = (channel, refl, kinds_agree entry.refresh channel.depth kind)

-- ---- ends

pub is_end_from : (channels : List ChannelText) (direction : Direction) (c : ℕ) (port : PortText) → port.direction ≡ direction → index_of_channel channels port.channel ≡ c → is_end channels direction c port ≡ true
is_end_from channels direction c port here there = rw ((direction_decides port.direction direction).1 here, same_number (index_of_channel channels port.channel) c there)
  where
    same_number : (a b : ℕ) → a ≡ b → eqb a b ≡ true
    same_number a b h = grind (arith, nat_tests)

is_end_is : (channels : List ChannelText) (direction : Direction) (c : ℕ) (port : PortText) → is_end channels direction c port ≡ true → (port.direction ≡ direction) × (index_of_channel channels port.channel ≡ c)
is_end_is channels direction c port h =
    let parts = and_parts (same_direction port.direction direction) (eqb (index_of_channel channels port.channel) c) h in
    ((direction_decides port.direction direction).0 parts.0, eqb-true (index_of_channel channels port.channel) c parts.1)

abbrev ends_in : List ChannelText → Direction → ℕ → PartitionText → ℕ
ends_in channels direction c partition = count_by (is_end channels direction c) partition.ports

counted : (b : Bool) → b ≡ true → 1 ≤ cond b 1 0
counted true h = omega arith
counted false h = absurd (false≢true h)

pub counts : (b : Bool) → 1 ≤ cond b 1 0 → b ≡ true
counts true h = refl
counts false h = absurd (omega arith)

end_counted : (text : ConfigText) (direction : Direction) (c p id : ℕ) (port : Port) (at : IsPortAt text p id port) → is_end text.channels direction c at.entry ≡ true → 1 ≤ ends_in text.channels direction c at.partition
end_counted text direction c p id port at end =
    omega (arith, counted (is_end text.channels direction c at.entry) end, part-le-sum_by (λ (x : PortText). cond (is_end text.channels direction c x) 1 0) at.partition.ports at.index at.entry at.inside)

-- two ports that are each the only end are one port
pub one_end : (text : ConfigText) (direction : Direction) (c : ℕ) → end_count text.channels direction c text.partitions ≤ 1
    → (p id : ℕ) (port : Port) (q jd : ℕ) (other : Port) (at : IsPortAt text p id port) (ot : IsPortAt text q jd other)
    → is_end text.channels direction c at.entry ≡ true → is_end text.channels direction c ot.entry ≡ true → (p ≡ q) × (id ≡ jd)
one_end text direction c few p id port q jd other at ot end also =
    let same : p ≡ q = one_part (ends_in text.channels direction c) text.partitions p q at.partition ot.partition few at.found ot.found (end_counted text direction c p id port at end) (end_counted text direction c q jd other ot also) in
    let moved : slice_get text.partitions p ≡ Some ot.partition = ap (slice_get text.partitions) same ∙ ot.found in
    let partition : ot.partition ≡ at.partition = same_index text.partitions p ot.partition at.partition moved at.found in
    let inside : slice_get at.partition.ports ot.index ≡ Some ot.entry = ap (λ (x : PartitionText). slice_get x.ports ot.index) (sym partition) ∙ ot.inside in
    let fewer : count_by (is_end text.channels direction c) at.partition.ports ≤ 1 = omega (arith, part-le-sum_by (ends_in text.channels direction c) text.partitions p at.partition at.found) in
    let index : at.index ≡ ot.index = one_part (λ (x : PortText). cond (is_end text.channels direction c x) 1 0) at.partition.ports at.index ot.index at.entry ot.entry fewer at.inside inside (counted _ end) (counted _ also) in
    (same, at.numbered ∙ (ap suc index ∙ sym ot.numbered))

pub some_end : (text : ConfigText) (direction : Direction) (c : ℕ) → 1 ≤ end_count text.channels direction c text.partitions
    → (p : ℕ) × (id : ℕ) × (port : Port) × (port_of (configuration_of text) p id ≡ Some port) × (port.direction ≡ direction) × (port.channel ≡ c)
some_end text direction c more =
    let partition = some_part (ends_in text.channels direction c) text.partitions more in
    let port = some_part (λ (x : PortText). cond (is_end text.channels direction c x) 1 0) partition.1.ports partition.3 in
    let is = is_end_is text.channels direction c port.1 (counts _ port.3) in
    (partition.0, suc port.0, port_of_text text.channels port.1, found_from text partition.0 port.0 partition.1 port.1 partition.2 port.2, is.0, is.1)

clear : (a b c : Bool) → a ≡ true → b ≡ false → (not a || b || c) ≡ true → c ≡ true
clear true true c h k m = absurd (false≢true (sym k))
clear true false c h k m = m
clear false b c h k m = absurd (false≢true h)

pub alone : (text : ConfigText) (direction : Direction) (entry : PortText) → entry.direction ≡ direction → may_have_several direction (channel_of_port text.channels entry) ≡ false
    → is_alone direction text entry ≡ true → end_count text.channels direction (index_of_channel text.channels entry.channel) text.partitions ≤ 1
alone text direction entry same single passes =
    leb-true _ 1 (clear (same_direction entry.direction direction) (may_have_several direction (channel_of_port text.channels entry)) _ ((direction_decides entry.direction direction).1 same) single passes)
