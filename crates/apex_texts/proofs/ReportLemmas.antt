-- The lines of a report, one after the other.
use Rattle.apex_texts.proofs.Common.{◌≡◌, ℕ, suc, ◌+◌, ◌^◌, ◌<◌, ◌≤◌, ◌==◌, List, [], ◌∷◌, ◌++◌, length, drop, arith, Option, Some, None, codes, sym, ap, ◌∙◌, append_assoc, add-one, refl, slice_get, option_map, filter_map, drop-cons, append-nil, length-filter, count_by-le-length, hex_text_of, Configuration, PartitionData, partition_name_of, History, entries_of, accepted_on, received_on, cleared_on}
use Rattle.apex_texts.proofs.Common.{message_accepted, message_received, line_of, entry_lines, partition_line, partition_lines, messages_text, channel_text, channel_lines}
use Rattle.std.proofs.Math.ListN.{drop_of_length-le}
use Rattle.std.proofs.lemmas.Option.{slice_get_within, get_or_from_slice_get}
use Rattle.apex_module.specs.declared.channel.Channel.{Channel}
use Rattle.apex_ports.specs.declared.history.Entry.{Entry}
use Rattle.apex_ports.specs.Counts.{count_of}

-- a text that grew by the next line
pub grows : {X : Type 0} (old new line rest all total : List X) → new ≡ old ++ line → all ≡ line ++ rest → old ++ all ≡ total → new ++ rest ≡ total
grows old new line rest all total grown cut so_far = rw (grown, append_assoc, ← cut) so_far

-- a complete text
pub complete : {X : Type 0} (text rest total : List X) → rest ≡ [] → text ++ rest ≡ total → text ≡ total
complete {X} text rest total none so_far = sym (append-nil text) ∙ ap (λ (more : List X). text ++ more) (sym none) ∙ so_far

pub drop_at : {X : Type 0} (xs : List X) (i : ℕ) (x : X) → slice_get xs i ≡ Some x → drop i xs ≡ x ∷ drop (i + 1) xs
drop_at xs i x is = rw add-one (drop-cons xs i x (slice_get_within xs i x is) ∙ ap (λ y. y ∷ drop (suc i) xs) (get_or_from_slice_get xs i x x is))

-- ---- the log

-- a log with one more entry
entry_last : (config : Configuration) (first : ℕ) (log : History) (entry : Entry) (number : ℕ) → number ≡ first + length log → entry_lines config first (log ++ entry ∷ []) ≡ entry_lines config first log ++ line_of config number entry
unfolding entry_lines
entry_last config first [] entry number is =
    let here : first ≡ number = omega arith in
    append-nil (line_of config first entry) ∙ ap (λ (k : ℕ). line_of config k entry) here
entry_last config first (x ∷ log) entry number is =
    ap (λ lines. line_of config first x ++ lines) (entry_last config (first + 1) log entry number (omega arith)) ∙ sym (append_assoc (line_of config first x) (entry_lines config (first + 1) log) (line_of config number entry))

-- a text to which the line of the last entry was appended
pub entry_pushed : (config : Configuration) (log new : History) (entry : Entry) (number : ℕ) (before old text : List ℕ) → number ≡ 1 + length log → new ≡ log ++ entry ∷ []
    → old ≡ before ++ entry_lines config 1 log → text ≡ old ++ line_of config number entry → text ≡ before ++ entry_lines config 1 new
entry_pushed config log new entry number before old text is grown so_far written =
    written ∙ (ap (λ front. front ++ line_of config number entry) so_far ∙ (append_assoc before (entry_lines config 1 log) (line_of config number entry)
    ∙ ap (λ lines. before ++ lines) (sym (entry_last config 1 log entry number is) ∙ ap (entry_lines config 1) (sym grown))))

-- no entry yet
pub no_entry : (config : Configuration) (log : History) (text : List ℕ) → log ≡ [] → text ≡ text ++ entry_lines config 1 log
unfolding entry_lines
no_entry config log text none = rw none (sym (append-nil text))

-- ---- counts

length-filter_map-le : {X Y : Type 0} (f : X → Option Y) (xs : List X) → length (filter_map f xs) ≤ length xs
length-filter_map-le f [] = omega arith
length-filter_map-le {X} {Y} f (x ∷ xs) = by_item (f x) refl (length-filter_map-le f xs)
  where
    by_item : (found : Option Y) → f x ≡ found → length (filter_map f xs) ≤ length xs → length (filter_map f (x ∷ xs)) ≤ length (x ∷ xs)
    by_item None is rest = rw is (omega arith)
    by_item (Some y) is rest = rw is (omega arith)

-- a count is the length, since a history that a program holds is shorter than the greatest number
exact : {X : Type 0} (xs : List X) (history : History) (count : ℕ) → length xs ≤ length history → length history < 2 ^ 64 → count ≡ count_of xs → count ≡ length xs
exact xs history count within short is = omega arith

pub calls_exact : (p : ℕ) (history : History) (count : ℕ) → length history < 2 ^ 64 → count ≡ count_of (entries_of p history) → count ≡ length (entries_of p history)
calls_exact p history count short is =
    let within : length (entries_of p history) ≤ length history = rw (length-filter (λ (entry : Entry). entry.partition == p) history) (count_by-le-length (λ (entry : Entry). entry.partition == p) history) in
    exact (entries_of p history) history count within short is

pub accepted_exact : (config : Configuration) (c : ℕ) (history : History) (count : ℕ) → length history < 2 ^ 64 → count ≡ count_of (accepted_on config c history) → count ≡ length (accepted_on config c history)
accepted_exact config c history count short is = exact (accepted_on config c history) history count (length-filter_map-le (message_accepted config c) history) short is

pub received_exact : (config : Configuration) (c : ℕ) (history : History) (count : ℕ) → length history < 2 ^ 64 → count ≡ count_of (received_on config c history) → count ≡ length (received_on config c history)
received_exact config c history count short is = exact (received_on config c history) history count (length-filter_map-le (message_received config c) history) short is

pub cleared_exact : (config : Configuration) (c : ℕ) (history : History) (count : ℕ) → length history < 2 ^ 64 → length (cleared_on config c history) ≤ length (accepted_on config c history) → count ≡ count_of (cleared_on config c history) → count ≡ length (cleared_on config c history)
cleared_exact config c history count short within is =
    let accepted = length-filter_map-le (message_accepted config c) history in
    exact (cleared_on config c history) history count (omega arith) short is

-- ---- partitions

named_by : (history : History) (partitions : List PartitionData) (p : ℕ) (name : List ℕ) (found : Option PartitionData) → slice_get partitions p ≡ found → option_map (λ partition. partition.name) found ≡ Some name
    → partition_lines history p (drop p partitions) ≡ partition_line history p name ++ partition_lines history (p + 1) (drop (p + 1) partitions)
unfolding partition_lines
named_by history partitions p name (Some partition) is named =
    let same : partition.name ≡ name = cc in
    rw (drop_at partitions p partition is, ← same) refl
named_by history partitions p name None is named = absurd cc

pub partition_cut : (history : History) (config : Configuration) (p : ℕ) (name : List ℕ) → partition_name_of config p ≡ Some name
    → partition_lines history p (drop p config.partitions) ≡ partition_line history p name ++ partition_lines history (p + 1) (drop (p + 1) config.partitions)
partition_cut history config p name named = named_by history config.partitions p name (slice_get config.partitions p) refl named

pub partition_end : (history : History) (partitions : List PartitionData) (p : ℕ) → length partitions ≤ p → partition_lines history p (drop p partitions) ≡ []
unfolding partition_lines
partition_end history partitions p past = rw (drop_of_length-le partitions past) refl

-- ---- channels

pub channel_cut : (config : Configuration) (history : History) (c : ℕ) (channel : Channel) → slice_get config.channels c ≡ Some channel
    → channel_lines config history c (drop c config.channels) ≡ (channel_text config history c channel.name channel.kind ++ codes "\n") ++ channel_lines config history (c + 1) (drop (c + 1) config.channels)
unfolding channel_lines
channel_cut config history c channel is = rw (drop_at config.channels c channel is) refl

pub channel_end : (config : Configuration) (history : History) (c : ℕ) → length config.channels ≤ c → channel_lines config history c (drop c config.channels) ≡ []
unfolding channel_lines
channel_end config history c past = rw (drop_of_length-le config.channels past) refl

pub message_cut : (messages : List (List ℕ)) (index : ℕ) (message : List ℕ) → slice_get messages index ≡ Some message
    → messages_text (drop index messages) ≡ (codes " " ++ hex_text_of message) ++ messages_text (drop (index + 1) messages)
unfolding messages_text
message_cut messages index message is = rw (drop_at messages index message is) refl

pub message_end : (messages : List (List ℕ)) (index : ℕ) → length messages ≤ index → messages_text (drop index messages) ≡ []
unfolding messages_text
message_end messages index past = rw (drop_of_length-le messages past) refl
