-- The counts of channels over orders of all calls: of each the least and the greatest.
use Rattle.std.specs.Prelude.{ℕ, ◌≡◌, ◌<◌, List, [], ◌∷◌, length, min, max, slice_get, Some}
use Rattle.dekarino_texts.specs.Prelude.{Configuration, accepted_on, received_on, cleared_on, waiting_on, History}
use Rattle.apex_ports.specs.Counts.{count_of}
use Rattle.apex_orders.specs.Orders.{Scripts, history_of}
use Rattle.dekarino_texts.specs.declared.counts.Counts.{Counts}
use Rattle.dekarino_texts.specs.declared.counts.Ranges.{Ranges}

-- ---- one history

-- how many messages the channel accepted, how many were received and cleared, and how many wait
abbrev pub counts_after : Configuration → History → ℕ → Counts
counts_after config history c = record {
  accepted = count_of (accepted_on config c history);
  received = count_of (received_on config c history);
  cleared = count_of (cleared_on config c history);
  waiting = length (waiting_on config c history);
}

-- ---- several histories

-- the lesser of each count
abbrev pub lesser : Counts → Counts → Counts
lesser a b = record {
  accepted = min a.accepted b.accepted;
  received = min a.received b.received;
  cleared = min a.cleared b.cleared;
  waiting = min a.waiting b.waiting;
}

-- the greater of each count
abbrev pub greater : Counts → Counts → Counts
greater a b = record {
  accepted = max a.accepted b.accepted;
  received = max a.received b.received;
  cleared = max a.cleared b.cleared;
  waiting = max a.waiting b.waiting;
}

-- from each count to itself
abbrev pub only : Counts → Ranges
only counts = record { lowest = counts; highest = counts }

-- so wide that these counts are within
abbrev pub widened : Ranges → Counts → Ranges
widened ranges counts =
    record { lowest = lesser ranges.lowest counts; highest = greater ranges.highest counts }

-- so wide that the counts after each of the orders are within
unfoldable pub widened_by : Configuration → Scripts → ℕ → Ranges → List (List ℕ) → Ranges
widened_by config scripts c ranges [] = ranges
widened_by config scripts c ranges (order ∷ rest) =
    let counts = counts_after config (history_of config scripts order) c in
    widened_by config scripts c (widened ranges counts) rest

-- from the least to the greatest of each count after the orders; if there is no order, those before the first call
abbrev pub ranges_over : Configuration → Scripts → List (List ℕ) → ℕ → Ranges
ranges_over config scripts [] c = only (counts_after config [] c)
ranges_over config scripts (first ∷ rest) c =
    widened_by config scripts c (only (counts_after config (history_of config scripts first) c)) rest

-- ---- all channels

-- each channel's range is over the orders
pub record AreRanges (config : Configuration) (scripts : Scripts) (orders : List (List ℕ)) (all : List Ranges) : Type 0 where
  pub count : length all ≡ length config.channels
  pub each : (c : ℕ) → c < length config.channels → slice_get all c ≡ Some (ranges_over config scripts orders c)

-- each channel's range is from its counts to themselves
pub record AreOnly (config : Configuration) (history : History) (all : List Ranges) : Type 0 where
  pub count : length all ≡ length config.channels
  pub each : (c : ℕ) → c < length config.channels → slice_get all c ≡ Some (only (counts_after config history c))

-- each channel's range was made so wide that its counts are within
pub record AreWidened (config : Configuration) (history : History) (before after : List Ranges) : Type 0 where
  pub count : length after ≡ length before
  pub each : (c : ℕ) (ranges : Ranges) → slice_get before c ≡ Some ranges
      → slice_get after c ≡ Some (widened ranges (counts_after config history c))
