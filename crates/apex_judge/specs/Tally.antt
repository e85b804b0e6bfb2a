-- What a tally of messages says about the messages that wait.
use Rattle.std.specs.Prelude.{ℕ, ◌≤◌, List, Vec, length, take, unwrap_or}
use Rattle.apex_judge.specs.Prelude.{bytes_eq}
use Rattle.std.specs.BTreeMap.{BTreeMap, get_by}
use Rattle.std.specs.Cmp.Lexicographic.{slice_cmp}
use Rattle.std.specs.List.{count_by}
use Rattle.std.specs.Ordering.{nat_cmp}

-- how often the bytes are counted
abbrev pub times : {A : Type 0} → BTreeMap (Vec ℕ A) ℕ → List ℕ → ℕ
times tally bytes = unwrap_or (get_by (λ key. slice_cmp nat_cmp bytes key.items) tally) 0

-- each message is counted, as often at least as it is there
abbrev pub HasAll : {A : Type 0} → BTreeMap (Vec ℕ A) ℕ → List (List ℕ) → Type 0
HasAll tally messages = (bytes : List ℕ) → count_by (λ one. bytes_eq one bytes) messages ≤ times tally bytes

-- this number of messages is counted, from the oldest on
pub record IsCounted {A : Type 0} (tally : BTreeMap (Vec ℕ A) ℕ) (counted : ℕ) (messages : List (List ℕ)) : Type 0 where
  pub fits : counted ≤ length messages
  pub counts : HasAll tally (take counted messages)
