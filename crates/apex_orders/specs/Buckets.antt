-- Hashes in buckets by their remainders. A place is an index plus 1, or 0 for none.
use Rattle.std.specs.Prelude.{ℕ, ◌≡◌, ◌<◌, ◌≤◌, ◌+◌, ◌%◌, ◌^◌, List, length, slice_get, slice_index_or, Some}

-- the hash's bucket: of the hash, only the last 32 bits count, which are divided faster
abbrev pub bucket_of : ℕ → ℕ → ℕ
bucket_of hash buckets = hash % 2 ^ 32 % buckets

-- the place is that of the bucket's last hash before the index n
pub record IsLastOf (hashes : List ℕ) (buckets b n place : ℕ) : Type 0 where
  pub within : place ≤ n
  pub own : (k hash : ℕ) → place ≡ k + 1 → slice_get hashes k ≡ Some hash → bucket_of hash buckets ≡ b
  pub rest : (k hash : ℕ) → k < n → slice_get hashes k ≡ Some hash → bucket_of hash buckets ≡ b → k < place

-- each of the first n hashes has the place of the last before it in its bucket
pub record AreChained (hashes earlier : List ℕ) (buckets n : ℕ) : Type 0 where
  pub room : length hashes ≤ length earlier
  pub each : (k hash : ℕ) → k < n → slice_get hashes k ≡ Some hash → IsLastOf hashes buckets (bucket_of hash buckets) k (slice_index_or earlier k 0)

-- and each bucket has the place of its last
pub record AreFiledBelow (hashes earlier last : List ℕ) (n : ℕ) : Type 0 where
  pub some : 0 < length last
  pub chained : AreChained hashes earlier (length last) n
  pub heads : (b : ℕ) → b < length last → IsLastOf hashes (length last) b n (slice_index_or last b 0)

-- all hashes are filed
abbrev pub AreFiled : List ℕ → List ℕ → List ℕ → Type 0
AreFiled hashes earlier last = AreFiledBelow hashes earlier last (length hashes)

-- all places are none
abbrev pub AreNone : List ℕ → Type 0
AreNone places = (b : ℕ) → b < length places → slice_index_or places b 0 ≡ 0

-- so many hashes are up to the last before the index n that equals this one; 0 if none does
pub record IsUpToLast (hashes : List ℕ) (hash n count : ℕ) : Type 0 where
  pub within : count ≤ n
  pub here : (k : ℕ) → count ≡ k + 1 → slice_get hashes k ≡ Some hash
  pub rest : (k : ℕ) → count ≤ k → k < n → slice_get hashes k ≡ Some hash → ⊥
