-- The ports of the partitions so far, and the line of their counts.
use Rattle.apex_texts.proofs.Common.{◌≡◌, ℕ, ◌+◌, ◌<◌, List, [], ◌++◌, length, take, Option, Some, None, Result, Ok, Err, refl, sym, ap, ◌∙◌, append_assoc, codes, String, Global, string_bytes, slice_get, sum_by, decimal, IfOk, sum_by_more, Configuration, PartitionData, ports_of_partition, ports_of}
use Rattle.std.specs.declared.alloc.AllocError.{AllocError}
use Rattle.std.proofs.lemmas.Option.{slice_get-get_or, get_or_from_slice_get}
use Rattle.apex_texts.specs.Check.{counts_line}

ports_more_by : (partitions : List PartitionData) (p : ℕ) (found : Option PartitionData) → slice_get partitions p ≡ found → p < length partitions
    → sum_by (λ partition. length partition.ports) (take (p + 1) partitions) ≡ sum_by (λ partition. length partition.ports) (take p partitions) + length (ports_of_partition found)
ports_more_by partitions p (Some partition) is inside =
    sum_by_more (λ partition. length partition.ports) partitions p partition inside ∙ ap (λ (x : PartitionData). sum_by (λ partition. length partition.ports) (take p partitions) + length x.ports) (get_or_from_slice_get partitions p partition partition is)
ports_more_by partitions p None is inside =
    let some = slice_get-get_or partitions p (record { name = []; ports = [] }) inside in
    absurd cc

-- the ports of one more partition
pub ports_more : (config : Configuration) (p : ℕ) → p < length config.partitions
    → sum_by (λ partition. length partition.ports) (take (p + 1) config.partitions) ≡ sum_by (λ partition. length partition.ports) (take p config.partitions) + length (ports_of config p)
ports_more config p inside = ports_more_by config.partitions p (slice_get config.partitions p) refl inside

-- the line, grouped as it was written
pub counts_text : (partitions ports channels : ℕ) (answer : Result (String Global) AllocError)
    → IfOk answer (λ text. string_bytes text ≡ codes "ok partitions " ++ (decimal partitions ++ (codes " ports " ++ (decimal ports ++ (codes " channels " ++ (decimal channels ++ codes "\n"))))))
    → IfOk answer (λ text. string_bytes text ≡ counts_line partitions ports channels)
counts_text partitions ports channels (Ok text) written = written ∙ sym (simp append_assoc)
counts_text partitions ports channels (Err refused) written = tt
