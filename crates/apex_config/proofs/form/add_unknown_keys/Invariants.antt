use Rattle.apex_config.proofs.Common.{◌≡◌, ◌++◌, string_bytes, keys_of, unless, unknown, at_each, is_known}
use Rattle.apex_config.proofs.form.add_unknown_keys.Given as goal

abbrev pub invariant-loop-number : goal.invariant-loop-number
invariant-loop-number l =
    l.places.items ++ at_each (λ number key. unless (is_known l.keys (string_bytes key)) (unknown l.part number)) l.number-iterator.count l.number-iterator.iter
    ≡ l.initial.places.items ++ at_each (λ number key. unless (is_known l.keys (string_bytes key)) (unknown l.part number)) 0 (keys_of l.table.entries)
