-- Clauses on a result that don't turn on its value.
use Rattle.std.proofs.Common.{rules, Result, Ok, Err, IfErr}

pub if_err : {T E : Type 0} {P : Type 0} (result : Result T E) → P → IfErr result (λ _. P)
if_err (Ok x) p = search rules
if_err (Err e) p = p
