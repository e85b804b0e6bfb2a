-- A reader from which two reads are made.
use Rattle.std.proofs.Common.{ℕ, List, ◌++◌, Option, Some, None, sym, ap, ◌∙◌, append_assoc}
use Rattle.std.specs.Io.KnownBytes.{Consumes}

pub consumes_both : (old between new : Option (List ℕ)) (first second : List ℕ) → Consumes old between first → Consumes between new second → Consumes old new (first ++ second)
consumes_both None between new first second one two = tt
consumes_both (Some xs) None new first second one two = absurd one
consumes_both (Some xs) (Some ys) None first second one two = absurd two
consumes_both (Some xs) (Some ys) (Some zs) first second one two =
    one ∙ ap (λ (bytes : List ℕ). first ++ bytes) two ∙ sym (append_assoc first second zs)
