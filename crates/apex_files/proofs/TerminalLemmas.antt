-- A text that is written to an output in pieces.
use Rattle.std.proofs.Common.{◌≡◌, ℕ, ◌-◌, Bool, true, false, List, [], ◌∷◌, ◌++◌, length, take, Option, Some, None, Result, Ok, Err, OnOk, suc-ne-zero, refl, sym, ap, ◌∙◌, subst, arith, append_assoc}
use Rattle.std.specs.Prelude.{if◌then◌else◌}
use Rattle.std.specs.Io.KnownBytes.{Appends}
use Rattle.std.proofs.lemmas.List.{length-append}
use Rattle.std.proofs.Math.Seq.{take-append_seam}
use Rattle.apex_files.specs.Terminal.{is_escaped, escape, escaped_after}

-- all of a text but the rest was written to an output
abbrev pub Owes : Option (List ℕ) → Option (List ℕ) → List ℕ → List ℕ → Type 0
Owes None new whole left = Unit {0}
Owes (Some xs) None whole left = ⊥
Owes (Some xs) (Some ys) whole left = xs ++ whole ≡ ys ++ left

pub owes_less : (old before after : Option (List ℕ)) (whole given left : List ℕ) → Owes old before whole (given ++ left) → Appends before after given → Owes old after whole left
owes_less None before after whole given left owes gives = tt
owes_less (Some xs) None after whole given left owes gives = absurd owes
owes_less (Some xs) (Some ys) None whole given left owes gives = absurd gives
owes_less (Some xs) (Some ys) (Some zs) whole given left owes gives =
    owes ∙ sym (append_assoc ys given left) ∙ ap (λ (bytes : List ℕ). bytes ++ left) (sym gives)

pub owes_last : (old before after : Option (List ℕ)) (whole given : List ℕ) → Owes old before whole given → Appends before after given → Appends old after whole
owes_last None before after whole given owes gives = tt
owes_last (Some xs) None after whole given owes gives = absurd owes
owes_last (Some xs) (Some ys) None whole given owes gives = absurd gives
owes_last (Some xs) (Some ys) (Some zs) whole given owes gives = gives ∙ sym owes

on_ok : {E X : Type 0} (answer : Result X E) {A B : Type 0} → (A → B) → OnOk answer A → OnOk answer B
on_ok (Ok value) goes known = goes known
on_ok (Err error) goes known = known

-- ---- the text byte by byte

module _ (before byte : ℕ) (after rest : List ℕ) (is : rest ≡ byte ∷ after) where
  step : (b : Bool) → is_escaped before byte after ≡ b → escaped_after before rest ≡ (if b then escape byte else byte ∷ []) ++ escaped_after byte after
  unfolding escaped_after
  step b test = rw (is, test) refl

  module _ (old output : Option (List ℕ)) (whole plain waiting : List ℕ) (split : waiting ≡ plain ++ rest) (owes : Owes old output whole (plain ++ escaped_after before rest)) where
    -- a byte that is written unchanged waits with those before it
    pub waits : is_escaped before byte after ≡ false → (x : List ℕ) × (waiting ≡ x ++ after) × Owes old output whole (x ++ escaped_after byte after)
    waits test =
        let left : plain ++ escaped_after before rest ≡ (plain ++ byte ∷ []) ++ escaped_after byte after =
        ap (λ (bytes : List ℕ). plain ++ bytes) (step false test) ∙ sym (append_assoc plain (byte ∷ []) (escaped_after byte after)) in
        (plain ++ byte ∷ [], split ∙ ap (λ (bytes : List ℕ). plain ++ bytes) is ∙ sym (append_assoc plain (byte ∷ []) after), subst (λ (bytes : List ℕ). Owes old output whole bytes) left owes)

    waited : take (length waiting - length rest) waiting ≡ plain
    waited =
        let count : length (plain ++ rest) - length rest ≡ length plain = omega (arith, length-append plain rest) in
        rw (split, count) (take-append_seam plain rest)

    -- the waiting bytes are written, and then the escape
    pub is_written : (middle end : Option (List ℕ)) → is_escaped before byte after ≡ true → Appends output middle (take (length waiting - length rest) waiting) → Appends middle end (escape byte)
        → (x : List ℕ) × (after ≡ x ++ after) × Owes old end whole (x ++ escaped_after byte after)
    is_written middle end test first second =
        let left : plain ++ escaped_after before rest ≡ plain ++ (escape byte ++ escaped_after byte after) = ap (λ (bytes : List ℕ). plain ++ bytes) (step true test) in
        let written = owes_less old output middle whole plain (escape byte ++ escaped_after byte after) (subst (λ (bytes : List ℕ). Owes old output whole bytes) left owes) (subst (λ (bytes : List ℕ). Appends output middle bytes) waited first) in
        ([], refl, owes_less old middle end whole (escape byte) (escaped_after byte after) written second)

-- if no byte is left, the waiting bytes are the rest
pub ends : {E X : Type 0} (before : ℕ) (rest : List ℕ) (old output end : Option (List ℕ)) (whole plain waiting : List ℕ) → length rest ≡ 0 → waiting ≡ plain ++ rest
    → Owes old output whole (plain ++ escaped_after before rest) → (answer : Result X E) → OnOk answer (Appends output end waiting) → OnOk answer (Appends old end whole)
unfolding escaped_after
ends before [] old output end whole plain waiting none split owes answer gives =
    on_ok answer (λ (given : Appends output end waiting). owes_last old output end whole waiting (subst (λ (bytes : List ℕ). Owes old output whole bytes) (sym split) owes) given) gives
ends before (byte ∷ rest) old output end whole plain waiting none split owes answer gives = absurd (suc-ne-zero (length rest) none)
