use Rattle.std.proofs.Common.{◌≡◌, ◌+◌, ◌<◌, ◌==◌, ◌++◌, ◌∷◌, true, false, List, [], ℕ, length, drop, get_or, Vec, Global, sym, ap, ◌∙◌, arith}
use Rattle.std.proofs.lemmas.Bool.Decides.{nat_tests}
use Rattle.std.proofs.lemmas.List.{drop_all, get_or_default}
use Rattle.apex_refusals.specs.PlaceLines.{line_ends}
use Rattle.apex_refusals.proofs.PlaceLines.{end_here, no_end_here}
use Rattle.apex_refusals.proofs.line_of.ends_of_lines.Goals as goal
use Rattle.apex_refusals.proofs.line_of.ends_of_lines.Goals.{then-byte-eq10+in_ok-push, else-byte-eq10}

pub loop-offset-preserved : goal.loop-offset-preserved
loop-offset-preserved c =
    let text = c.args.text.now in
    let offset = c.loop-offset.offset in
    let within : offset < length text = c.loop-offset-test.true in
    let byte = get_or text offset 0 in
    let here : get_or text offset byte ≡ byte = get_or_default text offset byte 0 within in
    let rest = line_ends (offset + 1) (drop (offset + 1) text) in
    elim c.if-byte-eq10.branch [
      | then-byte-eq10+in_ok-push w ↦
          let is : (byte == 10) ≡ true = grind (arith, nat_tests, w.if-byte-eq10.true) in
          ap (λ (e : Vec ℕ Global). e.items ++ rest) w.ends-is
          ∙ (ap (λ (items : List ℕ). items ++ rest) w.in_ok-push.ensures.items
          ∙ end_here text offset byte within here c.loop-offset.ends.items is c.loop-offset.invariant)
      | else-byte-eq10 w ↦
          let is : (byte == 10) ≡ false = grind (arith, nat_tests, w.if-byte-eq10.false) in
          ap (λ (e : Vec ℕ Global). e.items ++ rest) w.ends-is ∙ no_end_here text offset byte within here c.loop-offset.ends.items is c.loop-offset.invariant
    ]

pub returns : goal.returns
returns c =
    let text = c.args.text.now in
    let offset = c.loop-offset.offset in
    let past = c.loop-offset-test.false in
    let within = c.loop-offset.auto.offset-end in
    let end : offset ≡ length text = omega (arith, past, within) in
    let ends = c.loop-offset.ends.items in
    c.in_ok-push-2.ensures.items
    ∙ (ap (λ (n : ℕ). ends ++ n ∷ []) (sym end)
    ∙ (ap (λ (rest : List ℕ). ends ++ line_ends offset rest) (sym (drop_all offset text (omega (arith, end)))) ∙ c.loop-offset.invariant))
