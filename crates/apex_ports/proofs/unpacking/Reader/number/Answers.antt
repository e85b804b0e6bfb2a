use Rattle.apex_ports.proofs.Common.{◌≡◌, List, ℕ, length, take, drop, ap, ◌∙◌, arith}
use Rattle.std.specs.Int.{w64, from_le_bytes}
use Rattle.apex_ports.proofs.PackedItems.{number_back}
use Rattle.apex_ports.proofs.unpacking.Reader.number.Goals as goal

pub returns-in_default : goal.returns-in_default
returns-in_default c = λ n rest small e.
    let long = (number_back n c.args.self.now rest small e).long in
    let same = ap (λ (x : List ℕ). length x) c.self.view_is in
    let short = c.in_default.ensures.cases in
    absurd (omega (arith, long, same, short))

pub returns : goal.returns
returns c = λ n rest small e.
    let back = number_back n c.args.self.now rest small e in
    let bytes : c.in-Some.bytes.now ≡ take 8 c.args.self.now = c.in-Some.ensures.cases.0 ∙ ap (λ (x : List ℕ). take 8 x) c.self.view_is in (
      c.from_le_bytes.ensures ∙ (ap (λ (x : List ℕ). from_le_bytes w64 x) bytes ∙ back.is),
      c.in-Some.ensures.cases.1 ∙ (ap (λ (x : List ℕ). drop 8 x) c.self.view_is ∙ back.left),
    )
