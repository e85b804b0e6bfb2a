use Rattle.std.proofs.Common.{◌≡◌, ◌-◌, false, ℕ, List, length, sym, ap, subst, ◌∙◌, arith}
use Rattle.std.specs.Option.{option_copied}
use Rattle.apex_refusals.specs.PlaceLines.{line_ends, first_lines, beginning_has}
use Rattle.apex_refusals.proofs.PlaceLines.{all_lines, some_end}
use Rattle.apex_refusals.proofs.line_of.line_of.Goals as goal

pub loop-with-init : goal.loop-with-init
loop-with-init c =
    let text = c.args.text.now in
    let ends = c.in_ok-ends.ensures in
    let count : c.len-with.result ≡ length (line_ends 0 text) =
    let len = c.len-with.ensures in
    let ok = c.in_ok-ends.ends.ok in
    let items = ap (λ (xs : List ℕ). length xs) ends in
    omega (arith, len, ok, items) in
    let some = some_end 0 text in
    record {
      ends = ends;
      order = omega (arith, count, some);
      within = omega (arith, count);
      with =
          ap (λ (n : ℕ). beginning_has (first_lines n text) c.args.part (option_copied c.args.key)) count
          ∙ (ap (λ (begin : List ℕ). beginning_has begin c.args.part (option_copied c.args.key)) (all_lines text)
          ∙ (sym c.in_ok-beginning_has.ensures ∙ (let there = c.if-not-branch.false in grind (arith, there))));
      without = λ one. absurd (omega (arith, one));
    }

pub returns : goal.returns
returns c =
    let order = c.loop-with.invariant.order in
    let last : c.loop-with.with - 1 ≡ c.loop-with.without = let test = c.loop-with-test.false in omega (arith, test, order) in
    record {
      from_one = omega (arith, order);
      within = c.loop-with.invariant.within;
      with = c.loop-with.invariant.with;
      without = λ two.
          subst (λ (n : ℕ). beginning_has (first_lines n c.args.text.now) c.args.part (option_copied c.args.key) ≡ false) (sym last)
          (c.loop-with.invariant.without (omega (arith, two, last)));
    }
