use Rattle.std.proofs.Common.{◌≡◌, ◌≤◌, map, option_map, ℕ, true, false, nat_le, List, [], length, get_or, refl, sym, ap, ◌∙◌, arith, Bor}
use Rattle.std.proofs.lemmas.Bool.Decides.{nat_tests}
use Rattle.std.proofs.lemmas.List.{length-map}
use Rattle.std.proofs.lemmas.Option.{slice_get-map, slice_get-get_or}
use Rattle.apex_refusals.specs.Nearest.{edits, nearest_of}
use Rattle.apex_refusals.proofs.Nearer.{few, one_more, taken, passed, all_looked_at, nearest_of as nearest_found}
use Rattle.apex_refusals.proofs.known_word.nearest.Goals as goal
use Rattle.apex_refusals.proofs.known_word.nearest.Goals.{then-edits-least, else-edits-least}

pub loop-name-preserved : goal.loop-name-preserved
loop-name-preserved c =
    let known : List (List ℕ) = map (λ (name : Bor (List ℕ)). name.now) c.args.known.now in
    let i = c.loop-name.name-index in
    let blank : Bor (List ℕ) = record { ref_ptr = (0, 0); now = [] } in
    let name : List ℕ = (get_or c.args.known.now i blank).now in
    let here = slice_get-map (λ (name : Bor (List ℕ)). name.now) c.args.known.now i ∙ ap (option_map (λ (name : Bor (List ℕ)). name.now)) (slice_get-get_or c.args.known.now i blank c.loop-name-test.true) in
    let same : c.in_ok-edits.edits ≡ edits c.args.word.now name = c.in_ok-edits.ensures ∙ ap (edits c.args.word.now) c.as_bytes.ensures.value in
    elim c.if-edits-least.branch [
      | then-edits-least w ↦
          rw (w.least-is, w.found-is) (
            (sym same, few c.args.word.now c.loop-name.least c.in_ok-edits.edits _ c.loop-name.invariant.0 w.if-edits-least.true),
            one_more c.args.word.now known i c.loop-name.least c.in_ok-edits.edits name here c.loop-name.invariant.1 (let less = w.if-edits-least.true in omega arith) (grind (arith, same)),
            sym (taken c.args.word.now known i c.loop-name.least _ name c.in_ok-edits.edits here same w.if-edits-least.true) ∙ c.loop-name.invariant.2,
          )
      | else-edits-least w ↦
          rw (w.least-is, w.found-is) (
            c.loop-name.invariant.0,
            one_more c.args.word.now known i c.loop-name.least c.loop-name.least name here c.loop-name.invariant.1 (omega arith) (let less = w.if-edits-least.false in grind (arith, same, less)),
            sym (passed c.args.word.now known i c.loop-name.least _ name c.in_ok-edits.edits here same w.if-edits-least.false) ∙ c.loop-name.invariant.2,
          )
    ]

all_known : (known : List (Bor (List ℕ))) (index : ℕ) → length known ≤ index → length (map (λ (name : Bor (List ℕ)). name.now) known) ≤ index
all_known known index all = grind (arith, all, length-map known (λ (name : Bor (List ℕ)). name.now))

pub returns-then-word-gt-WORD_LIMIT-clause-exact : goal.returns-then-word-gt-WORD_LIMIT-clause-exact
unfolding nearest_of
returns-then-word-gt-WORD_LIMIT-clause-exact c =
    let test : nat_le (length c.args.word.now) 64 ≡ false = grind (arith, nat_tests) in
    rw test refl

pub returns-clause-exact : goal.returns-clause-exact
unfolding nearest_of
returns-clause-exact c =
    let test : nat_le (length c.args.word.now) 64 ≡ true = grind (arith, nat_tests) in
    let known : List (List ℕ) = map (λ (name : Bor (List ℕ)). name.now) c.args.known.now in
    rw test (sym (all_looked_at c.args.word.now known c.loop-name.name-index c.loop-name.least (option_map (λ name. name.now) c.loop-name.found) (all_known c.args.known.now c.loop-name.name-index c.loop-name-test.false))
    ∙ c.loop-name.invariant.2)

pub returns-clause-nearest : goal.returns-clause-nearest
returns-clause-nearest c short =
    let known : List (List ℕ) = map (λ (name : Bor (List ℕ)). name.now) c.args.known.now in
    nearest_found c.args.word.now known c.loop-name.name-index c.loop-name.least (option_map (λ name. name.now) c.loop-name.found) (all_known c.args.known.now c.loop-name.name-index c.loop-name-test.false) c.loop-name.invariant.0 c.loop-name.invariant.1
