use Rattle.apex_orders.proofs.Common.{◌≡◌, inl, inr, ⊎_elim, ℕ, List, Some, sym, ap, ◌∙◌, arith, cases_eq, length, slice_get, slice_get-get_or, slice_get_within, PossibleReply, Has}
use Rattle.apex_orders.proofs.replies.Replies.add_all.Goals as goal

pub loop-k-preserved : goal.loop-k-preserved
loop-k-preserved c =
    let was = c.loop-k.invariant in
    let one = c.index-others-k.result in
    let all : List PossibleReply = c.list-others.result.now in
    let listed : all ≡ c.args.other.now = c.list-others.ensures in
    let here : slice_get all c.loop-k.k ≡ Some one = slice_get-get_or all c.loop-k.k one (omega (arith, c.loop-k-test.true)) ∙ ap Some (sym c.index-others-k.is) in
    let there : slice_get c.args.other.now c.loop-k.k ≡ Some one = ap (λ (xs : List PossibleReply). slice_get xs c.loop-k.k) (sym listed) ∙ here in
    record {
      kept = λ other has. (c.in_ok-add.ensures other).1 (inl (was.kept other has));
      added = λ n other below at.
          ⊎_elim
          (λ (now : n ≡ c.loop-k.k).
          let both : Some one ≡ Some other = sym there ∙ (ap (λ (m : ℕ). slice_get c.args.other.now m) (sym now) ∙ at) in
          let same : one ≡ other = cc in
          (c.in_ok-add.ensures other).1 (inr (sym same)))
          (λ (apart : n ≡ c.loop-k.k → ⊥). (c.in_ok-add.ensures other).1 (inl (was.added n other (omega (arith, below, apart)) at)))
          (cases_eq n c.loop-k.k);
      only = λ other has.
          ⊎_elim
          (λ (before : Has c.loop-k.self other). was.only other before)
          (λ (new : other ≡ one). inr (c.loop-k.k, there ∙ ap Some (sym new)))
          ((c.in_ok-add.ensures other).0 has);
    }

pub returns-clause-added : goal.returns-clause-added
returns-clause-added c one has =
    let within = slice_get_within c.args.other.now has.0 one has.1 in
    let past = c.loop-k-test.false in
    let count = ap (λ (xs : List PossibleReply). length xs) c.list-others.ensures in
    c.loop-k.invariant.added has.0 one (omega (arith, within, past, count)) has.1
