use Rattle.std.proofs.Common.{◌≡◌, ◌+◌, sym, ◌∙◌, ap, arith, length}
use Rattle.apex_observers.proofs.Adding.{adds_moves}
use Rattle.apex_observers.proofs.receipt.Receipt.followed_by.Goals as goal

pub compare_exchange-found-requires : goal.compare_exchange-found-requires
compare_exchange-found-requires c =
    let known = c.again-seen.result.log in
    let book = ap (λ s. s.book) c.again-seen.ensures ∙ (ap (λ p. p.channel) c.self.view_is ∙ sym (ap (λ w. w.book) c.requires)) in
    let offer = c.plain-offer.ensures in
    let pen = c.no_pen-pen.ensures in
    let counted : length known ≡ c.self.inside.count = ap (λ s. length s.log) c.again-seen.ensures ∙ sym c.self.invariant in
    let next : c.in_ok-more.more ≡ c.self.inside.count + 1 = omega (arith, c.in_ok-more.ensures) in (
      ap (λ w. w.tracked) c.requires,
      book,
      pen.0 ∙ book,
      offer.0,
      rw (ap (λ w. w.key) c.requires, pen.1, offer.1, offer.3) (adds_moves known c.args.sample.now c.self.inside.count c.in_ok-more.more counted next),
    )
