use Rattle.apex_judge.proofs.Common.{List, ℕ, drop, position, Option, ap, ◌∙◌, bytes_eq, drop-drop, behind}
use Rattle.apex_judge.proofs.queue.Queue.receive.Goals as goal

pub returns : goal.returns
returns g c =
    let waiting = c.args.self.now in
    let same = c.in-Some.ensures.same in
    let index = c.in-Some.ensures.index ∙ ap (λ (xs : List (List ℕ)). position (λ one. bytes_eq one c.args.message.now) xs) same in
    c.discard_oldest.ensures ∙ (ap (drop 1) (c.discard.ensures ∙ ap (drop c.in-Some.index) same)
    ∙ (drop-drop 1 c.in-Some.index waiting ∙ ap (λ (at : Option ℕ). behind at waiting) index))
