use Rattle.std.proofs.Common.{◌≡◌, ◌++◌, ◌∷◌, [], List, drop, fold, ap, sym, ◌∙◌}
use Rattle.apex_observers.specs.Published.{Published}
use Rattle.apex_observers.proofs.Following.{turns}
use Rattle.apex_observers.proofs.publisher.show.Goals as goal

pub publish_as-writer-requires : goal.publish_as-writer-requires
publish_as-writer-requires g c next is =
    let version = c.args.version in
    let shown = c.append.new.self.desk.shown.value in
    let pending : drop c.append.new.self.behind c.append.new.self.log.items ≡ version ∷ [] =
    c.in-Ok.ensures.pending ∙ ap (λ (w : List Published). w ++ version ∷ []) c.requires.nothing_pending in
    let new : next ≡ version = is ∙ ap (λ (w : List Published). fold (λ _ operation. operation) shown w) pending in
    let same : next.channel ≡ shown.channel =
    ap (λ w. w.channel) new ∙ (c.requires.channel ∙ sym (ap (λ d. d.shown.value.channel) c.in-Ok.ensures.desk)) in
    turns _ _ shown next same
