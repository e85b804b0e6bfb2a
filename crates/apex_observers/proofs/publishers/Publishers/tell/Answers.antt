use Rattle.std.proofs.Common.{rules, ℕ, ◌≡◌, ◌+◌, ◌<◌, ◌≤◌, ◌++◌, ◌∷◌, [], length, map, Option, Some, List, take, get_or, slice_get, subst, ap, sym, ◌∙◌, arith, length-append}
use Rattle.std.specs.Option.{option_to_list}
use mathlib.Core.List.{IsPrefix}
use Rattle.std.proofs.Math.Seq.{map-set_same}
use Rattle.std.proofs.lemmas.List.{take_all, append-nil}
use Rattle.std.proofs.lemmas.Option.{slice_get_within, slice_get-get_or, get_or_from_slice_get}
use Rattle.apex_observers.specs.Published.{Published}
use Rattle.apex_observers.specs.Channels.{Channels, sampling_of}
use Rattle.apex_observers.proofs.Observing.{sampling_at, observer_at, one_more}
use Rattle.apex_observers.proofs.Sampling.{sampling_of-next}
use Rattle.apex_observers.proofs.publishers.Publishers.tell.Goals as goal
use Rattle.apex_observers.proofs.publishers.Publishers.tell.Goals.{in-Some, in_default}

found : (self items : Channels) (idx index : ℕ) (entry : Option Published) (publisher : Published) → items ≡ self → idx < length items → entry ≡ get_or items idx entry → entry ≡ Some publisher → index ≡ length (sampling_of (take idx self)) → slice_get (sampling_of self) index ≡ Some publisher
found self items idx index entry publisher same within is some here =
    let at : slice_get self idx ≡ Some (Some publisher) = ap (λ w. slice_get w idx) (sym same) ∙ (slice_get-get_or items idx entry within ∙ ap Some (sym is ∙ some)) in
    ap (λ n. slice_get (sampling_of self) n) here ∙ sampling_at self idx publisher at

pub bounds-observers-index : goal.bounds-observers-index
bounds-observers-index g c =
    let at = found c.args.self.now c.deref-entry-items.result.now c.loop-entry.entry-index c.loop-entry.index c.entry-item.result c.in-Some.publisher (c.deref-entry-items.ensures.value ∙ c.self.view_is) c.loop-entry-test.true c.entry-item.is c.in-Some.is c.loop-entry.invariant.index in
    let known = observer_at c.args.self.now c.loop-entry.observers c.loop-entry.index c.in-Some.publisher c.loop-entry.invariant.observers at in
    slice_get_within c.loop-entry.observers c.loop-entry.index known.0 known.1

pub offset_bounds-observers-index : goal.offset_bounds-observers-index
offset_bounds-observers-index g c =
    let at = found c.args.self.now c.deref-entry-items.result.now c.loop-entry.entry-index c.loop-entry.index c.entry-item.result c.in-Some.publisher (c.deref-entry-items.ensures.value ∙ c.self.view_is) c.loop-entry-test.true c.entry-item.is c.in-Some.is c.loop-entry.invariant.index in
    let known = observer_at c.args.self.now c.loop-entry.observers c.loop-entry.index c.in-Some.publisher c.loop-entry.invariant.observers at in
    let within : c.loop-entry.index < length c.loop-entry.observers = slice_get_within c.loop-entry.observers c.loop-entry.index known.0 known.1 in
    search rules

pub overflow_add-index : goal.overflow_add-index
overflow_add-index g c =
    let at = found c.args.self.now c.deref-entry-items.result.now c.loop-entry.entry-index c.loop-entry.index c.entry-item.result c.in-Some.publisher (c.deref-entry-items.ensures.value ∙ c.self.view_is) c.loop-entry-test.true c.entry-item.is c.in-Some.is c.loop-entry.invariant.index in
    let known = observer_at c.args.self.now c.loop-entry.observers c.loop-entry.index c.in-Some.publisher c.loop-entry.invariant.observers at in
    let within : c.loop-entry.index < length c.loop-entry.observers = slice_get_within c.loop-entry.observers c.loop-entry.index known.0 known.1 in
    search rules

pub learn-requires : goal.learn-requires
learn-requires g c =
    let at = found c.args.self.now c.deref-entry-items.result.now c.loop-entry.entry-index c.loop-entry.index c.entry-item.result c.in-Some.publisher (c.deref-entry-items.ensures.value ∙ c.self.view_is) c.loop-entry-test.true c.entry-item.is c.in-Some.is c.loop-entry.invariant.index in
    let known = observer_at c.args.self.now c.loop-entry.observers c.loop-entry.index c.in-Some.publisher c.loop-entry.invariant.observers at in
    ap (λ (p : Published). p.channel) c.receipt.ensures ∙ (known.2 ∙ sym (ap (λ (p : Published). p.channel) (get_or_from_slice_get c.loop-entry.observers c.loop-entry.index known.0 _ known.1)))

pub loop-entry-preserved : goal.loop-entry-preserved
loop-entry-preserved g c =
    let self : Channels = c.args.self.now in
    let index = c.loop-entry.entry-index in
    let whole : c.deref-entry-items.result.now ≡ self = c.deref-entry-items.ensures.value ∙ c.self.view_is in
    let is = c.entry-item.is ∙ ap (λ (w : Channels). get_or w index c.entry-item.result) whole in
    let within : index < length self = omega (arith, c.loop-entry-test.true, ap length whole) in
    let next = sampling_of-next self index c.entry-item.result within is in
    elim c.match-entry.branch [
      | in-Some w ↦
          let at = found self c.deref-entry-items.result.now index c.loop-entry.index c.entry-item.result w.in-Some.publisher whole c.loop-entry-test.true c.entry-item.is w.in-Some.is c.loop-entry.invariant.index in
          record {
            observers = ap (λ (o : List Published). map (λ (known : Published). known.channel) o) w.observers-is
                ∙ (map-set_same (λ (known : Published). known.channel) c.loop-entry.observers c.loop-entry.index w.learn.new.self w.index-observers-index.result w.learn.ensures.channel ∙ c.loop-entry.invariant.observers);
            index = w.index-is ∙ (ap (λ n. n + 1) c.loop-entry.invariant.index ∙ sym (ap length next ∙ (ap (λ (e : Option Published). length (sampling_of (take index self) ++ option_to_list e)) w.in-Some.is ∙ length-append (sampling_of (take index self)) (w.in-Some.publisher ∷ []))));
            learned = λ k published known before there here.
                one_more (λ publisher observer. IsPrefix publisher.writes observer.writes) self c.loop-entry.index w.in-Some.publisher w.learn.new.self c.loop-entry.observers at (subst (λ (p : Published). IsPrefix p.writes w.learn.new.self.writes) w.receipt.ensures w.learn.ensures.learned) c.loop-entry.invariant.learned
                k published known (subst (λ n. k < n) w.index-is before) there (subst (λ (o : List Published). slice_get o k ≡ Some known) w.observers-is here);
          }
      | in_default w ↦ record {
        observers = ap (λ (o : List Published). map (λ (known : Published). known.channel) o) w.observers-is ∙ c.loop-entry.invariant.observers;
        index = w.index-is ∙ (c.loop-entry.invariant.index ∙ sym (ap length next ∙ (ap (λ (e : Option Published). length (sampling_of (take index self) ++ option_to_list e)) w.in_default.is ∙ ap length (append-nil (sampling_of (take index self))))));
        learned = λ k published known before there here.
            c.loop-entry.invariant.learned k published known (subst (λ n. k < n) w.index-is before) there (subst (λ (o : List Published). slice_get o k ≡ Some known) w.observers-is here);
      }
    ]

pub returns-clause-learned : goal.returns-clause-learned
returns-clause-learned g c k published known there here =
    let self : Channels = c.args.self.now in
    let whole : c.deref-entry-items.result.now ≡ self = c.deref-entry-items.ensures.value ∙ c.self.view_is in
    let done : length self ≤ c.loop-entry.entry-index = omega (arith, c.loop-entry-test.false, ap length whole) in
    let all : c.loop-entry.index ≡ length (sampling_of self) = c.loop-entry.invariant.index ∙ ap (λ w. length (sampling_of w)) (take_all c.loop-entry.entry-index self done) in
    c.loop-entry.invariant.learned k published known (subst (λ n. k < n) (sym all) (slice_get_within (sampling_of self) k published there)) there here
