use Rattle.apex_groups.proofs.Common.{◌≡◌, ◌+◌, ◌<◌, ◌++◌, ◌∷◌, [], take, List, ℕ, length, slice_index_or, sym, ap, ◌∙◌, subst, take_more, take_all, Configuration, IsConfiguration, history_of, next_entries, continued-append, IsOrder}
use Rattle.apex_orders.specs.Clock.{IsClocked}
use Rattle.apex_orders.proofs.ClockLemmas.{clocked_next}
use Rattle.apex_orders.proofs.SearchLemmas.{longer_is_order}
use Rattle.apex_groups.proofs.ReasonLemmas.{shows}
use Rattle.apex_groups.proofs.decision.reply_in.Goals as goal

pub loop-p-preserved : goal.loop-p-preserved
loop-p-preserved c =
    let config = c.args.config.now in
    let scripts = c.args.scripts.now in
    let items = c.partitions-p-items.result.now in
    let i = c.loop-p.p-index in
    let p = slice_index_or items i 0 in
    let inside : i < length items = c.loop-p-test.true in
    let inv = c.loop-p.invariant in
    let longer : take (i + 1) items ≡ take i items ++ p ∷ [] = take_more items i 0 inside in
    let few : p < length config.partitions = subst (λ (own : Configuration). p < length own.partitions) inv.config (c.may_come.ensures.partition c.if-not-may_come.false) in
    record {
      config = c.make_next.ensures.config ∙ inv.config;
      sound = c.make_next.ensures.sound;
      history =
          c.make_next.ensures.history
          ∙ ((λ j. inv.history j ++ next_entries (inv.config j) scripts (inv.history j) p)
          ∙ (sym (continued-append config scripts [] (take i items) (p ∷ []))
          ∙ ap (λ (order : List ℕ). history_of config scripts order) (sym longer)));
      valid = subst (IsOrder config) (sym longer) (longer_is_order config scripts (take i items) p inv.valid few);
      clocked =
          subst (IsClocked c.args.clock scripts) (sym c.make_next.ensures.history)
          (clocked_next c.args.clock scripts c.loop-p.ports.config c.loop-p.ports.history p inv.clocked (c.may_come.ensures.due c.if-not-may_come.false));
      found = c.make_next.ensures.found;
    }

pub returns : goal.returns
returns c =
    let items = c.partitions-p-items.result.now in
    let inv = c.loop-p.invariant in
    let whole : take c.loop-p.p-index items ≡ c.args.order.now = take_all c.loop-p.p-index items c.loop-p-test.false ∙ c.partitions-p-items.ensures in
    shows c.args.clock c.args.config.now c.args.scripts.now c.args.asked.now c.args.order.now c.loop-p.ports.history c.loop-p.found
    (subst (λ (own : Configuration). IsConfiguration own) inv.config inv.sound.valid) (subst (IsOrder c.args.config.now) whole inv.valid)
    (inv.history ∙ ap (λ (order : List ℕ). history_of c.args.config.now c.args.scripts.now order) whole) inv.clocked inv.found
