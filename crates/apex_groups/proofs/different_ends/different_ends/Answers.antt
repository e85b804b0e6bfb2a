use Rattle.apex_groups.proofs.Common.{◌≡◌, ◌++◌, ◌∷◌, [], ℕ, Bool, true, false, not, List, length, refl, ap, sym, ◌∙◌, subst, Configuration, Scripts, history_of, KeepTotals, totals_below}
use Rattle.std.specs.Bool.{OnFalse}
use Rattle.apex_ports.specs.PortsView.{PortsView}
use Rattle.apex_groups.proofs.DifferentEnds.{AreTotalsOf, HasTotals, keep_none, keep_none_more, keep_one, no_totals, one_more, same_totals, such_of}
use Rattle.apex_groups.proofs.different_ends.different_ends.Goals as goal

-- the totals are those after the order
totals_after : (config : Configuration) (scripts : Scripts) (end totals : List ℕ) (before shown : PortsView) (ports : PortsView) → before.config ≡ config → shown.config ≡ before.config
    → shown.history ≡ history_of before.config scripts end → ports ≡ shown → totals ≡ totals_below ports.config ports.history (length ports.config.channels)
    → totals ≡ totals_below config (history_of config scripts end) (length config.channels)
totals_after config scripts end totals before shown ports known same history is totals-are =
    let here : shown.config ≡ config = same ∙ known in
    let after : shown.history ≡ history_of config scripts end = history ∙ ap (λ (config : Configuration). history_of config scripts end) known in
    totals-are ∙ (ap (λ (at : PortsView). totals_below at.config at.history (length at.config.channels)) is
    ∙ (λ i. totals_below (here i) (after i) (length (here i).channels)))

seen_of : (found : Bool) → not found ≡ false → found ≡ true
seen_of true is = refl
seen_of false is = absurd (cc)

pub loop-end-init : goal.loop-end-init
loop-end-init c =
    let config = c.args.config.now in
    let scripts = c.args.scripts.now in
    record {
      config = c.in_ok-replayer.ensures.config;
      seen = no_totals config scripts c.new-kept.result.items c.new-seen.result c.new-seen.ensures.empty;
      kept = subst (KeepTotals config scripts []) (sym c.new-kept.ensures.items) (keep_none config scripts);
    }

pub loop-end-preserved-in-Continue-branch-4 : goal.loop-end-preserved-in-Continue-branch-4
loop-end-preserved-in-Continue-branch-4 c =
    let config = c.args.config.now in
    let scripts = c.args.scripts.now in
    let end = c.in-Some.end in
    let kept = c.loop-end.kept.items in
    let is = totals_after config scripts end c.in_ok-totals.totals.items c.loop-end.replayer c.run.new.self c.ports.result.now c.loop-end.invariant.config c.run.ensures.config c.run.ensures.history c.ports.ensures
    c.in_ok-totals.ensures in
    record {
      config = c.run.ensures.config ∙ c.loop-end.invariant.config;
      seen =
          subst (λ (more : List (List ℕ)). AreTotalsOf config scripts more c.insert.new.self) (sym c.in_ok-push.ensures.items)
          (one_more config scripts kept end c.loop-end.seen c.insert.new.self c.in_ok-totals.totals c.loop-end.invariant.seen c.in_ok-insert.ensures.updates is);
      kept = subst (KeepTotals config scripts (c.loop-end.yielded ++ end ∷ [])) (sym c.in_ok-push.ensures.items) (keep_one config scripts c.loop-end.yielded kept end c.loop-end.invariant.kept);
    }

pub loop-end-preserved : goal.loop-end-preserved
loop-end-preserved c =
    let config = c.args.config.now in
    let scripts = c.args.scripts.now in
    let end = c.in-Some.end in
    let kept = c.loop-end.kept.items in
    let is = totals_after config scripts end c.in_ok-totals.totals.items c.loop-end.replayer c.run.new.self c.ports.result.now c.loop-end.invariant.config c.run.ensures.config c.run.ensures.history c.ports.ensures
    c.in_ok-totals.ensures in
    let found = seen_of _ (sym c.in_ok-insert.ensures.added ∙ c.if-branch.false) in
    let same = subst (λ (added : Bool). OnFalse added (c.insert.new.self.keys ≡ c.loop-end.seen.keys)) c.if-branch.false c.in_ok-insert.ensures.unchanged in
    let has = c.loop-end.invariant.seen c.in_ok-totals.totals found in
    record {
      config = c.run.ensures.config ∙ c.loop-end.invariant.config;
      seen = same_totals config scripts kept c.loop-end.seen c.insert.new.self same c.loop-end.invariant.seen;
      kept = keep_none_more config scripts c.loop-end.yielded kept end
          (such_of config scripts kept (history_of config scripts end) (subst (HasTotals config scripts kept) is has)) c.loop-end.invariant.kept;
    }
