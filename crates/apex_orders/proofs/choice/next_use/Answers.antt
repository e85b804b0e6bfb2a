use Rattle.apex_orders.proofs.Common.{inl, inr, sym, ap, ◌∙◌, Call, row_of, seen, channel_named, is_early}
use Rattle.apex_orders.proofs.UseLemmas.{unnamed}
use Rattle.apex_orders.proofs.choice.next_use.Goals as goal

pub returns-in_default-channel_named : goal.returns-in_default-channel_named
returns-in_default-channel_named c =
    let timed = c.in-Some.timed.now in record {
      timed = timed;
      at = c.in-Some.ensures;
      is = inr (λ d. unnamed c.args.ports.now.config d c.args.p timed.1
          (λ named. c.in_default-channel_named.not-Some d (c.channel_named.ensures ∙ ((λ i. channel_named (c.config.ensures.config i) c.args.p timed.1) ∙ named))));
    }

pub returns-then-is_early : goal.returns-then-is_early
returns-then-is_early c =
    let timed = c.in-Some.timed.now in
    let config = c.args.ports.now.config in
    let here = seen config c.args.ports.now.history c.args.p in
    let row = c.row-row.ensures ∙ ap (λ (it : Call). row_of config here c.args.p timed.0 it) c.of.ensures.call in record {
      timed = timed;
      at = c.in-Some.ensures;
      is = inl (ap is_early (sym row) ∙ (sym c.is_early.ensures ∙ c.if-is_early.true));
    }

pub returns : goal.returns
returns c =
    let timed = c.in-Some.timed.now in record {
      timed = timed;
      at = c.in-Some.ensures;
      is = (
        (λ i. channel_named (sym c.config.ensures.config i) c.args.p timed.1) ∙ (sym c.channel_named.ensures ∙ c.in-Some-channel_named.is),
        sym c.is_change.ensures,
      );
    }
