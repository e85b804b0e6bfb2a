use Rattle.apex_log_orders.proofs.Common.{◌≡◌, ◌==◌, ◌+◌, ap, arith, false, suc, sym, subst, take, ◌∙◌, ℕ, Bool, List, list_any, option_copied, nat_tests, ports_of, Port}
use Rattle.apex_log_orders.proofs.AboutLemmas.{any_here, any_next, any_past, port_at_index}
use Rattle.apex_log_orders.proofs.by_channel.has_end.Goals as goal
use Rattle.apex_log_orders.proofs.by_channel.has_end.Goals.{in-Some+else-port-channel, in_default}

pub returns-then-port-channel : goal.returns-then-port-channel
returns-then-port-channel c =
    let config = c.args.config.now in
    let here = sym (port_at_index config c.args.p c.loop-index.index) ∙ (sym c.port.ensures.found ∙ ap option_copied c.in-Some.is) in
    let same = c.if-port-channel.true in
    sym (any_here (λ (port : Port). port.channel == c.args.channel) (ports_of config c.args.p) c.loop-index.index c.in-Some.port.now here (grind (arith, nat_tests, same)))

pub loop-index-preserved : goal.loop-index-preserved
loop-index-preserved c =
    let config = c.args.config.now in
    let ports : List Port = ports_of config c.args.p in
    let index = c.loop-index.index in
    let found = sym (port_at_index config c.args.p index) ∙ sym c.port.ensures.found in
    let more : suc index ≡ index + 1 = omega arith in
    let is_end : Port → Bool = λ port. port.channel == c.args.channel in
    subst (λ (count : ℕ). list_any is_end (take count ports) ≡ false) more (elim c.match-port.branch [
      | in-Some+else-port-channel w ↦
          let apart = w.if-port-channel.false in
          any_next is_end ports index w.in-Some.port.now (found ∙ ap option_copied w.in-Some.is) (grind (arith, nat_tests, apart)) c.loop-index.invariant
      | in_default w ↦ any_past is_end ports index (found ∙ ap option_copied w.in_default.is) c.loop-index.invariant
    ])
