use Rattle.std.proofs.Common.{◌<◌, length, arith}
use Rattle.apex_texts.proofs.CheckLemmas.{ports_more}
use Rattle.apex_texts.proofs.check.count_ports.Goals as goal

pub loop-p-preserved : goal.loop-p-preserved
loop-p-preserved c =
    let inside : c.loop-p.p < length c.args.config.now.partitions = omega (arith, c.partitions-p-end.ensures.count) in
    let few = c.partitions-p-end.ensures.valid.few_ports c.loop-p.p in
    record {
      counted = grind (arith, ports_more c.args.config.now c.loop-p.p inside);
      bound = omega (arith, few, c.ports-ports.ensures.count);
    }
