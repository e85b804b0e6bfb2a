use Rattle.apex_texts.proofs.ReportLemmas.{grows, complete}
use Rattle.dekarino_texts.proofs.TableLemmas.{partners_cut, partners_end}
use Rattle.dekarino_texts.proofs.table.partners_of.Goals as goal

pub loop-p-preserved : goal.loop-p-preserved
loop-p-preserved c =
    grows c.loop-p.places.items c.push_partners.new.places.items _ _ _ _ c.in_ok-push_partners.ensures (partners_cut c.args.port.now c.args.config.now c.loop-p.p (rw c.partitions-p-end.ensures.count at c.loop-p-test.true)) c.loop-p.invariant

pub returns : goal.returns
returns c = complete c.loop-p.places.items _ _ (partners_end c.args.port.now c.args.config.now.partitions c.loop-p.p (rw c.partitions-p-end.ensures.count at c.loop-p-test.false)) c.loop-p.invariant
