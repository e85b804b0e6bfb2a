use Rattle.dekarino_texts.proofs.Common.{◌≡◌, Some, sym, ap, ◌∙◌, slice_get, option_copied, ports_of, grows, complete}
use Rattle.dekarino_texts.proofs.TableLemmas.{place_cut, place_end, port_at_index}
use Rattle.dekarino_texts.proofs.table.push_partners.Goals as goal

pub loop-index-preserved : goal.loop-index-preserved
loop-index-preserved c =
    let ports = ports_of c.args.config.now c.args.p in
    let found : slice_get ports c.loop-index.index ≡ Some c.unwrap-other.result.now = port_at_index ports c.loop-index.index c.unwrap-other.result.now (sym c.port.ensures.found ∙ ap option_copied c.unwrap-other.ensures) in
    grows c.loop-index.places.items c.push_partner.new.places.items _ _ _ _ c.in_ok-push_partner.ensures (place_cut c.args.port.now c.args.p ports c.loop-index.index c.unwrap-other.result.now found) c.loop-index.invariant

pub returns : goal.returns
returns c =
    complete c.loop-index.places.items _ _ (place_end c.args.port.now c.args.p (ports_of c.args.config.now c.args.p) c.loop-index.index (rw c.ports-index-end.ensures.count at c.loop-index-test.false)) c.loop-index.invariant
