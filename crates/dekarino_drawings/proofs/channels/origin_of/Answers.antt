use Rattle.dekarino_drawings.proofs.Common.{◌≡◌, Some, sym, ◌∙◌, slice_get}
use Rattle.apex_ports.proofs.Lookups.{at_index}
use Rattle.dekarino_drawings.proofs.FollowingLemmas.{read_origin}
use Rattle.dekarino_drawings.proofs.channels.origin_of.Goals as goal

pub returns-in_ok-get-in-ReadSampling-Read : goal.returns-in_ok-get-in-ReadSampling-Read
returns-in_ok-get-in-ReadSampling-Read c = λ before was.
    let port = c.in_ok-port-in-ReadSampling-Read.port.now in
    let kept = c.in_ok-get-in-ReadSampling-Read.field-0.now in
    let at : slice_get c.args.channels.now port.channel ≡ Some kept = at_index c.args.channels.now port.channel kept c.in_ok-get-in-ReadSampling-Read.ensures.lookup.3.0 c.in_ok-get-in-ReadSampling-Read.ensures.lookup.1 in
    (was.each port.channel kept at).last_write
    ∙ read_origin c.args.config.now before c.args.entry.now.partition c.in-ReadSampling-Read.id _ _ _ _ port c.in-ReadSampling-Read.is-0 c.in-ReadSampling-Read.is-1 (sym c.in_ok-port-in-ReadSampling-Read.ensures.found)
