use Rattle.apex_config.proofs.Common.{◌≡◌, map, refl, ap, ◌∙◌, view, items_at, port_text_of}
use Rattle.apex_config.specs.declared.key.Key.TheVariants as key
use Rattle.apex_config.proofs.Views.{map_views}
use Rattle.apex_config.proofs.document.partition_text.Goals as goal

pub returns : goal.returns
returns c =
    let ports : c.in_ok-ports.ports.items ≡ map port_text_of (items_at key.Port (view c.args.value.now)) =
    c.in_ok-ports.ensures ∙ (map_views port_text_of c.items_at.result.now ∙ ap (map port_text_of) c.items_at.ensures) in
    rw (ports, c.text_in.ensures) refl
