use Rattle.apex_config.proofs.Common.{◌≡◌, map, refl, ap, ◌∙◌, view, items_at, partition_text_of, channel_text_of}
use Rattle.apex_config.specs.declared.key.Key.TheVariants as key
use Rattle.apex_config.proofs.Views.{map_views}
use Rattle.apex_config.proofs.document.config_text.Goals as goal

pub returns : goal.returns
returns c =
    let partitions : c.in_ok-partitions.partitions.items ≡ map partition_text_of (items_at key.Partition (view c.args.document.now)) =
    c.in_ok-partitions.ensures ∙ (map_views partition_text_of c.items_at.result.now ∙ ap (map partition_text_of) c.items_at.ensures) in
    let channels : c.in_ok-channels.channels.items ≡ map channel_text_of (items_at key.Channel (view c.args.document.now)) =
    c.in_ok-channels.ensures ∙ (map_views channel_text_of c.items_at-2.result.now ∙ ap (map channel_text_of) c.items_at-2.ensures) in
    rw (partitions, channels) refl
