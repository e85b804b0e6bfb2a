use Rattle.apex_config.proofs.Common.{List, ◌++◌, ap, ◌∙◌, rules, view, Place, at_each, items_at, wrong_partition_keys, wrong_port, wrong_partition}
use Rattle.apex_config.specs.declared.key.Key.TheVariants as key
use Rattle.apex_config.proofs.EachEntry.{both}
use Rattle.apex_config.proofs.Tails.{on_ok}
use Rattle.apex_config.proofs.Views.{at_views}
use Rattle.apex_config.proofs.form.PartitionFormFinderValue.add.Goals as goal

pub returns : goal.returns
unfolding wrong_partition
returns c =
    let value = view c.args.entry.now in
    let now = c.add_wrong_partition_keys.new.places.items in
    on_ok c.add_each.result (λ step.
    both (wrong_partition_keys c.args.index value) (at_each (wrong_port c.args.index) 0 (items_at key.Port value)) _ now _ (search rules)
    (step ∙ ap (λ (found : List Place). now ++ found) (at_views (wrong_port c.args.index) 0 c.items_at.result.now ∙ ap (at_each (wrong_port c.args.index) 0) c.items_at.ensures))
    ) c.add_each.ensures
