use Rattle.apex_config.proofs.Common.{List, ◌++◌, ap, ◌∙◌, rules, view, Place, Adds, at_each, items_at, wrong_document_keys, wrong_partition, wrong_channel, wrong_form}
use Rattle.apex_config.specs.declared.key.Key.TheVariants as key
use Rattle.apex_config.proofs.EachEntry.{both}
use Rattle.apex_config.proofs.Tails.{on_ok}
use Rattle.apex_config.proofs.Views.{at_views}
use Rattle.apex_config.proofs.form.add_wrong_form.Goals as goal

pub returns : goal.returns
unfolding wrong_form
returns c =
    let document = view c.args.document.now in
    let partitions = at_each wrong_partition 0 (items_at key.Partition document) in
    let channels = at_each wrong_channel 0 (items_at key.Channel document) in
    let keys = c.add_wrong_document_keys.new.places.items in
    let now = c.add_each.new.places.items in
    let first : Adds partitions keys now = c.in_ok-add_each.ensures ∙ ap (λ (found : List Place). keys ++ found) (at_views wrong_partition 0 c.items_at.result.now ∙ ap (at_each wrong_partition 0) c.items_at.ensures) in
    on_ok c.add_each-2.result (λ step.
    both (wrong_document_keys document ++ partitions) channels _ now _
    (both (wrong_document_keys document) partitions _ keys now (search rules) first)
    (step ∙ ap (λ (found : List Place). now ++ found) (at_views wrong_channel 0 c.items_at-2.result.now ∙ ap (at_each wrong_channel 0) c.items_at-2.ensures))
    ) c.add_each-2.ensures
