use Rattle.apex_config.proofs.Common.{ℕ, List, ◌++◌, nat_le, subst, ap, ◌∙◌, Place, ConfigText, Adds, whole, unless, at_each, at_ports, without_end, one_of_several, wrong_ends, EndsData, CountEnds}
use Rattle.apex_config.specs.declared.place.Part.TheVariants as part
use Rattle.apex_config.proofs.EachEntry.{both}
use Rattle.apex_config.proofs.EndCounts.{ends_counted}
use Rattle.apex_config.proofs.Tails.{on_ok}
use Rattle.apex_config.proofs.ends.add_wrong_ends.Goals as goal

pub returns : goal.returns
unfolding wrong_ends
returns c =
    let config : ConfigText = record { partitions = c.args.partitions.now; channels = c.args.channels.now } in
    let before = c.args.places.now.items in
    let now = c.add_each.new.places.items in
    let counts = c.ends.inside.counts.items in
    let counted = subst (λ (ends : EndsData). CountEnds ends.direction ends.config.channels ends.config.partitions counts) (c.ends.view_is ∙ c.in_ok-ends.ensures) c.ends.invariant in
    let first : Adds (at_each (without_end c.args.direction config) 0 config.channels) before now =
    c.in_ok-add_each.ensures
    ∙ ap (λ (found : List Place). before ++ found) (
    ap (at_each (λ (c : ℕ) (count : ℕ). unless (nat_le 1 count) (whole (part.Channel c))) 0) c.as_slice.ensures.value
    ∙ ends_counted c.args.direction config counts counted
    ) in
    on_ok c.add_ports_unless.result (λ step.
    both (at_each (without_end c.args.direction config) 0 config.channels) (at_ports (one_of_several c.args.direction config) config.partitions) before now _ first
    (subst (λ (ends : EndsData). Adds (at_ports (one_of_several ends.direction ends.config) c.args.partitions.now) now c.add_ports_unless.new.places.items) c.in_ok-ends.ensures step)
    ) c.add_ports_unless.ensures
