use Rattle.apex_config.proofs.Common.{◌≡◌, None, sym, ap, ◌∙◌, ConfigText, passes, first_refusal}
use Rattle.apex_config.proofs.WithoutFault.{passes_all, all_have_names, all_are_acceptable, IsConfiguration-from}
use Rattle.apex_config.proofs.accepted.accepted_config.Goals as goal

pub accepted_partitions-requires : goal.accepted_partitions-requires
accepted_partitions-requires c =
    let accepted : first_refusal passes (record { partitions = c.config.inside.partitions.items; channels = c.config.inside.channels.items }) ≡ None = ap (first_refusal passes) c.config.view_is ∙ c.requires.accepted in
    rw c.as_slice.ensures.value (all_have_names _ (passes_all _ accepted))

pub accepted_channels-requires : goal.accepted_channels-requires
accepted_channels-requires c =
    let accepted : first_refusal passes (record { partitions = c.config.inside.partitions.items; channels = c.config.inside.channels.items }) ≡ None = ap (first_refusal passes) c.config.view_is ∙ c.requires.accepted in
    rw c.as_slice-2.ensures.value (all_are_acceptable _ (passes_all _ accepted))

pub new-requires : goal.new-requires
new-requires c =
    let accepted : first_refusal passes (record { partitions = c.config.inside.partitions.items; channels = c.config.inside.channels.items }) ≡ None = ap (first_refusal passes) c.config.view_is ∙ c.requires.accepted in
    let index : c.args.channels.now ≡ c.config.inside.channels.items = c.requires.index ∙ sym (ap (λ (config : ConfigText). config.channels) c.config.view_is) in
    rw (c.in_ok-partitions.ensures, c.as_slice.ensures.value, c.in_ok-channels.ensures, c.as_slice-2.ensures.value, index) (IsConfiguration-from _ accepted)
