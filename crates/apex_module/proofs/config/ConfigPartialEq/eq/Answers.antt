use Rattle.std.proofs.Common.{◌≡◌, true, sym, ap, ◌∙◌}
use Rattle.std.specs.Cmp.Lexicographic.{pointwise}
use Rattle.apex_module.specs.Configuration.{Configuration}
use Rattle.apex_module.specs.Equality.{equal_partitions, equal_channels, equal_configurations}
use Rattle.apex_module.specs.EqualityLaws.{both_hold, first_fails, equal_configurations-Decides}
use Rattle.apex_module.proofs.config.ConfigPartialEq.eq.Goals as goal

pub returns-then-same_partitions-clause-test : goal.returns-then-same_partitions-clause-test
unfolding equal_configurations
returns-then-same_partitions-clause-test c =
    let partitions = ap (λ (x : Configuration). x.partitions) c.self.view_is in
    let other_partitions = ap (λ (x : Configuration). x.partitions) c.other.view_is in
    let channels = ap (λ (x : Configuration). x.channels) c.self.view_is in
    let other_channels = ap (λ (x : Configuration). x.channels) c.other.view_is in
    let first : pointwise equal_partitions c.args.self.now.partitions c.args.other.now.partitions ≡ true = cc in
    let rest : c.same_channels.result ≡ pointwise equal_channels c.args.self.now.channels c.args.other.now.channels = cc in
    both_hold _ _ c.same_channels.result first rest

pub returns-then-same_partitions-clause-exact : goal.returns-then-same_partitions-clause-exact
returns-then-same_partitions-clause-exact c =
    let test : c.same_channels.result ≡ equal_configurations c.args.self.now c.args.other.now = returns-then-same_partitions-clause-test c in
    let decides = equal_configurations-Decides c.args.self.now c.args.other.now in
    (λ h. decides.0 (sym test ∙ h), λ h. test ∙ decides.1 h)

pub returns-else-same_partitions-clause-test : goal.returns-else-same_partitions-clause-test
unfolding equal_configurations
returns-else-same_partitions-clause-test c =
    let partitions = ap (λ (x : Configuration). x.partitions) c.self.view_is in
    let other_partitions = ap (λ (x : Configuration). x.partitions) c.other.view_is in
    let first : c.same_partitions.result ≡ pointwise equal_partitions c.args.self.now.partitions c.args.other.now.partitions = cc in
    first_fails _ (pointwise equal_channels c.args.self.now.channels c.args.other.now.channels) c.same_partitions.result first c.if-same_partitions.false

pub returns-else-same_partitions-clause-exact : goal.returns-else-same_partitions-clause-exact
returns-else-same_partitions-clause-exact c =
    let test : c.same_partitions.result ≡ equal_configurations c.args.self.now c.args.other.now = returns-else-same_partitions-clause-test c in
    let decides = equal_configurations-Decides c.args.self.now c.args.other.now in
    (λ h. decides.0 (sym test ∙ h), λ h. test ∙ decides.1 h)
