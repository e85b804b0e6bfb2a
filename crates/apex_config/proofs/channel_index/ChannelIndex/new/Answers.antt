use Rattle.apex_config.proofs.Common.{◌≡◌, ℕ, Bool, cond, Bor, List, Option, Some, sym, ap, ◌∙◌, slice_cmp, nat_cmp, bytes_eq, ChannelText}
use Rattle.std.specs.BTreeMap.{get}
use Rattle.std.specs.Option.{is_some}
use Rattle.std.proofs.lemmas.Map.Text.{is_eq-slice_cmp}
use Rattle.apex_config.proofs.FirstNumbers.{known_at, new_at}
use Rattle.apex_config.proofs.channel_index.ChannelIndex.new.Goals as goal
use Rattle.apex_config.proofs.channel_index.ChannelIndex.new.Goals.{then-not-contains_key+in_ok-insert, else-not-contains_key}

pub loop-number-preserved : goal.loop-number-preserved
loop-number-preserved c =
    let key = c.channel.inside.name in
    let keyed : c.index-channels-number.result.name ≡ key.now = ap (λ (x : ChannelText). x.name) (sym c.channel.view_is) in
    let met = ap is_some (sym (c.loop-number.invariant key)) ∙ sym c.contains_key.ensures in
    elim c.if-not-contains_key.branch [
      | then-not-contains_key+in_ok-insert w ↦ (λ name.
          ap (λ numbers. get (λ (x y : Bor (List ℕ)). slice_cmp nat_cmp x.now y.now) numbers name) w.numbers-is
          ∙ w.in_ok-insert.ensures.updates.0 name
          ∙ ap (λ (same : Bool). cond same (Some c.loop-number.number) (get (λ (x y : Bor (List ℕ)). slice_cmp nat_cmp x.now y.now) c.loop-number.numbers name)) (is_eq-slice_cmp key.now name.now)
          ∙ ap (λ (before : Option ℕ). cond (bytes_eq key.now name.now) (Some c.loop-number.number) before) (c.loop-number.invariant name)
          ∙ new_at c.args.channels.now c.loop-number.number c.index-channels-number.result key.now name.now c.loop-number-test.true c.index-channels-number.is keyed (met ∙ w.if-not-contains_key.true))
      | else-not-contains_key w ↦ (λ name.
          ap (λ numbers. get (λ (x y : Bor (List ℕ)). slice_cmp nat_cmp x.now y.now) numbers name) w.numbers-is
          ∙ c.loop-number.invariant name
          ∙ known_at c.args.channels.now c.loop-number.number c.index-channels-number.result key.now name.now c.loop-number-test.true c.index-channels-number.is keyed (met ∙ w.if-not-contains_key.false))
    ]
