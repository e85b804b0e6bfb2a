-- The observers of the sampling channels, one channel after the other.
use Rattle.std.proofs.Common.{◌≡◌, ◌≢◌, ℕ, zero, suc, ◌+◌, ◌<◌, ◌≤◌, ◌==◌, Bool, true, false, List, set, Option, None, Some, slice_get, refl, ap, sym, subst, ◌∙◌, arith, ⊎_elim}
use Rattle.std.proofs.lemmas.Bool.Decides.{nat_tests}
use Rattle.apex_types.specs.declared.sample.Sample.{Sample}
use Rattle.apex_module.specs.Configuration.{Configuration, channel_of, is_queuing_channel}
use Rattle.apex_module.specs.declared.channel.Channel.{Channel}
use Rattle.apex_observers.specs.Published.{Published, last_of}
use Rattle.apex_ports.specs.Channels.{last_write_on}
use Rattle.apex_ports.specs.History.{History}
use Rattle.apex_ports.specs.Noted.{IsSampleBy}
use Rattle.apex_ports.specs.Ports.{is_queuing, is_queue}
use Rattle.apex_ports.specs.declared.noted.SampleRef.{SampleRef}
use Rattle.apex_ports.proofs.Stays.{slice_get-set_cases}
use Rattle.apex_runs.specs.Observers.{sampling_before}

-- the kind of a channel that was looked up
pub kind_at : (config known : Configuration) (c : ℕ) (channel : Channel) (kind : Bool) → known ≡ config → channel_of known c ≡ Some channel → kind ≡ is_queuing_channel channel.kind → is_queuing config c ≡ kind
kind_at config known c channel kind same found is = ap (λ k. is_queuing k c) (sym same) ∙ (ap is_queue found ∙ sym is)

module _ (config : Configuration) where
  pub after_queuing : (c : ℕ) → is_queuing config c ≡ true → sampling_before config (suc c) ≡ sampling_before config c
  after_queuing c kind = rw kind refl

  pub after_sampling : (c : ℕ) → is_queuing config c ≡ false → sampling_before config (suc c) ≡ sampling_before config c + 1
  after_sampling c kind = rw kind refl

  no_fewer : (c : ℕ) (b : Bool) → is_queuing config c ≡ b → sampling_before config c ≤ sampling_before config (suc c)
  no_fewer c true kind = omega (arith, after_queuing c kind)
  no_fewer c false kind = omega (arith, after_sampling c kind)

  -- a sampling channel has an index that no later channel has
  pub earlier : (c d : ℕ) → is_queuing config c ≡ false → c < d → sampling_before config c < sampling_before config d
  earlier c zero kind before = absurd (omega arith)
  earlier c (suc d) kind before = by_test (earlier c d kind) (c == d) refl
    where
      by_test : (c < d → sampling_before config c < sampling_before config d) → (b : Bool) → (c == d) ≡ b → sampling_before config c < sampling_before config (suc d)
      by_test lower true test =
          let same : c ≡ d = grind (arith, nat_tests) in
          subst (λ (e : ℕ). sampling_before config c < sampling_before config (suc e)) same (omega (arith, after_sampling c kind))
      by_test lower false test =
          let apart : c ≢ d = grind (arith, nat_tests) in
          let first = lower (omega arith) in
          let more = no_fewer d (is_queuing config d) refl in
          omega arith

  -- so far the observers show the samples
  abbrev pub Shown : History → List Published → ℕ → Type 0
  Shown history observers c =
      (d : ℕ) (known : Published) → d < c → is_queuing config d ≡ false → slice_get observers (sampling_before config d) ≡ Some known
      → last_of known.writes ≡ last_write_on config d history

  pub shown_past_queuing : (history : History) (observers : List Published) (c : ℕ) → Shown history observers c → is_queuing config c ≡ true → Shown history observers (c + 1)
  shown_past_queuing history observers c shown kind d known before sampling at = by_test (d == c) refl
    where
      by_test : (b : Bool) → (d == c) ≡ b → last_of known.writes ≡ last_write_on config d history
      by_test true test =
          let same : d ≡ c = grind (arith, nat_tests) in
          let queuing : is_queuing config d ≡ true = ap (is_queuing config) same ∙ kind in
          absurd (cc (queuing, sampling))
      by_test false test =
          let apart : d ≢ c = grind (arith, nat_tests) in
          shown d known (omega arith) sampling at

  -- one more observer shows its channel's sample
  pub shown_past_sampling : (history : History) (observers : List Published) (c index : ℕ) (now : Published) → Shown history observers c → is_queuing config c ≡ false → index ≡ sampling_before config c
      → last_of now.writes ≡ last_write_on config c history → Shown history (set observers index now) (c + 1)
  shown_past_sampling history observers c index now shown kind here is d known before sampling at = by_test (d == c) refl
    where
      apart_at : d ≢ c → sampling_before config d ≢ index
      apart_at apart same = let earlier_index = earlier d c sampling (omega arith) in omega arith

      by_test : (b : Bool) → (d == c) ≡ b → last_of known.writes ≡ last_write_on config d history
      by_test true test =
          let same : d ≡ c = grind (arith, nat_tests) in
          let at_index : sampling_before config d ≡ index = ap (sampling_before config) same ∙ sym here in
          ⊎_elim
          (λ own. ap (λ (one : Published). last_of one.writes) own.1 ∙ (is ∙ ap (λ e. last_write_on config e history) (sym same)))
          (λ other. absurd (other.0 at_index))
          (slice_get-set_cases observers index now (sampling_before config d) known at)
      by_test false test =
          let apart : d ≢ c = grind (arith, nat_tests) in
          ⊎_elim
          (λ own. absurd (apart_at apart own.0))
          (λ other. shown d known (omega arith) sampling other.1)
          (slice_get-set_cases observers index now (sampling_before config d) known at)

-- what one reference means is one sample
pub same_held : (held other : Option Sample) (lent : Option SampleRef) → IsSampleBy held lent → IsSampleBy other lent → held ≡ other
same_held held other None is same = is ∙ sym same
same_held held other (Some sample) is same = is ∙ sym same
