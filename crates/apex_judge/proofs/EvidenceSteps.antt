-- What the reply of an entry that is believed shows of the channels.
use Rattle.apex_judge.proofs.Common.{◌≡◌, ◌≢◌, ℕ, ◌==◌, false, if◌then◌else◌, List, length, set, Some, refl, sym, ap, ◌∙◌, arith, slice_get, Call, ReadSampling, Moment, Reply, Configuration, port_of, entry_of, EachAt, is_destination_of, each_at_set, ChannelState, sample_shown, reads_from, with_evidence, IsChannelShown, Picture}
use Rattle.apex_judge.proofs.ChannelSteps.{same_number, other_number}

-- a call that reads from no channel
pub reads_none : (config : Configuration) (c p : ℕ) (call : Call) → ((id : ℕ) → call ≢ ReadSampling id) → reads_from config c p call ≡ false
reads_none config c p (ReadSampling id) no_read = absurd (no_read id refl)
reads_none config c p call no_read = refl

module _ {A : Type 0} (config : Configuration) (picture : Picture) (p : ℕ) (at : Moment) (call : Call) (reply : Reply) where
  shows_still : (c : ℕ) (state : ChannelState A) → IsChannelShown picture c state → reads_from config c p call ≡ false → IsChannelShown (with_evidence config (entry_of p at call reply) picture) c state
  shows_still c state was off = record {
    waiting = was.waiting;
    few = was.few;
    sample = was.sample ∙ sym (λ i. if off i then sample_shown at reply (picture.sample c) else picture.sample c);
  }

  pub all_show_still : (channels : List (ChannelState A)) → EachAt (IsChannelShown picture) channels → ((c : ℕ) → reads_from config c p call ≡ false) → EachAt (IsChannelShown (with_evidence config (entry_of p at call reply) picture)) channels
  all_show_still channels each off c state here = shows_still c state (each c state here) (off c)

-- a read shows the sample of its channel
pub read_shows : {A : Type 0} (config : Configuration) (picture : Picture) (p : ℕ) (at : Moment) (id : ℕ) (reply : Reply) (channels : List (ChannelState A)) (i : ℕ) (old new : ChannelState A) → slice_get channels i ≡ Some old
    → EachAt (IsChannelShown picture) channels → ((c : ℕ) → is_destination_of c (port_of config p id) ≡ (i == c)) → new.waiting ≡ old.waiting → new.sample ≡ sample_shown at reply old.sample
    → EachAt (IsChannelShown (with_evidence config (entry_of p at (ReadSampling id) reply) picture)) (set channels i new)
read_shows config picture p at id reply channels i old new here each destination waiting sample =
    let was = each i old here in
    let few = was.few in
    let count : length new.waiting ≡ length old.waiting = ap (λ (xs : List (List ℕ)). length xs) waiting in
    let mine = destination i ∙ same_number i in
    each_at_set (IsChannelShown picture) (IsChannelShown (with_evidence config (entry_of p at (ReadSampling id) reply) picture)) channels i new each
    (λ c state apart other. shows_still config picture p at (ReadSampling id) reply c state other (destination c ∙ other_number i c apart)) (record {
      waiting = waiting ∙ was.waiting;
      few = omega (arith, count, few);
      sample = sample ∙ (ap (sample_shown at reply) was.sample ∙ sym (λ j. if mine j then sample_shown at reply (picture.sample i) else picture.sample i));
    })
