-- What is published remains equal to the writes of the history, call by call.
use Rattle.apex_threads.proofs.Common.{◌≡◌, ℕ, ◌<◌, false, List, [], ◌∷◌, ◌++◌, length, slice_get, slice_index_or, get_or, option_map, Option, None, Some, Result, Ok, Err, refl, ap, sym, subst, ◌∙◌, arith, append-nil, length-set, slice_get-get_or, get_or_from_slice_get, Call, Moment, History, entry_of, IsPublished, ArePublished}
use Rattle.std.specs.Option.{option_to_list}
use Rattle.std.specs.Result.{MatchResult, OnOk}
use Rattle.std.proofs.Math.Seq.{map-set_same}
use Rattle.apex_types.specs.declared.sample.Sample.{Sample}
use Rattle.apex_module.specs.Configuration.{Configuration}
use Rattle.apex_observers.specs.Channels.{Channels, written_on, books_of}
use Rattle.apex_observers.specs.Published.{Published, with_write}
use Rattle.apex_ports.specs.Channels.{writes_on, sample_written}
use Rattle.apex_ports.specs.declared.history.Entry.{Entry}
use Rattle.apex_ports.specs.Ports.{is_queuing}
use Rattle.apex_ports.specs.ReplyTable.{reply_to}
use Rattle.apex_ports.specs.Writes.{Writes, WritesNothing}
use Rattle.apex_ports.proofs.Appends.{writes_on-append}
use Rattle.apex_ports.proofs.Stays.{each_at_set}

module _ (config : Configuration) (h : History) (e : Entry) where
  -- an entry that writes nothing on the channel
  stays : (c : ℕ) (entry : Option Published) → sample_written config c e ≡ None → IsPublished config h c entry → IsPublished config (h ++ e ∷ []) c entry
  stays c None nothing is = is
  stays c (Some published) nothing is = (
    is.0,
    is.1 ∙ sym (writes_on-append config c h e ∙ (ap (λ o. writes_on config c h ++ option_to_list o) nothing ∙ append-nil (writes_on config c h))),
  )

  -- an entry that writes a sample there
  grows : (c : ℕ) (published : Published) (sample : Sample) → sample_written config c e ≡ Some sample → IsPublished config h c (Some published) → IsPublished config (h ++ e ∷ []) c (Some (with_write published sample))
  grows c published sample there is = (
    is.0,
    ap (λ w. w ++ sample ∷ []) is.1 ∙ sym (writes_on-append config c h e ∙ ap (λ o. writes_on config c h ++ option_to_list o) there),
  )

-- a sampling channel has a publisher
pub sampling_entry : (config : Configuration) (h : History) (channels : Channels) (c : ℕ) → ArePublished config h channels → c < length config.channels → is_queuing config c ≡ false
    → (published : Published) × (slice_get channels c ≡ Some (Some published))
sampling_entry config h channels c are within kind =
    let inside : c < length channels = omega (arith, are.all) in
    by_entry (get_or channels c None) (slice_get-get_or channels c None inside)
  where
    by_entry : (entry : Option Published) → slice_get channels c ≡ Some entry → (published : Published) × (slice_get channels c ≡ Some (Some published))
    by_entry (Some published) at = (published, at)
    by_entry None at = absurd (cc (kind, are.each c None at))

module _ (config : Configuration) (h : History) (p : ℕ) (at : Moment) (call : Call) (channels : Channels) (are : ArePublished config h channels) where
  pub nothing_published : WritesNothing config h p call → ArePublished config (h ++ entry_of p at call (reply_to config h p at call) ∷ []) channels
  nothing_published nothing = record {
    all = are.all;
    each = λ c entry there. stays config h (entry_of p at call (reply_to config h p at call)) c entry (nothing at c) (are.each c entry there);
  }

  pub write_published : (channel : ℕ) (message : List ℕ) → channel < length config.channels → is_queuing config channel ≡ false → Writes config h p call channel message
      → ArePublished config (h ++ entry_of p at call (reply_to config h p at call) ∷ []) (written_on channel (record { message = message; at = at }) channels)
  write_published channel message within kind writes =
      let e = entry_of p at call (reply_to config h p at call) in
      let found = sampling_entry config h channels channel are within kind in
      let published = found.0 in
      let sample : Sample = record { message = message; at = at } in
      let is : slice_index_or channels channel None ≡ Some published = get_or_from_slice_get channels channel (Some published) None found.1 in
      let new : option_map (λ known. with_write known sample) (slice_index_or channels channel None) ≡ Some (with_write published sample) = ap (option_map (λ known. with_write known sample)) is in
      record {
        all = length-set channels channel (option_map (λ known. with_write known sample) (slice_index_or channels channel None)) ∙ are.all;
        each = each_at_set (IsPublished config h) (IsPublished config (h ++ e ∷ [])) channels channel (option_map (λ known. with_write known sample) (slice_index_or channels channel None)) are.each
            (λ c entry apart. stays config h e c entry (writes.elsewhere at c apart))
            (subst (IsPublished config (h ++ e ∷ []) channel) (sym new) (grows config h e channel published sample (writes.there at) (are.each channel (Some published) found.1)));
      }

-- what holds for the published writes holds if the publication wasn't refused
pub on_published : {T E : Type 0} (result : Result T E) (P : Channels → Type 0) (new written old : Channels) → MatchResult result (λ _. new ≡ written) (λ _. new ≡ old) → P written → OnOk result (P new)
on_published (Ok x) P new written old is holds = subst P (sym is) holds
on_published (Err e) P new written old is holds = tt

-- what is published on a channel is what the history writes there
pub published_writes : (config : Configuration) (h : History) (channels : Channels) (c : ℕ) (published : Published) → ArePublished config h channels → slice_get channels c ≡ Some (Some published) → published.writes ≡ writes_on config c h
published_writes config h channels c published are at = (are.each c (Some published) at).1

-- a write changes the writes of a channel, but not which channel it is
pub same_channels : (channel : ℕ) (sample : Sample) (channels : Channels) → books_of (written_on channel sample channels) ≡ books_of channels
same_channels channel sample channels =
    map-set_same (option_map (λ published. published.channel)) channels channel _ None (at (slice_index_or channels channel None))
  where
    at : (entry : Option Published) → option_map (λ published. published.channel) (option_map (λ known. with_write known sample) entry) ≡ option_map (λ published. published.channel) entry
    at None = refl
    at (Some published) = refl

-- whether the publication was refused or not, the channels are the same
pub channels_stay : {T E : Type 0} (result : Result T E) (new old : Channels) (channel : ℕ) (sample : Sample) → MatchResult result (λ _. new ≡ written_on channel sample old) (λ _. new ≡ old) → books_of new ≡ books_of old
channels_stay (Ok x) new old channel sample is = ap books_of is ∙ same_channels channel sample old
channels_stay (Err e) new old channel sample is = ap books_of is
