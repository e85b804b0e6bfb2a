-- The samples of a history after one more call.
use Rattle.apex_board.proofs.Common.{◌≡◌, ℕ, [], ◌∷◌, ◌++◌, List, set, Option, Some, sym, ◌∙◌, length-set, Call, Configuration, last_write_on, History, entry_of, each_at_set, sample_stays, sample_changes}
use Rattle.apex_types.specs.declared.moment.Moment.{Moment}
use Rattle.apex_types.specs.declared.sample.Sample.{Sample}
use Rattle.apex_ports.specs.ReplyTable.{reply_to}
use Rattle.apex_ports.specs.Writes.{Writes, WritesNothing}
use Rattle.apex_board.specs.Samples.{AreSamples}

module _ (config : Configuration) (h : History) (p : ℕ) (at : Moment) (call : Call) (samples : List (Option Sample)) (are : AreSamples config h samples) where
  pub nothing_written : WritesNothing config h p call → AreSamples config (h ++ entry_of p at call (reply_to config h p at call) ∷ []) samples
  nothing_written nothing = record {
    all = are.all;
    each = λ c sample here. are.each c sample here ∙ sym (sample_stays config h (entry_of p at call (reply_to config h p at call)) c (nothing at c));
  }

  pub sample_written : (channel : ℕ) (message : List ℕ) → Writes config h p call channel message
      → AreSamples config (h ++ entry_of p at call (reply_to config h p at call) ∷ []) (set samples channel (Some (record { message = message; at = at })))
  sample_written channel message writes =
      let e = entry_of p at call (reply_to config h p at call) in
      let sample : Sample = record { message = message; at = at } in
      record {
        all = length-set samples channel (Some sample) ∙ are.all;
        each = each_at_set (λ (c : ℕ) (held : Option Sample). held ≡ last_write_on config c h) (λ (c : ℕ) (held : Option Sample). held ≡ last_write_on config c (h ++ e ∷ [])) samples channel (Some sample) are.each
            (λ c held apart was. was ∙ sym (sample_stays config h e c (writes.elsewhere at c apart)))
            (sym (sample_changes config h e channel sample (writes.there at)));
      }
