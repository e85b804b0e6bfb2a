-- The picture that a log gives of a system, and what a partition sees in it.
use Rattle.std.specs.Prelude.{ℕ, Bool, false, List, [], Option, Some, None}
use Rattle.apex_judge.specs.Prelude.{Mode, Moment, Call, Reply, Sample, Validity, Invalid, Configuration, port_of, Port, Row, row_of, reply_of, Seen}
use Rattle.apex_types.specs.declared.mode.Mode.TheVariants.{ColdStart}

-- of each partition its mode; of each of its ports, by identifier, whether it is created and what its last read showed;
-- of each channel what waits and the sample; and which modes and which ports are doubted
pub record Picture : Type 0 where
  pub mode : ℕ → Mode
  pub created : ℕ → ℕ → Bool
  pub last : ℕ → ℕ → Validity
  pub waiting : ℕ → List (List ℕ)
  pub sample : ℕ → Option Sample
  pub is_mode_doubted : ℕ → Bool
  pub is_port_doubted : ℕ → ℕ → Bool

-- before the first entry
abbrev pub opening : Picture
opening = record {
  mode = λ p. ColdStart;
  created = λ p id. false;
  last = λ p id. Invalid;
  waiting = λ c. [];
  sample = λ c. None;
  is_mode_doubted = λ p. false;
  is_port_doubted = λ p id. false;
}

-- ---- what a partition sees

abbrev pub waiting_at : Picture → Option Port → List (List ℕ)
waiting_at picture None = []
waiting_at picture (Some port) = picture.waiting port.channel

abbrev pub sample_at : Picture → Option Port → Option Sample
sample_at picture None = None
sample_at picture (Some port) = picture.sample port.channel

abbrev pub seen_in : Configuration → Picture → ℕ → Seen
seen_in config picture p = record {
  mode = picture.mode p;
  created = picture.created p;
  last = picture.last p;
  waiting = λ id. waiting_at picture (port_of config p id);
  sample = λ id. sample_at picture (port_of config p id);
}

-- ---- what the standard has for a call

abbrev pub row_in : Configuration → Picture → ℕ → Moment → Call → Row
row_in config picture p at call = row_of config (seen_in config picture p) p at call

abbrev pub reply_in : Configuration → Picture → ℕ → Moment → Call → Reply
reply_in config picture p at call = reply_of config (seen_in config picture p) p (row_in config picture p at call)
