-- A judge as plain data.
use Rattle.apex_judge.specs.Prelude.{Configuration, History}

-- the configuration, and the log so far
pub record JudgeView : Type 0 where
  pub config : Configuration
  pub log : History
