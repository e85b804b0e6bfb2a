use Rattle.apex_orders.proofs.Common.{arith, ◌∙◌}
use Rattle.apex_orders.proofs.rounds.Rounds.new.Goals as goal

pub returns : goal.returns
returns c clock =
    let first = c.in_ok-current.ensures.unsearched in
    record {
      first = c.in_ok-current.ensures.first;
      valid = c.in_ok-current.ensures.valid clock;
      level = c.in_ok-current.ensures.level;
      workers = c.new-workers.ensures;
      ports = c.in_ok-ports.ensures.config ∙ c.in_ok-copy.ensures;
      answers = record {
        found = record {
          count = c.in_ok-answers.ensures.count;
          each = λ q one order at here. absurd (c.in_ok-answers.ensures.none q order here);
        };
        unanswered = λ q one at here k below. absurd (omega (arith, below, first));
      };
      begun = omega arith;
      trial = λ begun. absurd (omega (arith, begun, first));
      tried = λ k below. absurd (omega (arith, below));
    }
