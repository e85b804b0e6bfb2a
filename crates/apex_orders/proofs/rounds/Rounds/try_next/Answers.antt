use Rattle.apex_orders.proofs.rounds.Rounds.try_next.Goals as goal

pub returns-clause-under_way : goal.returns-clause-under_way
returns-clause-under_way g c =
    let was = c.requires.under_way in
    let now = c.in_ok-try_next.ensures in
    record {
      first = was.first;
      valid = was.valid;
      level = was.level;
      workers = now.workers;
      ports = was.ports;
      answers = was.answers;
      begun = was.begun;
      trial = λ given.
          let trial = was.trial given in
          record { whole = trial.whole; each = now.given; points = now.points _ _ trial.points };
      tried = was.tried;
    }
