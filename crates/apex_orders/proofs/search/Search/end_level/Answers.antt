use Rattle.apex_orders.proofs.Common.{◌≡◌, ◌+◌, ◌<◌, ℕ, suc, length, sym, subst, arith, AreLevels}
use Rattle.apex_orders.proofs.Levels.{levels_next}
use Rattle.apex_orders.proofs.search.Search.end_level.Goals as goal

pub returns-clause-valid : goal.returns-clause-valid
returns-clause-valid c =
    let config = c.args.config.now in
    let scripts = c.args.scripts.now in
    let was = c.requires.valid in
    let orders = c.args.self.now.orders in
    let points = c.args.self.now.points in
    let states = c.len-states.ensures in
    let more : suc points.calls ≡ points.calls + 1 = omega arith in
    let all = c.requires.all in
    let some : points.next < length orders = omega (arith, c.if-self-states.false, states) in
    record {
      all = was.all;
      orders = was.orders;
      clocked = was.clocked;
      apart = was.apart;
      points = record {
        next = omega (arith, states);
        level = let level = was.points.level in omega (arith, level, some, states);
        count = was.points.count;
        each = was.points.each;
      };
      levels = subst (λ (x : ℕ × ℕ). AreLevels config scripts orders points.first x.0 x.1) (λ i. (sym states i, more i)) (levels_next config scripts orders points.first points.next points.calls was.levels all some);
      found = was.found;
      uses = was.uses;
    }
