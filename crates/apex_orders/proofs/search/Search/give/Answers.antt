use Rattle.apex_orders.proofs.Common.{◌≡◌, ◌+◌, [], List, ℕ, length, sym, ap, ◌∙◌, subst, arith, append-nil, PortsView, AreLevels, IsAfter, IsTrialOf, calls_made, history_of, order_at}
use Rattle.apex_orders.proofs.GrowthLemmas.{order_here}
use Rattle.apex_orders.proofs.KnownLemmas.{points_given, points_left}
use Rattle.apex_orders.proofs.WorkerLemmas.{has_begun}
use Rattle.apex_orders.proofs.Levels.{levels_left}
use Rattle.apex_orders.proofs.search.Search.give.Goals as goal

pub begin-requires-clause-count : goal.begin-requires-clause-count
begin-requires-clause-count c =
    let count = c.requires.valid.points.count in
    let hashed = c.requires.valid.points.next in
    let within = c.requires.within in
    omega (arith, count, hashed, within)

pub returns-clause-valid : goal.returns-clause-valid
returns-clause-valid c =
    let was = c.requires.valid in
    let begun = c.in_ok-begin.ensures in
    let old = c.args.self.now in
    record {
      all = was.all;
      orders = was.orders;
      clocked = was.clocked;
      apart = was.apart;
      points = points_left c.args.config.now c.args.scripts.now old.orders old.points c.begin.new.points was.points c.begin.new.self.given.value.items c.args.count begun.given begun.count begun.rest begun.next c.requires.within;
      levels = subst (λ (x : ℕ × ℕ × ℕ). AreLevels c.args.config.now c.args.scripts.now old.orders x.0 x.1 x.2) (λ i. (sym begun.rest i, sym begun.next i, sym begun.calls i))
          (levels_left c.args.config.now c.args.scripts.now old.orders old.points.first old.points.next old.points.calls was.levels c.args.count);
      found = was.found;
      uses = was.uses;
    }

pub returns-clause-worker : goal.returns-clause-worker
returns-clause-worker c =
    let config = c.args.config.now in
    let scripts = c.args.scripts.now in
    let was = c.requires.valid in
    let begun = c.in_ok-begin.ensures in
    let old = c.args.self.now in
    let new = c.begin.new.self in
    has_begun c.args.clock config scripts new old.orders was.all (subst (IsTrialOf config) (sym begun.trial) c.requires.trial)
    (record {
      within =
          let count = begun.count in
          let first = begun.first in
          let base = ap (λ (orders : List (List ℕ)). length orders) begun.base in
          let within = c.requires.within in
          let hashed = was.points.next in
          omega (arith, count, first, base, within, hashed);
      room =
          let base = ap (λ (orders : List (List ℕ)). length orders) begun.base in
          let len = c.len-orders.ensures in
          omega (arith, base, len);
      each = λ j ports at.
          subst (λ (x : List (List ℕ) × ℕ). IsAfter config scripts (order_at x.0 (x.1 + j)) ports) (λ i. (sym begun.base i, sym begun.first i))
          (points_given config scripts old.orders old.points c.begin.new.points was.points new.given.value.items c.args.count begun.given begun.count begun.rest begun.next c.requires.within j ports at);
    })
    begun.base begun.found begun.unhashed begun.replies was.orders was.clocked

pub returns-clause-range : goal.returns-clause-range
returns-clause-range c =
    let begun = c.in_ok-begin.ensures in
    record {
      first = begun.first;
      last =
          let first = begun.first in
          let count = begun.count in
          let none = begun.tried in
          let left = ap (λ (points : List PortsView). length points) begun.left in
          omega (arith, first, count, none, left);
    }

pub returns-clause-made : goal.returns-clause-made
returns-clause-made c j below =
    let begun = c.in_ok-begin.ensures in
    let config = c.args.config.now in
    let scripts = c.args.scripts.now in
    let old = c.args.self.now in
    let was = c.requires.valid in
    let count = begun.count in
    let within = c.requires.within in
    let hashed = was.points.next in
    let k = old.points.first + j in
    subst (λ (x : List (List ℕ) × ℕ). calls_made config (history_of config scripts (order_at x.0 (x.1 + j))) ≡ old.points.calls) (λ i. (sym begun.base i, sym begun.first i))
    (was.levels.here k (order_at old.orders k) (omega arith) (omega (arith, below, count, within)) (order_here old.orders k (omega (arith, below, count, within, hashed))))

pub returns-clause-left : goal.returns-clause-left
returns-clause-left c =
    let begun = c.in_ok-begin.ensures in
    record { done = []; away = []; count = sym begun.tried; all = sym begun.left ∙ sym (append-nil c.begin.new.self.points.items) }
