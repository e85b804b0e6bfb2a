use Rattle.std.specs.Prelude.{◌/◌}
use Rattle.std.proofs.lemmas.List.{take-append-drop}
use Rattle.apex_orders.proofs.Common.{◌≡◌, ◌+◌, ◌++◌, [], Bool, List, ℕ, Some, length, length-append, append_assoc, append-nil, refl, sym, ap, ◌∙◌, subst, arith, slice_get, Configuration, PortsView, Scripts, Worker, AreGiven, HasMade, IsAfter, IsTrialOf, IsUnderTrial, calls_made, history_of, order_at}
use Rattle.apex_orders.proofs.Lists.{at_behind, stays_before}
use Rattle.apex_orders.proofs.WorkerLemmas.{has_begun}
use Rattle.apex_orders.specs.declared.search.Search.{Search}
use Rattle.apex_orders.proofs.halving.halve.Goals as goal

-- a worker keeps the front of its points, and another one gets the back
module _ (clock : Bool) (config : Configuration) (scripts : Scripts) (current : Search) (worker : Worker) (was : IsUnderTrial clock config scripts current worker) (front back : List PortsView) (kept : ℕ)
    (whole : worker.points.items ≡ front ++ back) (count : length front ≡ kept) where
  abbrev pub done : List PortsView
  done = was.left.done

  abbrev pub away : List PortsView
  away = was.left.away

  -- so many points are before those at the back
  abbrev pub before : ℕ
  before = worker.tried + kept

  cut : worker.given.value.items ≡ (done ++ front) ++ (back ++ away)
  cut =
      was.left.all
      ∙ (ap (λ (items : List PortsView). done ++ (items ++ away)) whole
      ∙ (ap (λ (items : List PortsView). done ++ items) (append_assoc front back away) ∙ sym (append_assoc done front (back ++ away))))

  many : length (done ++ front) ≡ before
  many = let tried = was.left.count in omega (arith, tried, count, length-append done front)

  pub all : length worker.given.value.items ≡ before + (length back + length away)
  all =
      let lengths = ap (λ (items : List PortsView). length items) cut in
      let first = many in
      omega (arith, lengths, first, length-append (done ++ front) (back ++ away), length-append back away)

  pub points : length worker.points.items ≡ kept + length back
  points = let lengths = ap (λ (items : List PortsView). length items) whole in omega (arith, lengths, count, length-append front back)

  here : (j : ℕ) (ports : PortsView) → slice_get back j ≡ Some ports → slice_get worker.given.value.items (before + j) ≡ Some ports
  here j ports at =
      ap (λ (items : List PortsView). slice_get items (before + j)) cut
      ∙ (ap (λ (n : ℕ). slice_get ((done ++ front) ++ (back ++ away)) (n + j)) (sym many) ∙ (at_behind (done ++ front) (back ++ away) j ∙ stays_before back away j ports at))

  pub front_left : worker.given.value.items ≡ done ++ (front ++ (back ++ away))
  front_left = cut ∙ append_assoc done front (back ++ away)

  -- the other worker
  module _ (other : Worker) (base : other.base.value ≡ current.orders) (first : other.first ≡ worker.first + worker.tried + kept) (given : other.given.value.items ≡ back) where
    places : worker.base.value ≡ other.base.value
    places = was.base ∙ sym base

    place : (j : ℕ) → worker.first + (before + j) ≡ other.first + j
    place j = omega (arith, first)

    pub other_given : AreGiven config scripts other
    other_given =
        let lengths = ap (λ (orders : List (List ℕ)). length orders) places in
        let mine = ap (λ (items : List PortsView). length items) given in
        let within = was.valid.given.within in
        let room = was.valid.given.room in
        let most = all in
        record {
          within = omega (arith, lengths, mine, within, most, first);
          room = omega (arith, lengths, room);
          each = λ j ports at.
              subst (λ (x : List (List ℕ) × ℕ). IsAfter config scripts (order_at x.0 x.1) ports) (λ i. (places i, place j i))
              (was.valid.given.each (before + j) ports (here j ports (ap (λ (items : List PortsView). slice_get items j) (sym given) ∙ at)));
        }

    pub other_made : HasMade config scripts current.points.calls other
    other_made j below =
        let mine = ap (λ (items : List PortsView). length items) given in
        let most = all in
        subst (λ (x : List (List ℕ) × ℕ). calls_made config (history_of config scripts (order_at x.0 x.1)) ≡ current.points.calls) (λ i. (places i, place j i))
        (was.made (before + j) (omega (arith, below, mine, most)))

-- the points are cut in two
cut_of : (c : goal.After-start) → c.args.worker.now.points.items ≡ c.split_off.new.self.items ++ c.in_ok-rest.rest.items
cut_of c =
    let cut = c.in_ok-rest.ensures in
    let points = c.args.worker.now.points.items in
    sym (take-append-drop (c.len-kept.result / 2) points) ∙ (λ i. sym cut.items i ++ sym cut.tail i)

pub returns-clause-first : goal.returns-clause-first
returns-clause-first c =
    let was = c.requires.given in
    let is = was.valid in
    let len = c.in_ok-rest.ensures.len in
    let count : length c.split_off.new.self.items ≡ c.len-kept.result / 2 = omega (arith, len) in
    record {
      valid = record {
        all = is.all;
        trial = is.trial;
        given = record { within = is.given.within; room = is.given.room; each = is.given.each };
        found = λ one has. let own = is.found one has in record { before = own.before; partition = own.partition; hash = own.hash; after = own.after; made = own.made };
        hashed = is.hashed;
        apart = is.apart;
        orders = is.orders;
        clocked = is.clocked;
        replies = is.replies;
      };
      base = was.base;
      made = was.made;
      left = record {
        done = was.left.done;
        away = c.in_ok-rest.rest.items ++ was.left.away;
        count = was.left.count;
        all = front_left c.args.clock c.args.config.now c.args.scripts.now c.args.current.now c.args.worker.now was c.split_off.new.self.items c.in_ok-rest.rest.items (c.len-kept.result / 2) (cut_of c) count;
      };
      tried = was.tried;
    }

pub returns-clause-second : goal.returns-clause-second
returns-clause-second c =
    let clock = c.args.clock in
    let config = c.args.config.now in
    let scripts = c.args.scripts.now in
    let current = c.args.current.now in
    let worker = c.args.worker.now in
    let was = c.requires.given in
    let search = c.requires.valid in
    let front = c.split_off.new.self.items in
    let back = c.in_ok-rest.rest.items in
    let whole = cut_of c in
    let len = c.in_ok-rest.ensures.len in
    let count : length c.split_off.new.self.items ≡ c.len-kept.result / 2 = omega (arith, len) in
    let begun = c.start.ensures in
    let other = c.start.new.self in
    record {
      valid = has_begun clock config scripts other current.orders search.all (subst (IsTrialOf config) (sym begun.trial) c.requires.other)
          (other_given clock config scripts current worker was front back (c.len-kept.result / 2) whole count other begun.base begun.first begun.given)
          begun.base begun.found begun.unhashed begun.replies search.orders search.clocked;
      base = begun.base;
      made = other_made clock config scripts current worker was front back (c.len-kept.result / 2) whole count other begun.base begun.first begun.given;
      left = record { done = []; away = []; count = sym begun.tried; all = begun.given ∙ (sym begun.left ∙ sym (append-nil other.points.items)) };
      tried = λ j below. let none = begun.tried in absurd (omega (arith, below, none));
    }

pub returns-clause-kept : goal.returns-clause-kept
returns-clause-kept c =
    let len = c.in_ok-rest.ensures.len in
    let first = c.start.ensures.first in
    record { first = refl; last = omega (arith, len, first) }

pub returns-clause-rest : goal.returns-clause-rest
returns-clause-rest c =
    let len = c.in_ok-rest.ensures.len in
    let count : length c.split_off.new.self.items ≡ c.len-kept.result / 2 = omega (arith, len) in
    let begun = c.start.ensures in
    let first = begun.first in
    let none = begun.tried in
    let left = ap (λ (items : List PortsView). length items) begun.left in
    let all = points c.args.clock c.args.config.now c.args.scripts.now c.args.current.now c.args.worker.now c.requires.given c.split_off.new.self.items c.in_ok-rest.rest.items (c.len-kept.result / 2) (cut_of c) count in
    record { first = refl; last = omega (arith, first, none, left, all) }
