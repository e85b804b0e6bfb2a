use Rattle.apex_orders.proofs.Common.{◌≡◌, ◌+◌, ℕ, ◌++◌, arith, ap, calls_made, slice_get, slice_get_within, Some, true, false, sym, ◌∙◌, subst, Configuration, History, PortsView, Worker, Scripts, IsClocked, IsAfter, AreFound, history_of, Knows, MakesNothing, AreGiven, order_given, orders_known}
use Rattle.apex_orders.proofs.ClockLemmas.{clocked_next}
use Rattle.apex_orders.proofs.Levels.{one_more_made}
use Rattle.apex_orders.proofs.SearchLemmas.{behind, found_one, makes_after, steps_to, tried_nothing, tried_one}
use Rattle.apex_orders.proofs.WorkerLemmas.{given_known, includes_behind}
use Rattle.apex_orders.proofs.worker.Worker.try_partition.Goals as goal

-- the ports after the calls to a worker's point
returned : (config : Configuration) (scripts : Scripts) (worker : Worker) (j : ℕ) (saved ports : PortsView) (before : Configuration) → AreGiven config scripts worker
    → slice_get worker.given.value.items j ≡ Some saved → ports.config ≡ before → before ≡ config → ports.history ≡ saved.history → IsAfter config scripts (order_given worker j) ports
returned config scripts worker j saved ports before given at same is history = record {
  configured = same ∙ is;
  history = history ∙ (given.each j saved at).history;
}

pub return_to-requires-clause-config : goal.return_to-requires-clause-config
return_to-requires-clause-config c =
    let was = c.requires.valid in
    (was.given.each c.args.j c.args.saved.now c.requires.given).configured ∙ sym was.trial.ports

pub return_to-requires-clause-there : goal.return_to-requires-clause-there
return_to-requires-clause-there c there =
    let was = c.requires.valid in
    (c.requires.there there).after.history
    ∙ sym (was.given.each c.args.j c.args.saved.now c.requires.given).history

pub returns-then-not-branch-clause-valid : goal.returns-then-not-branch-clause-valid
returns-then-not-branch-clause-valid c =
    let there = c.if-not-branch.true in
    let no : c.in_ok-answer_next.field-0 ≡ false = grind (arith, there) in
    let was = c.requires.valid in
    record {
      all = was.all;
      trial = record { ports = c.answer_next.ensures.config ∙ (c.return_to.ensures.config ∙ was.trial.ports); other = was.trial.other };
      given = record { within = was.given.within; room = was.given.room; each = was.given.each };
      found = λ one has. let is = was.found one has in record { before = is.before; partition = is.partition; hash = is.hash; after = is.after; made = is.made };
      hashed = was.hashed;
      apart = was.apart;
      orders = was.orders;
      clocked = was.clocked;
      replies = subst (AreFound c.args.shared.now.clock c.args.shared.now.config.now c.args.shared.now.scripts.now) (sym (c.in_ok-answer_next.ensures.unchanged no)) was.replies;
    }

pub returns-then-not-branch-clause-tried : goal.returns-then-not-branch-clause-tried
returns-then-not-branch-clause-tried c =
    let config = c.args.shared.now.config.now in
    let scripts = c.args.shared.now.scripts.now in
    let there = c.if-not-branch.true in
    let no : c.in_ok-answer_next.field-0 ≡ false = grind (arith, there) in
    let was = c.requires.valid in
    let old = c.args.self.now in
    let order = order_given old c.args.j in
    let after = returned config scripts old c.args.j c.args.saved.now c.return_to.new.ports old.trial.ports.config was.given c.requires.given c.return_to.ensures.config was.trial.ports c.return_to.ensures.history in
    let nothing : MakesNothing config scripts (history_of config scripts order) c.args.p =
    subst (λ (x : Configuration × History). MakesNothing x.0 scripts x.1 c.args.p) (λ i. (after.configured i, after.history i)) (c.in_ok-answer_next.ensures.nothing no) in
    tried_nothing config scripts (orders_known old) (c.args.shared.now.known.now ++ c.answer_next.new.replies) order c.args.p (old.first + c.args.j, given_known config scripts old c.args.j was.given (slice_get_within old.given.value.items c.args.j c.args.saved.now c.requires.given)) nothing

pub learn-requires-clause-valid : goal.learn-requires-clause-valid
learn-requires-clause-valid c =
    let config = c.args.shared.now.config.now in
    let scripts = c.args.shared.now.scripts.now in
    let there = c.if-not-branch.false in
    let yes : c.in_ok-answer_next.field-0 ≡ true = grind (arith, there) in
    let answered = c.in_ok-answer_next.ensures.answered yes in
    let was = c.requires.valid in
    let old = c.args.self.now in
    let order = order_given old c.args.j in
    let here = given_known config scripts old c.args.j was.given (slice_get_within old.given.value.items c.args.j c.args.saved.now c.requires.given) in
    let after = returned config scripts old c.args.j c.args.saved.now c.return_to.new.ports old.trial.ports.config was.given c.requires.given c.return_to.ensures.config was.trial.ports c.return_to.ensures.history in
    let one = answered.one in
    record {
      all = was.all;
      trial = record { ports = c.answer_next.ensures.config ∙ (c.return_to.ensures.config ∙ was.trial.ports); other = was.trial.other };
      given = record { within = was.given.within; room = was.given.room; each = was.given.each };
      found = λ point has. let is = was.found point has in record { before = is.before; partition = is.partition; hash = is.hash; after = is.after; made = is.made };
      hashed = was.hashed;
      apart = was.apart;
      orders = was.orders;
      clocked = was.clocked;
      replies = found_one config scripts c.args.shared.now.clock old.replies c.answer_next.new.replies order c.args.p one was.replies (was.orders (old.first + c.args.j) order here)
          c.requires.partition (makes_after config scripts c.return_to.new.ports order c.args.p one after (answered.makes))
          c.requires.due (was.clocked (old.first + c.args.j) order here) answered.only;
    }

pub learn-requires-clause-history : goal.learn-requires-clause-history
learn-requires-clause-history c =
    let config = c.args.shared.now.config.now in
    let scripts = c.args.shared.now.scripts.now in
    let was = c.requires.valid in
    let old = c.args.self.now in
    let after = returned config scripts old c.args.j c.args.saved.now c.return_to.new.ports old.trial.ports.config was.given c.requires.given c.return_to.ensures.config was.trial.ports c.return_to.ensures.history in
    steps_to config scripts c.return_to.new.ports (order_given old c.args.j) c.args.p c.answer_next.new.ports.history after c.answer_next.ensures.history

pub learn-requires-clause-made : goal.learn-requires-clause-made
learn-requires-clause-made c =
    let config = c.args.shared.now.config.now in
    let scripts = c.args.shared.now.scripts.now in
    let there = c.if-not-branch.false in
    let yes : c.in_ok-answer_next.field-0 ≡ true = grind (arith, there) in
    let answered = c.in_ok-answer_next.ensures.answered yes in
    let was = c.requires.valid in
    let old = c.args.self.now in
    let order = order_given old c.args.j in
    let after = returned config scripts old c.args.j c.args.saved.now c.return_to.new.ports old.trial.ports.config was.given c.requires.given c.return_to.ensures.config was.trial.ports c.return_to.ensures.history in
    let leads = steps_to config scripts c.return_to.new.ports order c.args.p c.answer_next.new.ports.history after c.answer_next.ensures.history in
    ap (calls_made config) (leads ∙ behind config scripts order c.args.p)
    ∙ one_more_made config scripts (history_of config scripts order) c.args.p answered.one c.requires.partition c.answer_next.ensures.short
    (makes_after config scripts c.return_to.new.ports order c.args.p answered.one after (answered.makes))

pub learn-requires-clause-clocked : goal.learn-requires-clause-clocked
learn-requires-clause-clocked c =
    let config = c.args.shared.now.config.now in
    let scripts = c.args.shared.now.scripts.now in
    let was = c.requires.valid in
    let old = c.args.self.now in
    let order = order_given old c.args.j in
    let after = returned config scripts old c.args.j c.args.saved.now c.return_to.new.ports old.trial.ports.config was.given c.requires.given c.return_to.ensures.config was.trial.ports c.return_to.ensures.history in
    let leads = steps_to config scripts c.return_to.new.ports order c.args.p c.answer_next.new.ports.history after c.answer_next.ensures.history in
    subst (IsClocked c.args.shared.now.clock scripts) (sym (leads ∙ behind config scripts order c.args.p))
    (clocked_next c.args.shared.now.clock scripts config (history_of config scripts order) c.args.p (was.clocked (old.first + c.args.j) order (given_known config scripts old c.args.j was.given (slice_get_within old.given.value.items c.args.j c.args.saved.now c.requires.given))) c.requires.due)

pub returns-clause-tried : goal.returns-clause-tried
returns-clause-tried c =
    let config = c.args.shared.now.config.now in
    let scripts = c.args.shared.now.scripts.now in
    let there = c.if-not-branch.false in
    let yes : c.in_ok-answer_next.field-0 ≡ true = grind (arith, there) in
    let answered = c.in_ok-answer_next.ensures.answered yes in
    let was = c.requires.valid in
    let old = c.args.self.now in
    let order = order_given old c.args.j in
    let after = returned config scripts old c.args.j c.args.saved.now c.return_to.new.ports old.trial.ports.config was.given c.requires.given c.return_to.ensures.config was.trial.ports c.return_to.ensures.history in
    let one = answered.one in
    let learned = c.in_ok-learn.ensures in
    let new = c.learn.new.self in
    let known = c.args.shared.now.known.now in
    tried_one config scripts (orders_known new) (known ++ new.replies) order c.args.p one
    (subst (λ (h : History). Knows config scripts (orders_known new) h) (steps_to config scripts c.return_to.new.ports order c.args.p c.answer_next.new.ports.history after c.answer_next.ensures.history) learned.known)
    (includes_behind known c.answer_next.new.replies new.replies learned.later.replies one answered.added) (makes_after config scripts c.return_to.new.ports order c.args.p one after (answered.makes))
