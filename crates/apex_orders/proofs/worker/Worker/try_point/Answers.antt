use Rattle.apex_orders.proofs.Common.{◌≡◌, ℕ, true, Bool, List, sym, ◌∙◌, subst, Configuration, History, PortsView, Scripts, is_tried, AreOfScripts, AreDue, IsAfter, IsEnoughWith, order_given}
use Rattle.apex_orders.proofs.worker.Worker.try_point.Goals as goal

-- the restored ports are those after the calls to the point
restored : (config : Configuration) (scripts : Scripts) (order : List ℕ) (saved ports : PortsView) → IsAfter config scripts order saved → ports ≡ saved → IsAfter config scripts order ports
restored config scripts order saved ports after is = subst (IsAfter config scripts order) (sym is) after

pub restore-requires : goal.restore-requires
restore-requires c =
    let was = c.requires.valid in
    (was.given.each c.args.j c.args.saved.now c.requires.given).configured ∙ sym was.trial.ports

pub choose-requires-clause-uses : goal.choose-requires-clause-uses
choose-requires-clause-uses c =
    let was = c.requires.valid in
    let given = was.given.each c.args.j c.args.saved.now c.requires.given in
    let after = restored c.args.shared.now.config.now c.args.shared.now.scripts.now (order_given c.args.self.now c.args.j) c.args.saved.now c.restore.new.self given c.restore.ensures.restored in
    subst (λ (config : Configuration). AreOfScripts config c.args.shared.now.scripts.now c.args.shared.now.uses.now) (sym after.configured) c.requires.shared.uses

pub try_those-requires-clause-valid : goal.try_those-requires-clause-valid
try_those-requires-clause-valid c =
    let was = c.requires.valid in
    let given = was.given.each c.args.j c.args.saved.now c.requires.given in
    let after = restored c.args.shared.now.config.now c.args.shared.now.scripts.now (order_given c.args.self.now c.args.j) c.args.saved.now c.restore.new.self given c.restore.ensures.restored in
    record {
      all = was.all;
      trial = record { ports = after.configured; other = was.trial.other };
      given = record { within = was.given.within; room = was.given.room; each = was.given.each };
      found = λ one has. let is = was.found one has in record { before = is.before; partition = is.partition; hash = is.hash; after = is.after; made = is.made };
      hashed = was.hashed;
      apart = was.apart;
      orders = was.orders;
      clocked = was.clocked;
      replies = was.replies;
    }

pub try_those-requires-clause-ready : goal.try_those-requires-clause-ready
try_those-requires-clause-ready c =
    let was = c.requires.valid in
    let given = was.given.each c.args.j c.args.saved.now c.requires.given in
    record {
      after = restored c.args.shared.now.config.now c.args.shared.now.scripts.now (order_given c.args.self.now c.args.j) c.args.saved.now c.restore.new.self given c.restore.ensures.restored;
      sound = c.restore.ensures.sound;
    }

pub try_those-requires-clause-due : goal.try_those-requires-clause-due
try_those-requires-clause-due c =
    let was = c.requires.valid in
    let given = was.given.each c.args.j c.args.saved.now c.requires.given in
    let after = restored c.args.shared.now.config.now c.args.shared.now.scripts.now (order_given c.args.self.now c.args.j) c.args.saved.now c.restore.new.self given c.restore.ensures.restored in
    subst (λ (x : History × List Bool). AreDue c.args.shared.now.clock c.args.shared.now.scripts.now x.0 (is_tried x.1)) (λ i. (after.history i, sym c.as_slice-tried.ensures.value i)) c.in_ok-choose.ensures.due

pub returns-clause-tried : goal.returns-clause-tried
returns-clause-tried c =
    let was = c.requires.valid in
    let given = was.given.each c.args.j c.args.saved.now c.requires.given in
    let after = restored c.args.shared.now.config.now c.args.shared.now.scripts.now (order_given c.args.self.now c.args.j) c.args.saved.now c.restore.new.self given c.restore.ensures.restored in
    record {
      tried = is_tried c.choose.new.choice.tried.items;
      enough = subst (λ (x : Configuration × History). IsEnoughWith c.args.shared.now.clock x.0 c.args.shared.now.scripts.now x.1 (is_tried c.choose.new.choice.tried.items)) (λ i. (after.configured i, after.history i)) c.in_ok-choose.ensures.enough;
      each = λ p within own. c.in_ok-try_those.ensures.tried p within (subst (λ (items : List Bool). is_tried items p ≡ true) (sym c.as_slice-tried.ensures.value) own);
    }

pub returns-clause-later : goal.returns-clause-later
returns-clause-later c =
    let later = c.in_ok-try_those.ensures.later in
    record { base = later.base; first = later.first; given = later.given; orders = later.orders; replies = later.replies }
