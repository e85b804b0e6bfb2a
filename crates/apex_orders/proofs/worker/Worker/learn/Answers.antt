use Rattle.apex_orders.proofs.Common.{◌≡◌, ◌+◌, ◌++◌, ◌∷◌, [], List, ℕ, map, refl, ap, sym, ◌∙◌, subst, Configuration, PortsView, FoundPoint, Worker, Has, IsClocked, hash_of, IsOrder, history_of, calls_made, Knows, AreAllApart, AreOrders, AreClocked, AreHashed, HasPoint, IsFoundBy, Keeps, order_given, order_found, orders_known}
use Rattle.apex_orders.proofs.SearchLemmas.{clocked_push, keeps_push, knows_push, longer_is_order, orders_push}
use Rattle.apex_orders.proofs.WorkerLemmas.{apart_push, found_push, given_known, hashes_push, known_push, point_known}
use Rattle.apex_orders.proofs.worker.Worker.learn.Goals as goal

pub has_found-requires-clause-hashed : goal.has_found-requires-clause-hashed
has_found-requires-clause-hashed c =
    let was = c.requires.valid in
    subst (λ (config : Configuration). AreHashed config c.args.self.now.found.items c.args.self.now.hashes) (sym was.trial.ports) was.hashed

pub has_found-requires-clause-config : goal.has_found-requires-clause-config
has_found-requires-clause-config c = let was = c.requires.valid in was.trial.other ∙ sym was.trial.ports

pub returns-then-has_found-clause-valid : goal.returns-then-has_found-clause-valid
returns-then-has_found-clause-valid c =
    let was = c.requires.valid in
    record {
      all = was.all;
      trial = record { ports = ap (λ (v : PortsView). v.config) c.has_found.ensures.ports ∙ was.trial.ports; other = c.has_found.ensures.other ∙ was.trial.other };
      given = record { within = was.given.within; room = was.given.room; each = was.given.each };
      found = λ one has. let is = was.found one has in record { before = is.before; partition = is.partition; hash = is.hash; after = is.after; made = is.made };
      hashed = was.hashed;
      apart = was.apart;
      orders = was.orders;
      clocked = was.clocked;
      replies = was.replies;
    }

pub returns-then-has_found-clause-later : goal.returns-then-has_found-clause-later
returns-then-has_found-clause-later c = record { base = refl; first = refl; given = refl; orders = λ k x at. at; replies = λ x has. has }

pub returns-then-has_found-clause-known : goal.returns-then-has_found-clause-known
returns-then-has_found-clause-known c =
    let was = c.requires.valid in
    let point : HasPoint c.args.self.now.found.items c.args.self.now.trial.ports = c.has_found.ensures.found.0 c.if-has_found.true in
    point_known c.args.shared.now.config.now c.args.shared.now.scripts.now c.args.self.now c.args.self.now.trial.ports was.found was.trial.ports point

-- the point that is kept
module _ (old : Worker) (j p hash : ℕ) (saved : PortsView) where
  abbrev pub new_point : FoundPoint
  new_point = record { before = j; partition = p; hash = hash; saved = saved }

  -- the orders that are known with it
  pub pushed : (items : List FoundPoint) → items ≡ old.found.items ++ new_point ∷ []
      → old.base.value ++ map (order_found old) items ≡ orders_known old ++ (order_given old j ++ p ∷ []) ∷ []
  pushed items is = known_push old.base.value (order_found old) old.found.items items new_point is

pub returns-clause-valid : goal.returns-clause-valid
returns-clause-valid c =
    let config = c.args.shared.now.config.now in
    let scripts = c.args.shared.now.scripts.now in
    let was = c.requires.valid in
    let old = c.args.self.now in
    let order = order_given old c.args.j in
    let longer = order ++ c.args.p ∷ [] in
    let ports = old.trial.ports in
    let saved = c.in_ok-saved.saved in
    let is_saved : saved ≡ ports = c.in_ok-saved.ensures in
    let hash = c.hash_of-hash.result in
    let one = new_point old c.args.j c.args.p hash saved in
    let hashed : hash ≡ hash_of config saved.history = c.hash_of-hash.ensures ∙ (λ i. hash_of (was.trial.ports i) (sym is_saved i).history) in
    let configured : saved.config ≡ config = ap (λ (v : PortsView). v.config) is_saved ∙ was.trial.ports in
    let leads : saved.history ≡ history_of config scripts longer = ap (λ (v : PortsView). v.history) is_saved ∙ c.requires.history in
    let items : c.push_back.new.self.items ≡ old.found.items ++ one ∷ [] = c.in_ok-push_back.ensures.items in
    let more = pushed old c.args.j c.args.p hash saved c.push_back.new.self.items items in
    let is_order : IsOrder config longer =
    longer_is_order config scripts order c.args.p (was.orders (old.first + c.args.j) order (given_known config scripts old c.args.j was.given c.requires.within)) c.requires.partition in
    let mine : IsFoundBy config scripts old one = record { before = c.requires.within; partition = c.requires.partition; hash = hashed; after = record { configured = configured; history = leads }; made = ap (λ (v : PortsView). calls_made config v.history) is_saved ∙ c.requires.made } in
    record {
      all = was.all;
      trial = record { ports = ap (λ (v : PortsView). v.config) c.has_found.ensures.ports ∙ was.trial.ports; other = c.has_found.ensures.other ∙ was.trial.other };
      given = record { within = was.given.within; room = was.given.room; each = was.given.each };
      found = λ other has.
          let is = found_push config scripts old old.found.items one other was.found mine (subst (λ (points : List FoundPoint). Has points other) items has) in
          record { before = is.before; partition = is.partition; hash = is.hash; after = is.after; made = is.made };
      hashed = subst (λ (x : List FoundPoint × List ℕ). AreHashed config x.0 x.1) (λ i. (sym items i, sym c.in_ok-push.ensures i)) (hashes_push config old.found.items old.hashes one hash was.hashed hashed configured);
      apart = subst (AreAllApart config) (sym items)
          (apart_push config old.found.items one ports was.apart (sym is_saved) was.trial.ports (λ (point : HasPoint old.found.items ports). absurd (let is = c.has_found.ensures.found.1 point in let no = c.if-has_found.false in cc)));
      orders = subst (AreOrders config) (sym more) (orders_push config scripts (orders_known old) longer was.orders is_order);
      clocked = subst (AreClocked c.args.shared.now.clock config scripts) (sym more)
          (clocked_push config scripts c.args.shared.now.clock (orders_known old) longer was.clocked (subst (IsClocked c.args.shared.now.clock scripts) c.requires.history c.requires.clocked));
      replies = was.replies;
    }

pub returns-clause-later : goal.returns-clause-later
returns-clause-later c =
    let old = c.args.self.now in
    let more = pushed old c.args.j c.args.p c.hash_of-hash.result c.in_ok-saved.saved c.push_back.new.self.items c.in_ok-push_back.ensures.items in
    record {
      base = refl;
      first = refl;
      given = refl;
      orders = subst (Keeps (orders_known old)) (sym more) (keeps_push c.args.shared.now.config.now c.args.shared.now.scripts.now (orders_known old) (order_given old c.args.j ++ c.args.p ∷ []));
      replies = λ x has. has;
    }

pub returns-clause-known : goal.returns-clause-known
returns-clause-known c =
    let config = c.args.shared.now.config.now in
    let scripts = c.args.shared.now.scripts.now in
    let old = c.args.self.now in
    let h = old.trial.ports.history in
    let more = pushed old c.args.j c.args.p c.hash_of-hash.result c.in_ok-saved.saved c.push_back.new.self.items c.in_ok-push_back.ensures.items in
    subst (λ (all : List (List ℕ)). Knows config scripts all h) (sym more) (knows_push config scripts (orders_known old) (order_given old c.args.j ++ c.args.p ∷ []) h c.requires.history)
