use Rattle.apex_orders.proofs.Common.{◌≡◌, ◌++◌, ◌∷◌, [], ◌+◌, ⊎_elim, ℕ, List, Option, None, Some, append_assoc, length, length-append, option_to_list, slice_get, refl, sym, ap, ◌∙◌, subst, arith, cases_eq, PortsView, IsContinued, order_given, orders_known}
use Rattle.apex_orders.proofs.Lists.{at_seam}
use Rattle.apex_orders.proofs.WorkerLemmas.{enough_kept, includes_behind, later_along, same_given}
use Rattle.std.specs.Prelude.{IfNone}
use Rattle.std.proofs.lemmas.List.{nil_from_length}
use Rattle.apex_orders.proofs.worker.Worker.try_points.Goals as goal

-- nothing was taken
none_of : {X : Type 0} (taken : Option X) (items rest : List X) → ((x : X) → taken ≡ Some x → ⊥) → items ≡ option_to_list taken ++ rest → items ≡ rest
none_of None items rest never is = is
none_of (Some x) items rest never is = absurd (never x refl)

-- what holds if nothing was taken
if_none : {X : Type 0} (taken : Option X) (P : Type 0) → ((x : X) → taken ≡ Some x → ⊥) → IfNone taken P → P
if_none None P never is = is
if_none (Some x) P never is = absurd (never x refl)

pub loop-saved-init : goal.loop-saved-init
loop-saved-init c =
    let is = c.requires.valid in
    let left = c.requires.left in
    let same = c.replace-points.ensures.value in
    record {
      valid = record {
        all = is.all;
        trial = is.trial;
        given = record { within = is.given.within; room = is.given.room; each = is.given.each };
        found = λ one has. let own = is.found one has in record { before = own.before; partition = own.partition; hash = own.hash; after = own.after; made = own.made };
        hashed = is.hashed;
        apart = is.apart;
        orders = is.orders;
        clocked = is.clocked;
        replies = is.replies;
      };
      later = record { base = refl; first = refl; given = refl; orders = λ k x at. at; replies = λ x has. has };
      left = (left.done, (left.away, (left.count, left.all ∙ ap (λ (points : _). left.done ++ (points.items ++ left.away)) (sym same))));
      same = ap (λ (points : _). c.args.self.now.tried + length points.items) same;
      tried = c.requires.tried;
    }

-- the points that were given, with the next one
next_in : (given points done away rest : List PortsView) (one : PortsView) → given ≡ done ++ (points ++ away) → points ≡ one ∷ rest → given ≡ done ++ (one ∷ (rest ++ away))
next_in given points done away rest one all first = all ∙ ap (λ (items : List PortsView). done ++ (items ++ away)) first

pub try_point-requires-clause-given : goal.try_point-requires-clause-given
try_point-requires-clause-given c =
    let left = c.loop-saved.invariant.left in
    let one = c.in-Some.saved in
    let rest = c.next_of.new.points.items ++ left.1.0 in
    let all = next_in c.args.self.now.given.value.items c.loop-saved.points.items left.0 left.1.0 c.next_of.new.points.items one left.1.1.1 c.in-Some.ensures.taken in
    ap (λ (items : List PortsView). slice_get items c.loop-saved.tried) (c.loop-saved.invariant.later.given ∙ all)
    ∙ (ap (λ (k : ℕ). slice_get (left.0 ++ one ∷ rest) k) (sym left.1.1.0) ∙ at_seam left.0 one rest)

pub overflow_add-tried : goal.overflow_add-tried
overflow_add-tried c =
    let left = c.loop-saved.invariant.left in
    let one = c.in-Some.saved in
    let rest = c.next_of.new.points.items ++ left.1.0 in
    let count = left.1.1.0 in
    let all = ap (λ (items : List PortsView). length items)
    (c.loop-saved.invariant.later.given ∙ next_in c.args.self.now.given.value.items c.loop-saved.points.items left.0 left.1.0 c.next_of.new.points.items one left.1.1.1 c.in-Some.ensures.taken) in
    let within = c.loop-saved.invariant.valid.given.within in
    let room = c.loop-saved.invariant.valid.given.room in
    omega (arith, count, all, within, room, length-append left.0 (one ∷ rest))

pub loop-saved-preserved : goal.loop-saved-preserved
loop-saved-preserved c =
    let config = c.args.shared.now.config.now in
    let scripts = c.args.shared.now.scripts.now in
    let shared = c.args.shared.now in
    let known = shared.known.now in
    let start = c.args.self.now in
    let before = c.loop-saved.self in
    let after = c.try_point.new.self in
    let was = c.loop-saved.invariant in
    let now = c.in_ok-try_point.ensures in
    let last = c.loop-saved.tried in
    let left = was.left in
    let done = left.0 in
    let away = left.1.0 in
    record {
      valid =
          let is = now.valid in
          record {
            all = is.all;
            trial = is.trial;
            given = record { within = is.given.within; room = is.given.room; each = is.given.each };
            found = λ one has. let own = is.found one has in record { before = own.before; partition = own.partition; hash = own.hash; after = own.after; made = own.made };
            hashed = is.hashed;
            apart = is.apart;
            orders = is.orders;
            clocked = is.clocked;
            replies = is.replies;
          };
      later =
          let later = now.later in
          let all = later_along config scripts start before after was.later (record { base = later.base; first = later.first; given = later.given; orders = later.orders; replies = later.replies }) in
          record { base = all.base; first = all.first; given = all.given; orders = all.orders; replies = all.replies };
      left = (
        done ++ c.in-Some.saved ∷ [],
        (
          away,
          (
            let count = left.1.1.0 in omega (arith, count, length-append done (c.in-Some.saved ∷ [])),
            next_in start.given.value.items c.loop-saved.points.items done away c.next_of.new.points.items c.in-Some.saved left.1.1.1 c.in-Some.ensures.taken
                ∙ sym (append_assoc done (c.in-Some.saved ∷ []) (c.next_of.new.points.items ++ away)),
          ),
        ),
      );
      same = let same = was.same in let one = ap (λ (items : List PortsView). length items) c.in-Some.ensures.taken in omega (arith, same, one);
      tried = λ j below.
          ⊎_elim
          (λ (here : j ≡ last).
          subst (λ (n : ℕ). IsContinued shared after (order_given start n)) (sym here)
          (subst (IsContinued shared after) (same_given config scripts start before last was.later) now.tried))
          (λ (earlier : j ≡ last → ⊥).
          enough_kept config scripts shared.clock (orders_known before) (orders_known after) (known ++ before.replies) (known ++ after.replies) (order_given start j) now.later.orders
          (includes_behind known before.replies after.replies now.later.replies)
          (was.tried j (omega (arith, below, earlier))))
          (cases_eq j last);
    }

pub returns-clause-valid : goal.returns-clause-valid
returns-clause-valid c =
    let is = c.loop-saved.invariant.valid in
    record {
      all = is.all;
      trial = is.trial;
      given = record { within = is.given.within; room = is.given.room; each = is.given.each };
      found = λ one has. let own = is.found one has in record { before = own.before; partition = own.partition; hash = own.hash; after = own.after; made = own.made };
      hashed = is.hashed;
      apart = is.apart;
      orders = is.orders;
      clocked = is.clocked;
      replies = is.replies;
    }

pub returns-clause-later : goal.returns-clause-later
returns-clause-later c = let later = c.loop-saved.invariant.later in record { base = later.base; first = later.first; given = later.given; orders = later.orders; replies = later.replies }

pub returns-clause-left : goal.returns-clause-left
returns-clause-left c =
    let left = c.loop-saved.invariant.left in
    record {
      done = left.0;
      away = left.1.0;
      count = left.1.1.0;
      all = c.loop-saved.invariant.later.given ∙ (left.1.1.1 ∙ ap (λ (items : List PortsView). left.0 ++ (items ++ left.1.0)) (none_of c.next_of.result c.loop-saved.points.items c.next_of.new.points.items c.in_default.not-Some c.next_of.ensures.taken));
    }

pub returns-clause-tried : goal.returns-clause-tried
returns-clause-tried c j below =
    let config = c.args.shared.now.config.now in
    let scripts = c.args.shared.now.scripts.now in
    subst (IsContinued c.args.shared.now c.loop-saved.self) (sym (same_given config scripts c.args.self.now c.loop-saved.self j c.loop-saved.invariant.later)) (c.loop-saved.invariant.tried j below)

pub returns-clause-reach : goal.returns-clause-reach
returns-clause-reach c =
    let same = c.loop-saved.invariant.same in
    let count = ap (λ (items : List PortsView). length items) (none_of c.next_of.result c.loop-saved.points.items c.next_of.new.points.items c.in_default.not-Some c.next_of.ensures.taken) in
    omega (arith, same, count)

pub returns-clause-all : goal.returns-clause-all
returns-clause-all c stops few =
    let none = c.rest_after-rest.ensures few in
    let left = if_none c.next_of.result _ c.in_default.not-Some c.next_of.ensures.left stops in
    nil_from_length c.next_of.new.points.items (omega (arith, none, left))
