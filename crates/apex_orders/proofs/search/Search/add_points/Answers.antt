use Rattle.apex_orders.proofs.Common.{◌≡◌, ◌⊎◌, Bool, true, false, zero, get_or, slice_get-get_or, slice_get_within, IsSamePoint, KnowsFrom, slice_get, ◌^◌, inl, inr, ⊎_elim, ◌+◌, ◌<◌, ◌++◌, ◌∷◌, [], List, ℕ, suc, Option, Some, None, length, drop, map, option_to_list, refl, sym, ap, ◌∙◌, subst, arith, Configuration, History, FoundPoint, Worker, Scripts, Has, Keeps, Knows, IsAfter, IsClocked, IsFoundBy, IsWorker, history_of, order_at, order_found, orders_known}
use Rattle.apex_orders.proofs.Following.{same_self}
use Rattle.apex_orders.proofs.Lists.{before_or_last}
use Rattle.apex_orders.specs.Marks.{IsFoundOrder}
use Rattle.apex_orders.proofs.GrowthLemmas.{order_kept, still_within}
use Rattle.apex_orders.proofs.Having.{first_or_rest, has_behind, has_mapped, has_none, has_rest}
use Rattle.apex_orders.proofs.SearchLemmas.{includes_along, keeps_along, knows_kept}
use Rattle.apex_orders.proofs.WorkerLemmas.{known_cases}
use Rattle.apex_orders.proofs.search.Search.add_points.Goals as goal

-- nothing is in a queue from which nothing can be taken
none_left : {X : Type 0} (taken : Option X) (items rest : List X) → ((x : X) → taken ≡ Some x → ⊥) → items ≡ option_to_list taken ++ rest → rest ≡ drop 1 items → (x : X) → Has items x → ⊥
none_left None [] rest never is behind x has = has_none x has
none_left {X} None (y ∷ ys) rest never is behind x has =
    let same : y ∷ ys ≡ ys = is ∙ behind in
    let longer = ap (λ (xs : List X). length xs) same in
    absurd (omega (arith, longer))
none_left (Some z) items rest never is behind x has = absurd (never z refl)

-- the next of the items
next_of : {X : Type 0} (xs : List X) (n : ℕ) (x : X) (ys : List X) → drop n xs ≡ x ∷ ys → (slice_get xs n ≡ Some x) × (drop (suc n) xs ≡ ys)
next_of [] zero x ys is = absurd (cc)
next_of [] (suc n) x ys is = absurd (cc)
next_of {X} (z ∷ zs) zero x ys is =
    let first : z ≡ x = cc in
    let rest : zs ≡ ys = cc in
    (ap Some first, rest)
next_of (z ∷ zs) (suc n) x ys is = next_of zs n x ys is

-- the first of the points that are left
module _ (clock : Bool) (config : Configuration) (scripts : Scripts) (old : Worker) (one : FoundPoint) (items rest : List FoundPoint) (orders : List (List ℕ)) (first : ℕ)
    (worker : IsWorker clock config scripts old) (popped : items ≡ one ∷ rest) (left : (x : FoundPoint) → Has items x → Has old.found.items x) (keeps : Keeps old.base.value orders) (same : first ≡ old.first) where
  pub here : Has old.found.items one
  here = left one (subst (λ (xs : List FoundPoint). Has xs one) (sym popped) (0, refl))

  pub mine : IsFoundBy config scripts old one
  mine = worker.found one here

  inside : old.first + one.before < length old.base.value
  inside = let within = worker.given.within in let before = mine.before in omega (arith, within, before)

  pub small : first + one.before < 2 ^ 64
  small = let room = worker.given.room in let less = inside in omega (arith, room, less, same)

  pub within_orders : first + one.before < length orders
  within_orders = let less = still_within old.base.value orders (old.first + one.before) keeps inside in omega (arith, less, same)

  pub after : IsAfter config scripts (order_at orders (first + one.before) ++ one.partition ∷ []) one.saved
  after =
      subst (λ (order : List ℕ). IsAfter config scripts (order ++ one.partition ∷ []) one.saved)
      (sym (ap (λ (n : ℕ). order_at orders (n + one.before)) same ∙ order_kept old.base.value orders (old.first + one.before) keeps inside)) mine.after

  pub history_is : one.saved.history ≡ history_of config scripts (order_at orders (first + one.before) ++ one.partition ∷ [])
  history_is = after.history

  -- the order to it is the one that the worker found
  pub longer_is : order_at orders (first + one.before) ++ one.partition ∷ [] ≡ order_found old one
  longer_is = ap (λ (order : List ℕ). order ++ one.partition ∷ []) (ap (λ (n : ℕ). order_at orders (n + one.before)) same ∙ order_kept old.base.value orders (old.first + one.before) keeps inside)

  pub clocked : IsClocked clock scripts one.saved.history
  clocked =
      let known : Has (orders_known old) (order_found old one) = has_behind old.base.value (map (order_found old) old.found.items) (order_found old one) (has_mapped (order_found old) old.found.items one here) in
      subst (IsClocked clock scripts) (sym mine.after.history) (worker.clocked known.0 (order_found old one) known.1)

pub overflow_add-i : goal.overflow_add-i
overflow_add-i c =
    let was = c.loop-one.invariant in
    let few = small c.args.clock c.args.config.now c.args.scripts.now c.args.worker.now c.in-Some.one c.loop-one.worker.found.items c.pop_front.new.self.items c.loop-one.self.orders c.loop-one.worker.first
    c.requires.worker c.in-Some.ensures.items was.left (keeps_along c.args.worker.now.base.value c.args.self.now.orders c.loop-one.self.orders c.requires.base was.later.orders) was.index in
    omega (arith, few)

pub learn-requires-clause-within : goal.learn-requires-clause-within
learn-requires-clause-within c =
    let was = c.loop-one.invariant in
    within_orders c.args.clock c.args.config.now c.args.scripts.now c.args.worker.now c.in-Some.one c.loop-one.worker.found.items c.pop_front.new.self.items c.loop-one.self.orders c.loop-one.worker.first
    c.requires.worker c.in-Some.ensures.items was.left (keeps_along c.args.worker.now.base.value c.args.self.now.orders c.loop-one.self.orders c.requires.base was.later.orders) was.index

pub learn-requires-clause-partition : goal.learn-requires-clause-partition
learn-requires-clause-partition c =
    let was = c.loop-one.invariant in
    (mine c.args.clock c.args.config.now c.args.scripts.now c.args.worker.now c.in-Some.one c.loop-one.worker.found.items c.pop_front.new.self.items c.loop-one.self.orders c.loop-one.worker.first
    c.requires.worker c.in-Some.ensures.items was.left (keeps_along c.args.worker.now.base.value c.args.self.now.orders c.loop-one.self.orders c.requires.base was.later.orders) was.index).partition

pub learn-requires-clause-after : goal.learn-requires-clause-after
learn-requires-clause-after c =
    let was = c.loop-one.invariant in
    after c.args.clock c.args.config.now c.args.scripts.now c.args.worker.now c.in-Some.one c.loop-one.worker.found.items c.pop_front.new.self.items c.loop-one.self.orders c.loop-one.worker.first
    c.requires.worker c.in-Some.ensures.items was.left (keeps_along c.args.worker.now.base.value c.args.self.now.orders c.loop-one.self.orders c.requires.base was.later.orders) was.index

pub learn-requires-clause-clocked : goal.learn-requires-clause-clocked
learn-requires-clause-clocked c =
    let was = c.loop-one.invariant in
    clocked c.args.clock c.args.config.now c.args.scripts.now c.args.worker.now c.in-Some.one c.loop-one.worker.found.items c.pop_front.new.self.items c.loop-one.self.orders c.loop-one.worker.first
    c.requires.worker c.in-Some.ensures.items was.left (keeps_along c.args.worker.now.base.value c.args.self.now.orders c.loop-one.self.orders c.requires.base was.later.orders) was.index

pub learn-requires-clause-made : goal.learn-requires-clause-made
learn-requires-clause-made c =
    let was = c.loop-one.invariant in
    let old = c.args.worker.now in
    let own = mine c.args.clock c.args.config.now c.args.scripts.now old c.in-Some.one c.loop-one.worker.found.items c.pop_front.new.self.items c.loop-one.self.orders c.loop-one.worker.first
    c.requires.worker c.in-Some.ensures.items was.left (keeps_along old.base.value c.args.self.now.orders c.loop-one.self.orders c.requires.base was.later.orders) was.index in
    own.made ∙ ap suc (c.requires.made c.in-Some.one.before own.before ∙ sym was.level.calls)

-- a point that is new stays so after one more that differs
still_new : (config : Configuration) (scripts : Scripts) (old new : List (List ℕ)) (order : List ℕ) (from to : ℕ) → to ≡ from → (h g : History) → (mark : Bool) → (mark ≡ true → new ≡ old) → (mark ≡ false → new ≡ old ++ order ∷ [])
    → h ≡ history_of config scripts order → ¬ IsSamePoint config g h → ¬ KnowsFrom config scripts old from g → ¬ KnowsFrom config scripts new to g
still_new config scripts old new order from to level h g true same pushed leads apart none known =
    none (record { index = known.index; past = let past = known.past in omega (arith, past, level); order = known.order; here = ap (λ (orders : List (List ℕ)). slice_get orders known.index) (sym (same refl)) ∙ known.here; same = known.same })
still_new config scripts old new order from to level h g false same pushed leads apart none known =
    ⊎_elim
    (λ (before : slice_get old known.index ≡ Some known.order). none (record { index = known.index; past = let past = known.past in omega (arith, past, level); order = known.order; here = before; same = known.same }))
    (λ (last : (known.index ≡ length old) × (order ≡ known.order)).
    apart (subst (λ (x : History). IsSamePoint config g x) (ap (history_of config scripts) (sym last.1) ∙ sym leads) known.same))
    (before_or_last old order known.index known.order (ap (λ (orders : List (List ℕ)). slice_get orders known.index) (sym (pushed refl)) ∙ known.here))

-- each order was known before, or is that to a point that the worker found
from_of : (old new : List (List ℕ)) (longer : List ℕ) (start : List (List ℕ)) (worker : Worker) (one : FoundPoint) (order : List ℕ) → (mark : Bool) → (mark ≡ true → new ≡ old) → (mark ≡ false → new ≡ old ++ longer ∷ [])
    → Has worker.found.items one → longer ≡ order_found worker one → ((o : List ℕ) → Has old o → Has start o ⊎ IsFoundOrder worker o) → Has new order → Has start order ⊎ IsFoundOrder worker order
from_of old new longer start worker one order true same pushed has_one is was has = was order (subst (λ (orders : List (List ℕ)). Has orders order) (same refl) has)
from_of old new longer start worker one order false same pushed has_one is was has =
    ⊎_elim
    (λ (before : slice_get old has.0 ≡ Some order). was order (has.0, before))
    (λ (last : (has.0 ≡ length old) × (longer ≡ order)). inr (record { one = one; here = has_one; is = sym last.1 ∙ is }))
    (before_or_last old longer has.0 order (ap (λ (orders : List (List ℕ)). slice_get orders has.0) (sym (pushed refl)) ∙ has.1))

pub loop-one-preserved : goal.loop-one-preserved
loop-one-preserved c =
    let config = c.args.config.now in
    let scripts = c.args.scripts.now in
    let was = c.loop-one.invariant in
    let now = c.in_ok-unused.ensures in
    let mark = get_or c.args.known.now c.loop-one.at false in
    let start = c.args.self.now in
    let before = c.loop-one.self in
    let after = c.learn.new.self in
    let old = c.args.worker.now in
    let one = c.in-Some.one in
    let items = c.loop-one.worker.found.items in
    let rest = c.pop_front.new.self.items in
    let popped : items ≡ one ∷ rest = c.in-Some.ensures.items in
    let IsKnown : FoundPoint → Type 0 = λ x. Knows config scripts after.orders (history_of config scripts (order_found old x)) in
    let own = mine c.args.clock config scripts old one items rest before.orders c.loop-one.worker.first c.requires.worker popped was.left (keeps_along old.base.value start.orders before.orders c.requires.base was.later.orders) was.index in
    record {
      valid = now.valid;
      later = record {
        orders = keeps_along start.orders before.orders after.orders was.later.orders now.later.orders;
        replies = includes_along start.replies before.replies after.replies was.later.replies now.later.replies;
      };
      level = record { first = now.level.first ∙ was.level.first; next = now.level.next ∙ was.level.next; calls = now.level.calls ∙ was.level.calls };
      index = was.index;
      trial = was.trial;
      left = λ x has. was.left x (subst (λ (xs : List FoundPoint). Has xs x) (sym popped) (has_rest one rest x has));
      known = λ x has.
          ⊎_elim
          (λ (waits : Has items x).
          ⊎_elim
          (λ (now_known : one ≡ x). inr (subst IsKnown now_known (subst (λ (h : History). Knows config scripts after.orders h) own.after.history now.known)))
          (λ (later : Has rest x). inl later)
          (first_or_rest one rest x (subst (λ (xs : List FoundPoint). Has xs x) popped waits)))
          (λ (known : Knows config scripts before.orders (history_of config scripts (order_found old x))).
          inr (knows_kept config scripts before.orders after.orders (history_of config scripts (order_found old x)) now.later.orders known))
          (was.known x has);
      rest =
          let next : c.loop-one.at + 1 ≡ suc c.loop-one.at = omega arith in
          ap (λ (n : ℕ). drop n old.found.items) next ∙ (next_of old.found.items c.loop-one.at one rest (was.rest ∙ popped)).1;
      new = λ j other past at marked.
          still_new config scripts before.orders after.orders (order_at before.orders (c.loop-one.worker.first + one.before) ++ one.partition ∷ []) before.points.next after.points.next now.level.next one.saved.history other.saved.history
          mark now.same now.pushed
          (history_is c.args.clock config scripts old one items rest before.orders c.loop-one.worker.first c.requires.worker popped was.left (keeps_along old.base.value start.orders before.orders c.requires.base was.later.orders) was.index)
          (c.requires.worker.apart c.loop-one.at j one other (omega (arith, past)) (next_of old.found.items c.loop-one.at one rest (was.rest ∙ popped)).0 at)
          (was.new j other (omega (arith, past)) at marked);
      from = λ order has.
          from_of before.orders after.orders (order_at before.orders (c.loop-one.worker.first + one.before) ++ one.partition ∷ []) start.orders old one order mark now.same now.pushed
          (here c.args.clock config scripts old one items rest before.orders c.loop-one.worker.first c.requires.worker popped was.left (keeps_along old.base.value start.orders before.orders c.requires.base was.later.orders) was.index)
          (longer_is c.args.clock config scripts old one items rest before.orders c.loop-one.worker.first c.requires.worker popped was.left (keeps_along old.base.value start.orders before.orders c.requires.base was.later.orders) was.index)
          was.from has;
    }

pub returns-clause-points : goal.returns-clause-points
returns-clause-points c order has =
    let config = c.args.config.now in
    let scripts = c.args.scripts.now in
    let was = c.loop-one.invariant in
    let old = c.args.worker.now in
    let orders = c.loop-one.self.orders in
    let keeps = keeps_along old.base.value c.args.self.now.orders orders c.requires.base was.later.orders in
    known_cases config scripts old (λ (o : List ℕ). Knows config scripts orders (history_of config scripts o))
    (λ o there. record { order = o; here = (there.0, keeps there.0 o there.1); same = same_self config (history_of config scripts o) })
    (λ one there.
    ⊎_elim
    (λ (waits : Has c.loop-one.worker.found.items one).
    absurd (none_left c.pop_front.result c.loop-one.worker.found.items c.pop_front.new.self.items c.in_default.not-Some c.pop_front.ensures.items c.pop_front.ensures.rest one waits))
    (λ (known : Knows config scripts orders (history_of config scripts (order_found old one))). known)
    (was.known one there))
    order has

-- the mark of the next point
module _ (found rest : List FoundPoint) (marks : List Bool) (at : ℕ) (one : FoundPoint) (count : length marks ≡ length found) (left : drop at found ≡ one ∷ rest) where
  pub one_here : slice_get found at ≡ Some one
  one_here = (next_of found at one rest left).0

  pub marked_so : (mark : Bool) → get_or marks at false ≡ mark → slice_get marks at ≡ Some mark
  marked_so mark is = let inside = slice_get_within found at one one_here in slice_get-get_or marks at false (omega (arith, inside, count)) ∙ ap Some is

pub learn-requires-clause-known : goal.learn-requires-clause-known
learn-requires-clause-known c marked =
    let was = c.loop-one.invariant in
    let found = c.args.worker.now.found.items in
    let rest = c.pop_front.new.self.items in
    let marks = c.requires.marks in
    let left = was.rest ∙ c.in-Some.ensures.items in
    knows_kept c.args.config.now c.args.scripts.now c.args.self.now.orders c.loop-one.self.orders c.in-Some.one.saved.history was.later.orders
    (marks.known c.loop-one.at c.in-Some.one (one_here found rest c.args.known.now c.loop-one.at c.in-Some.one marks.count left)
    (marked_so found rest c.args.known.now c.loop-one.at c.in-Some.one marks.count left true marked))

pub learn-requires-clause-new : goal.learn-requires-clause-new
learn-requires-clause-new c unmarked =
    let was = c.loop-one.invariant in
    let found = c.args.worker.now.found.items in
    let rest = c.pop_front.new.self.items in
    let marks = c.requires.marks in
    let left = was.rest ∙ c.in-Some.ensures.items in
    was.new c.loop-one.at c.in-Some.one (omega arith) (one_here found rest c.args.known.now c.loop-one.at c.in-Some.one marks.count left)
    (marked_so found rest c.args.known.now c.loop-one.at c.in-Some.one marks.count left false unmarked)

pub loop-one-init : goal.loop-one-init
loop-one-init c = record {
  valid = c.requires.valid;
  later = record { orders = λ k x at. at; replies = λ x has. has };
  level = record { first = refl; next = refl; calls = refl };
  index = refl;
  trial = c.requires.worker.trial;
  left = λ x has. has;
  rest = refl;
  known = λ one has. inl has;
  new = λ j one past at marked. c.requires.marks.new j one at marked;
  from = λ order has. inl has;
}

pub returns-clause-new : goal.returns-clause-new
returns-clause-new c = c.loop-one.invariant.from
