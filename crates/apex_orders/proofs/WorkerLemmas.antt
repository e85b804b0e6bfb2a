-- What a worker is given, finds and knows.
use Rattle.apex_orders.proofs.Common.{◌≡◌, ⊎_elim, ℕ, ◌+◌, ◌<◌, ◌≤◌, Bool, List, [], ◌∷◌, ◌++◌, length, map, Ok, Err, Result, OnOk, Some, false, refl, append-nil, sym, ap, ◌∙◌, subst, arith, append_assoc, map-append, length-append, slice_get, slice_get_within, Configuration, History, PortsView, PossibleReply, FoundPoint, Worker, Scripts, Has, IsSamePoint, hash_of, history_of, order_at, Keeps, Includes, Knows, HasTriedEnough}
use Rattle.apex_orders.proofs.Common.{AreAllApart, AreClocked, AreFound, AreGiven, AreHashed, AreOrders, HasContinued, HasLeft, HasPoint, IsFoundBy, IsLaterWorker, IsTrialOf, IsWorker, order_given, order_found, orders_known, reach}
use Rattle.std.specs.Result.{is_err}
use Rattle.apex_orders.proofs.Following.{same_along}
use Rattle.apex_orders.proofs.GrowthLemmas.{order_here}
use Rattle.apex_orders.proofs.Having.{has_before, has_behind, has_either, has_mapped, has_none, of_mapped}
use Rattle.apex_orders.proofs.Lists.{at_seam, before_or_last, stays_before}
use Rattle.apex_orders.proofs.SearchLemmas.{includes_along, keeps_along, knows_kept, none_found, tried_kept}

-- ---- one more point

pub hashes_push : (config : Configuration) (found : List FoundPoint) (hashes : List ℕ) (one : FoundPoint) (hash : ℕ) → AreHashed config found hashes
    → hash ≡ hash_of config one.saved.history → one.saved.config ≡ config → AreHashed config (found ++ one ∷ []) (hashes ++ hash ∷ [])
hashes_push config found hashes one hash are is configured = record {
  count = let count = are.count in omega (arith, count, length-append hashes (hash ∷ []), length-append found (one ∷ []));
  each = λ k other at.
      ⊎_elim
      (λ (before : slice_get found k ≡ Some other). stays_before hashes (hash ∷ []) k (hash_of config other.saved.history) (are.each k other before))
      (λ (last : (k ≡ length found) × (one ≡ other)).
      ap (λ (n : ℕ). slice_get (hashes ++ hash ∷ []) n) (last.0 ∙ sym are.count)
      ∙ (at_seam hashes hash [] ∙ ap Some (is ∙ ap (λ (o : FoundPoint). hash_of config o.saved.history) last.1)))
      (before_or_last found one k other at);
  configured = λ k other at.
      ⊎_elim
      (λ (before : slice_get found k ≡ Some other). are.configured k other before)
      (λ (last : (k ≡ length found) × (one ≡ other)). subst (λ (o : FoundPoint). o.saved.config ≡ config) last.1 configured)
      (before_or_last found one k other at);
}

-- a point that is none of those before
pub apart_push : (config : Configuration) (found : List FoundPoint) (one : FoundPoint) (ports : PortsView) → AreAllApart config found → ports ≡ one.saved → ports.config ≡ config
    → ¬ HasPoint found ports → AreAllApart config (found ++ one ∷ [])
apart_push config found one ports are saved configured none j k first other below at also =
    ⊎_elim
    (λ (before : slice_get found k ≡ Some other).
    let inside = slice_get_within found k other before in
    are j k first other below (⊎_elim
    (λ (was : slice_get found j ≡ Some first). was)
    (λ (last : (j ≡ length found) × (one ≡ first)). absurd (let here = last.0 in omega (arith, inside, below, here)))
    (before_or_last found one j first at)) before)
    (λ (last : (k ≡ length found) × (one ≡ other)).
    ⊎_elim
    (λ (was : slice_get found j ≡ Some first).
    λ (same : IsSamePoint config other.saved.history first.saved.history).
    none (record {
      one = first;
      here = (j, was);
      same = subst (λ (x : Configuration × PortsView). IsSamePoint x.0 x.1.history first.saved.history) (λ i. (sym configured i, (sym saved i)))
          (subst (λ (o : FoundPoint). IsSamePoint config o.saved.history first.saved.history) (sym last.1) same);
    }))
    (λ (both : (j ≡ length found) × (one ≡ first)). absurd (let here = both.0 in let there = last.0 in omega (arith, below, here, there)))
    (before_or_last found one j first at))
    (before_or_last found one k other also)

pub known_push : (base : List (List ℕ)) (f : FoundPoint → List ℕ) (found new : List FoundPoint) (one : FoundPoint) → new ≡ found ++ one ∷ []
    → base ++ map f new ≡ (base ++ map f found) ++ f one ∷ []
known_push base f found new one is =
    ap (λ (points : List FoundPoint). base ++ map f points) is
    ∙ (ap (λ (orders : List (List ℕ)). base ++ orders) (map-append f found (one ∷ [])) ∙ sym (append_assoc base (map f found) (f one ∷ [])))

pub found_push : (config : Configuration) (scripts : Scripts) (worker : Worker) (found : List FoundPoint) (one other : FoundPoint) → ((o : FoundPoint) → Has found o → IsFoundBy config scripts worker o)
    → IsFoundBy config scripts worker one → Has (found ++ one ∷ []) other → IsFoundBy config scripts worker other
found_push config scripts worker found one other each is has =
    ⊎_elim
    (λ (before : slice_get found has.0 ≡ Some other). each other (has.0, before))
    (λ (last : (has.0 ≡ length found) × (one ≡ other)). subst (IsFoundBy config scripts worker) last.1 is)
    (before_or_last found one has.0 other has.1)

module _ (config : Configuration) (scripts : Scripts) where
  -- ---- its own points

  -- the order to a point that was given is known
  pub given_known : (worker : Worker) (j : ℕ) → AreGiven config scripts worker → j < length worker.given.value.items
      → slice_get (orders_known worker) (worker.first + j) ≡ Some (order_given worker j)
  given_known worker j given within =
      let base = worker.base.value in
      let all = given.within in
      stays_before base (map (order_found worker) worker.found.items) (worker.first + j) (order_given worker j) (order_here base (worker.first + j) (omega (arith, within, all)))

  -- a point that was found is known
  pub point_known : (worker : Worker) (ports : PortsView) → ((o : FoundPoint) → Has worker.found.items o → IsFoundBy config scripts worker o) → ports.config ≡ config
      → HasPoint worker.found.items ports → Knows config scripts (orders_known worker) ports.history
  point_known worker ports each configured point = record {
    order = order_found worker point.one;
    here = has_behind worker.base.value (map (order_found worker) worker.found.items) (order_found worker point.one) (has_mapped (order_found worker) worker.found.items point.one point.here);
    same = subst (λ (x : Configuration × History). IsSamePoint x.0 ports.history x.1) (λ i. (configured i, (each point.one point.here).after.history i)) point.same;
  }

  -- and so is a point that the search knew
  pub known_to_search : (orders : List (List ℕ)) (worker : Worker) (h : History) → Keeps orders worker.base.value → Knows config scripts orders h → Knows config scripts (orders_known worker) h
  known_to_search orders worker h keeps known =
      knows_kept config scripts orders (orders_known worker) h (λ k order at. stays_before worker.base.value (map (order_found worker) worker.found.items) k order (keeps k order at)) known

  pub later_along : (a b c : Worker) → IsLaterWorker a b → IsLaterWorker b c → IsLaterWorker a c
  later_along a b c one two = record {
    base = two.base ∙ one.base;
    first = two.first ∙ one.first;
    given = two.given ∙ one.given;
    orders = keeps_along (orders_known a) (orders_known b) (orders_known c) one.orders two.orders;
    replies = includes_along a.replies b.replies c.replies one.replies two.replies;
  }

  pub same_given : (old new : Worker) (j : ℕ) → IsLaterWorker old new → order_given new j ≡ order_given old j
  same_given old new j later = λ i. order_at (later.base i) (later.first i + j)

  -- what was tried stays tried
  pub enough_kept : (clock : Bool) (old new : List (List ℕ)) (replies more : List PossibleReply) (order : List ℕ) → Keeps old new → Includes replies more
      → HasTriedEnough clock config scripts old replies order → HasTriedEnough clock config scripts new more order
  enough_kept clock old new replies more order keeps includes was = record {
    tried = was.tried;
    enough = was.enough;
    each = λ p within own. tried_kept config scripts old new replies more order p keeps includes (was.each p within own);
  }

  -- enough was tried, also if more replies were known
  pub continued_with_more : (clock : Bool) (known more : List PossibleReply) (worker : Worker) → Includes known more → HasContinued clock config scripts known worker → HasContinued clock config scripts more worker
  continued_with_more clock known more worker includes continued j within =
      let own = worker.replies in
      enough_kept clock (orders_known worker) (orders_known worker) (known ++ own) (more ++ own) (order_given worker j) (λ k x at. at)
      (λ one has.
      ⊎_elim
      (λ (before : Has known one). has_before more own one (includes one before))
      (λ (found : Has own one). has_behind more own one found)
      (has_either known own one has))
      (continued j within)

  -- ---- what others know of it

  pub knows_along : (known new : List (List ℕ)) (h : History) → ((order : List ℕ) → Has known order → Knows config scripts new (history_of config scripts order))
      → Knows config scripts known h → Knows config scripts new h
  knows_along known new h all one =
      let two = all one.order one.here in
      record { order = two.order; here = two.here; same = same_along config h (history_of config scripts one.order) (history_of config scripts two.order) one.same two.same }

  -- what was tried is tried for all who know the points and the replies
  pub tried_along : (clock : Bool) (known new : List (List ℕ)) (replies more : List PossibleReply) (order : List ℕ) → ((o : List ℕ) → Has known o → Knows config scripts new (history_of config scripts o))
      → Includes replies more → HasTriedEnough clock config scripts known replies order → HasTriedEnough clock config scripts new more order
  tried_along clock known new replies more order all includes was = record {
    tried = was.tried;
    enough = was.enough;
    each = λ p within own.
        let one = was.each p within own in
        record { point = knows_along known new (history_of config scripts (order ++ p ∷ [])) all one.point; reply = λ r makes. includes r (one.reply r makes) };
  }

  -- each order that a worker knows is one of those before, or one to a point that it found
  pub known_cases : (worker : Worker) (Is : List ℕ → Type 0) → ((order : List ℕ) → Has worker.base.value order → Is order)
      → ((one : FoundPoint) → Has worker.found.items one → Is (order_found worker one)) → (order : List ℕ) → Has (orders_known worker) order → Is order
  known_cases worker Is before found order has =
      ⊎_elim
      (λ (old : Has worker.base.value order). before order old)
      (λ (new : Has (map (order_found worker) worker.found.items) order).
      let from = of_mapped (order_found worker) worker.found.items order new in
      subst Is from.2 (found from.0 from.1))
      (has_either worker.base.value (map (order_found worker) worker.found.items) order has)

pub keeps_same : (old new : List (List ℕ)) → new ≡ old → Keeps old new
keeps_same old new same = subst (λ (orders : List (List ℕ)). Keeps old orders) (sym same) (λ k x at. at)

-- what more replies include, they include with others in front
pub includes_behind : (known old new : List PossibleReply) → Includes old new → Includes (known ++ old) (known ++ new)
includes_behind known old new includes one has =
    ⊎_elim
    (λ (before : Has known one). has_before known new one before)
    (λ (found : Has old one). has_behind known new one (includes one found))
    (has_either known old one has)

-- ---- what it is given

-- a worker that has found nothing knows the orders that the search had found
none_known : (worker : Worker) (orders : List (List ℕ)) → worker.base.value ≡ orders → worker.found.items ≡ [] → orders_known worker ≡ orders
none_known worker orders base none =
    ap (λ (items : List FoundPoint). worker.base.value ++ map (order_found worker) items) none ∙ (append-nil worker.base.value ∙ base)

-- a worker that has yet to begin
pub has_begun : (clock : Bool) (config : Configuration) (scripts : Scripts) (worker : Worker) (orders : List (List ℕ)) → length scripts ≡ length config.partitions → IsTrialOf config worker.trial
    → AreGiven config scripts worker → worker.base.value ≡ orders → worker.found.items ≡ [] → worker.hashes ≡ [] → worker.replies ≡ []
    → AreOrders config orders → AreClocked clock config scripts orders → IsWorker clock config scripts worker
has_begun clock config scripts worker orders all trial given base found unhashed replies are clocked =
    let known = none_known worker orders base found in
    record {
      all = all;
      trial = trial;
      given = given;
      found = λ one has. absurd (has_none one (subst (λ (points : List FoundPoint). Has points one) found has));
      hashed = subst (λ (x : List FoundPoint × List ℕ). AreHashed config x.0 x.1) (λ i. (sym found i, sym unhashed i)) (record { count = refl; each = λ k one at. absurd (cc); configured = λ k one at. absurd (cc) });
      apart = subst (AreAllApart config) (sym found) (λ j k one other below at also. absurd (cc));
      orders = subst (AreOrders config) (sym known) are;
      clocked = subst (AreClocked clock config scripts) (sym known) clocked;
      replies = subst (AreFound clock config scripts) (sym replies) (none_found config scripts clock);
    }

-- its own points are some of those that it was given
pub reach_within : (worker : Worker) → HasLeft worker → reach worker ≤ length worker.given.value.items
reach_within worker left =
    let all = ap (λ (points : List PortsView). length points) left.all in
    let count = left.count in
    omega (arith, all, count, length-append left.done (worker.points.items ++ left.away), length-append worker.points.items left.away)

-- ---- results

pub on_ok : {X E : Type 0} (r : Result X E) (P Q : Type 0) → (P → Q) → OnOk r P → OnOk r Q
on_ok (Ok x) P Q f is = f is
on_ok (Err e) P Q f is = tt

pub all_on_ok : {X E : Type 0} (r : Result X E) (P Q R S T U V : Type 0) → (P → Q → R → S → T → U → V)
    → OnOk r P → OnOk r Q → OnOk r R → OnOk r S → OnOk r T → OnOk r U → OnOk r V
all_on_ok (Ok x) P Q R S T U V f one two three four five six = f one two three four five six
all_on_ok (Err e) P Q R S T U V f one two three four five six = tt

pub when_ok : {X E : Type 0} (r : Result X E) (P : Type 0) → is_err r ≡ false → OnOk r P → P
when_ok (Ok x) P ok is = is
when_ok (Err e) P ok is = absurd (cc)
