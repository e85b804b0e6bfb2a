-- The steps of a search.
use Rattle.apex_orders.proofs.Common.{◌≡◌, ◌⊎◌, ⊎_elim, ℕ, ◌<◌, Bool, List, [], ◌∷◌, ◌++◌, length, MatchOption, Option, None, Some, refl, sym, ap, ◌∙◌, subst, arith, append-nil, slice_get, slice_get_within, slice_get-get_or, Reply, Configuration, History, PortsView, Asked, PossibleReply, IsNextDue, IsClocked, IsAfter, Scripts, IsOrder, next_entries, history_of, IsSamePoint, Has, Knows, Keeps, Includes, AreOrders, AreApart, AreClocked}
use Rattle.apex_orders.proofs.Common.{IsUnansweredAt, IsTried, HasTried, IsFound, AreFound, MakesNothing, Makes}
use Rattle.apex_orders.proofs.ClockLemmas.{clocked_none}
use Rattle.apex_orders.proofs.Lists.{at_seam, stays_before, before_or_last}
use Rattle.apex_orders.proofs.Walks.{continued-append, none_ordered, joined, one_ordered}
use Rattle.apex_orders.proofs.Following.{same_self}

abbrev first_reply : Reply → History → Reply
first_reply reply [] = reply
first_reply reply (e ∷ es) = e.reply

module _ (config : Configuration) (scripts : Scripts) where
  -- ---- one more order

  pub orders_push : (orders : List (List ℕ)) (order : List ℕ) → AreOrders config orders → IsOrder config order → AreOrders config (orders ++ order ∷ [])
  orders_push orders order valid is k other at =
      ⊎_elim
      (λ (before : slice_get orders k ≡ Some other). valid k other before)
      (λ (last : (k ≡ length orders) × (order ≡ other)). subst (IsOrder config) last.1 is)
      (before_or_last orders order k other at)

  pub clocked_push : (clock : Bool) (orders : List (List ℕ)) (order : List ℕ) → AreClocked clock config scripts orders → IsClocked clock scripts (history_of config scripts order)
      → AreClocked clock config scripts (orders ++ order ∷ [])
  clocked_push clock orders order clocked is k other at =
      ⊎_elim
      (λ (before : slice_get orders k ≡ Some other). clocked k other before)
      (λ (last : (k ≡ length orders) × (order ≡ other)). subst (λ (o : List ℕ). IsClocked clock scripts (history_of config scripts o)) last.1 is)
      (before_or_last orders order k other at)

  pub longer_is_order : (order : List ℕ) (p : ℕ) → IsOrder config order → p < length config.partitions → IsOrder config (order ++ p ∷ [])
  longer_is_order order p is within = joined config scripts order (p ∷ []) is (one_ordered config scripts p within)

  pub keeps_push : (orders : List (List ℕ)) (order : List ℕ) → Keeps orders (orders ++ order ∷ [])
  keeps_push orders order k other at = stays_before orders (order ∷ []) k other at

  pub apart_push : (orders : List (List ℕ)) (order : List ℕ) (h : History) → h ≡ history_of config scripts order → AreApart config scripts orders
      → (Knows config scripts orders h → ⊥) → AreApart config scripts (orders ++ order ∷ [])
  apart_push orders order h is apart unknown j k one other below at at_too same =
      ⊎_elim
      (λ (before : slice_get orders k ≡ Some other).
      let within = slice_get_within orders k other before in
      ⊎_elim
      (λ (earlier : slice_get orders j ≡ Some one). apart j k one other below earlier before same)
      (λ (last : (j ≡ length orders) × (order ≡ one)). absurd (omega (arith, within, last.0)))
      (before_or_last orders order j one at))
      (λ (last : (k ≡ length orders) × (order ≡ other)).
      ⊎_elim
      (λ (earlier : slice_get orders j ≡ Some one). unknown (record {
        order = one;
        here = (j, earlier);
        same = subst (λ (g : History). IsSamePoint config g (history_of config scripts one)) (ap (history_of config scripts) (sym last.1) ∙ sym is) same;
      }))
      (λ (both : (j ≡ length orders) × (order ≡ one)). absurd (omega (arith, below, last.0, both.0)))
      (before_or_last orders order j one at))
      (before_or_last orders order k other at_too)

  pub knows_push : (orders : List (List ℕ)) (order : List ℕ) (h : History) → h ≡ history_of config scripts order → Knows config scripts (orders ++ order ∷ []) h
  knows_push orders order h is = record {
    order = order;
    here = (length orders, at_seam orders order []);
    same = subst (λ (g : History). IsSamePoint config h g) is (same_self config h);
  }

  -- ---- only the order without calls

  pub first_valid : AreOrders config ([] ∷ [])
  first_valid = orders_push [] [] (λ k order at. absurd (cc)) (none_ordered config scripts)

  pub first_clocked : (clock : Bool) → AreClocked clock config scripts ([] ∷ [])
  first_clocked clock = clocked_push clock [] [] (λ k order at. absurd (cc)) (clocked_none clock scripts)

  pub first_apart : AreApart config scripts ([] ∷ [])
  first_apart = apart_push [] [] [] refl (λ j k order other below at listed. absurd (cc)) (λ known. absurd (let at = known.here.1 in cc))

  pub none_found : (clock : Bool) → AreFound clock config scripts []
  none_found clock one has = absurd (let at = has.1 in cc)

  -- ---- tries

  pub behind : (order : List ℕ) (p : ℕ) → history_of config scripts (order ++ p ∷ []) ≡ history_of config scripts order ++ next_entries config scripts (history_of config scripts order) p
  behind order p = continued-append config scripts [] order (p ∷ [])

  -- the call after an order, by ports that are those after the order
  pub steps_to : (ports : PortsView) (order : List ℕ) (p : ℕ) (h : History) → IsAfter config scripts order ports → h ≡ ports.history ++ next_entries ports.config scripts ports.history p
      → h ≡ history_of config scripts (order ++ p ∷ [])
  steps_to ports order p h after step =
      step ∙ ((λ i. after.history i ++ next_entries (after.configured i) scripts (after.history i) p) ∙ sym (behind order p))

  pub makes_after : (ports : PortsView) (order : List ℕ) (p : ℕ) (one : PossibleReply) → IsAfter config scripts order ports → Makes ports.config scripts ports.history p one
      → Makes config scripts (history_of config scripts order) p one
  makes_after ports order p one after makes =
      subst (λ (x : Configuration × History). Makes x.0 scripts x.1 p one) (λ i. (after.configured i, after.history i)) makes

  pub tried_nothing : (orders : List (List ℕ)) (replies : List PossibleReply) (order : List ℕ) (p : ℕ) → Has orders order → MakesNothing config scripts (history_of config scripts order) p
      → IsTried config scripts orders replies order p
  tried_nothing orders replies order p here nothing = record {
    point = record {
      order = order;
      here = here;
      same =
          let there : history_of config scripts (order ++ p ∷ []) ≡ history_of config scripts order =
          behind order p ∙ (ap (λ (es : History). history_of config scripts order ++ es) nothing ∙ append-nil (history_of config scripts order)) in
          subst (λ (g : History). IsSamePoint config g (history_of config scripts order)) (sym there) (same_self config (history_of config scripts order));
    };
    reply = λ one makes. absurd (let both = sym nothing ∙ makes.entry in cc);
  }

  same_made : (h : History) (p : ℕ) (one other : PossibleReply) → Makes config scripts h p one → Makes config scripts h p other → one ≡ other
  same_made h p one other makes makes_too =
      let reply : one.reply ≡ other.reply = ap (first_reply one.reply) (sym makes.entry ∙ makes_too.entry) in
      let partition : one.partition ≡ other.partition = makes.partition ∙ sym makes_too.partition in
      let index : one.index ≡ other.index = makes.index ∙ sym makes_too.index in
      λ i. record { partition = partition i; index = index i; reply = reply i }

  pub tried_one : (orders : List (List ℕ)) (replies : List PossibleReply) (order : List ℕ) (p : ℕ) (one : PossibleReply) → Knows config scripts orders (history_of config scripts (order ++ p ∷ []))
      → Has replies one → Makes config scripts (history_of config scripts order) p one → IsTried config scripts orders replies order p
  tried_one orders replies order p one known has makes = record {
    point = known;
    reply = λ other makes_too. subst (Has replies) (same_made (history_of config scripts order) p one other makes makes_too) has;
  }

  pub found_one : (clock : Bool) (old new : List PossibleReply) (order : List ℕ) (p : ℕ) (one : PossibleReply) → AreFound clock config scripts old → IsOrder config order → p < length config.partitions
      → Makes config scripts (history_of config scripts order) p one → IsNextDue clock scripts (history_of config scripts order) p → IsClocked clock scripts (history_of config scripts order)
      → ((other : PossibleReply) → Has new other → Has old other ⊎ (other ≡ one)) → AreFound clock config scripts new
  found_one clock old new order p one found is within makes due clocked only other has =
      ⊎_elim
      (λ (before : Has old other). found other before)
      (λ (same : other ≡ one).
      subst (IsFound clock config scripts) (sym same) (record { order = order; valid = is; partition = p; within = within; makes = makes; due = due; clocked = clocked }))
      (only other has)

  -- ---- what was tried stays tried

  pub knows_kept : (old new : List (List ℕ)) (h : History) → Keeps old new → Knows config scripts old h → Knows config scripts new h
  knows_kept old new h keeps known = record {
    order = known.order;
    here = (known.here.0, keeps known.here.0 known.order known.here.1);
    same = known.same;
  }

  pub tried_kept : (old new : List (List ℕ)) (replies more : List PossibleReply) (order : List ℕ) (p : ℕ) → Keeps old new → Includes replies more
      → IsTried config scripts old replies order p → IsTried config scripts new more order p
  tried_kept old new replies more order p keeps includes tried = record {
    point = knows_kept old new (history_of config scripts (order ++ p ∷ [])) keeps tried.point;
    reply = λ one makes. includes one (tried.reply one makes);
  }

  -- the order at an index stays there
  same_index : (old new : List (List ℕ)) (k : ℕ) (order : List ℕ) → Keeps old new → k < length old → slice_get new k ≡ Some order → slice_get old k ≡ Some order
  same_index old new k order keeps within at =
      let was = slice_get-get_or old k order within in
      was ∙ (sym (keeps k _ was) ∙ at)

  pub unanswered_kept : (clock : Bool) (asked : Asked) (old new : List (List ℕ)) (k : ℕ) → Keeps old new → k < length old
      → IsUnansweredAt clock config scripts asked old k → IsUnansweredAt clock config scripts asked new k
  unanswered_kept clock asked old new k keeps within unanswered order at = unanswered order (same_index old new k order keeps within at)

  pub has_tried_kept : (clock : Bool) (old new : List (List ℕ)) (replies more : List PossibleReply) (k : ℕ) → Keeps old new → Includes replies more → k < length old
      → HasTried clock config scripts old replies k → HasTried clock config scripts new more k
  has_tried_kept clock old new replies more k keeps includes within tried order at =
      let was = tried order (same_index old new k order keeps within at) in
      record {
        tried = was.tried;
        enough = was.enough;
        each = λ p inside own. tried_kept old new replies more order p keeps includes (was.each p inside own);
      }

pub keeps_along : {X : Type 0} (a b c : List X) → Keeps a b → Keeps b c → Keeps a c
keeps_along a b c one two k x at = two k x (one k x at)

pub includes_along : {X : Type 0} (a b c : List X) → Includes a b → Includes b c → Includes a c
includes_along a b c one two x has = two x (one x has)

pub keeps_within : {X : Type 0} (old new : List X) (k : ℕ) (x : X) → Keeps old new → slice_get old k ≡ Some x → Has new x
keeps_within old new k x keeps at = (k, keeps k x at)

-- what holds if there is no order
pub without : (o : Option (List ℕ)) (P : Type 0) (R : List ℕ → Type 0) → ((order : List ℕ) → o ≡ Some order → ⊥) → MatchOption o P R → P
without None P R never is = is
without (Some order) P R never is = absurd (never order refl)

pub none_of : {X : Type 0} (o : Option X) → ((x : X) → o ≡ Some x → ⊥) → o ≡ None
none_of None never = refl
none_of (Some x) never = absurd (never x refl)
