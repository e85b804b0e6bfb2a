use Rattle.apex_orders.proofs.Common.{◌≡◌, ◌<◌, ◌+◌, ◌++◌, ℕ, Bool, List, slice_get, true, refl, sym, ap, ◌∙◌, subst, arith, false≢true, PortsView, Worker, is_tried, HasTriedCall, IsNextDue, IsReady, history_of, IsLaterWorker, IsWorkerOf, order_given, orders_known}
use Rattle.apex_orders.proofs.ChoiceLemmas.{one_more}
use Rattle.apex_orders.proofs.SearchLemmas.{tried_kept}
use Rattle.apex_orders.proofs.WorkerLemmas.{includes_behind, later_along, same_given}
use Rattle.apex_orders.proofs.worker.Worker.try_those.Goals.{then-is_tried+in_ok-try_partition, else-is_tried}
use Rattle.apex_orders.proofs.worker.Worker.try_those.Goals as goal

pub loop-p-init : goal.loop-p-init
loop-p-init c = record {
  valid = c.requires.valid;
  later = record { base = refl; first = refl; given = refl; orders = λ k x at. at; replies = λ x has. has };
  ready = λ there. c.requires.ready;
  tried = λ p below. absurd (omega (arith, below));
}

pub try_partition-requires-clause-valid : goal.try_partition-requires-clause-valid
try_partition-requires-clause-valid c = c.loop-p.invariant.valid

pub try_partition-requires-clause-given : goal.try_partition-requires-clause-given
try_partition-requires-clause-given c = ap (λ (ps : List PortsView). slice_get ps c.args.j) c.loop-p.invariant.later.given ∙ c.requires.given

pub try_partition-requires-clause-there : goal.try_partition-requires-clause-there
try_partition-requires-clause-there c = c.loop-p.invariant.ready

pub try_partition-requires-clause-due : goal.try_partition-requires-clause-due
try_partition-requires-clause-due c =
    subst (λ (order : List ℕ). IsNextDue c.args.shared.now.clock c.args.shared.now.scripts.now (history_of c.args.shared.now.config.now c.args.shared.now.scripts.now order) c.loop-p.p)
    (sym (same_given c.args.shared.now.config.now c.args.shared.now.scripts.now c.args.self.now c.loop-p.self c.args.j c.loop-p.invariant.later))
    (c.requires.due c.loop-p.p (sym c.is_tried.ensures ∙ c.if-is_tried.true))

pub loop-p-preserved : goal.loop-p-preserved
loop-p-preserved c =
    let config = c.args.shared.now.config.now in
    let scripts = c.args.shared.now.scripts.now in
    let shared = c.args.shared.now in
    let known = shared.known.now in
    let tried = c.args.tried.now in
    let start = c.args.self.now in
    let order = order_given start c.args.j in
    let was = c.loop-p.invariant in
    let before = c.loop-p.self in
    let kept : order_given before c.args.j ≡ order = same_given config scripts start before c.args.j was.later in
    let AreTried : ℕ → Worker → Type 0 = λ n s. (p : ℕ) → p < n → is_tried tried p ≡ true → HasTriedCall shared s order p in
    record {
      valid = elim c.if-is_tried.branch [
        | then-is_tried+in_ok-try_partition w ↦ subst (IsWorkerOf shared) (sym w.self-is) w.in_ok-try_partition.ensures.valid
        | else-is_tried w ↦ subst (IsWorkerOf shared) (sym w.self-is) was.valid
      ];
      later = elim c.if-is_tried.branch [
        | then-is_tried+in_ok-try_partition w ↦ subst (IsLaterWorker start) (sym w.self-is) (later_along config scripts start before w.try_partition.new.self was.later w.in_ok-try_partition.ensures.later)
        | else-is_tried w ↦ subst (IsLaterWorker start) (sym w.self-is) was.later
      ];
      ready = elim c.if-is_tried.branch [
        | then-is_tried+in_ok-try_partition w ↦ λ there. absurd (false≢true (sym w.is_there-is ∙ there))
        | else-is_tried w ↦
            subst (λ (x : Worker × Bool). x.1 ≡ true → IsReady shared (order_given x.0 c.args.j) x.0.trial.ports) (λ i. (sym w.self-is i, sym w.is_there-is i)) was.ready
      ];
      tried = elim c.if-is_tried.branch [
        | then-is_tried+in_ok-try_partition w ↦
            let after = w.try_partition.new.self in
            let now = w.in_ok-try_partition.ensures.later in
            subst (AreTried (c.loop-p.p + 1)) (sym w.self-is)
            (one_more (λ p. is_tried tried p ≡ true → HasTriedCall shared after order p) c.loop-p.p
            (λ p below own. tried_kept config scripts (orders_known before) (orders_known after) (known ++ before.replies) (known ++ after.replies) order p now.orders
            (includes_behind known before.replies after.replies now.replies) (was.tried p below own))
            (λ own. subst (λ (o : List ℕ). HasTriedCall shared after o c.loop-p.p) kept w.in_ok-try_partition.ensures.tried))
        | else-is_tried w ↦
            subst (AreTried (c.loop-p.p + 1)) (sym w.self-is)
            (one_more (λ p. is_tried tried p ≡ true → HasTriedCall shared before order p) c.loop-p.p was.tried
            (λ own. absurd (false≢true (sym w.if-is_tried.false ∙ (c.is_tried.ensures ∙ own)))))
      ];
    }
