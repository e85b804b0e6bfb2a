-- `Plan::refuses_next` at a call: its arguments, and what a caller gets from it. Assumes `Logic`.
use Rattle.std.proofs.Common.{◌≡◌, ℕ, Bool, List, [], ◌∷◌, refl, ap}
use seplogic.Ra.Ura.{Ura}
use mir.Val.{Val, vbool, vptr}
use base.Logic.{SProp, ent, sep, ex, guard, id⊢}
use base.Fml.{Lft, Share, ftrue, fsep, flft}
use prog.Memory.{Memory}
use prog.Routine.{Routine}
use types.Logic.{Logic, sem}
use contract.Monad.{Fun}
use types.Kit.{‵, ◌⊛◌, some, later, ◌$◌, ◌∵◌, !, qed, move, keep, use1, split, join, pick, fjoin, feq_i, feq_l, check, show, await, updating, now as at_once, done}
use denote.Memory.{hidden_shr}
use denote.Builtin.{bool}
use denote.Steps.{nothing, only}
use denote.Triple.Statement.{Contract}
use denote.Triple.Spec.{triple_of}
use Rattle.refusing.specs.contracts.plan.Plan.{the_row as PlanRow}
use Rattle.refusing.specs.contracts.plan.Plan.refuses_next as Next

module _ {M : Type 1} {𝓤 : Ura M} (𝓛 : Logic 𝓤) (at_mem : Memory → SProp 𝓤) (run : Routine → Fun 𝓤) where
  abbrev pub Asks : Contract 𝓤
  Asks = triple_of 𝓛 Next.signature (Next.spec 𝓛 at_mem run)

  abbrev pub at_ask : Lft → Share → PlanRow.Denot → ℕ × ℕ → Asks.Ghost
  at_ask κ q plan c = (((κ, tt), (q, tt), tt, (record { ref_ptr = c; now = plan }, tt), (vptr c.0 c.1 ∷ [], tt)), tt)

module _ {M : Type 1} {𝓤 : Ura M} (𝓛 : Logic 𝓤) (at_mem : Memory → SProp 𝓤) (run : Routine → Fun 𝓤) (κ : Lft) (q : Share) (plan : PlanRow.Denot) (c : ℕ × ℕ) where
  open 𝓛 use {H, A}

  pub Asks-goes : ent 𝓤 (sep 𝓤 (sem 𝓛 (hidden_shr PlanRow κ (plan) c.0 c.1)) (A.lft κ q)) ((Asks 𝓛 at_mem run).pre (at_ask 𝓛 at_mem run κ q plan c))
  Asks-goes =
      qed 𝓛 (‵ (hidden_shr PlanRow κ (plan) c.0 c.1) ∷ ‵ (flft κ q) ∷ []) ∵ feq_i ! (List Val) (vptr c.0 c.1 ∷ []) (vptr c.0 c.1 ∷ []) refl $ fjoin ! $
      nothing ! $ move ! (1 ∷ []) $ fjoin ! $ nothing ! $ move ! (2 ∷ []) $ join ! $ join ! $ nothing ! $ move ! (1 ∷ []) $ done !

  pub Asks-gives : (v : Val) → ent 𝓤 ((Asks 𝓛 at_mem run).post (at_ask 𝓛 at_mem run κ q plan c) v) (H.⇛ (ex 𝓤 (λ (t : Bool). guard 𝓤 (v ≡ vbool t) (A.lft κ q))))
  Asks-gives v =
      qed 𝓛 (types.Kit.raw ((Asks 𝓛 at_mem run).post (at_ask 𝓛 at_mem run κ q plan c) v) ∷ []) ∵ updating ! $
      use1 𝓛 (later (some (λ (r : Bool). ((‵ (flft κ q) ⊛ ‵ ftrue) ⊛ ‵ (bool.own_val r (v ∷ []))) ⊛ some (λ (ws : Unit {0} × Unit {0}). ‵ (fsep ftrue ftrue) ⊛ ‵ ftrue)))) (id⊢ 𝓤 _) $ await ! tt $ pick ! (λ r.
      split ! $ split ! $ move ! (1 ∷ []) $ feq_l ! (λ e. split ! $ at_once ! $
      show ! (λ (t : Bool). guard 𝓤 (v ≡ vbool t) (A.lft κ q)) r $ check ! (ap only e) $ keep ! (0 ∷ []) $ done !))
