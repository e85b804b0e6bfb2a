use Rattle.apex_orders.proofs.Common.{◌≡◌, ⊎_elim, ◌<◌, ◌≤◌, ◌-◌, ℕ, List, Some, arith, refl, ap, sym, ◌∙◌, subst, slice_get, cases_eq, cases_lt, false≢true, slice_get_within, Configuration, History, PortsView, FoundPoint, hash_of, AreHashed, IsSamePoint}
use Rattle.apex_orders.proofs.HashLemmas.{same_hash}
use Rattle.apex_orders.proofs.found_point.has_found.Goals as goal

-- a point that is that of the ports has their hash
met_hash : (config : Configuration) (found : List FoundPoint) (hashes : List ℕ) (h : History) (hash n : ℕ) (one : FoundPoint) → AreHashed config found hashes → hash ≡ hash_of config h
    → slice_get found n ≡ Some one → IsSamePoint config h one.saved.history → slice_get hashes n ≡ Some hash
met_hash config found hashes h hash n one hashed is at met = hashed.each n one at ∙ ap Some (sym (is ∙ same_hash config h one.saved.history met))

pub loop-count-init : goal.loop-count-init
loop-count-init c = record {
  ports = refl;
  other = refl;
  here = c.up_to_last-count.ensures.here;
  others = λ n one past at met.
      let hash = met_hash c.args.trial.now.ports.config c.args.found.now.items c.args.hashes.now c.args.trial.now.ports.history c.args.hash n one c.requires.hashed c.requires.hash at met in
      c.up_to_last-count.ensures.rest n past (slice_get_within c.args.hashes.now n c.args.hash hash) hash;
}

pub up_to_earlier-count-requires : goal.up_to_earlier-count-requires
up_to_earlier-count-requires c = c.loop-count.invariant.here (c.loop-count.count - 1) (omega (arith, c.loop-count-test.true))

pub is_point_at-requires-clause-configured : goal.is_point_at-requires-clause-configured
is_point_at-requires-clause-configured c one at =
    let ports = c.loop-count.invariant.ports in
    c.requires.hashed.configured (c.loop-count.count - 1) one at ∙ (sym c.requires.config ∙ sym c.loop-count.invariant.other)

pub is_point_at-requires-clause-config : goal.is_point_at-requires-clause-config
is_point_at-requires-clause-config c =
    c.loop-count.invariant.other ∙ (c.requires.config ∙ sym (ap (λ (v : PortsView). v.config) c.loop-count.invariant.ports))

pub is_point_at-requires-clause-saved : goal.is_point_at-requires-clause-saved
is_point_at-requires-clause-saved c = c.requires.saved ∙ sym c.loop-count.invariant.ports

pub returns-then-is_point_at-clause-found : goal.returns-then-is_point_at-clause-found
returns-then-is_point_at-clause-found c =
    let point = c.is_point_at.ensures.same c.if-is_point_at.true in (
      λ yes. record {
        one = point.0;
        here = (c.loop-count.count - 1, point.1);
        same = subst (λ (v : PortsView). IsSamePoint v.config v.history point.0.saved.history) c.loop-count.invariant.ports point.2;
      },
      λ has. refl,
    )

pub loop-count-preserved : goal.loop-count-preserved
loop-count-preserved c = record {
  ports = c.is_point_at.ensures.ports ∙ c.loop-count.invariant.ports;
  other = c.is_point_at.ensures.config ∙ c.loop-count.invariant.other;
  here = c.up_to_earlier-count.ensures.here;
  others = λ n one past at met.
      let k = c.loop-count.count - 1 in
      ⊎_elim
      (λ (now : n ≡ k).
      false≢true (sym c.if-is_point_at.false ∙ c.is_point_at.ensures.other one (ap (λ (m : ℕ). slice_get c.args.found.now.items m) (sym now) ∙ at)
      (subst (λ (v : PortsView). IsSamePoint v.config v.history one.saved.history) (sym c.loop-count.invariant.ports) met)))
      (λ (apart : n ≡ k → ⊥).
      ⊎_elim
      (λ (before : n < c.loop-count.count).
      c.up_to_earlier-count.ensures.rest n past (omega (arith, apart, before, c.loop-count-test.true))
      (met_hash c.args.trial.now.ports.config c.args.found.now.items c.args.hashes.now c.args.trial.now.ports.history c.args.hash n one c.requires.hashed c.requires.hash at met))
      (λ (later : c.loop-count.count ≤ n). c.loop-count.invariant.others n one later at met)
      (cases_lt n c.loop-count.count))
      (cases_eq n k);
}

pub returns-clause-found : goal.returns-clause-found
returns-clause-found c = (
  λ h. absurd (false≢true h),
  λ has. absurd (c.loop-count.invariant.others has.here.0 has.one (omega (arith, c.loop-count-test.false)) has.here.1 has.same),
)
