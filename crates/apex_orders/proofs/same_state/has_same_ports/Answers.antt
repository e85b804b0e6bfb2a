use Rattle.apex_orders.proofs.Common.{◌≡◌, ◌<◌, ◌+◌, ◌-◌, length, ℕ, subst, refl, arith, Configuration, ports_of, History, is_created, IsSamePorts, last_shown}
use Rattle.apex_orders.proofs.same_state.has_same_ports.Goals as goal

-- what holds at each index, counted from 0, holds for each identifier
of_indexes : (config : Configuration) (h other : History) (p i : ℕ) → length (ports_of config p) ≡ i
    → ((k : ℕ) → k < i → is_created p (k + 1) h ≡ is_created p (k + 1) other)
    → ((k : ℕ) → k < i → last_shown config h p (k + 1) ≡ last_shown config other p (k + 1))
    → IsSamePorts config h other p
of_indexes config h other p i count created last = record {
  created = λ id known.
      let here : id - 1 + 1 ≡ id = omega (arith, known.first) in
      subst (λ (n : ℕ). is_created p n h ≡ is_created p n other) here (created (id - 1) (omega (arith, known.first, known.last)));
  last = λ id known.
      let here : id - 1 + 1 ≡ id = omega (arith, known.first) in
      subst (λ (n : ℕ). last_shown config h p n ≡ last_shown config other p n) here (last (id - 1) (omega (arith, known.first, known.last)));
}

pub returns : goal.returns
returns g c =
    let config = c.args.a.now.config in
    let counted = rw c.config.ensures.config at c.ports-i-end.ensures.count in
    let count : length (ports_of config c.args.p) ≡ c.loop-i.i = omega (arith, counted) in
    (λ _. of_indexes config c.args.a.now.history c.args.b.now.history c.args.p c.loop-i.i count c.loop-i.invariant.created c.loop-i.invariant.last, λ _. refl)
