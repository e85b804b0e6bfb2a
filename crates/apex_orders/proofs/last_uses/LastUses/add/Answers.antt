use Rattle.apex_orders.proofs.Common.{◌≡◌, ◌≢◌, ⊎_elim, ℕ, ◌+◌, ◌<◌, Bool, List, length, if◌then◌else◌, Some, refl, sym, ap, ◌∙◌, subst, arith, slice_get, nat_tests, slice_get_read, slice_get_within, slice_get-set_cases, LastUse, channel_named, IsLastUseBelow}
use Rattle.apex_orders.proofs.UseLemmas.{last_now, still_last, unnamed}
use Rattle.apex_orders.proofs.last_uses.LastUses.add.Goals as goal

pub returns-in_default : goal.returns-in_default
returns-in_default c script at was here d last is =
    let a = c.args in
    still_last a.config.now a.p script a.k (at, a.call.now) here d last
    (unnamed a.config.now d a.p a.call.now (λ named. c.in_default.not-Some d (c.channel_named.ensures ∙ named))) (was d last is)

pub returns-in_default-get : goal.returns-in_default-get
returns-in_default-get c script at was here d last is =
    let a = c.args in
    let beyond = c.in_default-get.ensures.lookup.3 in
    let count = ap (λ (items : List LastUse). length items) c.deref.ensures.value in
    still_last a.config.now a.p script a.k (at, a.call.now) here d last
    (unnamed a.config.now d a.p a.call.now (λ one.
    let both : Some d ≡ Some c.in-Some.channel = sym one ∙ (sym c.channel_named.ensures ∙ c.in-Some.is) in
    let same : d ≡ c.in-Some.channel = cc in
    let within = slice_get_within a.self.now.channels.items d last is in
    absurd (omega (arith, beyond, count, same, within)))) (was d last is)

pub returns : goal.returns
returns c script at was here d last is =
    let a = c.args in
    let test = c.in-Some-get.ensures.lookup.0 in
    let within : c.in-Some.channel < length c.deref.result.now = grind (arith, nat_tests, test) in
    let before : slice_get a.self.now.channels.items c.in-Some.channel ≡ Some c.in-Some-get.last.now =
    subst (λ (items : List LastUse). slice_get items c.in-Some.channel ≡ Some c.in-Some-get.last.now) c.deref.ensures.value
    (slice_get_read c.deref.result.now (length c.deref.result.now) c.in-Some.channel c.in-Some-get.last.now refl within (c.in-Some-get.ensures.lookup.4 (omega arith) c.in-Some-get.last.now)) in
    let named : channel_named a.config.now a.p a.call.now ≡ Some c.in-Some.channel = sym c.channel_named.ensures ∙ c.in-Some.is in
    ⊎_elim
    (λ (now : (d ≡ c.in-Some.channel) × (last ≡ c.followed_by.result)).
    subst (λ (x : ℕ × LastUse). IsLastUseBelow a.config.now a.p script (a.k + 1) x.0 x.1) (λ i. (sym now.0 i, sym now.1 i))
    (last_now a.config.now a.p script a.k (at, a.call.now) here c.in-Some.channel c.in-Some-get.last.now c.followed_by.result c.followed_by.ensures.named
    (c.followed_by.ensures.changed ∙ ap (λ (b : Bool). if b then a.k + 1 else c.in-Some-get.last.now.changed) c.is_change.ensures) (was c.in-Some.channel c.in-Some-get.last.now before)))
    (λ (other : (d ≢ c.in-Some.channel) × (slice_get a.self.now.channels.items d ≡ Some last)).
    still_last a.config.now a.p script a.k (at, a.call.now) here d last
    (unnamed a.config.now d a.p a.call.now (λ one.
    let both : Some d ≡ Some c.in-Some.channel = sym one ∙ named in
    let same : d ≡ c.in-Some.channel = cc in
    other.0 same)) (was d last other.1))
    (slice_get-set_cases a.self.now.channels.items c.in-Some.channel c.followed_by.result d last is)
