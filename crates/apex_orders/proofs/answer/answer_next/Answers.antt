use Rattle.apex_orders.proofs.Common.{◌≡◌, ⊎_elim, ◌<◌, ◌≤◌, ◌+◌, ◌-◌, ℕ, List, length, map, Some, arith, ap, sym, ◌∙◌, slice_get, slice_get_within, length-map, cases_eq, cases_lt, Asked, History, count_of, entries_of, history_of, order_at, mix, subst, IsOpen}
use Rattle.std.proofs.lemmas.Option.{slice_get-map}
use Rattle.std.specs.Option.{option_map}
use Rattle.apex_orders.specs.Searching.{asked_hash}
use Rattle.apex_orders.proofs.AnswerLemmas.{one_more_open, other_is_unanswered}
use Rattle.apex_orders.proofs.GrowthLemmas.{order_here}
use Rattle.apex_orders.proofs.answer.answer_next.Goals as goal

-- a question whose call has the hash is among those with this hash
hashed_at : (asked : List Asked) (hashes : List ℕ) (hash q : ℕ) (one : Asked) → hashes ≡ map asked_hash asked → slice_get asked q ≡ Some one → asked_hash one ≡ hash → slice_get hashes q ≡ Some hash
hashed_at asked hashes hash q one all at same =
    ap (λ (items : List ℕ). slice_get items q) all ∙ (slice_get-map asked_hash asked q ∙ (ap (option_map asked_hash) at ∙ ap Some same))

pub loop-count-init : goal.loop-count-init
loop-count-init c = record {
  ready = c.requires.ready;
  known = tt;
  answers = c.requires.answers;
  here = c.up_to_last-count.ensures.here;
  looked = λ q one past at of same.
      let here = hashed_at c.args.asked.now c.args.hashes.now c.mix-hash.result q one c.requires.hashes at same in
      absurd (c.up_to_last-count.ensures.rest q past (slice_get_within c.args.hashes.now q c.mix-hash.result here) here);
  still = λ q is. is;
}

pub answer_one-requires-clause-question : goal.answer_one-requires-clause-question
answer_one-requires-clause-question c =
    let hashes = c.args.hashes.now in
    let q = c.loop-count.count - 1 in
    let within = slice_get_within hashes q c.mix-hash.result (c.loop-count.invariant.here q (omega (arith, c.loop-count-test.true))) in
    let many = ap (λ (items : List ℕ). length items) c.requires.hashes ∙ length-map c.args.asked.now asked_hash in
    omega (arith, within, many)

pub up_to_earlier-count-requires : goal.up_to_earlier-count-requires
up_to_earlier-count-requires c = c.loop-count.invariant.here (c.loop-count.count - 1) (omega (arith, c.loop-count-test.true))

pub loop-count-preserved : goal.loop-count-preserved
loop-count-preserved c =
    let was = c.loop-count.invariant in
    let now = c.in_ok-answer_one.ensures in
    let q = c.loop-count.count - 1 in
    record {
      ready = now.ready;
      known = now.known;
      answers = now.answers;
      here = c.up_to_earlier-count.ensures.here;
      looked = λ r one past at of same.
          ⊎_elim
          (λ (here : r ≡ q).
          subst (λ (k : ℕ). IsOpen c.args.clock c.args.config.now c.args.scripts.now c.args.asked.now c.args.current.now.orders (c.args.i + 1) c.answer_one.new.answers.items k) (sym here)
          (now.looked one (ap (λ (k : ℕ). slice_get c.args.asked.now k) (sym here) ∙ at) of))
          (λ (apart : r ≡ q → ⊥).
          ⊎_elim
          (λ (before : r < c.loop-count.count).
          absurd (c.up_to_earlier-count.ensures.rest r past (omega (arith, apart, before, c.loop-count-test.true)) (hashed_at c.args.asked.now c.args.hashes.now c.mix-hash.result r one c.requires.hashes at same)))
          (λ (later : c.loop-count.count ≤ r). now.still r (was.looked r one later at of same))
          (cases_lt r c.loop-count.count))
          (cases_eq r q);
      still = λ r is. now.still r (was.still r is);
    }

pub returns-clause-looked : goal.returns-clause-looked
returns-clause-looked c q one at of =
    let clock = c.args.clock in
    let config = c.args.config.now in
    let scripts = c.args.scripts.now in
    let orders = c.args.current.now.orders in
    let i = c.args.i in
    let p = c.args.p in
    let ended = c.loop-count.invariant in
    ⊎_elim
    (λ (same : asked_hash one ≡ c.mix-hash.result). ended.looked q one (omega (arith, c.loop-count-test.false)) at of same)
    (λ (other : asked_hash one ≡ c.mix-hash.result → ⊥).
    one_more_open clock config scripts c.args.asked.now orders i c.loop-count.answers.items ended.answers q one at
    (λ order here.
    let both : Some order ≡ Some (order_at orders i) = sym here ∙ order_here orders i c.requires.within in
    let same : order ≡ order_at orders i = cc in
    let all = c.requires.valid.all in
    let within = c.requires.partition in
    other_is_unanswered clock config scripts one order (c.requires.valid.uses.short one.partition (omega (arith, all, within, of)))
    (λ is. other (is ∙ ((λ j. mix (of j) (count_of (entries_of (of j) (history_of config scripts (same j))))) ∙ (ap (λ (h : History). mix p (count_of (entries_of p h))) (sym c.requires.ready.after.history) ∙ (ap (mix p) (sym c.calls.ensures) ∙ sym c.mix-hash.ensures)))))))
    (cases_eq (asked_hash one) c.mix-hash.result)
