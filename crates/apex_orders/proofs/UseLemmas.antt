-- What the last uses of channels say about the remaining calls.
use Rattle.apex_orders.proofs.Common.{◌≡◌, ◌≢◌, ⊎_elim, ℕ, ◌+◌, ◌<◌, ◌≤◌, ◌&&◌, Bool, true, false, if◌then◌else◌, List, length, Option, Some, None, refl, sym, ap, ◌∙◌, subst, arith, slice_get, cases_eq, nat_tests, slice_get_within, Call, Moment, Configuration, Port, and_false, LastUse, channel_in, channel_named, id_in, port_in, is_on, is_change, names, changes, IsApart, IsLastUseBelow, IsQuiet, IsQuietFrom}

-- ---- the channel that a call names

on_channel : (c : ℕ) (port : Option Port) → is_on c port ≡ true → channel_in port ≡ Some c
on_channel c None on = absurd (cc)
on_channel c (Some port) on = let same : port.channel ≡ c = grind (arith, nat_tests) in ap Some same

module _ (config : Configuration) where
  named_one : (c p : ℕ) (call : Call) → names config c p call ≡ true → channel_named config p call ≡ Some c
  named_one c p call on = on_channel c (port_in config p (id_in call)) on

  -- a call that names another channel, or none, doesn't name this one
  pub unnamed : (c p : ℕ) (call : Call) → (channel_named config p call ≡ Some c → ⊥) → names config c p call ≡ false
  unnamed c p call other = by_test (names config c p call) refl
    where
      by_test : (b : Bool) → names config c p call ≡ b → names config c p call ≡ false
      by_test true on = absurd (other (named_one c p call on))
      by_test false off = off

  unchanged : (c p : ℕ) (call : Call) → names config c p call ≡ false → changes config c p call ≡ false
  unchanged c p call off = (λ i. is_change call && off i) ∙ and_false (is_change call)

  -- ---- one more call

  module _ (p : ℕ) (script : List (Moment × Call)) (n : ℕ) (timed : Moment × Call) (at : slice_get script n ≡ Some timed) where
    -- before it, or the call itself
    at_or_before : (P : ℕ → Moment × Call → Type 0) → ((k : ℕ) (one : Moment × Call) → k < n → slice_get script k ≡ Some one → P k one) → P n timed
        → (k : ℕ) (one : Moment × Call) → k < n + 1 → slice_get script k ≡ Some one → P k one
    at_or_before P before here k one below is =
        ⊎_elim
        (λ (same : k ≡ n).
        let both : Some timed ≡ Some one = sym at ∙ (ap (slice_get script) (sym same) ∙ is) in
        let call : timed ≡ one = cc in
        subst (λ (x : ℕ × (Moment × Call)). P x.0 x.1) (λ i. (sym same i, call i)) here)
        (λ (other : k ≢ n). before k one (omega (arith, below, other)) is)
        (cases_eq k n)

    pub still_last : (c : ℕ) (last : LastUse) → names config c p timed.1 ≡ false → IsLastUseBelow config p script n c last → IsLastUseBelow config p script (n + 1) c last
    still_last c last off was = record {
      named = at_or_before (λ k one. names config c p one.1 ≡ true → k < last.named) was.named (λ on. absurd (cc));
      changed = at_or_before (λ k one. changes config c p one.1 ≡ true → k < last.changed) was.changed (λ on. absurd (let never = unchanged c p timed.1 off in cc));
    }

    pub last_now : (c : ℕ) (last next : LastUse) → next.named ≡ n + 1 → next.changed ≡ (if is_change timed.1 then n + 1 else last.changed) → IsLastUseBelow config p script n c last
        → IsLastUseBelow config p script (n + 1) c next
    last_now c last next named changed was = record {
      named = λ k one below is on. omega (arith, below, named);
      changed = by_test (is_change timed.1) refl;
    }
      where
        by_test : (b : Bool) → is_change timed.1 ≡ b → (k : ℕ) (one : Moment × Call) → k < n + 1 → slice_get script k ≡ Some one → changes config c p one.1 ≡ true → k < next.changed
        by_test true is =
            let reach : next.changed ≡ n + 1 = changed ∙ ap (λ (b : Bool). if b then n + 1 else last.changed) is in
            λ k one below here on. omega (arith, below, reach)
        by_test false is =
            let reach : next.changed ≡ last.changed = changed ∙ ap (λ (b : Bool). if b then n + 1 else last.changed) is in
            at_or_before (λ k one. changes config c p one.1 ≡ true → k < next.changed)
            (λ k one below here on. let past = was.changed k one below here on in omega (arith, past, reach))
            (λ on. absurd (let never : changes config c p timed.1 ≡ false = λ i. is i && names config c p timed.1 in cc))

  -- ---- the remaining calls

  pub quiet_from : (p : ℕ) (script : List (Moment × Call)) (c : ℕ) (named : Bool) (made : ℕ) (last : LastUse) → IsLastUseBelow config p script (length script) c last
      → (if named then last.named else last.changed) ≤ made → IsQuietFrom config p script c named made
  quiet_from p script c named made last is over k timed past at = by_named named over
    where
      inside : k < length script
      inside = slice_get_within script k timed at

      by_named : (b : Bool) → (if b then last.named else last.changed) ≤ made → IsQuiet config p c b timed.1
      by_named true over =
          let off : names config c p timed.1 ≡ false = by_test (names config c p timed.1) refl in
          record { unchanged = unchanged c p timed.1 off; unnamed = λ asked. off }
        where
          by_test : (b : Bool) → names config c p timed.1 ≡ b → names config c p timed.1 ≡ false
          by_test true on = absurd (let before = is.named k timed inside at on in omega (arith, before, over, past))
          by_test false off = off
      by_named false over = record { unchanged = by_test (changes config c p timed.1) refl; unnamed = λ asked. absurd (cc) }
        where
          by_test : (b : Bool) → changes config c p timed.1 ≡ b → changes config c p timed.1 ≡ false
          by_test true on = absurd (let before = is.changed k timed inside at on in omega (arith, before, over, past))
          by_test false off = off

  -- ---- calls that are apart

  pub apart_unnamed : (p : ℕ) (call : Call) (q : ℕ) (other : Call) → ((c : ℕ) → names config c p call ≡ false) → IsApart config p call q other
  apart_unnamed p call q other off = record {
    others = λ c on. absurd (let never = off c in cc);
    own = λ c on. unchanged c p call (off c);
  }

  pub apart_quiet : (p : ℕ) (call : Call) (q : ℕ) (other : Call) (c : ℕ) (change : Bool) → channel_named config p call ≡ Some c → is_change call ≡ change → IsQuiet config q c change other
      → IsApart config p call q other
  apart_quiet p call q other c change named is quiet = record {
    others = λ d on.
        let both : Some d ≡ Some c = sym (named_one d p call on) ∙ named in
        let same : c ≡ d = cc in
        subst (λ (n : ℕ). changes config n q other ≡ false) same quiet.unchanged;
    own = λ d on. by_change change is quiet.unnamed d on;
  }
    where
      by_change : (b : Bool) → is_change call ≡ b → (b ≡ true → names config c q other ≡ false) → (d : ℕ) → names config d q other ≡ true → changes config d p call ≡ false
      by_change false is off d on = λ i. is i && names config d p call
      by_change true is off d on =
          unchanged d p call (unnamed d p call (λ here.
          let both : Some d ≡ Some c = sym here ∙ named in
          let same : d ≡ c = cc in
          let never : names config d q other ≡ false = subst (λ (n : ℕ). names config n q other ≡ false) (sym same) (off refl) in
          absurd (cc)))
