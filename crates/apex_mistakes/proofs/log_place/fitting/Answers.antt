use Rattle.apex_mistakes.proofs.Common.{◌≡◌, ℕ, ◌+◌, ◌<◌, suc, true, List, take, refl, sym, ap, ◌∙◌, subst, arith, words_of, behind_first_word, begins_reply}
use Rattle.apex_mistakes.proofs.LogPlaceLemmas.{behind_words, behind-step, fits-until, fits-more, begun}
use Rattle.apex_mistakes.proofs.log_place.fitting.Goals as goal

behind-more : (before : ℕ) (text rest after : List ℕ) → rest ≡ behind_words before text → after ≡ behind_first_word rest → after ≡ behind_words (before + 1) text
behind-more before text rest after is cut =
    let next : suc before ≡ before + 1 = omega arith in
    cut ∙ ap behind_first_word is ∙ behind-step before text ∙ ap (λ (n : ℕ). behind_words n text) next

pub loop-before-init : goal.loop-before-init
loop-before-init c = record { behind = refl; fit = λ k lt. absurd (omega (arith, lt)) }

pub loop-before-preserved : goal.loop-before-preserved
loop-before-preserved c =
    let text = c.args.text.now in
    let rest = c.behind_first_word-rest.result.now in
    let before = c.loop-before.before in
    let behind = behind-more before text c.loop-before.rest.now rest c.loop-before.invariant.behind c.behind_first_word-rest.ensures in
    let here = begun c.begins_reply.result c.saturating_sub.result before text rest c.begins_reply.ensures c.saturating_sub.ensures behind in
    record {
      behind = behind;
      fit = fits-more (words_of text) before c.loop-before.invariant.fit (sym here ∙ c.if-not-begins_reply.false);
    }

pub returns-then-not-begins_reply-clause-exact : goal.returns-then-not-begins_reply-clause-exact
returns-then-not-begins_reply-clause-exact c =
    let text = c.args.text.now in
    let rest = c.behind_first_word-rest.result.now in
    let before = c.loop-before.before in
    let behind = behind-more before text c.loop-before.rest.now rest c.loop-before.invariant.behind c.behind_first_word-rest.ensures in
    let here = begun c.begins_reply.result c.saturating_sub.result before text rest c.begins_reply.ensures c.saturating_sub.ensures behind in
    fits-until (words_of text) before (omega arith) c.loop-before.invariant.fit (λ _. sym here ∙ c.if-not-begins_reply.true)

pub returns-clause-exact : goal.returns-clause-exact
returns-clause-exact c =
    let count = c.count_words-count.ensures.exact in
    let all : c.count_words-count.result ≡ c.loop-before.before = omega (arith, c.loop-before-test.false, c.loop-before.auto.before-end) in
    let fit = subst (λ (n : ℕ). (k : ℕ) → k < n → begins_reply (take (k + 1) (words_of c.args.text.now)) ≡ true) (sym all) c.loop-before.invariant.fit in
    fits-until (words_of c.args.text.now) c.count_words-count.result (omega (arith, count)) fit (λ lt. absurd (omega (arith, count, lt)))
