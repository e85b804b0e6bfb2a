use Rattle.apex_mistakes.proofs.Common.{◌≡◌, ℕ, ◌+◌, ◌<◌, true, take, words_of, begins_reply}
use Rattle.apex_mistakes.proofs.LogPlaceLemmas.{behind_words}
use Rattle.apex_mistakes.proofs.log_place.fitting.Given as goal

abbrev pub invariant-loop-before : goal.invariant-loop-before
invariant-loop-before l = record {
  behind : l.rest ≡ behind_words l.before l.text;
  fit : (k : ℕ) → k < l.before → begins_reply (take (k + 1) (words_of l.text)) ≡ true;
}
