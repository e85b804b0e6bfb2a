use Rattle.apex_texts.proofs.Common.{◌≡◌, drop, digits_after}
use Rattle.apex_texts.proofs.text.number_up_to.Given as goal

abbrev pub invariant-loop-byte : goal.invariant-loop-byte
invariant-loop-byte l = digits_after l.value (drop l.byte-index l.word) ≡ digits_after 0 l.word
