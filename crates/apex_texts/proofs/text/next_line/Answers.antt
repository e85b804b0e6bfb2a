use Rattle.apex_texts.proofs.Common.{◌+◌, ◌∷◌, length, drop, sym, ap, ◌∙◌, rules, lines, take_rest, drop-length}
use Rattle.apex_texts.proofs.TextLemmas.{lines_at, lines_last}
use Rattle.apex_texts.proofs.text.next_line.Goals as goal

pub returns-in-Some-clause-line : goal.returns-in-Some-clause-line
returns-in-Some-clause-line c =
    rw (take_rest c.args.text.now (c.in-Some.end + 1)) (lines_at c.args.text.now c.in-Some.end (search rules) ∙ ap (λ line. line ∷ lines (drop (c.in-Some.end + 1) c.args.text.now)) (sym c.without_carriage_return.ensures))

pub returns-in-None-clause-line : goal.returns-in-None-clause-line
returns-in-None-clause-line c =
    rw (take_rest c.args.text.now (length c.args.text.now), drop-length c.args.text.now) (lines_last c.args.text.now (sym c.is_empty.ensures ∙ c.if-is_empty.false) (search rules))
