use Rattle.apex_logs.proofs.Common.{rules, arith, ◌≡◌, ◌-◌, true, false, not, length, take, drop, ap, ◌∙◌, subst, drop-drop, option_map, prepend_known, lines, strip_carriage_return, IsNextLine, IsPart, text_left}
use Rattle.std.proofs.lemmas.List.{take_rest}
use Rattle.apex_logs.proofs.LineSourceLemmas.{kept, cut_line, ends_last, answered}
use Rattle.apex_logs.proofs.line_reader.LineReaderLineSource.next.Goals as goal

pub returns-then-not-branch-clause-next : goal.returns-then-not-branch-clause-next
returns-then-not-branch-clause-next g c =
    let left = text_left g.R.Read.remaining in
    let line = c.loop-self.line.items in
    let none : c.in_ok-has_more.field-0 ≡ false = search rules in
    let read = kept (left c.args.self.now) (left c.loop-self.self) (left c.has_more.new.self) line c.loop-self.invariant.read c.in_ok-has_more.ensures.kept in
    answered c.if_within.result _ (not c.is_empty.result) c.if_within.ensures.found
    (ends_last (left c.args.self.now) (left c.has_more.new.self) line c.is_empty.result (grind (arith, c.is_empty.ensures, c.loop-self.line.ok)) c.loop-self.invariant.none read (c.in_ok-has_more.ensures.end none))

pub returns-then-is_ended-clause-next : goal.returns-then-is_ended-clause-next
returns-then-is_ended-clause-next g c =
    let left = text_left g.R.Read.remaining in
    let line = c.loop-self.line.items in
    let text = drop c.has_more.new.self.start c.has_more.new.self.piece.items in
    let rest = g.R.Read.remaining c.has_more.new.self.reader in
    let shown : take (length c.deref.result.now - c.has_more.new.self.start) (drop c.has_more.new.self.start c.deref.result.now) ≡ text =
    take_rest c.deref.result.now c.has_more.new.self.start ∙ ap (λ bytes. drop c.has_more.new.self.start bytes) c.deref.ensures.value in
    let is_part : IsPart line c.push_part.new.line.items text c.in_ok-taken.taken true = rw (c.if-is_ended.true, shown) at c.in_ok-taken.ensures.part in
    let read = kept (left c.args.self.now) (left c.loop-self.self) (left c.has_more.new.self) line c.loop-self.invariant.read c.in_ok-has_more.ensures.kept in
    let next = cut_line (left c.args.self.now) rest line c.push_part.new.line.items text c.in_ok-taken.taken c.loop-self.invariant.none read is_part in
    answered c.if_within-then-is_ended.result _ true c.if_within-then-is_ended.ensures.found
    (rw c.drop_carriage_return.ensures (subst (λ bytes. IsNextLine true (strip_carriage_return c.push_part.new.line.items) (option_map lines (left c.args.self.now)) (option_map lines (prepend_known bytes rest))) (drop-drop c.in_ok-taken.taken c.has_more.new.self.start c.has_more.new.self.piece.items) next))
