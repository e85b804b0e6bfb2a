use Rattle.std.proofs.Common.{◌≡◌, ◌+◌, ◌++◌, ◌∷◌, [], length, map, set, get_or, Some, refl, sym, ap, ◌∙◌, subst, arith, string_bytes, length-append}
use Rattle.std.specs.List.{slice_get}
use Rattle.std.proofs.lemmas.List.{length-replicate, map-append, take_more, take_all}
use Rattle.std.proofs.lemmas.Option.{slice_get_read}
use Rattle.apex_ports.specs.declared.history.Entry.{Entry}
use Rattle.apex_ports.specs.History.{History, entry_of}
use Rattle.apex_ports.specs.Noted.{call_by}
use Rattle.apex_texts.specs.Report.{line_of}
use Rattle.apex_texts.proofs.ReportLemmas.{entry_pushed, no_entry}
use Rattle.apex_threads.specs.Collected.{AreCounted, IsNext}
use Rattle.apex_threads.proofs.Counting.{counted_none, counted_more, is_collected_of}
use Rattle.apex_runs.proofs.pass.push_calls.Goals as goal

pub loop-byte-init : goal.loop-byte-init
loop-byte-init c =
    let config = c.args.ports.now.config in
    let scripts = c.args.scripts.now in
    let replies = c.args.replies.now in
    let all : length c.args.counts.now ≡ length scripts = ap length c.requires.none ∙ length-replicate (length scripts) 0 in
    record {
      counted = subst (λ (h : History). AreCounted h scripts replies c.args.counts.now) (sym c.requires.fresh) (counted_none scripts replies (length scripts) c.args.counts.now c.requires.none all refl);
      config = refl;
      sound = c.requires.sound;
      written = no_entry config c.args.ports.now.history (string_bytes c.args.text.now) c.requires.fresh;
      number = refl;
      length = ap length c.requires.fresh;
      ordered = ap (λ (h : History). map (λ (entry : Entry). entry.partition) h) c.requires.fresh;
    }

pub loop-byte-preserved : goal.loop-byte-preserved
loop-byte-preserved c =
    let config = c.args.ports.now.config in
    let history = c.loop-byte.ports.history in
    let scripts = c.args.scripts.now in
    let replies = c.args.replies.now in
    let counts = c.loop-byte.counts in
    let p = c.from-partition.result in
    let index = get_or counts p 0 in
    let script = c.index-scripts-partition.result in
    let worker = c.index-replies-partition.result in
    let e = entry_of p c.in-Some.at (call_by c.in-Some.call) c.push_call.new.reply in
    let all = c.loop-byte.invariant.counted.all in
    let each = c.requires.each in
    let script_at : slice_get scripts p ≡ Some script = slice_get_read scripts (length scripts) p script refl (omega arith) c.index-scripts-partition.is in
    let own_at : slice_get replies p ≡ Some worker = slice_get_read replies (length replies) p worker refl (omega arith) c.index-replies-partition.is in
    let next : IsNext e script worker index = (c.in-Some.ensures.call, c.if-not-is_at.ensures.0 refl) in
    let before = c.loop-byte.invariant.number in
    let longer : length c.push_call.new.ports.history ≡ length history + 1 = ap length c.push_call.ensures.history ∙ length-append history (e ∷ []) in
    let so_far = c.loop-byte.invariant.length in
    let named : p ≡ get_or c.args.order.now c.loop-byte.byte-index 0 = c.from-partition.ensures in
    record {
      counted = subst (λ (h : History). AreCounted h scripts replies (set counts p (index + 1))) (sym c.push_call.ensures.history)
          (counted_more history e scripts replies counts script worker c.loop-byte.invariant.counted script_at own_at next);
      config = c.push_call.ensures.config ∙ c.loop-byte.invariant.config;
      sound = c.push_call.ensures.sound;
      written =
          entry_pushed config history c.push_call.new.ports.history e (c.loop-byte.number + 1) (string_bytes c.args.text.now) (string_bytes c.loop-byte.text) (string_bytes c.push_call.new.text) (omega arith) c.push_call.ensures.history c.loop-byte.invariant.written
          (c.in_ok-push_call.ensures.written ∙ (λ i. string_bytes c.loop-byte.text ++ line_of (c.loop-byte.invariant.config i) (c.loop-byte.number + 1) e));
      number = omega arith;
      length = omega arith;
      ordered =
          let partitions = λ (h : History). map (λ (entry : Entry). entry.partition) h in
          ap partitions c.push_call.ensures.history ∙ map-append (λ (entry : Entry). entry.partition) history (e ∷ [])
          ∙ (λ i. c.loop-byte.invariant.ordered i ++ named i ∷ []) ∙ sym (take_more c.args.order.now c.loop-byte.byte-index 0 c.loop-byte-test.true);
    }

pub returns-clause-ordered : goal.returns-clause-ordered
returns-clause-ordered c =
    sym (c.loop-byte.invariant.ordered ∙ take_all c.loop-byte.byte-index c.args.order.now c.loop-byte-test.false)

pub returns-clause-collected : goal.returns-clause-collected
returns-clause-collected c =
    is_collected_of c.loop-byte.ports.history c.args.scripts.now c.args.replies.now c.loop-byte.counts c.requires.each c.loop-byte.invariant.counted (c.if-not-are_complete.ensures.0 refl)
