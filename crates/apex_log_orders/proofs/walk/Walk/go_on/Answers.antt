use Rattle.apex_log_orders.proofs.Common.{◌≡◌, ◌<◌, ◌+◌, ◌++◌, ◌∷◌, [], true, suc, List, ℕ, length, set, Option, Some, refl, sym, ap, ◌∙◌, subst, arith, rules, slice_get, unwrap_or, Entry, History, entries_of, at_index, reply_to, IsSound, reply_shown, same_reply, CallPlace, Choice, IsBeginning, log_in, entry_at, entries_at, GoesOn, IsMade, AreTried}
use Rattle.apex_judge.specs.Replies.{agrees}
use Rattle.apex_judge.proofs.ReplyTests.{agrees_from}
use Rattle.apex_log_orders.proofs.Places.{own_push}
use Rattle.apex_log_orders.proofs.Beginnings.{begins_push, entries_at-push}
use Rattle.apex_log_orders.proofs.Counts.{made_push}
use Rattle.apex_log_orders.proofs.Tries.{tried_go}
use Rattle.apex_log_orders.proofs.walk.Walk.go_on.Goals as goal

pub add_agreeing-requires-clause-agrees : goal.add_agreeing-requires-clause-agrees
add_agreeing-requires-clause-agrees c =
    let config = c.args.config.now in
    let logs = c.args.logs.now in
    let walk = c.requires.walk in
    let h = c.args.self.now.judge.log in
    let p = c.args.p in
    let index = c.index-index.result.now in
    let e : Entry = c.requires.possible.0 in
    let goes : GoesOn config logs h p e = c.requires.possible.1 in
    let within : p < length config.partitions = subst (λ (n : ℕ). n < length config.partitions) goes.own goes.lawful.0 in
    let inside : p < length c.args.self.now.made.items = let count = walk.made.count in omega (arith, within, count) in
    let counted : Some index ≡ Some (length (entries_of p h)) = sym (at_index c.args.self.now.made.items p index inside c.index-index.ensures) ∙ walk.made.each p within in
    let is : index ≡ length (entries_of p h) = cc in
    let here : entry_at logs (record { partition = p; index = index }) ≡ Some e = ap (λ (n : ℕ). slice_get (log_in logs p) n) is ∙ goes.next in
    let log = c.index-logs-p.result in
    let some_log : p < length logs = let all = walk.all in omega (arith, within, all) in
    let at : slice_get logs p ≡ Some log = at_index logs p log some_log c.index-logs-p.is in
    let count : c.len.result ≡ length c.log.inside.entries.items = search rules in
    let further : index < length c.log.inside.entries.items = let prove = c.if-prove.false in omega (arith, count, prove) in
    let seen : slice_get (log_in logs p) index ≡ Some c.index-entry.result.now =
    ap (λ (o : Option History). slice_get (unwrap_or o []) index) at
    ∙ (ap (λ (es : History). slice_get es index) (sym c.log.view_is) ∙ at_index c.log.inside.entries.items index c.index-entry.result.now further c.index-entry.ensures) in
    let both : Some e ≡ Some c.index-entry.result.now = sym here ∙ seen in
    let same : e ≡ c.index-entry.result.now = cc in
    let sound : IsSound config h = record { valid = walk.valid; lawful = walk.begins.lawful } in
    let shown : reply_shown c.args.self.now.judge.config h p e.at e.call ≡ reply_to config h e.partition e.at e.call =
    ap (λ g. reply_shown g h p e.at e.call) walk.judged ∙ (same_reply config h p e.at e.call sound ∙ ap (λ q. reply_to config h q e.at e.call) (sym goes.own)) in
    subst (λ (x : Entry). agrees (reply_shown c.args.self.now.judge.config h p x.at x.call) x.reply ≡ true) same
    (agrees_from (reply_shown c.args.self.now.judge.config h p e.at e.call) e.reply (goes.lawful.1 ∙ sym shown))

pub returns : goal.returns
returns c =
    let config = c.args.config.now in
    let logs = c.args.logs.now in
    let walk = c.requires.walk in
    let h = c.args.self.now.judge.log in
    let p = c.args.p in
    let index = c.index-index.result.now in
    let e : Entry = c.requires.possible.0 in
    let goes : GoesOn config logs h p e = c.requires.possible.1 in
    let within : p < length config.partitions = subst (λ (n : ℕ). n < length config.partitions) goes.own goes.lawful.0 in
    let inside : p < length c.args.self.now.made.items = let count = walk.made.count in omega (arith, within, count) in
    let counted : Some index ≡ Some (length (entries_of p h)) = sym (at_index c.args.self.now.made.items p index inside c.index-index.ensures) ∙ walk.made.each p within in
    let is : index ≡ length (entries_of p h) = cc in
    let here : entry_at logs (record { partition = p; index = index }) ≡ Some e = ap (λ (n : ℕ). slice_get (log_in logs p) n) is ∙ goes.next in
    let log = c.index-logs-p.result in
    let some_log : p < length logs = let all = walk.all in omega (arith, within, all) in
    let at : slice_get logs p ≡ Some log = at_index logs p log some_log c.index-logs-p.is in
    let count : c.len.result ≡ length c.log.inside.entries.items = search rules in
    let further : index < length c.log.inside.entries.items = let prove = c.if-prove.false in omega (arith, count, prove) in
    let seen : slice_get (log_in logs p) index ≡ Some c.index-entry.result.now =
    ap (λ (o : Option History). slice_get (unwrap_or o []) index) at
    ∙ (ap (λ (es : History). slice_get es index) (sym c.log.view_is) ∙ at_index c.log.inside.entries.items index c.index-entry.result.now further c.index-entry.ensures) in
    let both : Some e ≡ Some c.index-entry.result.now = sym here ∙ seen in
    let same : e ≡ c.index-entry.result.now = cc in
    let more : suc (length (entries_of p h)) ≡ index + 1 = omega (arith, is) in
    let added : c.add_agreeing.new.self.log ≡ h ++ e ∷ [] = c.in_ok-add_agreeing.ensures.entry ∙ ap (λ (x : Entry). h ++ record { partition = p; at = x.at; call = x.call; reply = x.reply } ∷ []) (sym same) ∙ ap (λ (n : ℕ). h ++ record { partition = n; at = e.at; call = e.call; reply = e.reply } ∷ []) (sym goes.own) in
    let place : CallPlace = record { partition = p; index = index } in
    let path = c.in_ok-push.ensures.items in
    let choices = c.in_ok-push-2.ensures.items in
    record {
      valid = walk.valid;
      judged = c.in_ok-add_agreeing.ensures.config ∙ walk.judged;
      all = walk.all;
      log = added ∙ (ap (λ (g : History). g ++ e ∷ []) walk.log ∙ (sym (entries_at-push logs c.args.self.now.path.items place e here) ∙ ap (entries_at logs) (sym path)));
      begins = subst (IsBeginning config logs) (sym added) (begins_push config logs h p e walk.begins goes walk.valid);
      made = subst (λ (x : List ℕ × History). IsMade config x.0 x.1) (λ i. (set c.args.self.now.made.items p (more i), sym added i)) (made_push config logs h p e walk.begins goes within c.args.self.now.made.items walk.made);
      own = λ k other at. own_push config logs c.args.self.now.path.items place (record { entry = e; here = here; own = goes.own; within = within }) walk.own k other (ap (λ (places : List CallPlace). slice_get places k) (sym path) ∙ at);
      tried = subst (λ (x : List CallPlace × List Choice). AreTried config logs x.0 x.1) (λ i. (sym path i, sym choices i))
          (tried_go config logs c.args.self.now.path.items c.args.self.now.choices.items place (record { first = c.first-first.result; tried = 0 }) walk.tried c.requires.tried refl);
    }
