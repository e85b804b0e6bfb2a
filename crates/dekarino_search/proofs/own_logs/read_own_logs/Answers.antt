use Rattle.std.proofs.Common.{◌≡◌, ℕ, suc, ◌+◌, ◌<◌, true, false, List, [], ◌∷◌, ◌++◌, length, take, set, get_or, Some, Bor, sym, ap, ◌∙◌, subst, arith, length-set}
use Rattle.std.specs.Prelude.{IfSome}
use Rattle.std.specs.List.{slice_get}
use Rattle.std.proofs.lemmas.Option.{slice_get-get_or}
use Rattle.std.proofs.Math.Seq.{take-suc}
use Rattle.apex_files.specs.Arguments.{Arguments, arguments_for, partition_in}
use Rattle.apex_files.proofs.ArgumentLemmas.{AreFlags, flag_read, flags_more, given_more, has_argument}
use Rattle.dekarino_search.specs.OwnLogs.{AreOwnLogs, SaysOwnLog}
use Rattle.dekarino_search.proofs.own_logs.read_own_logs.Goals as goal

absent : Bor (List ℕ)
absent = record { ref_ptr = (0, 0); now = [] }

pub loop-index-preserved : goal.loop-index-preserved
unfolding absent
loop-index-preserved g c =
    let files = g.O.Opener.bytes_at c.args.opener.now in
    let config = c.args.config.now in
    let arguments = c.args.arguments.now in
    let i = c.loop-index.index in
    let argument = get_or arguments i absent in
    let p = c.in-Some.p in
    let logs = c.loop-index.all.logs.items in
    let named = c.loop-index.named.items in
    let log = c.in_ok-log.log in
    let before = c.loop-index.invariant in
    let test = c.loop-index-test.true in
    let here : slice_get arguments i ≡ Some argument = slice_get-get_or arguments i absent (omega arith) in
    let next : i + 1 ≡ suc i = omega arith in
    let one_more : take (i + 1) arguments ≡ take i arguments ++ argument ∷ [] = ap (λ n. take n arguments) next ∙ take-suc arguments i absent (omega arith) in
    let names : partition_in config argument.now ≡ Some p = c.in-Some.ensures.partition in
    let known : p < length config.partitions = c.in-Some.ensures.known in
    let ok = c.loop-index.named.ok in
    let i_named : p < length named = let count = before.count in omega arith in
    let unnamed = flag_read named p c.index.result.now false i_named c.index.ensures c.if-not-index.true in
    let first : has_argument (arguments_for config p (take i arguments)) ≡ false = sym (before.flags p i_named) ∙ unnamed in
    let count = before.logs.count in
    let read = subst (λ (path : List ℕ). IfSome (files path) (λ bytes. SaysOwnLog c.args.time_outs p bytes log)) c.in-Some.ensures.path c.in_ok-log.ensures in
    record {
      logs = subst (λ (done : Arguments). AreOwnLogs files c.args.time_outs config done (set logs p log)) (sym one_more)
          (given_more (SaysOwnLog c.args.time_outs) [] files config (take i arguments) argument p logs log names (omega arith) first read before.logs);
      files = length-set c.loop-index.all.files.items p c.in_ok-log.file ∙ before.files;
      flags = subst (λ (done : Arguments). AreFlags config done (set named p true)) (sym one_more)
          (flags_more config (take i arguments) argument p named names i_named before.flags);
      count = before.count;
    }
