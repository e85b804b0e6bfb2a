use Rattle.std.proofs.Common.{◌≡◌, ℕ, suc, ◌+◌, ◌<◌, true, false, List, [], ◌∷◌, ◌++◌, length, take, set, get_or, Some, Ok, Err, Bor, sym, ap, ◌∙◌, subst, arith}
use Rattle.std.specs.Prelude.{IfSome}
use Rattle.std.specs.List.{slice_get}
use Rattle.std.proofs.lemmas.Option.{slice_get-get_or}
use Rattle.std.proofs.Math.Seq.{take-suc}
use Rattle.apex_texts.specs.Script.{script_of}
use Rattle.apex_files.specs.Arguments.{Arguments, partition_in, arguments_for}
use Rattle.apex_files.specs.Scripts.{AreScripts, IsScriptFile, SaysScript}
use Rattle.apex_files.proofs.ArgumentLemmas.{AreFlags, has_argument, flag_read, given_more, flags_more, is_new, named_before, not_new, given_refusal, refused_itself, refused_file}
use Rattle.apex_files.proofs.named_scripts.scripts_named.Goals as goal
use Rattle.apex_files.proofs.named_scripts.scripts_named.Goals.{in_default-via-in-Some+else-not-index, in_default-via-in_default}

absent : Bor (List ℕ)
absent = record { ref_ptr = (0, 0); now = [] }

pub loop-argument-preserved : goal.loop-argument-preserved
unfolding absent
loop-argument-preserved g c =
    let files = g.O.Opener.bytes_at c.args.opener.now in
    let config = c.args.config.now in
    let arguments = c.args.arguments.now in
    let i = c.loop-argument.argument-index in
    let argument = get_or arguments i absent in
    let p = c.in-Some.p in
    let scripts = c.loop-argument.scripts.items in
    let named = c.loop-argument.named.items in
    let before = c.loop-argument.invariant in
    let test = c.loop-argument-test.true in
    let here : slice_get arguments i ≡ Some argument = slice_get-get_or arguments i absent (omega arith) in
    let next : i + 1 ≡ suc i = omega arith in
    let one_more : take (i + 1) arguments ≡ take i arguments ++ argument ∷ [] = ap (λ n. take n arguments) next ∙ take-suc arguments i absent (omega arith) in
    let names : partition_in config argument.now ≡ Some p = c.in-Some.ensures.partition in
    let known : p < length config.partitions = c.in-Some.ensures.known in
    let ok = c.loop-argument.named.ok in
    let i_named : p < length named = let count = before.count in omega arith in
    let unnamed = flag_read named p c.index.result.now false i_named c.index.ensures c.if-not-index.true in
    let first : has_argument (arguments_for config p (take i arguments)) ≡ false = sym (before.flags p i_named) ∙ unnamed in
    let count = before.scripts.count in
    let read = subst (λ (path : List ℕ). IfSome (files path) (λ bytes. script_of bytes ≡ Ok c.in_ok-scripts-2.field-0)) c.in-Some.ensures.path c.in_ok-scripts-2.ensures in
    record {
      scripts = subst (λ (done : Arguments). AreScripts files config done (set scripts p c.in_ok-scripts-2.field-0)) (sym one_more)
          (given_more SaysScript [] files config (take i arguments) argument p scripts c.in_ok-scripts-2.field-0 names (omega arith) first read before.scripts);
      flags = subst (λ (done : Arguments). AreFlags config done (set named p true)) (sym one_more)
          (flags_more config (take i arguments) argument p named names i_named before.flags);
      count = before.count;
    }

pub returns-in_default : goal.returns-in_default
unfolding absent
returns-in_default g c =
    let files = g.O.Opener.bytes_at c.args.opener.now in
    let config = c.args.config.now in
    let arguments = c.args.arguments.now in
    let i = c.loop-argument.argument-index in
    let argument = get_or arguments i absent in
    let before = c.loop-argument.invariant in
    let test = c.loop-argument-test.true in
    let here : slice_get arguments i ≡ Some argument = slice_get-get_or arguments i absent (omega arith) in
    refused_itself files config arguments i argument c.loop-argument.scripts.items here before.scripts
    (elim c.in_default.branch [
      | in_default-via-in-Some+else-not-index w ↦
          let known : w.in-Some.p < length config.partitions = w.in-Some.ensures.known in
          let ok = c.loop-argument.named.ok in
          let count = before.count in
          let within : w.in-Some.p < length c.loop-argument.named.items = omega arith in
          let flag = flag_read c.loop-argument.named.items w.in-Some.p w.index.result.now true within w.index.ensures w.if-not-index.false in
          named_before config (take i arguments) argument.now w.in-Some.p w.in-Some.ensures.partition (sym (before.flags w.in-Some.p within) ∙ flag)
      | in_default-via-in_default w ↦ not_new config (take i arguments) argument.now w.in_default.ensures.partition
    ])

pub returns-in_err-scripts-2 : goal.returns-in_err-scripts-2
unfolding absent
returns-in_err-scripts-2 g c =
    let files = g.O.Opener.bytes_at c.args.opener.now in
    let config = c.args.config.now in
    let arguments = c.args.arguments.now in
    let i = c.loop-argument.argument-index in
    let argument = get_or arguments i absent in
    let named = c.loop-argument.named.items in
    let p = c.in-Some.p in
    let before = c.loop-argument.invariant in
    let test = c.loop-argument-test.true in
    let here : slice_get arguments i ≡ Some argument = slice_get-get_or arguments i absent (omega arith) in
    let names : partition_in config argument.now ≡ Some p = c.in-Some.ensures.partition in
    let known : p < length config.partitions = c.in-Some.ensures.known in
    let ok = c.loop-argument.named.ok in
    let i_named : p < length named = let count = before.count in omega arith in
    let unnamed = flag_read named p c.index.result.now false i_named c.index.ensures c.if-not-index.true in
    let first : has_argument (arguments_for config p (take i arguments)) ≡ false = sym (before.flags p i_named) ∙ unnamed in
    let refusal = c.in_err-scripts-2.field-0.0 in
    let read = subst (λ (path : List ℕ). IsScriptFile files config p path (Err refusal)) c.in-Some.ensures.path c.in_err-scripts-2.ensures in
    let refused = refused_file files config arguments i argument c.loop-argument.scripts.items p refusal here before.scripts (is_new config (take i arguments) argument.now p names first) read in
    given_refusal files config arguments c.from_residual-in_err-scripts-2.result refusal c.from_residual-in_err-scripts-2.ensures refused
