use Rattle.std.proofs.Common.{◌≡◌, ℕ, suc, ◌+◌, ◌<◌, true, false, List, [], ◌∷◌, ◌++◌, length, take, set, get_or, Option, Some, None, Ok, Bor, sym, ap, ◌∙◌, subst, arith, length-set}
use Rattle.std.specs.Prelude.{IfSome}
use Rattle.std.proofs.Math.Seq.{take-suc}
use Rattle.apex_types.specs.declared.call.Call.{Call}
use Rattle.apex_types.specs.declared.moment.Moment.{Moment}
use Rattle.apex_texts.specs.Script.{script_of}
use Rattle.apex_files.specs.Arguments.{Arguments, arguments_for, partition_in, path_in}
use Rattle.apex_files.specs.Scripts.{AreScripts, SaysScript}
use Rattle.apex_files.proofs.ArgumentLemmas.{AreFlags, flag_read, flags_more, given_more, has_argument}
use Rattle.dekarino_search.proofs.scripts.read_scripts.Goals as goal

absent : Bor (List ℕ)
absent = record { ref_ptr = (0, 0); now = [] }

-- the bytes of a file say the script that was read in them
script_said : (found : Option (List ℕ)) (text : List ℕ) (script : List (Moment × Call)) → IfSome found (λ bytes. text ≡ bytes) → script_of text ≡ Ok script → IfSome found (λ bytes. script_of bytes ≡ Ok script)
script_said None text script read said = tt
script_said (Some bytes) text script read said = subst (λ (b : List ℕ). script_of b ≡ Ok script) read said

pub loop-index-preserved : goal.loop-index-preserved
unfolding absent
loop-index-preserved g c =
    let files = g.O.Opener.bytes_at c.args.opener.now in
    let config = c.args.config.now in
    let arguments = c.args.arguments.now in
    let i = c.loop-index.index in
    let argument = get_or arguments i absent in
    let p = c.in-Some.p in
    let scripts = c.loop-index.all.scripts.items in
    let named = c.loop-index.named.items in
    let script = c.in-Ok.script in
    let before = c.loop-index.invariant in
    let test = c.loop-index-test.true in
    let next : i + 1 ≡ suc i = omega arith in
    let one_more : take (i + 1) arguments ≡ take i arguments ++ argument ∷ [] = ap (λ n. take n arguments) next ∙ take-suc arguments i absent (omega arith) in
    let names : partition_in config argument.now ≡ Some p = c.in-Some.ensures.partition in
    let known : p < length config.partitions = c.in-Some.ensures.known in
    let ok = c.loop-index.named.ok in
    let i_named : p < length named = let count = before.count in omega arith in
    let unnamed = flag_read named p c.index.result.now false i_named c.index.ensures c.if-not-index.true in
    let first : has_argument (arguments_for config p (take i arguments)) ≡ false = sym (before.flags p i_named) ∙ unnamed in
    let count = before.scripts.count in
    let file = subst (λ (path : List ℕ). IfSome (files path) (λ bytes. c.in_ok-text.text.items ≡ bytes)) c.in-Some.ensures.path c.in_ok-text.ensures in
    let said : script_of c.in_ok-text.text.items ≡ Ok script = ap script_of (sym c.as_slice.ensures.value) ∙ c.in-Ok.ensures in
    let read = script_said (files (path_in argument.now)) c.in_ok-text.text.items script file said in
    record {
      scripts = subst (λ (done : Arguments). AreScripts files config done (set scripts p script)) (sym one_more)
          (given_more SaysScript [] files config (take i arguments) argument p scripts script names (omega arith) first read before.scripts);
      lines = length-set c.loop-index.all.lines.items p _ ∙ before.lines;
      flags = subst (λ (done : Arguments). AreFlags config done (set named p true)) (sym one_more)
          (flags_more config (take i arguments) argument p named names i_named before.flags);
      count = before.count;
    }
