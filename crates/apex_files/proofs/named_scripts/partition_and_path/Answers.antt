use Rattle.apex_files.proofs.ArgumentLemmas.{uncut}
use Rattle.apex_files.proofs.named_scripts.partition_and_path.Goals as goal

pub returns-in_err-name-clause-partition : goal.returns-in_err-name-clause-partition
returns-in_err-name-clause-partition c =
    let none = c.in_err-name.was in
    let result = c.from_residual.ensures in
    rw result (uncut c.args.config.now c.args.argument.now (rw none at c.split_once.ensures.cases))
