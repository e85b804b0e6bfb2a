-- The log that a contract sees of a `Past`.
use Rattle.std.specs.Prelude.{[], ◌∷◌, ◌++◌}
use Rattle.apex_judge.specs.Prelude.{History, entry_of}
use Rattle.apex_judge.specs.declared.past.Latest.{Latest}
use Rattle.apex_judge.specs.declared.past.Latest.TheVariants.{Nothing, Entry}

abbrev pub log_of : Latest → History
log_of Nothing = []
log_of (Entry before partition at call reply) =
    before.value ++ entry_of partition.value at.value call.value reply.value ∷ []
