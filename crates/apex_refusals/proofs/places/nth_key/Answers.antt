use Rattle.std.proofs.Common.{Some, None, ap, ◌∙◌}
use Rattle.std.proofs.lemmas.Iterator.Consumers.{nth_from_yields_List, YieldsList-from_rest}
use Rattle.std.specs.Map.{keys_of}
use Rattle.apex_refusals.proofs.Documents.{key_seen}
use Rattle.apex_refusals.proofs.places.nth_key.Goals as goal

pub returns-in-Some : goal.returns-in-Some
returns-in-Some c =
    let entries = c.args.table.now.entries in
    ap Some c.as_str.ensures.value ∙ key_seen entries c.args.number (Some c.in-Some.key) (nth_from_yields_List (Some c.in-Some.key) c.nth.new.self c.args.number c.in-Some.ensures.ran (YieldsList-from_rest (keys_of entries) c.keys.ensures.rest))

pub returns-in-None : goal.returns-in-None
returns-in-None c =
    let entries = c.args.table.now.entries in
    key_seen entries c.args.number None (nth_from_yields_List None c.nth.new.self c.args.number c.in-None.ensures.ran (YieldsList-from_rest (keys_of entries) c.keys.ensures.rest))
