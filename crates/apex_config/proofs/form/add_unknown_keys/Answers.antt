use Rattle.apex_config.proofs.Common.{◌≡◌, List, ◌++◌, string_bytes, ap, ◌∙◌, arith, keys_of, Place, unless, unknown, at_each, is_known}
use Rattle.std.proofs.lemmas.Grind.{common_steps}
use Rattle.apex_config.proofs.Views.{at_keys}
use Rattle.apex_config.proofs.form.add_unknown_keys.Goals as goal

pub returns : goal.returns
returns c =
    let found : c.loop-number.places.items ≡ c.args.places.now.items ++ at_each (λ number key. unless (is_known c.args.keys.now (string_bytes key)) (unknown c.args.part number)) 0 (keys_of c.args.table.now.entries) = grind (arith, common_steps) in
    found ∙ ap (λ (found : List Place). c.args.places.now.items ++ found) (at_keys (λ number word. unless (is_known c.args.keys.now word) (unknown c.args.part number)) 0 c.args.table.now.entries)
