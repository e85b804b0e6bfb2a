use Rattle.std.proofs.Common.{arith}
use Rattle.std.proofs.lemmas.Fmt.{hex_byte}
use Rattle.apex_files.proofs.terminal.write_escape.Goals as goal

pub returns : goal.returns
returns g c = grind (arith, hex_byte)
