use Rattle.std.proofs.Common.{◌≡◌, sym, subst, arith, rules}
use Rattle.std.specs.Str.{IsAscii}
use Rattle.std.proofs.lemmas.Str.{IsUtf8-from_ascii}
use Rattle.hex.specs.Hex.{encode_lower}
use Rattle.apex_types.proofs.HexText.{digits_are_ascii, text_reads_back}
use Rattle.apex_types.proofs.message.hex_text.Goals as goal

pub from_utf8_unchecked-requires : goal.from_utf8_unchecked-requires
from_utf8_unchecked-requires c =
    let digits : c.encode.new.digits ≡ encode_lower c.args.bytes.now = search rules in
    IsUtf8-from_ascii _ (subst IsAscii (sym digits) (digits_are_ascii c.args.bytes.now))

pub returns-clause-reads_back : goal.returns-clause-reads_back
returns-clause-reads_back c short = text_reads_back c.args.bytes.now (λ i. let fits = c.type_inv.bytes i in omega arith) short
