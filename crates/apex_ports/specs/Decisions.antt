-- How a function that decides about a call relates to the reply table.
use Rattle.std.specs.Prelude.{◌≡◌, Result, Ok, Err}
use Rattle.apex_ports.specs.declared.rows.Refusal.{Refusal}
use Rattle.apex_ports.specs.declared.rows.Row.{Row}
use Rattle.apex_ports.specs.declared.rows.Row.TheVariants.{Refused}

-- the table's row is the accepted one, or the refusal
abbrev pub IsRowOfDecision : Row → Result Row Refusal → Type 0
IsRowOfDecision row (Ok accepted) = row ≡ accepted
IsRowOfDecision row (Err refusal) = row ≡ Refused refusal

-- the same where only one row can be accepted
abbrev pub Decides : Row → Row → Result Unit Refusal → Type 0
Decides row accepted (Ok _) = row ≡ accepted
Decides row accepted (Err refusal) = row ≡ Refused refusal
