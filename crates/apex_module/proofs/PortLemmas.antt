-- The port with an identifier, which is its index in the partition plus one.
use Rattle.std.proofs.Common.{◌≡◌, ℕ, suc, ◌-◌, false, eqb, List, arith}
use Rattle.std.specs.List.{slice_get}
use Rattle.std.proofs.lemmas.Bool.Decides.{nat_tests}
use Rattle.apex_module.specs.declared.port.Port.{Port}
use Rattle.apex_module.specs.Configuration.{port_at}

pub port_at_suc : (ports : List Port) (i : ℕ) → port_at ports (suc i) ≡ slice_get ports i
port_at_suc ports i =
    let above : eqb (suc i) 0 ≡ false = grind (arith, nat_tests) in
    let before : suc i - 1 ≡ i = omega arith in
    rw (above, before)
