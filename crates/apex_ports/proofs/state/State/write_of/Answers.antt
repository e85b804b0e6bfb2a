use Rattle.apex_ports.proofs.Common.{◌≡◌, false, refl, sym, ap, ◌∙◌, WriteSampling, Moment, Code, NoError, is_idle, row_of, reply_of, write_row, seen, sampling_port}
use Rattle.apex_ports.specs.declared.rows.Row.TheVariants as row
use Rattle.apex_ports.proofs.Conserved.{write_sampling}
use Rattle.apex_ports.proofs.RowFacts.{written_at, source_of, writes_there}
use Rattle.apex_ports.proofs.state.State.write_of.Goals as goal

pub returns-in_ok-port-in-Ok-clause-writes : goal.returns-in_ok-port-in-Ok-clause-writes
returns-in_ok-port-in-Ok-clause-writes g c =
    let config = c.args.config.now in
    let p = c.args.partition in
    let s = seen config c.args.self.now.history p in
    let id = c.in-WriteSampling.id in
    let active : is_idle s.mode ≡ false = ap is_idle (sym c.mode.ensures) ∙ (sym c.is_idle.ensures ∙ c.if-is_idle.false) in
    let decided : write_row config (sampling_port config s p id) c.in-WriteSampling.message ≡ row.Written =
    ap (write_row config (sampling_port config s p id)) (sym c.bytes.ensures.bytes) ∙ c.in-Ok.ensures in
    rw c.in-WriteSampling.is (writes_there config c.args.self.now.history p id c.in-WriteSampling.message c.in_ok-port-in-Ok.port.now (sym c.in_ok-port-in-Ok.ensures.found) active decided)

pub returns-in_ok-port-in-Ok-clause-kind : goal.returns-in_ok-port-in-Ok-clause-kind
returns-in_ok-port-in-Ok-clause-kind g c =
    let config = c.args.config.now in
    let h = c.args.self.now.history in
    let p = c.args.partition in
    let s = seen config h p in
    let id = c.in-WriteSampling.id in
    let m = c.in-WriteSampling.message in
    let at : Moment = record { 0 = 0 } in
    let active : is_idle s.mode ≡ false = ap is_idle (sym c.mode.ensures) ∙ (sym c.is_idle.ensures ∙ c.if-is_idle.false) in
    let decided : write_row config (sampling_port config s p id) m ≡ row.Written =
    ap (write_row config (sampling_port config s p id)) (sym c.bytes.ensures.bytes) ∙ c.in-Ok.ensures in
    let given : row_of config s p at (WriteSampling id m) ≡ row.Written = rw active decided in
    let end = source_of config p id (written_at config s p at id m given).0 c.in_ok-port-in-Ok.port.now (written_at config s p at id m given).1 c.in_ok-port-in-Ok.ensures.found in
    write_sampling config h p at id m (Code NoError) c.in_ok-port-in-Ok.port.now.channel c.requires.current.sound.valid (ap (reply_of config s p) (sym given)) refl end
