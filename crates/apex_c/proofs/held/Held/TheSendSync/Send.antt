-- What is held owns what a box of the ports owns, which says the same to every thread.
use mir.Raw.{raw}
use base.Shift.{Keyless}
use denote.Memory.{lone}
use denote.RawPtr.{Ptr}
use denote.RattleType.{RattleType}
use denote.Struct.Struct.{exits_of}
use denote.Struct.Owning.{shape, fields, to}
use denote.Param.Send.{IsSend, AllSend, owning_send, struct_send, sendable}
use Rattle.std.specs.Prelude.{None, Some}
use Rattle.std.specs.Global.{Global}
use Rattle.std.proofs.Crossing.{crosses, frees, send as heap_send}
use Rattle.std_heap.specs.contracts.Global as Heap
use Rattle.std_heap.specs.contracts.GlobalAllocator.TheImpl.{ghosts}
use Rattle.std_alloc.proofs.SendSync.{lies, quiet}
use Rattle.apex_ports.specs.contracts.ports.Ports as Ports
use Rattle.apex_c.specs.Held.{PortsHeld, held_owns}
use Rattle.apex_c.specs.contracts.held.Held.{the_row, the_type}
use Rattle.apex_ports.proofs.Crossing.{Ports-send}

abbrev R : RattleType
R = Ports.the_row Heap.the_row ghosts

R-send : IsSend R
R-send = Ports-send Heap.the_row ghosts heap_send frees

keyless : (alloc : Global) (at : Ptr) (ports : PortsHeld) → Keyless (held_owns alloc at ports)
keyless alloc at None = tt
keyless alloc at (Some ports) = (lies R R-send at ports, frees.frees alloc (raw (lone R.mir)) at)

pub send : IsSend the_row
send =
    let all : AllSend (fields the_type) = (search sendable, (search crosses, tt)) in
    owning_send the_type all (λ held. keyless held.alloc held.at held.ports) (λ k. quiet (to the_type) (exits_of k (fields the_type)) ((struct_send (shape the_type) all).leaving k))
