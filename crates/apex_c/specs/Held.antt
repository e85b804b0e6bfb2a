-- The ports behind a pointer: none, or what a box of them owns.
use base.Fml.{Fml, ftrue}
use base.Stored.{Coded}
use denote.RawPtr.{Ptr}
use Rattle.std.specs.Prelude.{Option, None, Some}
use Rattle.std.specs.Coded.{coded_option}
use Rattle.std.specs.Box.Ownership.{box_owns}
use Rattle.std.specs.Global.{Global}
use Rattle.std_heap.specs.contracts.Global as heap
use Rattle.std_heap.specs.contracts.GlobalAllocator.TheImpl.{ghosts}
use Rattle.apex_ports.specs.PortsView.{PortsView}
use Rattle.apex_ports.specs.contracts.ports.Ports.{the_row}

-- the ports of a handle that is open
abbrev pub PortsHeld : Type 0
PortsHeld = Option PortsView

abbrev pub ports_coded : Coded PortsHeld
ports_coded = coded_option (the_row heap.the_row ghosts).coded

abbrev pub held_owns : Global → Ptr → PortsHeld → Fml
held_owns alloc at None = ftrue
held_owns alloc at (Some ports) = box_owns (ghosts.dealloc_token alloc) (the_row heap.the_row ghosts) at ports
