-- Requests that write samples.
use Rattle.std.specs.Prelude.{ℕ, ◌≡◌, Bool, true, false, List, slice_get, Some}
use Rattle.apex_board.specs.Prelude.{Call, WriteSampling, Configuration, History, WritesNothing}
use Rattle.apex_ports.specs.declared.history.Request.{Request}

abbrev pub is_write : Call → Bool
is_write (WriteSampling id message) = true
is_write _ = false

-- the request at this index of a list writes nothing when its turn comes after the history
abbrev pub WritesNothingAt : Configuration → History → List Request → ℕ → Type 0
WritesNothingAt config history requests index =
    (request : Request) → slice_get requests index ≡ Some request → WritesNothing config history request.partition request.call
