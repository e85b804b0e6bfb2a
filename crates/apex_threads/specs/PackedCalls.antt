-- Calls whose messages and names are among stored ones.
use Rattle.std.specs.Prelude.{ℕ, ◌≡◌, ◌<◌, List, [], slice_get, unwrap_or, Some}
use Rattle.apex_types.specs.declared.call.Call.{Call}
use Rattle.apex_types.specs.declared.call.Call.TheVariants as call
use Rattle.apex_types.specs.declared.moment.Moment.{Moment}
use Rattle.apex_threads.specs.declared.packed_script.PackedCall.{PackedCall}
use Rattle.apex_threads.specs.declared.packed_script.PackedCall.TheVariants as packed

-- the message or the name at an index
abbrev pub stored_at : List (List ℕ) → ℕ → List ℕ
stored_at all index = unwrap_or (slice_get all index) []

-- the call, with its message and its name from these
abbrev pub call_in : List (List ℕ) → List (List ℕ) → PackedCall → Call
call_in messages names (packed.CreateSampling name size direction refresh) = call.CreateSampling (stored_at names name) size direction refresh
call_in messages names (packed.WriteSampling id message) = call.WriteSampling id (stored_at messages message)
call_in messages names (packed.ReadSampling id) = call.ReadSampling id
call_in messages names (packed.SamplingId name) = call.SamplingId (stored_at names name)
call_in messages names (packed.SamplingStatus id) = call.SamplingStatus id
call_in messages names (packed.CreateQueuing name size depth direction discipline) = call.CreateQueuing (stored_at names name) size depth direction discipline
call_in messages names (packed.SendQueuing id message) = call.SendQueuing id (stored_at messages message)
call_in messages names (packed.ReceiveQueuing id) = call.ReceiveQueuing id
call_in messages names (packed.QueuingId name) = call.QueuingId (stored_at names name)
call_in messages names (packed.QueuingStatus id) = call.QueuingStatus id
call_in messages names (packed.ClearQueuing id) = call.ClearQueuing id
call_in messages names (packed.SetMode mode) = call.SetMode mode

abbrev pub timed_in : List (List ℕ) → List (List ℕ) → Moment × PackedCall → Moment × Call
timed_in messages names timed = (timed.0, call_in messages names timed.1)

-- the call's message is one of this number of messages, and its name one of this number of names
abbrev pub IsPackedCall : ℕ → ℕ → PackedCall → Type 0
IsPackedCall messages names (packed.CreateSampling name size direction refresh) = name < names
IsPackedCall messages names (packed.WriteSampling id message) = message < messages
IsPackedCall messages names (packed.SamplingId name) = name < names
IsPackedCall messages names (packed.CreateQueuing name size depth direction discipline) = name < names
IsPackedCall messages names (packed.SendQueuing id message) = message < messages
IsPackedCall messages names (packed.QueuingId name) = name < names
IsPackedCall messages names other = Unit {0}

-- this holds for all calls
abbrev pub ArePackedCalls : ℕ → ℕ → List (Moment × PackedCall) → Type 0
ArePackedCalls messages names calls = (k : ℕ) (timed : Moment × PackedCall) → slice_get calls k ≡ Some timed → IsPackedCall messages names timed.1
