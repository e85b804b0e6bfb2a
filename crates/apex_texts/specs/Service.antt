-- The services that a trace can ask for, by their call words.
use Rattle.std.specs.Prelude.{ℕ, List, [], ◌∷◌, length, codes, find, Option}
use Rattle.apex_texts.specs.Prelude.{Call}
use Rattle.std.specs.Str.{bytes_eq}
use Rattle.apex_types.specs.declared.call.Call.TheVariants as calls
use Rattle.apex_texts.specs.declared.expected.Expected.{Expected}
use Rattle.apex_texts.specs.declared.expected.Expected.TheVariants.{Name, Size, Depth, Direction, Discipline, Refresh, Identifier, Message, Mode}
use Rattle.apex_texts.specs.declared.service.Service.{Service}
use Rattle.apex_texts.specs.declared.service.Service.TheVariants.{CreateSampling, WriteSampling, ReadSampling, SamplingId, SamplingStatus, CreateQueuing, SendQueuing, ReceiveQueuing, QueuingId, QueuingStatus, ClearQueuing, SetMode}

-- the call word of a service
abbrev pub word_of : Service → List ℕ
word_of CreateSampling = codes "create-sampling"
word_of WriteSampling = codes "write"
word_of ReadSampling = codes "read"
word_of SamplingId = codes "sampling-id"
word_of SamplingStatus = codes "sampling-status"
word_of CreateQueuing = codes "create-queuing"
word_of SendQueuing = codes "send"
word_of ReceiveQueuing = codes "receive"
word_of QueuingId = codes "queuing-id"
word_of QueuingStatus = codes "queuing-status"
word_of ClearQueuing = codes "clear"
word_of SetMode = codes "mode"

abbrev pub services : List Service
services =
    CreateSampling ∷ WriteSampling ∷ ReadSampling ∷ SamplingId ∷ SamplingStatus ∷ CreateQueuing ∷ SendQueuing ∷ ReceiveQueuing ∷ QueuingId ∷ QueuingStatus ∷ ClearQueuing ∷ SetMode ∷ []

-- the service that a call word names
abbrev pub service_named : List ℕ → Option Service
service_named word = find (λ service. bytes_eq (word_of service) word) services

-- the service of a call
abbrev pub service_of : Call → Service
service_of (calls.CreateSampling name size direction refresh) = CreateSampling
service_of (calls.WriteSampling id message) = WriteSampling
service_of (calls.ReadSampling id) = ReadSampling
service_of (calls.SamplingId name) = SamplingId
service_of (calls.SamplingStatus id) = SamplingStatus
service_of (calls.CreateQueuing name size depth direction discipline) = CreateQueuing
service_of (calls.SendQueuing id message) = SendQueuing
service_of (calls.ReceiveQueuing id) = ReceiveQueuing
service_of (calls.QueuingId name) = QueuingId
service_of (calls.QueuingStatus id) = QueuingStatus
service_of (calls.ClearQueuing id) = ClearQueuing
service_of (calls.SetMode mode) = SetMode

-- what each argument of a service must be
abbrev pub parameters_of : Service → List Expected
parameters_of CreateSampling = Name ∷ Size ∷ Direction ∷ Refresh ∷ []
parameters_of WriteSampling = Identifier ∷ Message ∷ []
parameters_of ReadSampling = Identifier ∷ []
parameters_of SamplingId = Name ∷ []
parameters_of SamplingStatus = Identifier ∷ []
parameters_of CreateQueuing = Name ∷ Size ∷ Depth ∷ Direction ∷ Discipline ∷ []
parameters_of SendQueuing = Identifier ∷ Message ∷ []
parameters_of ReceiveQueuing = Identifier ∷ []
parameters_of QueuingId = Name ∷ []
parameters_of QueuingStatus = Identifier ∷ []
parameters_of ClearQueuing = Identifier ∷ []
parameters_of SetMode = Mode ∷ []

-- the number of arguments of a service
abbrev pub arguments_of : Service → ℕ
arguments_of service = length (parameters_of service)
