-- The checks of each service.
use Rattle.std.specs.Prelude.{List, [], ◌∷◌}
use Rattle.apex_ports.specs.declared.rows.Refusal.{Refusal}
use Rattle.apex_ports.specs.declared.rows.Refusal.TheVariants.{NotConfigured, AlreadyCreated, SizeDiffers, DepthDiffers, DirectionDiffers, RefreshDiffers, UnknownDiscipline, InNormal, NotCreated, NoSuchPort, EmptyMessage, MessageTooLong, NotSource, NotDestination, QueueFull, QueueEmpty, NeverWritten, UnknownMode, AlreadyNormal, WarmStartInColdStart}
use Rattle.apex_texts.specs.declared.service.Service.{Service}
use Rattle.apex_texts.specs.declared.service.Service.TheVariants.{CreateSampling, WriteSampling, ReadSampling, SamplingId, SamplingStatus, CreateQueuing, SendQueuing, ReceiveQueuing, QueuingId, QueuingStatus, ClearQueuing, SetMode}

-- the checks of a service, in the order in which they are made
abbrev pub refusals_of : Service → List Refusal
refusals_of CreateSampling = NotConfigured ∷ AlreadyCreated ∷ SizeDiffers ∷ DirectionDiffers ∷ RefreshDiffers ∷ InNormal ∷ []
refusals_of WriteSampling = NoSuchPort ∷ EmptyMessage ∷ MessageTooLong ∷ NotSource ∷ []
refusals_of ReadSampling = NoSuchPort ∷ NotDestination ∷ NeverWritten ∷ []
refusals_of SamplingId = NotCreated ∷ []
refusals_of SamplingStatus = NoSuchPort ∷ []
refusals_of CreateQueuing = NotConfigured ∷ AlreadyCreated ∷ SizeDiffers ∷ DepthDiffers ∷ DirectionDiffers ∷ UnknownDiscipline ∷ InNormal ∷ []
refusals_of SendQueuing = NoSuchPort ∷ EmptyMessage ∷ MessageTooLong ∷ NotSource ∷ QueueFull ∷ []
refusals_of ReceiveQueuing = NoSuchPort ∷ NotDestination ∷ QueueEmpty ∷ []
refusals_of QueuingId = NotCreated ∷ []
refusals_of QueuingStatus = NoSuchPort ∷ []
refusals_of ClearQueuing = NoSuchPort ∷ NotDestination ∷ []
refusals_of SetMode = UnknownMode ∷ AlreadyNormal ∷ WarmStartInColdStart ∷ []
