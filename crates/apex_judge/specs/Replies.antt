-- Whether a logged reply is the standard's.
use Rattle.std.specs.Prelude.{ℕ, Bool, true, false, ◌&&◌, ◌==◌, List}
use Rattle.apex_judge.specs.Prelude.{bytes_eq, Reply, NotMade, Code, Id, Received, Read, QueuingStatus, SamplingStatus, ReturnCode, Validity, is_id}
use Rattle.apex_types.specs.Direction.{number_of as number_of_direction}
use Rattle.apex_types.specs.ReturnCode.{number_of as number_of_code}
use Rattle.apex_types.specs.Validity.{number_of as number_of_validity}
use Rattle.apex_types.specs.declared.direction.Direction.{Direction}

abbrev pub is_not_made : Reply → Bool
is_not_made NotMade = true
is_not_made _ = false

abbrev pub is_code : ReturnCode → Reply → Bool
is_code code (Code logged) = number_of_code logged == number_of_code code
is_code code _ = false

abbrev pub is_received : List ℕ → Reply → Bool
is_received message (Received logged) = bytes_eq logged message
is_received message _ = false

abbrev pub is_read_as : List ℕ → Validity → Reply → Bool
is_read_as message validity (Read logged shown) = bytes_eq logged message && (number_of_validity shown == number_of_validity validity)
is_read_as message validity _ = false

abbrev pub is_queuing_status : ℕ → ℕ → ℕ → Direction → Reply → Bool
is_queuing_status waiting depth size direction (QueuingStatus count capacity bytes way) =
    (count == waiting) && (capacity == depth) && (bytes == size) && (number_of_direction way == number_of_direction direction)
is_queuing_status waiting depth size direction _ = false

abbrev pub is_sampling_status : ℕ → ℕ → Direction → Validity → Reply → Bool
is_sampling_status refresh size direction last (SamplingStatus period bytes way shown) =
    (period == refresh) && (bytes == size) && (number_of_direction way == number_of_direction direction) && (number_of_validity shown == number_of_validity last)
is_sampling_status refresh size direction last _ = false

-- the logged reply is the standard's
abbrev pub agrees : Reply → Reply → Bool
agrees NotMade logged = is_not_made logged
agrees (Code code) logged = is_code code logged
agrees (Id id) logged = is_id id logged
agrees (Received message) logged = is_received message logged
agrees (Read message validity) logged = is_read_as message validity logged
agrees (QueuingStatus waiting depth size direction) logged = is_queuing_status waiting depth size direction logged
agrees (SamplingStatus refresh size direction last) logged = is_sampling_status refresh size direction last logged
