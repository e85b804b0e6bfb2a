-- The test of a logged reply says exactly whether it is the standard's.
use Rattle.apex_judge.proofs.Common.{◌≡◌, ℕ, ◌==◌, true, ◌&&◌, if◌then◌else◌, List, refl, sym, ap, ◌∙◌, arith, bytes_eq, and_parts, and_from, eqb-true, nat_tests, bytes_eq-Decides, Reply, NotMade, Code, Id, Received, Read, QueuingStatus, SamplingStatus, Invalid, Valid, is_id, is_not_made, is_code, is_received, is_read_as, is_queuing_status, is_sampling_status, agrees}
use Rattle.apex_types.specs.Direction.{number_of as number_of_direction}
use Rattle.apex_types.specs.ReturnCode.{number_of as number_of_code}
use Rattle.apex_types.specs.Validity.{number_of as number_of_validity}
use Rattle.apex_types.specs.declared.direction.Direction.{Direction}
use Rattle.apex_types.specs.declared.direction.Direction.TheVariants.{Source, Destination}
use Rattle.apex_types.specs.declared.return_code.ReturnCode.{ReturnCode}
use Rattle.apex_types.specs.declared.return_code.ReturnCode.TheVariants.{NoError, NoAction, NotAvailable, InvalidParam, InvalidConfig, InvalidMode, TimedOut}
use Rattle.apex_types.specs.declared.validity.Validity.{Validity}

same_number : (n : ℕ) → (n == n) ≡ true
same_number n = grind (arith, nat_tests)

-- ---- each number means one thing

abbrev code_numbered : ℕ → ReturnCode
code_numbered n =
    if n == 0 then NoError
    else if n == 1 then NoAction
    else if n == 2 then NotAvailable
    else if n == 3 then InvalidParam
    else if n == 4 then InvalidConfig
    else if n == 5 then InvalidMode
    else TimedOut

code_back : (code : ReturnCode) → code_numbered (number_of_code code) ≡ code
code_back NoError = refl
code_back NoAction = refl
code_back NotAvailable = refl
code_back InvalidParam = refl
code_back InvalidConfig = refl
code_back InvalidMode = refl
code_back TimedOut = refl

same_code : (a b : ReturnCode) → (number_of_code a == number_of_code b) ≡ true → a ≡ b
same_code a b test = sym (code_back a) ∙ (ap code_numbered (eqb-true (number_of_code a) (number_of_code b) test) ∙ code_back b)

abbrev direction_numbered : ℕ → Direction
direction_numbered n = if n == 0 then Source else Destination

direction_back : (direction : Direction) → direction_numbered (number_of_direction direction) ≡ direction
direction_back Source = refl
direction_back Destination = refl

same_direction : (a b : Direction) → (number_of_direction a == number_of_direction b) ≡ true → a ≡ b
same_direction a b test = sym (direction_back a) ∙ (ap direction_numbered (eqb-true (number_of_direction a) (number_of_direction b) test) ∙ direction_back b)

abbrev validity_numbered : ℕ → Validity
validity_numbered n = if n == 0 then Invalid else Valid

validity_back : (validity : Validity) → validity_numbered (number_of_validity validity) ≡ validity
validity_back Invalid = refl
validity_back Valid = refl

same_validity : (a b : Validity) → (number_of_validity a == number_of_validity b) ≡ true → a ≡ b
same_validity a b test = sym (validity_back a) ∙ (ap validity_numbered (eqb-true (number_of_validity a) (number_of_validity b) test) ∙ validity_back b)

-- ---- a reply that passes is the standard's

not_made_is : (logged : Reply) → is_not_made logged ≡ true → logged ≡ NotMade
not_made_is NotMade h = refl
not_made_is _ h = absurd (cc)

code_is : (code : ReturnCode) (logged : Reply) → is_code code logged ≡ true → logged ≡ Code code
code_is code (Code other) h = ap (λ x. Code x) (same_code other code h)
code_is code _ h = absurd (cc)

id_is : (id : ℕ) (logged : Reply) → is_id id logged ≡ true → logged ≡ Id id
id_is id (Id other) h = ap (λ x. Id x) (eqb-true other id h)
id_is id _ h = absurd (cc)

received_is : (message : List ℕ) (logged : Reply) → is_received message logged ≡ true → logged ≡ Received message
received_is message (Received other) h = ap (λ x. Received x) ((bytes_eq-Decides other message).0 h)
received_is message _ h = absurd (cc)

read_is : (message : List ℕ) (validity : Validity) (logged : Reply) → is_read_as message validity logged ≡ true → logged ≡ Read message validity
read_is message validity (Read other shown) h =
    let parts = and_parts (bytes_eq other message) (number_of_validity shown == number_of_validity validity) h in
    let bytes = (bytes_eq-Decides other message).0 parts.0 in
    let age = same_validity shown validity parts.1 in
    λ i. Read (bytes i) (age i)
read_is message validity _ h = absurd (cc)

queuing_is : (waiting depth size : ℕ) (direction : Direction) (logged : Reply) → is_queuing_status waiting depth size direction logged ≡ true → logged ≡ QueuingStatus waiting depth size direction
queuing_is waiting depth size direction (QueuingStatus count capacity bytes way) h =
    let three = and_parts ((count == waiting) && (capacity == depth) && (bytes == size)) (number_of_direction way == number_of_direction direction) h in
    let two = and_parts ((count == waiting) && (capacity == depth)) (bytes == size) three.0 in
    let one = and_parts (count == waiting) (capacity == depth) two.0 in
    let a = eqb-true count waiting one.0 in
    let b = eqb-true capacity depth one.1 in
    let c = eqb-true bytes size two.1 in
    let d = same_direction way direction three.1 in
    λ i. QueuingStatus (a i) (b i) (c i) (d i)
queuing_is waiting depth size direction _ h = absurd (cc)

sampling_is : (refresh size : ℕ) (direction : Direction) (last : Validity) (logged : Reply) → is_sampling_status refresh size direction last logged ≡ true → logged ≡ SamplingStatus refresh size direction last
sampling_is refresh size direction last (SamplingStatus period bytes way shown) h =
    let three = and_parts ((period == refresh) && (bytes == size) && (number_of_direction way == number_of_direction direction)) (number_of_validity shown == number_of_validity last) h in
    let two = and_parts ((period == refresh) && (bytes == size)) (number_of_direction way == number_of_direction direction) three.0 in
    let one = and_parts (period == refresh) (bytes == size) two.0 in
    let a = eqb-true period refresh one.0 in
    let b = eqb-true bytes size one.1 in
    let c = same_direction way direction two.1 in
    let d = same_validity shown last three.1 in
    λ i. SamplingStatus (a i) (b i) (c i) (d i)
sampling_is refresh size direction last _ h = absurd (cc)

pub agrees_is : (standard logged : Reply) → agrees standard logged ≡ true → logged ≡ standard
agrees_is NotMade logged h = not_made_is logged h
agrees_is (Code code) logged h = code_is code logged h
agrees_is (Id id) logged h = id_is id logged h
agrees_is (Received message) logged h = received_is message logged h
agrees_is (Read message validity) logged h = read_is message validity logged h
agrees_is (QueuingStatus waiting depth size direction) logged h = queuing_is waiting depth size direction logged h
agrees_is (SamplingStatus refresh size direction last) logged h = sampling_is refresh size direction last logged h

-- ---- the standard's reply passes

agrees_self : (standard : Reply) → agrees standard standard ≡ true
agrees_self NotMade = refl
agrees_self (Code code) = same_number (number_of_code code)
agrees_self (Id id) = same_number id
agrees_self (Received message) = (bytes_eq-Decides message message).1 refl
agrees_self (Read message validity) = and_from _ _ ((bytes_eq-Decides message message).1 refl) (same_number (number_of_validity validity))
agrees_self (QueuingStatus waiting depth size direction) =
    and_from _ _ (and_from _ _ (and_from _ _ (same_number waiting) (same_number depth)) (same_number size)) (same_number (number_of_direction direction))
agrees_self (SamplingStatus refresh size direction last) =
    and_from _ _ (and_from _ _ (and_from _ _ (same_number refresh) (same_number size)) (same_number (number_of_direction direction))) (same_number (number_of_validity last))

pub agrees_from : (standard logged : Reply) → logged ≡ standard → agrees standard logged ≡ true
agrees_from standard logged is = ap (λ (reply : Reply). agrees standard reply) is ∙ agrees_self standard
