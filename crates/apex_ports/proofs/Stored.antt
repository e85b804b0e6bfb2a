-- Stored messages stay the same while bytes are appended.
use Rattle.apex_ports.proofs.Common.{◌≡◌, ℕ, suc, ◌-◌, List, [], ◌∷◌, ◌++◌, length, map, take, drop, refl, sym, ap, ◌∙◌, arith, length-append, append-nil, map-append, take-append-le, drop-append-le, length-drop, take-append_seam, drop-append_seam}
use Rattle.apex_ports.specs.declared.stored_messages.Part.{Part}
use Rattle.apex_ports.specs.Stored.{message_of, IsPart, AreParts}

module _ (bytes more : List ℕ) where
  same_message : (part : Part) → IsPart (length bytes) part → message_of (bytes ++ more) part ≡ message_of bytes part
  same_message part is =
      let ordered = is.ordered in
      let within = is.within in
      ap (take (part.to - part.from)) (drop-append-le part.from bytes more (omega (arith, ordered, within)))
      ∙ take-append-le (part.to - part.from) (drop part.from bytes) more (omega (arith, ordered, within, length-drop part.from bytes))

  same_messages : (parts : List Part) → AreParts (length bytes) parts → map (message_of (bytes ++ more)) parts ≡ map (message_of bytes) parts
  same_messages [] are = refl
  same_messages (part ∷ rest) are =
      (λ i. same_message part (are 0 part refl) i ∷ same_messages rest (λ k other at. are (suc k) other at) i)

  behind : (part : Part) → part.from ≡ length bytes → part.to ≡ length (bytes ++ more) → message_of (bytes ++ more) part ≡ more
  behind part from to =
      let count : part.to - part.from ≡ length more = omega (arith, from, to, length-append bytes more) in
      (λ i. take (count i) (drop (from i) (bytes ++ more)))
      ∙ (ap (take (length more)) (drop-append_seam bytes more) ∙ (ap (take (length more)) (sym (append-nil more)) ∙ take-append_seam more []))

  -- one more message
  pub stored_more : (parts : List Part) (part : Part) → AreParts (length bytes) parts → part.from ≡ length bytes → part.to ≡ length (bytes ++ more)
      → map (message_of (bytes ++ more)) (parts ++ part ∷ []) ≡ map (message_of bytes) parts ++ more ∷ []
  stored_more parts part are from to =
      map-append (message_of (bytes ++ more)) parts (part ∷ []) ∙ (λ i. same_messages parts are i ++ behind part from to i ∷ [])
