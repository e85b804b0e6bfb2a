-- The law of states.
use Rattle.apex_orders.proofs.Common.{List, [], ◌∷◌, ◌++◌, length, sym, ◌∙◌, subst, append_assoc, append-nil, take-append_seam, Configuration, Entry, History, IsLawful, IsLawfulEntry, IsSound, sound-push, IsSameState}
use Rattle.apex_orders.specs.StateLaw.{AlwaysGoesOnAlike}
use Rattle.apex_orders.proofs.Lists.{at_seam}
use Rattle.apex_orders.proofs.SeenAlike.{same_reply}
use Rattle.apex_orders.proofs.StateSteps.{state_step}

-- the entry after a beginning is lawful there
pub lawful_here : (config : Configuration) (h : History) (e : Entry) (rest : List Entry) → IsLawful config (h ++ e ∷ rest) → IsLawfulEntry config h e
lawful_here config h e rest lawful =
    subst (λ (g : History). IsLawfulEntry config g e) (take-append_seam h (e ∷ rest)) (lawful (length h) e (at_seam h e rest))

pub push_entry : (config : Configuration) (h : History) (e : Entry) → IsSound config h → IsLawfulEntry config h e → IsSound config (h ++ e ∷ [])
push_entry config h e sound lawful = sound-push config h e.partition e.at e.call e.reply sound lawful.0 lawful.1

-- an entry that is lawful after one is lawful after the other
pub lawful_alike : (config : Configuration) (h other : History) (e : Entry) → IsSound config h → IsSameState config h other → IsLawfulEntry config h e → IsLawfulEntry config other e
lawful_alike config h other e sound same lawful =
    (lawful.0, lawful.1 ∙ same_reply config e.partition sound.valid h other same lawful.0 e.at e.call)

follows : (config : Configuration) (h other : History) (rest : List Entry) → IsSound config h → IsSound config other → IsSameState config h other
    → IsLawful config (h ++ rest) → IsLawful config (other ++ rest) × IsSameState config (h ++ rest) (other ++ rest)
follows config h other [] sound sound_too same lawful = (
  subst (IsLawful config) (sym (append-nil other)) sound_too.lawful,
  subst (λ (both : History × History). IsSameState config both.0 both.1) (λ i. (sym (append-nil h) i, sym (append-nil other) i)) same,
)
follows config h other (e ∷ rest) sound sound_too same lawful =
    let here = lawful_here config h e rest lawful in
    let there = lawful_alike config h other e sound same here in
    let regrouped : IsLawful config ((h ++ e ∷ []) ++ rest) = subst (IsLawful config) (sym (append_assoc h (e ∷ []) rest)) lawful in
    let both = follows config (h ++ e ∷ []) (other ++ e ∷ []) rest (push_entry config h e sound here) (push_entry config other e sound_too there) (state_step config h other e sound sound_too same) regrouped in (
      subst (IsLawful config) (append_assoc other (e ∷ []) rest) both.0,
      subst (λ (both : History × History). IsSameState config both.0 both.1) (λ i. (append_assoc h (e ∷ []) rest i, append_assoc other (e ∷ []) rest i)) both.1,
    )

pub always_goes_on_alike : AlwaysGoesOnAlike
always_goes_on_alike config h other sound sound_too same = record {
  reply = λ p at call within. same_reply config p sound.valid h other same within at call;
  lawful = λ rest lawful. (follows config h other rest sound sound_too same lawful).0;
  state = λ rest lawful. (follows config h other rest sound sound_too same lawful).1;
}
