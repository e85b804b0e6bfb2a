-- Two entries whose calls are apart may be swapped.
use Rattle.apex_orders.proofs.Common.{◌≡◌, ◌≢◌, ◌⊎◌, inl, inr, ⊎_elim, ℕ, List, [], ◌∷◌, ◌++◌, take, sym, ap, ◌∙◌, subst, arith, append_assoc, append-nil, cases_eq, take-append-le, slice_get_within, Call, Configuration, Entry, History, entries_of, IsLawful, IsLawfulEntry, reply_to, lawful_push, leaves_others, LeavesPartition, LeavesChannel, IsApart, Commutes, AlwaysCommutes}
use Rattle.apex_orders.proofs.GoingOn.{lawful_here}
use Rattle.apex_orders.proofs.Lists.{stays_before}
use Rattle.apex_orders.proofs.Walks.{entries_of-append, other_entry}
use Rattle.apex_orders.proofs.Alike.{IsAlike, partition_swap, channel_swap, alike_follows, point_alike}
use Rattle.apex_orders.proofs.Leaving.{one_leaves, reply_unchanged}

pub apart_back : (config : Configuration) (p q : ℕ) (asked other : Call) → IsApart config p asked q other → IsApart config q other p asked
apart_back config p q asked other apart = record { others = apart.own; own = apart.others }

-- a prefix of a lawful history is lawful
pub lawful_start : (config : Configuration) (h rest : History) → IsLawful config (h ++ rest) → IsLawful config h
lawful_start config h rest lawful k e at =
    let within = slice_get_within h k e at in
    let before : take k (h ++ rest) ≡ take k h = take-append-le k h rest (omega arith) in
    subst (λ (g : History). IsLawfulEntry config g e) before (lawful k e (stays_before h rest k e at))

module _ (config : Configuration) (h : History) (e f : Entry) (other : e.partition ≢ f.partition) where
  leaves_one : (p : ℕ) → LeavesPartition p e ⊎ LeavesPartition p f
  leaves_one p =
      ⊎_elim
      (λ (own : e.partition ≡ p). inr (leaves_others f.partition f.at f.call f.reply p (λ same. other (own ∙ same))))
      (λ (apart : e.partition ≢ p). inl (leaves_others e.partition e.at e.call e.reply p (λ same. apart (sym same))))
      (cases_eq e.partition p)

  -- a partition has at most one of them
  own_same : (p : ℕ) → entries_of p (e ∷ []) ++ entries_of p (f ∷ []) ≡ entries_of p (f ∷ []) ++ entries_of p (e ∷ [])
  own_same p =
      ⊎_elim
      (λ (own : e.partition ≡ p).
      let none = other_entry p f (λ same. other (own ∙ sym same)) in
      ap (λ (es : History). entries_of p (e ∷ []) ++ es) none ∙ (append-nil (entries_of p (e ∷ [])) ∙ ap (λ (es : History). es ++ entries_of p (e ∷ [])) (sym none)))
      (λ (apart : e.partition ≢ p).
      let none = other_entry p e apart in
      ap (λ (es : History). es ++ entries_of p (f ∷ [])) none ∙ (sym (append-nil (entries_of p (f ∷ []))) ∙ ap (λ (es : History). entries_of p (f ∷ []) ++ es) (sym none)))
      (cases_eq e.partition p)

  two_more : (p : ℕ) (x y : Entry) → entries_of p ((h ++ x ∷ []) ++ y ∷ []) ≡ entries_of p h ++ (entries_of p (x ∷ []) ++ entries_of p (y ∷ []))
  two_more p x y =
      entries_of-append p (h ++ x ∷ []) (y ∷ [])
      ∙ (ap (λ (es : History). es ++ entries_of p (y ∷ [])) (entries_of-append p h (x ∷ [])) ∙ append_assoc (entries_of p h) (entries_of p (x ∷ [])) (entries_of p (y ∷ [])))

  -- one of them leaves each channel unchanged, and each gets the reply that it gets without the other
  pub record MaySwap : Type 0 where
    pub leaves : (c : ℕ) → LeavesChannel config c e ⊎ LeavesChannel config c f
    pub first : reply_to config (h ++ f ∷ []) e.partition e.at e.call ≡ reply_to config h e.partition e.at e.call
    pub second : reply_to config (h ++ e ∷ []) f.partition f.at f.call ≡ reply_to config h f.partition f.at f.call

  pub apart_may : IsApart config e.partition e.call f.partition f.call → MaySwap
  apart_may apart = record {
    leaves = one_leaves config e f apart;
    first = reply_unchanged config h f e.partition e.at e.call (λ same. other (sym same)) apart.others;
    second = reply_unchanged config h e f.partition f.at f.call other apart.own;
  }

  module _ (may : MaySwap) where
    alike_swapped : IsAlike config ((h ++ e ∷ []) ++ f ∷ []) ((h ++ f ∷ []) ++ e ∷ [])
    alike_swapped = record {
      partitions = λ p. partition_swap p h e f (leaves_one p);
      channels = λ c. channel_swap config c h e f (may.leaves c);
      entries = λ p. two_more p e f ∙ (ap (λ (es : History). entries_of p h ++ es) (own_same p) ∙ sym (two_more p f e));
    }

    regroup : (x y : Entry) (rest : List Entry) → ((h ++ x ∷ []) ++ y ∷ []) ++ rest ≡ h ++ x ∷ y ∷ rest
    regroup x y rest = append_assoc (h ++ x ∷ []) (y ∷ []) rest ∙ append_assoc h (x ∷ []) (y ∷ rest)

    module _ (rest : List Entry) (lawful : IsLawful config (h ++ e ∷ f ∷ rest)) where
      first : IsLawfulEntry config h e
      first = lawful_here config h e (f ∷ rest) lawful

      second : IsLawfulEntry config (h ++ e ∷ []) f
      second = lawful_here config (h ++ e ∷ []) f rest (subst (IsLawful config) (sym (append_assoc h (e ∷ []) (f ∷ rest))) lawful)

      other_first : IsLawful config (h ++ f ∷ [])
      other_first =
          lawful_push config h f.partition f.at f.call f.reply (lawful_start config h (e ∷ f ∷ rest) lawful) second.0
          (second.1 ∙ may.second)

      both_lawful : IsLawful config ((h ++ f ∷ []) ++ e ∷ [])
      both_lawful =
          lawful_push config (h ++ f ∷ []) e.partition e.at e.call e.reply other_first first.0
          (first.1 ∙ sym may.first)

      follows_swapped : IsLawful config (((h ++ f ∷ []) ++ e ∷ []) ++ rest) × IsAlike config (((h ++ e ∷ []) ++ f ∷ []) ++ rest) (((h ++ f ∷ []) ++ e ∷ []) ++ rest)
      follows_swapped =
          alike_follows config ((h ++ e ∷ []) ++ f ∷ []) ((h ++ f ∷ []) ++ e ∷ []) rest alike_swapped both_lawful
          (subst (IsLawful config) (sym (regroup e f rest)) lawful)

      pub commutes : Commutes config h e f rest
      commutes =
          let alike : IsAlike config (h ++ e ∷ f ∷ rest) (h ++ f ∷ e ∷ rest) =
          subst (λ (both : History × History). IsAlike config both.0 both.1) (λ i. (regroup e f rest i, regroup f e rest i)) follows_swapped.1 in
          record {
            lawful = subst (IsLawful config) (regroup f e rest) follows_swapped.0;
            entries = λ p. sym (alike.entries p);
            point = point_alike config (h ++ e ∷ f ∷ rest) (h ++ f ∷ e ∷ rest) alike;
          }

pub always_commutes : AlwaysCommutes
always_commutes config h e f rest other apart lawful = commutes config h e f other (apart_may config h e f other apart) rest lawful
