-- The replies to a call, or to each call of a script, one after the other.
use Rattle.dekarino_texts.proofs.Common.{◌≡◌, ℕ, ◌+◌, ◌≤◌, true, false, List, [], ◌∷◌, ◌++◌, drop, length, Some, refl, sym, ap, ◌∙◌, arith, slice_get, append_assoc, append-nil, drop_at}
use Rattle.std.proofs.Common.{◌≢◌, set}
use Rattle.std.proofs.lemmas.Bool.Decides.{nat_tests}
use Rattle.std.proofs.lemmas.List.{drop_all}
use Rattle.std.proofs.lemmas.Option.{slice_get_within}
use Rattle.apex_ports.proofs.Stays.{each_at_set}
use Rattle.apex_ports.specs.Kept.{EachAt}
use Rattle.apex_orders.specs.declared.replies.PossibleReply.{PossibleReply}
use Rattle.apex_types.specs.declared.reply.Reply.{Reply}
use Rattle.dekarino_texts.specs.Outcomes.{is_to, replies_to}

module _ (p index : ℕ) (found : List PossibleReply) (i : ℕ) where
  -- at a reply to the call
  pub reply_cut : (one : PossibleReply) → slice_get found i ≡ Some one → is_to p index one ≡ true
      → replies_to p index (drop i found) ≡ one.reply ∷ replies_to p index (drop (i + 1) found)
  reply_cut one here is = rw (drop_at found i one here, is) refl

  -- at another reply
  pub reply_passed : (one : PossibleReply) → slice_get found i ≡ Some one → is_to p index one ≡ false
      → replies_to p index (drop i found) ≡ replies_to p index (drop (i + 1) found)
  reply_passed one here is = rw (drop_at found i one here, is) refl

-- whether it is a reply to a call
module _ (p : ℕ) (one : PossibleReply) where
  pub is_to_own : one.partition ≡ p → is_to p one.index one ≡ true
  is_to_own ours = grind (arith, nat_tests)

  pub is_to_other : (index : ℕ) → one.partition ≢ p → is_to p index one ≡ false
  is_to_other index other = grind (arith, nat_tests)

  pub is_to_another : (index : ℕ) → one.index ≢ index → is_to p index one ≡ false
  is_to_another index another = grind (arith, nat_tests)

-- ---- lists of references, one for each call, that show replies

module _ {X : Type 0} (shown : X → List Reply) (p : ℕ) (replies : List PossibleReply) where
  -- what each list shows, followed by the replies from an index on, is all
  abbrev pub AreFoundTo : ℕ → List X → Type 0
  AreFoundTo i lists = EachAt (λ index own. shown own ++ replies_to p index (drop i replies) ≡ replies_to p index replies) lists

  -- at the end
  pub found_at_end : (i : ℕ) (lists : List X) → length replies ≤ i → AreFoundTo i lists
      → EachAt (λ index own. shown own ≡ replies_to p index replies) lists
  found_at_end i lists past found index own at =
      sym (append-nil (shown own)) ∙ (ap (λ rest. shown own ++ replies_to p index rest) (sym (drop_all i replies past)) ∙ found index own at)

  module _ (i : ℕ) (one : PossibleReply) (here : slice_get replies i ≡ Some one) (lists : List X) where
    -- at a reply to none of the calls
    pub found_by_none : ((index : ℕ) (own : X) → slice_get lists index ≡ Some own → is_to p index one ≡ false)
        → AreFoundTo i lists → AreFoundTo (i + 1) lists
    found_by_none others found index own at =
        ap (λ rest. shown own ++ rest) (sym (reply_passed p index replies i one here (others index own at))) ∙ found index own at

    -- at a reply to a call of another partition
    pub found_in_other : one.partition ≢ p → AreFoundTo i lists → AreFoundTo (i + 1) lists
    found_in_other other = found_by_none (λ index own at. is_to_other p one index other)

    -- at a reply to a call past the lists
    pub found_past : length lists ≤ one.index → AreFoundTo i lists → AreFoundTo (i + 1) lists
    found_past past =
        found_by_none (λ index own at. let within = slice_get_within lists index own at in is_to_another p one index (λ same. omega arith))

    -- at a reply that is added to its call's list
    pub found_by_one : (own new : X) → one.partition ≡ p → slice_get lists one.index ≡ Some own → shown new ≡ shown own ++ one.reply ∷ []
        → AreFoundTo i lists → AreFoundTo (i + 1) (set lists one.index new)
    found_by_one own new ours at shows found =
        each_at_set _ _ lists one.index new found
        (λ index old apart before. ap (λ rest. shown old ++ rest) (sym (reply_passed p index replies i one here (is_to_another p one index (λ same. apart (sym same))))) ∙ before)
        (ap (λ front. front ++ replies_to p one.index (drop (i + 1) replies)) shows
        ∙ (append_assoc (shown own) (one.reply ∷ []) (replies_to p one.index (drop (i + 1) replies))
        ∙ (ap (λ rest. shown own ++ rest) (sym (reply_cut p one.index replies i one here (is_to_own p one ours))) ∙ found one.index own at)))
