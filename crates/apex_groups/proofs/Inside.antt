-- Histories of partitions that share no channel with the others.
use Rattle.apex_groups.proofs.Common.{◌≡◌, ◌≢◌, ℕ, ◌==◌, Bool, true, false, cond, [], ◌∷◌, ◌++◌, refl, sym, ap, ◌∙◌, subst, arith, append_assoc, append-nil, nat_tests, Configuration, Entry, History, entries_of, IsClosed, entries_inside, independent}
use Rattle.std.proofs.lemmas.List.Elements.{filter-append}
use Rattle.apex_ports.specs.Lawful.{IsLawful, IsLawfulEntry}
use Rattle.apex_ports.specs.LawfulLaws.{along_lawful}
use Rattle.apex_ports.specs.ReplyTable.{reply_to}
use Rattle.apex_ports.proofs.LawfulSteps.{lawful_push}

-- ---- entries inside

-- partitions, only one of which is inside
apart : (inside : ℕ → Bool) (p q : ℕ) → inside q ≢ inside p → (q == p) ≡ false
apart inside p q differ = by_test (q == p) refl
  where
    by_test : (b : Bool) → (q == p) ≡ b → b ≡ false
    by_test false is = refl
    by_test true is = let same : q ≡ p = grind (arith, nat_tests) in absurd (differ (ap inside same))

module _ (inside : ℕ → Bool) (p : ℕ) where
  pub entries_stay : inside p ≡ true → (h : History) → entries_of p (entries_inside inside h) ≡ entries_of p h
  entries_stay here [] = refl
  entries_stay here (e ∷ h) = by_test (inside e.partition) refl (entries_stay here h)
    where
      by_test : (b : Bool) → inside e.partition ≡ b → entries_of p (entries_inside inside h) ≡ entries_of p h → entries_of p (cond b (e ∷ entries_inside inside h) (entries_inside inside h)) ≡ entries_of p (e ∷ h)
      by_test true _ rest = ap (λ es. cond (e.partition == p) (e ∷ es) es) rest
      by_test false outside rest = rest ∙ sym (ap (λ own. cond own (e ∷ entries_of p h) (entries_of p h)) (apart inside p e.partition (λ same. absurd (cc))))

  pub entries_go : inside p ≡ false → (h : History) → entries_of p (entries_inside inside h) ≡ []
  entries_go outside [] = refl
  entries_go outside (e ∷ h) = by_test (inside e.partition) refl (entries_go outside h)
    where
      by_test : (b : Bool) → inside e.partition ≡ b → entries_of p (entries_inside inside h) ≡ [] → entries_of p (cond b (e ∷ entries_inside inside h) (entries_inside inside h)) ≡ []
      by_test true here rest = ap (λ own. cond own (e ∷ entries_of p (entries_inside inside h)) (entries_of p (entries_inside inside h))) (apart inside p e.partition (λ same. absurd (cc))) ∙ rest
      by_test false _ rest = rest

-- the first entry is one of its partition's
first_is_own : (e : Entry) (h : History) → entries_of e.partition (e ∷ h) ≡ [] → ⊥
first_is_own e h none =
    let same : (e.partition == e.partition) ≡ true = grind (arith, nat_tests) in
    let some : e ∷ entries_of e.partition h ≡ [] = sym (ap (λ own. cond own (e ∷ entries_of e.partition h) (entries_of e.partition h)) same) ∙ none in
    absurd cc

none_after : (p : ℕ) (e : Entry) (h : History) → entries_of p (e ∷ h) ≡ [] → entries_of p h ≡ []
none_after p e h none = by_test (e.partition == p) none
  where
    by_test : (b : Bool) → cond b (e ∷ entries_of p h) (entries_of p h) ≡ [] → entries_of p h ≡ []
    by_test true is = absurd cc
    by_test false is = is

-- a history without entries of the partitions inside
pub none_inside : (inside : ℕ → Bool) (h : History) → ((p : ℕ) → inside p ≡ true → entries_of p h ≡ []) → entries_inside inside h ≡ []
none_inside inside [] none = refl
none_inside inside (e ∷ h) none = by_test (inside e.partition) refl (none_inside inside h (λ p here. none_after p e h (none p here)))
  where
    by_test : (b : Bool) → inside e.partition ≡ b → entries_inside inside h ≡ [] → cond b (e ∷ entries_inside inside h) (entries_inside inside h) ≡ []
    by_test true here rest = absurd (first_is_own e h (none e.partition here))
    by_test false outside rest = rest

-- a history that has only entries of the partitions inside
pub all_inside : (inside : ℕ → Bool) (h : History) → ((p : ℕ) → inside p ≡ false → entries_of p h ≡ []) → entries_inside inside h ≡ h
all_inside inside [] none = refl
all_inside inside (e ∷ h) none = by_test (inside e.partition) refl (all_inside inside h (λ p here. none_after p e h (none p here)))
  where
    by_test : (b : Bool) → inside e.partition ≡ b → entries_inside inside h ≡ h → cond b (e ∷ entries_inside inside h) (entries_inside inside h) ≡ e ∷ h
    by_test true here rest = ap (λ (es : History). e ∷ es) rest
    by_test false outside rest = absurd (first_is_own e h (none e.partition outside))

pub inside_twice : (inside : ℕ → Bool) (h : History) → entries_inside inside (entries_inside inside h) ≡ entries_inside inside h
inside_twice inside h = all_inside inside (entries_inside inside h) (λ p outside. entries_go inside p outside h)

-- ---- one history after the other

module _ (config : Configuration) (inside : ℕ → Bool) (closed : IsClosed config inside) where
  pub joined_lawful : (h more : History) → IsLawful config h → IsLawful config more → entries_inside inside h ≡ [] → entries_inside inside more ≡ more → IsLawful config (h ++ more)
  joined_lawful h more lawful lawful_too outside all =
      subst (λ (x : History). IsLawful config (h ++ x)) all (along_lawful config Both step [] more lawful_too (λ k e here. absurd cc, subst (IsLawful config) (sym (append-nil h)) lawful)).1
    where
      Both : History → Type 0
      Both past = IsLawful config past × IsLawful config (h ++ entries_inside inside past)

      behind : (past : History) → entries_inside inside (h ++ entries_inside inside past) ≡ entries_inside inside past
      behind past =
          filter-append (λ (entry : Entry). inside entry.partition) h (entries_inside inside past)
          ∙ (ap (λ (es : History). es ++ entries_inside inside (entries_inside inside past)) outside ∙ inside_twice inside past)

      step : (past : History) (e : Entry) → IsLawfulEntry config past e → Both past → Both (past ++ e ∷ [])
      step past e one both = (
        lawful_push config past e.partition e.at e.call e.reply both.0 one.0 one.1,
        subst (λ (es : History). IsLawful config (h ++ es)) (sym (filter-append (λ (entry : Entry). inside entry.partition) past (e ∷ []))) (by_test (inside e.partition) refl),
      )
        where
          by_test : (b : Bool) → inside e.partition ≡ b → IsLawful config (h ++ (entries_inside inside past ++ cond b (e ∷ []) []))
          by_test true here =
              subst (IsLawful config) (append_assoc h (entries_inside inside past) (e ∷ []))
              (lawful_push config (h ++ entries_inside inside past) e.partition e.at e.call e.reply both.1 one.0
              (one.1
              ∙ ((independent config inside closed past both.0).reply e.partition e.at e.call here
              ∙ (ap (λ (es : History). reply_to config es e.partition e.at e.call) (sym (behind past))
              ∙ sym ((independent config inside closed (h ++ entries_inside inside past) both.1).reply e.partition e.at e.call here)))))
          by_test false out = subst (λ (es : History). IsLawful config (h ++ es)) (sym (append-nil (entries_inside inside past))) both.1
