-- What a run shows for partitions that share no channel with the others is what their scripts alone can show.
use Rattle.std.proofs.Common.{◌≡◌, ◌≢◌, ℕ, ◌==◌, Bool, true, false, cond, List, [], ◌∷◌, map, refl, sym, ap, ◌∙◌, arith}
use Rattle.std.proofs.lemmas.Bool.Decides.{nat_tests}
use Rattle.apex_types.specs.declared.call.Call.{Call}
use Rattle.apex_types.specs.declared.moment.Moment.{Moment}
use Rattle.apex_types.specs.declared.reply.Reply.{Reply}
use Rattle.apex_module.specs.Configuration.{Configuration}
use Rattle.apex_ports.specs.declared.history.Entry.{Entry}
use Rattle.apex_ports.specs.History.{History, entries_of}
use Rattle.apex_ports.specs.Interference.{entries_inside, IsFreeFromInterference}
use Rattle.apex_workers.specs.Alone.{ShowsScriptsAlone}
use Rattle.apex_threads.specs.Collected.{HasScripts, HasReplies}

-- partitions, only one of which is inside
apart : (inside : ℕ → Bool) (p q : ℕ) → inside q ≢ inside p → (q == p) ≡ false
apart inside p q differ = by_test (q == p) refl
  where
    by_test : (b : Bool) → (q == p) ≡ b → b ≡ false
    by_test false is = refl
    by_test true is = let same : q ≡ p = grind (arith, nat_tests) in absurd (differ (ap inside same))

module _ (inside : ℕ → Bool) (p : ℕ) where
  entries_stay : inside p ≡ true → (h : History) → entries_of p (entries_inside inside h) ≡ entries_of p h
  entries_stay here [] = refl
  entries_stay here (e ∷ h) = by_test (inside e.partition) refl (entries_stay here h)
    where
      by_test : (b : Bool) → inside e.partition ≡ b → entries_of p (entries_inside inside h) ≡ entries_of p h → entries_of p (cond b (e ∷ entries_inside inside h) (entries_inside inside h)) ≡ entries_of p (e ∷ h)
      by_test true _ rest = ap (λ es. cond (e.partition == p) (e ∷ es) es) rest
      by_test false outside rest = rest ∙ sym (ap (λ own. cond own (e ∷ entries_of p h) (entries_of p h)) (apart inside p e.partition (λ same. absurd (cc))))

  entries_go : inside p ≡ false → (h : History) → entries_of p (entries_inside inside h) ≡ []
  entries_go outside [] = refl
  entries_go outside (e ∷ h) = by_test (inside e.partition) refl (entries_go outside h)
    where
      by_test : (b : Bool) → inside e.partition ≡ b → entries_of p (entries_inside inside h) ≡ [] → entries_of p (cond b (e ∷ entries_inside inside h) (entries_inside inside h)) ≡ []
      by_test true here rest = ap (λ own. cond own (e ∷ entries_of p (entries_inside inside h)) (entries_of p (entries_inside inside h))) (apart inside p e.partition (λ same. absurd (cc))) ∙ rest
      by_test false _ rest = rest

pub shows_scripts_alone : (config : Configuration) (scripts : List (List (Moment × Call))) (replies : List (List Reply)) (h : History)
    → IsFreeFromInterference config h → HasScripts h scripts → HasReplies h replies → ShowsScriptsAlone config scripts replies h
shows_scripts_alone config scripts replies h isolated calls answers inside closed = record {
  lawful = (isolated inside closed).alone;
  calls = λ p script here at. ap (map (λ (e : Entry). (e.at, e.call))) (entries_stay inside p here h) ∙ calls p script at;
  answers = λ p own here at. ap (map (λ (e : Entry). e.reply)) (entries_stay inside p here h) ∙ answers p own at;
  others = λ p outside. entries_go inside p outside h;
}
