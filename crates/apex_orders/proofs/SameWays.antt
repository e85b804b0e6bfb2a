-- Ways that are the same to each partition and lead to one point.
use Rattle.apex_orders.proofs.Common.{◌≡◌, ℕ, List, [], ◌∷◌, ◌++◌, length, map, Some, refl, sym, ap, ◌∙◌, slice_get, Call, Moment, Reply, Configuration, Entry, History, entry_of, entries_of, IsLawful, IsSameWay, Scripts, script_of, calls_of, IsWay, next_entries, entries_for}
use Rattle.apex_orders.proofs.Following.{same_self, same_along}
use Rattle.apex_orders.proofs.GoingOn.{lawful_here}
use Rattle.apex_orders.proofs.Lists.{at_seam}
use Rattle.apex_orders.proofs.Walks.{calls_of-append, calls_count, own_entry}

abbrev pub timed_of : Entry → Moment × Call
timed_of entry = (entry.at, entry.call)

pub same_way : (config : Configuration) (h : History) → IsSameWay config h h
same_way config h = record { entries = λ p. refl; point = same_self config h }

pub way_along : (config : Configuration) (f g h : History) → IsSameWay config f g → IsSameWay config g h → IsSameWay config f h
way_along config f g h one two = record { entries = λ p. two.entries p ∙ one.entries p; point = same_along config f g h one.point two.point }

module _ (config : Configuration) (scripts : Scripts) where
  pub way_same : (way other : History) → IsWay config scripts way → IsLawful config other → ((p : ℕ) → entries_of p other ≡ entries_of p way) → IsWay config scripts other
  way_same way other is lawful entries = record { lawful = lawful; calls = λ p. ap (map timed_of) (entries p) ∙ is.calls p }

  -- the call of the next entry is the script's next
  pub next_call : (h : History) (x : Entry) (rest : List Entry) → IsWay config scripts (h ++ x ∷ rest) → slice_get (script_of scripts x.partition) (length (entries_of x.partition h)) ≡ Some (timed_of x)
  next_call h x rest is =
      let q = x.partition in
      let split : calls_of q (h ++ x ∷ rest) ≡ calls_of q h ++ timed_of x ∷ calls_of q rest =
      calls_of-append q h (x ∷ rest) ∙ ap (λ (calls : List (Moment × Call)). calls_of q h ++ calls) (calls_of-append q (x ∷ []) rest ∙ ap (λ (es : History). map timed_of es ++ calls_of q rest) (own_entry q x refl)) in
      ap (λ (n : ℕ). slice_get (script_of scripts q) n) (sym (calls_count q h))
      ∙ (ap (λ (calls : List (Moment × Call)). slice_get calls (length (calls_of q h))) (sym (is.calls q) ∙ split) ∙ at_seam (calls_of q h) (timed_of x) (calls_of q rest))

  pub next_entry : (h : History) (e : Entry) (rest : List Entry) → IsWay config scripts (h ++ e ∷ rest) → next_entries config scripts h e.partition ≡ e ∷ []
  next_entry h e rest is =
      let here = lawful_here config h e rest is.lawful in
      ap (entries_for config h e.partition) (next_call h e rest is) ∙ ap (λ (r : Reply). entry_of e.partition e.at e.call r ∷ []) (sym here.1)
