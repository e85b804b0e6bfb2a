-- The partitions tried before each call, and what follows if all were.
use Rattle.apex_log_orders.proofs.Common.{◌≡◌, ◌⊎◌, inl, inr, ⊎_elim, ℕ, zero, suc, ◌+◌, ◌-◌, ◌<◌, ◌≤◌, true, false, ltb, if◌then◌else◌, List, [], ◌∷◌, ◌++◌, length, take, Some, None, refl, sym, ap, ◌∙◌, subst, arith, length-append, slice_get, cases_eq, cases_lt, nat_tests, take-append-le, take_all, slice_get_within, Configuration, Entry, History, at_seam, stays_before, before_or_last, CallPlace, Choice, Logs, IsOrder}
use Rattle.apex_log_orders.proofs.Common.{entries_at, candidate, candidate_by, candidate_of, GoesOn, Ends, HasNoWay, HaveNoWay, AreTried}
use Rattle.apex_log_orders.proofs.Beginnings.{ends_cases}

-- ---- candidates

-- each partition is tried
pub reached : (n first p : ℕ) → p < n → (k : ℕ) × (k < n) × (candidate n first k ≡ Some p)
reached n first p within = ⊎_elim
    (λ (below : p < first).
    let k = p + (n - first) in
    ⊎_elim
    (λ (inside : first < n).
    let few : k < n = omega (arith, below, inside) in
    let test : ltb k n ≡ true = grind (arith, nat_tests) in
    let around : ltb k (n - first) ≡ false = grind (arith, nat_tests) in
    let is : k - (n - first) ≡ p = omega arith in
    (k, few, (λ i. if test i then Some (if around i then first + k else k - (n - first)) else None) ∙ ap Some is))
    (λ (beyond : n ≤ first).
    let few : p < n = within in
    let test : ltb p n ≡ true = grind (arith, nat_tests) in
    let around : ltb p (n - first) ≡ false = grind (arith, nat_tests) in
    let is : p - (n - first) ≡ p = omega (arith, beyond) in
    (p, few, (λ i. if test i then Some (if around i then first + p else p - (n - first)) else None) ∙ ap Some is))
    (cases_lt first n))
    (λ (above : first ≤ p).
    let k = p - first in
    let few : k < n = omega (arith, within) in
    let test : ltb k n ≡ true = grind (arith, nat_tests) in
    let short : k < n - first = omega (arith, above, within) in
    let around : ltb k (n - first) ≡ true = grind (arith, nat_tests) in
    let is : first + k ≡ p = omega (arith, above) in
    (k, few, (λ i. if test i then Some (if around i then first + k else k - (n - first)) else None) ∙ ap Some is))
    (cases_lt p first)

-- if there is none to try, all were tried
pub all_tried : (n first tried : ℕ) → candidate n first tried ≡ None → n ≤ tried
all_tried n first tried none = ⊎_elim
    (λ (below : tried < n).
    let test : ltb tried n ≡ true = grind (arith, nat_tests) in
    let some : candidate n first tried ≡ Some (if ltb tried (n - first) then first + tried else tried - (n - first)) =
    λ i. if test i then Some (if ltb tried (n - first) then first + tried else tried - (n - first)) else None in
    absurd (let both = sym none ∙ some in cc))
    (λ (beyond : n ≤ tried). beyond)
    (cases_lt tried n)

last_at : {X : Type 0} (xs : List X) (n : ℕ) → length xs ≡ suc n → (x : X) × (slice_get xs n ≡ Some x)
last_at [] n count = absurd cc
last_at (x ∷ xs) zero count = (x, refl)
last_at (x ∷ xs) (suc n) count = last_at xs n (omega (arith, count))

module _ (config : Configuration) (logs : Logs) where
  pub tried_nil : (choice : Choice) → choice.tried ≡ 0 → AreTried config logs [] (choice ∷ [])
  tried_nil choice untried = record {
    count = refl;
    chosen = λ k place one at here. absurd cc;
    none = λ k one here j p below. absurd (only k one here j below);
  }
    where
      only : (k : ℕ) (one : Choice) → slice_get (choice ∷ []) k ≡ Some one → (j : ℕ) → j < one.tried → ⊥
      only zero one here j below = let same : choice ≡ one = cc in let none : one.tried ≡ 0 = ap (λ (c : Choice). c.tried) (sym same) ∙ untried in omega (arith, below, none)
      only (suc k) one here j below = absurd cc

  -- the choice at the end
  pub top_of : (path : List CallPlace) (choices : List Choice) → AreTried config logs path choices
      → (top : Choice) × (slice_get choices (length path) ≡ Some top) × (candidate_of config choices ≡ candidate (length config.partitions) top.first top.tried)
  top_of path choices tried =
      let found = last_at choices (length path) tried.count in
      let index : length choices - 1 ≡ length path = let count = tried.count in omega (arith, count) in
      (found.0, found.1, ap (λ (k : ℕ). candidate_by (length config.partitions) (slice_get choices k)) index ∙ ap (candidate_by (length config.partitions)) found.1)

  -- ---- one more call

  pub tried_go : (path : List CallPlace) (choices : List Choice) (place : CallPlace) (next : Choice) → AreTried config logs path choices
      → candidate_of config choices ≡ Some place.partition → next.tried ≡ 0 → AreTried config logs (path ++ place ∷ []) (choices ++ next ∷ [])
  tried_go path choices place next tried chosen untried = record {
    count = let count = tried.count in omega (arith, count, length-append choices (next ∷ []), length-append path (place ∷ []));
    chosen = λ k other choice at here. by_places k other choice (before_or_last path place k other at) (before_or_last choices next k choice here);
    none = λ k choice here. by_choices k choice (before_or_last choices next k choice here);
  }
    where
      count : length choices ≡ suc (length path)
      count = tried.count

      by_places : (k : ℕ) (other : CallPlace) (choice : Choice) → (slice_get path k ≡ Some other) ⊎ ((k ≡ length path) × (place ≡ other))
          → (slice_get choices k ≡ Some choice) ⊎ ((k ≡ length choices) × (next ≡ choice)) → candidate (length config.partitions) choice.first choice.tried ≡ Some other.partition
      by_places k other choice (inl at) (inl here) = tried.chosen k other choice at here
      by_places k other choice (inl at) (inr last) = absurd (let within = slice_get_within path k other at in omega (arith, within, last.0, count))
      by_places k other choice (inr at) (inr last) = absurd (omega (arith, at.0, last.0, count))
      by_places k other choice (inr at) (inl here) =
          let top = top_of path choices tried in
          let same : top.0 ≡ choice = let both : Some top.0 ≡ Some choice = sym top.1 ∙ (ap (λ (n : ℕ). slice_get choices n) (sym at.0) ∙ here) in cc in
          ap (λ (c : Choice). candidate (length config.partitions) c.first c.tried) (sym same) ∙ (sym top.2 ∙ (chosen ∙ ap (λ (one : CallPlace). Some one.partition) at.1))

      by_choices : (k : ℕ) (choice : Choice) → (slice_get choices k ≡ Some choice) ⊎ ((k ≡ length choices) × (next ≡ choice))
          → HaveNoWay config logs (entries_at logs (take k (path ++ place ∷ []))) choice
      by_choices k choice (inl here) =
          let within = slice_get_within choices k choice here in
          subst (λ (places : List CallPlace). HaveNoWay config logs (entries_at logs places) choice) (sym (take-append-le k path (place ∷ []) (omega (arith, within, count)))) (tried.none k choice here)
      by_choices k choice (inr last) = λ j p below is.
          let none : choice.tried ≡ 0 = ap (λ (c : Choice). c.tried) (sym last.1) ∙ untried in
          absurd (omega (arith, below, none))

  -- ---- one more partition can't continue to an order

  pub tried_pass : (path : List CallPlace) (front : List Choice) (top next : Choice) → AreTried config logs path (front ++ top ∷ []) → next.first ≡ top.first → next.tried ≡ suc top.tried
      → ((p : ℕ) → candidate_of config (front ++ top ∷ []) ≡ Some p → HasNoWay config logs (entries_at logs path) p) → AreTried config logs path (front ++ next ∷ [])
  tried_pass path front top next tried first more none = record {
    count = let count = tried.count in omega (arith, count, length-append front (top ∷ []), length-append front (next ∷ []));
    chosen = λ k place choice at here. by_choices k place choice at (before_or_last front next k choice here);
    none = λ k choice here. no_way k choice (before_or_last front next k choice here);
  }
    where
      n : ℕ
      n = length config.partitions

      short : length front ≡ length path
      short = let count = tried.count in omega (arith, count, length-append front (top ∷ []))

      by_choices : (k : ℕ) (place : CallPlace) (choice : Choice) → slice_get path k ≡ Some place → (slice_get front k ≡ Some choice) ⊎ ((k ≡ length front) × (next ≡ choice))
          → candidate n choice.first choice.tried ≡ Some place.partition
      by_choices k place choice at (inl here) = tried.chosen k place choice at (stays_before front (top ∷ []) k choice here)
      by_choices k place choice at (inr last) = absurd (let within = slice_get_within path k place at in omega (arith, within, last.0, short))

      top_here : slice_get (front ++ top ∷ []) (length path) ≡ Some top
      top_here = ap (λ (k : ℕ). slice_get (front ++ top ∷ []) k) (sym short) ∙ at_seam front top []

      now : candidate_of config (front ++ top ∷ []) ≡ candidate n top.first top.tried
      now =
          let found = top_of path (front ++ top ∷ []) tried in
          let same : found.0 ≡ top = let both : Some found.0 ≡ Some top = sym found.1 ∙ top_here in cc in
          found.2 ∙ ap (λ (c : Choice). candidate n c.first c.tried) same

      whole : take (length path) path ≡ path
      whole = take_all (length path) path (omega arith)

      no_way : (k : ℕ) (choice : Choice) → (slice_get front k ≡ Some choice) ⊎ ((k ≡ length front) × (next ≡ choice)) → HaveNoWay config logs (entries_at logs (take k path)) choice
      no_way k choice (inl here) = tried.none k choice (stays_before front (top ∷ []) k choice here)
      no_way k choice (inr last) = λ j p below is.
          let index : k ≡ length path = last.0 ∙ short in
          let here : take k path ≡ path = ap (λ (m : ℕ). take m path) index ∙ whole in
          let start : choice.first ≡ top.first = ap (λ (c : Choice). c.first) (sym last.1) ∙ first in
          let few : choice.tried ≡ suc top.tried = ap (λ (c : Choice). c.tried) (sym last.1) ∙ more in
          let is_here : candidate n top.first j ≡ Some p = ap (λ (f : ℕ). candidate n f j) (sym start) ∙ is in
          subst (λ (places : List CallPlace). HasNoWay config logs (entries_at logs places) p) (sym here)
          (⊎_elim
          (λ (now_it : j ≡ top.tried). none p (now ∙ (ap (λ (m : ℕ). candidate n top.first m) (sym now_it) ∙ is_here)))
          (λ (earlier : j ≡ top.tried → ⊥).
          subst (λ (places : List CallPlace). HasNoWay config logs (entries_at logs places) p) whole
          (tried.none (length path) top top_here j p (omega (arith, below, few, earlier)) is_here))
          (cases_eq j top.tried))

  -- ---- one call less

  pub tried_back : (path : List CallPlace) (place : CallPlace) (front : List Choice) (last : Choice) → AreTried config logs (path ++ place ∷ []) (front ++ last ∷ []) → AreTried config logs path front
  tried_back path place front last tried = record {
    count = short;
    chosen = λ k other choice at here. tried.chosen k other choice (stays_before path (place ∷ []) k other at) (stays_before front (last ∷ []) k choice here);
    none = λ k choice here.
        let within = slice_get_within front k choice here in
        subst (λ (places : List CallPlace). HaveNoWay config logs (entries_at logs places) choice) (take-append-le k path (place ∷ []) (omega (arith, within, short))) (tried.none k choice (stays_before front (last ∷ []) k choice here));
  }
    where
      short : length front ≡ suc (length path)
      short = let count = tried.count in omega (arith, count, length-append front (last ∷ []), length-append path (place ∷ []))

  -- the last call was made by the partition that is tried there
  pub made_last : (path : List CallPlace) (place : CallPlace) (front : List Choice) (last : Choice) → AreTried config logs (path ++ place ∷ []) (front ++ last ∷ []) → candidate_of config front ≡ Some place.partition
  made_last path place front last tried =
      let top = top_of path front (tried_back path place front last tried) in
      top.2 ∙ tried.chosen (length path) place top.0 (at_seam path place []) (stays_before front (last ∷ []) (length path) top.0 top.1)

  -- ---- no partition can continue to an order

  pub none_left : (h : History) (path : List CallPlace) (choices : List Choice) → h ≡ entries_at logs path → AreTried config logs path choices
      → candidate_of config choices ≡ None → (IsOrder config logs h → ⊥) → Ends config logs h → ⊥
  none_left h path choices is tried none unfinished ends =
      let top = top_of path choices tried in
      let all = all_tried (length config.partitions) top.0.first top.0.tried (sym top.2 ∙ none) in
      ⊎_elim unfinished
      (λ (more : (p : ℕ) × (e : Entry) × (p < length config.partitions) × (GoesOn config logs h p e) × Ends config logs (h ++ e ∷ [])).
      let k = reached (length config.partitions) top.0.first more.0 more.2 in
      let here : h ≡ entries_at logs (take (length path) path) = is ∙ ap (entries_at logs) (sym (take_all (length path) path (omega arith))) in
      let no_way : HasNoWay config logs h more.0 =
      subst (λ (g : History). HasNoWay config logs g more.0) (sym here) (tried.none (length path) top.0 top.1 k.0 more.0 (omega (arith, k.1, all)) k.2) in
      no_way more.1 more.3 more.4)
      (ends_cases config logs h ends)
