use Rattle.apex_log_orders.proofs.Common.{◌≡◌, ◌<◌, ◌+◌, ◌-◌, ◌++◌, ◌∷◌, [], suc, List, ℕ, length, set, get_or, slice_index_or, Some, sym, ap, ◌∙◌, subst, arith, slice_get, MatchOption, nil_from_length, Configuration, History, entries_of, at_index, CallPlace, Choice, Logs, IsBeginning, IsOrder, entries_at, HasNoWay, IsMade, AreTried, IsWalk}
use Rattle.std.specs.Vec.{vec_len}
use Rattle.apex_log_orders.specs.declared.walk.Walk.{Walk}
use Rattle.apex_log_orders.proofs.Back.{cut_by, own_last, own_before, begins_before, counted, made_before, no_way}
use Rattle.apex_log_orders.proofs.Tries.{tried_back, made_last}
use Rattle.apex_log_orders.proofs.walk.Walk.go_back.Goals as goal

pub returns-in_default-clause-none : goal.returns-in_default-clause-none
returns-in_default-clause-none c never history order =
    let config = c.args.config.now in
    let logs = c.args.logs.now in
    let none = subst (λ o. MatchOption o ((vec_len c.args.self.now.path ≡ 0) × (vec_len c.pop.new.self ≡ 0)) (λ _. vec_len c.pop.new.self + 1 ≡ vec_len c.args.self.now.path)) c.in_default.is c.pop.ensures.cases in
    let empty : c.args.self.now.path.items ≡ [] = nil_from_length c.args.self.now.path.items (sym c.args.self.now.path.ok.0 ∙ none.0) in
    let start : c.args.self.now.judge.log ≡ [] = c.requires.walk.log ∙ ap (entries_at logs) empty in
    c.requires.none (record { rest = history; order = subst (IsOrder config logs) (ap (λ (g : History). g ++ history) (sym start)) order })

pub index_mut-requires : goal.index_mut-requires
index_mut-requires c =
    let path = c.pop.new.self.items in
    let last = c.in-Some.last in
    let cut : c.args.self.now.path.items ≡ path ++ last ∷ [] = cut_by c.args.self.now.path.items path c.pop.result last c.pop.ensures.items c.in-Some.is in
    let within = (own_last c.args.config.now c.args.logs.now c.args.self.now c.requires.walk path last cut).within in
    let count = c.requires.walk.made.count in
    omega (arith, within, count)

-- the partition of the last call made one more call than before
counted_there : (config : Configuration) (logs : Logs) (walk : Walk) (is : IsWalk config logs walk) (path : List CallPlace) (last : CallPlace) (cut : walk.path.items ≡ path ++ last ∷ [])
    → (count : ℕ) → count ≡ get_or walk.made.items last.partition count → count ≡ suc (length (entries_of last.partition (entries_at logs path)))
counted_there config logs walk is path last cut count at =
    let within = (own_last config logs walk is path last cut).within in
    let inside : last.partition < length walk.made.items = let all = is.made.count in omega (arith, within, all) in
    let both : Some count ≡ Some (suc (length (entries_of last.partition (entries_at logs path)))) =
    sym (at_index walk.made.items last.partition count inside at) ∙ counted config logs walk is path last cut in
    cc

pub overflow_sub-index_mut : goal.overflow_sub-index_mut
overflow_sub-index_mut c =
    let path = c.pop.new.self.items in
    let last = c.in-Some.last in
    let cut : c.args.self.now.path.items ≡ path ++ last ∷ [] = cut_by c.args.self.now.path.items path c.pop.result last c.pop.ensures.items c.in-Some.is in
    let is = counted_there c.args.config.now c.args.logs.now c.args.self.now c.requires.walk path last cut c.index_mut.result.now c.index_mut.ensures.value in
    omega (arith, is)

pub judge_at-requires : goal.judge_at-requires
judge_at-requires c k place at =
    let path = c.pop.new.self.items in
    let last = c.in-Some.last in
    let cut : c.args.self.now.path.items ≡ path ++ last ∷ [] = cut_by c.args.self.now.path.items path c.pop.result last c.pop.ensures.items c.in-Some.is in
    own_before c.args.config.now c.args.logs.now c.args.self.now c.requires.walk path last cut k place
    (ap (λ (places : List CallPlace). slice_get places k) (sym c.as_slice.ensures.value) ∙ at)

untried : Choice
untried = record { first = 0; tried = 0 }

pub pass-requires-clause-walk : goal.pass-requires-clause-walk
pass-requires-clause-walk c =
    let config = c.args.config.now in
    let logs = c.args.logs.now in
    let walk = c.requires.walk in
    let path = c.pop.new.self.items in
    let last = c.in-Some.last in
    let cut : c.args.self.now.path.items ≡ path ++ last ∷ [] = cut_by c.args.self.now.path.items path c.pop.result last c.pop.ensures.items c.in-Some.is in
    let some : 0 < vec_len c.args.self.now.choices = let count = walk.tried.count in let ok = c.args.self.now.choices.ok.0 in omega (arith, count, ok) in
    let front = c.pop-2.new.self.items in
    let top = slice_index_or c.args.self.now.choices.items (vec_len c.args.self.now.choices - 1) untried in
    let cut_too : c.args.self.now.choices.items ≡ front ++ top ∷ [] = cut_by c.args.self.now.choices.items front c.pop-2.result top c.pop-2.ensures.items (c.pop-2.ensures.value untried some) in
    let tried : AreTried config logs (path ++ last ∷ []) (front ++ top ∷ []) =
    subst (λ (x : List CallPlace × List Choice). AreTried config logs x.0 x.1) (λ i. (cut i, cut_too i)) walk.tried in
    let log : c.in_ok-self.field-0.log ≡ entries_at logs path = c.in_ok-self.ensures.log ∙ ap (entries_at logs) c.as_slice.ensures.value in
    let is = counted_there config logs c.args.self.now walk path last cut c.index_mut.result.now c.index_mut.ensures.value in
    let less : length (entries_of last.partition (entries_at logs path)) ≡ c.index_mut.result.now - 1 = omega (arith, is) in
    record {
      valid = walk.valid;
      judged = c.in_ok-self.ensures.config;
      all = walk.all;
      log = log;
      begins = subst (IsBeginning config logs) (sym log) (begins_before config logs c.args.self.now walk path last cut);
      made = subst (λ (x : List ℕ × History). IsMade config x.0 x.1) (λ i. (set c.args.self.now.made.items last.partition (less i), sym log i)) (made_before config logs c.args.self.now walk path last cut);
      own = own_before config logs c.args.self.now walk path last cut;
      tried = tried_back config logs path last front top tried;
    }

pub pass-requires-clause-tried : goal.pass-requires-clause-tried
pass-requires-clause-tried c =
    let config = c.args.config.now in
    let logs = c.args.logs.now in
    let walk = c.requires.walk in
    let path = c.pop.new.self.items in
    let last = c.in-Some.last in
    let cut : c.args.self.now.path.items ≡ path ++ last ∷ [] = cut_by c.args.self.now.path.items path c.pop.result last c.pop.ensures.items c.in-Some.is in
    let some : 0 < vec_len c.args.self.now.choices = let count = walk.tried.count in let ok = c.args.self.now.choices.ok.0 in omega (arith, count, ok) in
    let front = c.pop-2.new.self.items in
    let top = slice_index_or c.args.self.now.choices.items (vec_len c.args.self.now.choices - 1) untried in
    let cut_too : c.args.self.now.choices.items ≡ front ++ top ∷ [] = cut_by c.args.self.now.choices.items front c.pop-2.result top c.pop-2.ensures.items (c.pop-2.ensures.value untried some) in
    let tried : AreTried config logs (path ++ last ∷ []) (front ++ top ∷ []) =
    subst (λ (x : List CallPlace × List Choice). AreTried config logs x.0 x.1) (λ i. (cut i, cut_too i)) walk.tried in
    let log : c.in_ok-self.field-0.log ≡ entries_at logs path = c.in_ok-self.ensures.log ∙ ap (entries_at logs) c.as_slice.ensures.value in (
      last.partition,
      made_last config logs path last front top tried,
      subst (λ (h : History). HasNoWay config logs h last.partition) (sym log) (no_way config logs c.args.self.now walk path last cut c.requires.none),
    )
