use Rattle.apex_groups.proofs.Common.{◌≡◌, ◌∙◌, ℕ, List, Some, ap, sym, subst, slice_get, slice_get-get_or, IfOk, Scripts, IsUndecidedWith}
use Rattle.apex_groups.specs.PartSearches.{IsFarEnough, SaysAll}
use Rattle.apex_groups.specs.declared.script_part.ScriptPart.{ScriptPart}
use Rattle.apex_groups.proofs.part_search.outcomes_of.Goals as goal
use Rattle.apex_orders.specs.Searches.{IsOutcomeSearch}
use Rattle.std.specs.Prelude.{get_or}

-- the part's scripts were searched
same_scripts : (parts : List ScriptPart) (k : ℕ) (own one : ScriptPart) (scripts : Scripts) → slice_get parts k ≡ Some own → slice_get parts k ≡ Some one → scripts ≡ own.scripts.items → scripts ≡ one.scripts.items
same_scripts parts k own one scripts at here is =
    let equal : Some own ≡ Some one = sym at ∙ here in
    let same : own ≡ one = cc in
    is ∙ ap (λ (p : ScriptPart). p.scripts.items) same

pub returns-in-None-clause-searchers : goal.returns-in-None-clause-searchers
returns-in-None-clause-searchers g c = c.in-None.ensures.rest c.args.clock c.args.config.now c.args.bound c.args.parts.now c.requires.searchers

pub returns-in-None-clause-found : goal.returns-in-None-clause-found
returns-in-None-clause-found g c one here =
    let own = get_or c.args.parts.now c.args.part c.index-parts-part.result in
    let at = slice_get-get_or c.args.parts.now c.args.part c.index-parts-part.result c.requires.index in
    subst (λ (scripts : Scripts). IfOk c.different_outcomes.result (SaysAll c.args.clock c.args.config.now scripts))
    (same_scripts c.args.parts.now c.args.part own one c.as_slice-scripts.result.now at here c.as_slice-scripts.ensures.value)
    c.different_outcomes.ensures.found

pub returns-in-None-clause-undecided : goal.returns-in-None-clause-undecided
returns-in-None-clause-undecided g c one here =
    let own = get_or c.args.parts.now c.args.part c.index-parts-part.result in
    let at = slice_get-get_or c.args.parts.now c.args.part c.index-parts-part.result c.requires.index in
    subst (λ (scripts : Scripts). IsUndecidedWith c.args.clock g.P.Progress.CanStop c.args.config.now scripts c.args.bound c.different_outcomes.result)
    (same_scripts c.args.parts.now c.args.part own one c.as_slice-scripts.result.now at here c.as_slice-scripts.ensures.value)
    c.different_outcomes.ensures.undecided

pub returns-in-Some-All-clause-searchers : goal.returns-in-Some-All-clause-searchers
returns-in-Some-All-clause-searchers g c = c.in-Some-All.ensures.rest c.args.clock c.args.config.now c.args.bound c.args.parts.now c.requires.searchers

pub returns-in-Some-All-clause-found : goal.returns-in-Some-All-clause-found
returns-in-Some-All-clause-found g c one here =
    let taken = c.in-Some-All in
    subst (IsFarEnough c.args.clock (Unit {0}) c.args.config.now one.scripts.items c.args.bound) taken.field-0-is
    (taken.ensures.found c.args.clock c.args.config.now c.args.bound c.args.parts.now one c.requires.searchers here)

pub outcomes_by-requires-clause-search : goal.outcomes_by-requires-clause-search
outcomes_by-requires-clause-search g c κs within =
    let taken = c.in-Some-GivenUp in
    let own = get_or c.args.parts.now c.args.part c.index-parts-part.result in
    let at = slice_get-get_or c.args.parts.now c.args.part c.index-parts-part.result c.requires.index in
    let search =
    subst (IsFarEnough c.args.clock (Unit {0}) c.args.config.now own.scripts.items c.args.bound) taken.field-0-is
    (taken.ensures.found c.args.clock c.args.config.now c.args.bound c.args.parts.now own c.requires.searchers at) in
    subst (λ (scripts : Scripts). IsOutcomeSearch c.args.clock c.args.config.now scripts taken.search) (sym c.as_slice-scripts.ensures.value) search.valid

pub returns-in-Some-GivenUp-clause-searchers : goal.returns-in-Some-GivenUp-clause-searchers
returns-in-Some-GivenUp-clause-searchers g c = c.in-Some-GivenUp.ensures.rest c.args.clock c.args.config.now c.args.bound c.args.parts.now c.requires.searchers

pub returns-in-Some-GivenUp-clause-found : goal.returns-in-Some-GivenUp-clause-found
returns-in-Some-GivenUp-clause-found g c one here =
    let own = get_or c.args.parts.now c.args.part c.index-parts-part.result in
    let at = slice_get-get_or c.args.parts.now c.args.part c.index-parts-part.result c.requires.index in
    subst (λ (scripts : Scripts). IfOk c.outcomes_by.result (SaysAll c.args.clock c.args.config.now scripts))
    (same_scripts c.args.parts.now c.args.part own one c.as_slice-scripts.result.now at here c.as_slice-scripts.ensures.value)
    c.outcomes_by.ensures.found

pub returns-in-Some-GivenUp-clause-undecided : goal.returns-in-Some-GivenUp-clause-undecided
returns-in-Some-GivenUp-clause-undecided g c one here =
    let own = get_or c.args.parts.now c.args.part c.index-parts-part.result in
    let at = slice_get-get_or c.args.parts.now c.args.part c.index-parts-part.result c.requires.index in
    subst (λ (scripts : Scripts). IsUndecidedWith c.args.clock g.P.Progress.CanStop c.args.config.now scripts c.args.bound c.outcomes_by.result)
    (same_scripts c.args.parts.now c.args.part own one c.as_slice-scripts.result.now at here c.as_slice-scripts.ensures.value)
    c.outcomes_by.ensures.undecided
