use Rattle.apex_groups.proofs.Common.{◌∙◌, arith, ap, refl, subst, sym, slice_get-get_or, length, Scripts}
use Rattle.apex_groups.specs.PartSearches.{IsFarEnough}
use Rattle.apex_groups.proofs.PartSearchLemmas.{one_searched}
use Rattle.apex_groups.proofs.searcher.Searcher.search.Goals as goal
use Rattle.std.specs.Prelude.{get_or}

pub returns-in_err-search : goal.returns-in_err-search
returns-in_err-search g c = c.in_err-search.ensures.rest c.args.clock c.args.config.now c.args.bound c.args.parts.now c.requires.valid

pub take_search-requires : goal.take_search-requires
take_search-requires g c =
    let part = get_or c.args.parts.now c.args.k c.index-parts-k.result in
    record {
      count = ap (λ (scripts : Scripts). length scripts) c.as_slice-scripts.ensures.value
          ∙ c.requires.parts c.args.k part (slice_get-get_or c.args.parts.now c.args.k c.index-parts-k.result c.requires.index);
    }

pub search_on-requires-clause-count : goal.search_on-requires-clause-count
search_on-requires-clause-count g c κs within =
    let part = get_or c.args.parts.now c.args.k c.index-parts-k.result in
    ap (λ (scripts : Scripts). length scripts) c.as_slice-scripts.ensures.value ∙ c.requires.parts c.args.k part (slice_get-get_or c.args.parts.now c.args.k c.index-parts-k.result c.requires.index)

pub search_on-requires-clause-search : goal.search_on-requires-clause-search
search_on-requires-clause-search g c κs within =
    let parts = c.args.parts.now in
    let part = get_or parts c.args.k c.index-parts-k.result in
    c.in_ok-search.ensures.search c.args.clock c.args.bound parts part c.requires.valid (slice_get-get_or parts c.args.k c.index-parts-k.result c.requires.index) (sym c.as_slice-scripts.ensures.value)

pub returns-in_err-searched : goal.returns-in_err-searched
returns-in_err-searched g c = c.in_ok-search.ensures.rest c.args.clock c.args.config.now c.args.bound c.args.parts.now c.requires.valid

pub index_mut-requires : goal.index_mut-requires
index_mut-requires g c =
    let still = c.in_ok-search.ensures.rest c.args.clock c.args.config.now c.args.bound c.args.parts.now c.requires.valid in
    let count = still.count in
    let below = c.requires.index in
    omega (arith, count, below)

pub returns : goal.returns
returns g c =
    let config = c.args.config.now in
    let parts = c.args.parts.now in
    let part = get_or parts c.args.k c.index-parts-k.result in
    let still = c.in_ok-search.ensures.rest c.args.clock config c.args.bound parts c.requires.valid in
    let here = slice_get-get_or parts c.args.k c.index-parts-k.result c.requires.index in
    one_searched c.args.clock config c.args.bound parts c.take_search.new.self _ c.args.k part c.in_ok-searched.searched still here
    (subst (λ (scripts : Scripts). IsFarEnough c.args.clock (Unit {0}) config scripts c.args.bound c.in_ok-searched.searched) c.as_slice-scripts.ensures.value c.in_ok-searched.ensures)
    refl
