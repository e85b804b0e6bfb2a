use Rattle.apex_groups.proofs.Common.{◌<◌, length, arith, slice_get-get_or}
use Rattle.apex_groups.specs.PartSearches.{IsSearcher}
use Rattle.apex_groups.proofs.PartSearchLemmas.{each_and_set}
use Rattle.apex_groups.proofs.searcher.take_searched.Goals as goal
use Rattle.std.specs.Prelude.{get_or}

pub returns-in-Some-clause-found : goal.returns-in-Some-clause-found
returns-in-Some-clause-found c clock config bound parts part are here =
    let searchers = c.loop-k.searchers in
    let one = get_or searchers c.loop-k.k c.index-searchers-k.result in
    let within : c.loop-k.k < length searchers = omega (arith, c.loop-k-test.true, c.loop-k.auto.searchers) in
    (c.loop-k.invariant clock config bound parts are c.loop-k.k one (slice_get-get_or searchers c.loop-k.k c.index-searchers-k.result within)).each c.args.part part c.in-Some.searched here c.in-Some.ensures.found

pub returns-in-Some-clause-rest : goal.returns-in-Some-clause-rest
returns-in-Some-clause-rest c clock config bound parts are =
    let searchers = c.loop-k.searchers in
    let one = get_or searchers c.loop-k.k c.index-searchers-k.result in
    let within : c.loop-k.k < length searchers = omega (arith, c.loop-k-test.true, c.loop-k.auto.searchers) in
    let now = c.loop-k.invariant clock config bound parts are in
    each_and_set (IsSearcher clock config bound parts) searchers c.loop-k.k c.take.new.self now
    (c.in-Some.ensures.rest clock config bound parts (now c.loop-k.k one (slice_get-get_or searchers c.loop-k.k c.index-searchers-k.result within)))

pub loop-k-preserved : goal.loop-k-preserved
loop-k-preserved c clock config bound parts are =
    let searchers = c.loop-k.searchers in
    let one = get_or searchers c.loop-k.k c.index-searchers-k.result in
    let within : c.loop-k.k < length searchers = omega (arith, c.loop-k-test.true, c.loop-k.auto.searchers) in
    let now = c.loop-k.invariant clock config bound parts are in
    each_and_set (IsSearcher clock config bound parts) searchers c.loop-k.k c.take.new.self now
    (c.in_default.ensures.rest clock config bound parts (now c.loop-k.k one (slice_get-get_or searchers c.loop-k.k c.index-searchers-k.result within)))
