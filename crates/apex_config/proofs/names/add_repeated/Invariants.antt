use Rattle.apex_config.proofs.Common.{◌≡◌, ℕ, List, Bor, map, take, list_any, bytes_eq, nat_cmp, slice_cmp, Adds, at_each, part_in, occurred_before}
use Rattle.std.specs.BTreeSet.{contains}
use Rattle.apex_config.proofs.names.add_repeated.Given as goal

abbrev pub invariant-loop-index : goal.invariant-loop-index
invariant-loop-index g l = record {
  seen : (name : Bor (List ℕ)) → contains (λ x y. slice_cmp nat_cmp x.now y.now) l.seen name ≡ list_any (λ other. bytes_eq other name.now) (take l.index (map g.T.Named.name_of l.entries));
  found : Adds (at_each (occurred_before (part_in l.list) (map g.T.Named.name_of l.entries)) 0 (take l.index (map g.T.Named.name_of l.entries))) l.initial.places.items l.places.items;
}
