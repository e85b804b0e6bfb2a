use Rattle.apex_config.proofs.Common.{◌≡◌, ◌<◌, ℕ, Bool, true, not, cond, List, ◌++◌, Bor, length, map, take, get_or, sym, ap, ◌∙◌, list_any, bytes_eq, nat_cmp, slice_cmp, get_or-map, length-map, Place, at, unless, part_in, occurred_before}
use Rattle.std.specs.BTreeSet.{contains}
use Rattle.std.proofs.lemmas.Map.Text.{is_eq-slice_cmp}
use Rattle.apex_config.specs.declared.key.Key.TheVariants as key
use Rattle.apex_config.specs.declared.place.Part.{Part}
use Rattle.apex_config.proofs.SeenNames.{seen_at}
use Rattle.apex_config.proofs.EachEntry.{one_more}
use Rattle.apex_config.proofs.names.add_repeated.Goals as goal

pub loop-index-preserved : goal.loop-index-preserved
loop-index-preserved g c =
    let names = map g.T.Named.name_of c.args.entries.now in
    let i = c.loop-index.index in
    let name = c.name.result.now in
    let inside : i < length names = rw (length-map c.args.entries.now g.T.Named.name_of) c.loop-index-test.true in
    let is : get_or names i name ≡ name = get_or-map g.T.Named.name_of c.args.entries.now i c.index-entries-index.result name c.loop-index-test.true ∙ ap g.T.Named.name_of (sym c.index-entries-index.is) ∙ sym c.name.ensures in
    let new : c.in_ok-is_new.is_new ≡ not (list_any (λ other. bytes_eq other name) (take i names)) = c.in_ok-is_new.ensures.added ∙ ap not (c.loop-index.invariant.seen c.name.result) in
    let place : c.at.result ≡ at (part_in c.args.list i) key.Name = c.at.ensures ∙ ap (λ (part : Part). at part key.Name) c.part.ensures in
    let same : unless c.in_ok-is_new.is_new c.at.result ≡ occurred_before (part_in c.args.list) names i name = ap (λ (b : Bool). unless b c.at.result) new ∙ ap (unless (not (list_any (λ other. bytes_eq other name) (take i names)))) place in
    record {
      seen = λ other.
          c.in_ok-is_new.ensures.updates.0 other
          ∙ ap (λ (b : Bool). cond b true (contains (λ (x y : Bor (List ℕ)). slice_cmp nat_cmp x.now y.now) c.loop-index.seen other)) (is_eq-slice_cmp name other.now)
          ∙ ap (λ (b : Bool). cond (bytes_eq name other.now) true b) (c.loop-index.invariant.seen other)
          ∙ seen_at names i name other.now inside is;
      found =
          one_more (occurred_before (part_in c.args.list) names) names i name _ _ _ inside (sym is) c.loop-index.invariant.found (c.in_ok-add_unless.ensures ∙ ap (λ (found : List Place). c.loop-index.places.items ++ found) same);
    }
