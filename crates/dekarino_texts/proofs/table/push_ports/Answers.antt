use Rattle.dekarino_texts.proofs.Common.{◌≡◌, ◌+◌, ◌++◌, List, [], ◌∷◌, Some, sym, ap, ◌∙◌, map, slice_get, option_copied, map-append, ports_of, grows, complete, RowData, row_data, port_row}
use Rattle.dekarino_texts.specs.declared.table.TableRow.{TableRow}
use Rattle.dekarino_texts.specs.declared.table.TableRow.TheVariants as rows
use Rattle.dekarino_texts.proofs.TableLemmas.{port_cut, port_end, port_at_index}
use Rattle.dekarino_texts.proofs.table.push_ports.Goals as goal

pub loop-index-preserved : goal.loop-index-preserved
loop-index-preserved c =
    let config = c.args.config.now in
    let p = c.args.p in
    let index = c.loop-index.index in
    let port = c.unwrap-port.result.now in
    let old = c.loop-index.rows.items in
    let found : slice_get (ports_of config p) index ≡ Some port = port_at_index (ports_of config p) index port (sym c.port.ensures.found ∙ ap option_copied c.unwrap-port.ensures) in
    let row : TableRow = rows.Port (record { partition = p; id = index + 1 }) c.in_ok-partners.partners in
    let same : row_data row ≡ port_row config p (index + 1) port = (λ i. record { partition = p; id = index + 1; partners = c.in_ok-partners.ensures i }) in
    let grown : map row_data c.push.new.self.items ≡ map row_data old ++ port_row config p (index + 1) port ∷ [] =
    ap (λ (xs : List TableRow). map row_data xs) c.in_ok-push.ensures.items ∙ (map-append row_data old (row ∷ []) ∙ ap (λ (x : RowData). map row_data old ++ x ∷ []) same) in
    grows (map row_data old) (map row_data c.push.new.self.items) _ _ _ _ grown (port_cut config p (ports_of config p) index port found) c.loop-index.invariant

pub returns : goal.returns
returns c =
    complete (map row_data c.loop-index.rows.items) _ _ (port_end c.args.config.now c.args.p (ports_of c.args.config.now c.args.p) c.loop-index.index (rw c.ports-index-end.ensures.count at c.loop-index-test.false)) c.loop-index.invariant
