use Rattle.dekarino_texts.proofs.Common.{◌≡◌, ◌++◌, List, [], ◌∷◌, ap, ◌∙◌, map, append_assoc, map-append, ports_of, grows, complete, RowData, row_data, port_rows}
use Rattle.dekarino_texts.specs.declared.table.TableRow.{TableRow}
use Rattle.dekarino_texts.specs.declared.table.TableRow.TheVariants as rows
use Rattle.dekarino_texts.proofs.TableLemmas.{partition_cut, partition_end}
use Rattle.dekarino_texts.proofs.table.port_table.Goals as goal

pub loop-partition-preserved : goal.loop-partition-preserved
loop-partition-preserved c =
    let config = c.args.config.now in
    let p = c.loop-partition.partition in
    let old = c.loop-partition.rows.items in
    let row : TableRow = rows.Partition p in
    let more = port_rows config p 1 (ports_of config p) in
    let pushed : map row_data c.push.new.self.items ≡ map row_data old ++ row_data row ∷ [] =
    ap (λ (xs : List TableRow). map row_data xs) c.in_ok-push.ensures.items ∙ map-append row_data old (row ∷ []) in
    let grown : map row_data c.push_ports.new.rows.items ≡ map row_data old ++ (row_data row ∷ more) =
    c.in_ok-push_ports.ensures ∙ (ap (λ (xs : List RowData). xs ++ more) pushed ∙ append_assoc (map row_data old) (row_data row ∷ []) more) in
    grows (map row_data old) (map row_data c.push_ports.new.rows.items) _ _ _ _ grown (partition_cut config p (rw c.partitions-partition-end.ensures.count at c.loop-partition-test.true)) c.loop-partition.invariant

pub returns : goal.returns
returns c =
    complete (map row_data c.loop-partition.rows.items) _ _ (partition_end c.args.config.now c.loop-partition.partition (rw c.partitions-partition-end.ensures.count at c.loop-partition-test.false)) c.loop-partition.invariant
