use Rattle.std.proofs.Common.{ap, ◌∙◌, arith}
use Rattle.std.proofs.Math.ListN.{length-map}
use Rattle.rows.specs.Lent.{seen}
use Rattle.means.specs.Tallies.{mean_of}
use Rattle.means.proofs.Bound.{bounded}
use Rattle.means.proofs.Taking.{mean_of_tally}
use Rattle.counting.proofs.Bounds.{addresses_length}
use Rattle.tables.specs.Tables.{counters_from}
use Rattle.tables.proofs.average.average_row.Goals as goal

pub returns-clause-value : goal.returns-clause-value
returns-clause-value c = c.mean.ensures ∙ ap (mean_of c.args.mean) c.tally_row-t.ensures.value ∙ mean_of_tally _ _

pub returns-clause-near : goal.returns-clause-near
returns-clause-near c =
    let r = seen c.args.row in
    let n = addresses_length r in
    rw (c.mean.ensures, c.tally_row-t.ensures.value, mean_of_tally)
    (bounded c.args.mean (counters_from c.args.table.now r) c.requires.counters (rw length-map (omega arith)) (rw length-map (omega arith)))
