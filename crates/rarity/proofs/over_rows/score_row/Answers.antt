use Rattle.std.proofs.Common.{ap, ◌∙◌}
use Rattle.means.specs.Tallies.{mean_of}
use Rattle.means.proofs.Taking.{mean_of_tally}
use Rattle.rarity.specs.Scores.{score}
use Rattle.rarity.proofs.over_rows.score_row.Goals as goal

pub returns : goal.returns
unfolding score
returns c = c.mean.ensures ∙ ap (mean_of c.args.mean) c.tally_row-t.ensures.value ∙ mean_of_tally _ _
