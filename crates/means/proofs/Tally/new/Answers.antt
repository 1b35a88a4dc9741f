use Rattle.std.proofs.Common.{refl}
use Rattle.std.specs.Float.Ieee.{of_int, of_bits}
use Rattle.means.specs.Means.{reciprocals, sum}
use Rattle.means.proofs.Tally.new.Goals as goal

pub returns : goal.returns
unfolding reciprocals sum of_int of_bits
returns c = refl
