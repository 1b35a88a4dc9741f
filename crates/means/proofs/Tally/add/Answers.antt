use Rattle.std.proofs.Common.{refl}
use Rattle.std.specs.Float.Ieee.{of_int, of_bits}
use Rattle.means.proofs.Tally.add.Goals as goal

pub returns : goal.returns
unfolding of_int of_bits
returns c = refl
