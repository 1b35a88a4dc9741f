use Rattle.std.specs.Float.Ieee.{nan_bits}
use Rattle.options.proofs.RaritySimulationOptionsDefault.default.Goals as goal

-- the bits are no NaN's
pub float_from_bits-result : goal.float_from_bits-result
unfolding nan_bits
float_from_bits-result c = tt
