-- The defaults: the Rust's, but for the number of states, which is 3000 there.
use Rattle.std.specs.Prelude.{ℕ}
use Rattle.std.specs.Float.{binary64}
use Rattle.std.specs.Float.Ieee.{of_bits}
use Rattle.means.specs.declared.MeanType.{MeanType}
use Rattle.means.specs.declared.MeanType.TheVariants.{Harmonic}
use Rattle.options.specs.declared.RaritySimulationOptions.{RaritySimulationOptions}

-- 1 MiB
abbrev pub default_memory_size : ℕ
default_memory_size = 1048576

abbrev pub default_amount_of_states : ℕ
default_amount_of_states = 400

abbrev pub default_step_size : ℕ
default_step_size = 1000

abbrev pub default_selection : ℕ
default_selection = 50

abbrev pub default_iterations : ℕ
default_iterations = 20

-- the bits of the f64 next to 0.6
abbrev pub default_copy_ratio_bits : ℕ
default_copy_ratio_bits = 0x3fe3_3333_3333_3333

abbrev pub default_mean : MeanType
default_mean = Harmonic

unfoldable pub default_options : RaritySimulationOptions
default_options =
    record {
      memory_size = default_memory_size;
      amount_of_states = default_amount_of_states;
      step_size = default_step_size;
      selection = default_selection;
      iterations = default_iterations;
      copy_init_ratio = of_bits binary64 default_copy_ratio_bits;
      mean = default_mean;
    }
