-- What crosses and comes back is the same: the options that a host is given as the defaults are what it hands in, and of an answer nothing is lost but a row that is 0.
use Rattle.std.proofs.Common.{◌≡◌, refl, ℕ, Result, Ok, Err}
use Rattle.executor.specs.Entries.{run_answer}
use Rattle.checks.specs.declared.refusal.Refusal.{Refusal}
use Rattle.machine.specs.declared.run.Ran.{Ran}
use Rattle.means.specs.declared.MeanType.{MeanType}
use Rattle.means.specs.declared.MeanType.TheVariants.{Arithmetic, Harmonic}
use Rattle.options.specs.Means.{mean_number, mean_numbered}
use Rattle.options.specs.declared.RaritySimulationOptions.{RaritySimulationOptions}
use Rattle.tavvinur.specs.Flat.{options_of, flat_of}
use Rattle.tavvinur.specs.Printing.{answer_in, flat_printed}

mean_back : (m : MeanType) → mean_numbered (mean_number m) ≡ m
mean_back Arithmetic = refl
mean_back Harmonic = refl

pub options_back : (o : RaritySimulationOptions) → options_of (flat_of o) ≡ o
options_back o = rw mean_back

pub answer_back : (a : Result Ran Refusal) (written : ℕ) → answer_in (flat_printed (run_answer a) written) ≡ run_answer a
answer_back (Err f) written = refl
answer_back (Ok x) written = refl
