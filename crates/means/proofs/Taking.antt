-- Counters taken in one at a time: the tally that grows is the tally of the list, and its mean the list's.
use Rattle.std.proofs.Common.{◌≡◌, refl, sym, ap, ◌∙◌, List, [], ◌∷◌, ◌++◌, ℕ, ◌+◌, zero-add, add-zero, add_assoc, length-append, Float}
use Rattle.std.specs.Float.{binary64}
use Rattle.std.specs.Float.Ieee.{add, div}
use Rattle.means.specs.declared.MeanType.{MeanType}
use Rattle.means.specs.declared.MeanType.TheVariants.{Arithmetic, Harmonic}
use Rattle.means.specs.Means.{whole, reciprocals, sum, mean}
use Rattle.means.specs.Tallies.{tally, with_counter, mean_of}

pub reciprocals_append : (x : Float) (cs ds : List ℕ) → reciprocals x (cs ++ ds) ≡ reciprocals (reciprocals x cs) ds
unfolding reciprocals
reciprocals_append x [] ds = refl
reciprocals_append x (c ∷ cs) ds = reciprocals_append (add binary64 x (div binary64 (whole 1) (whole c))) cs ds

pub sum_append : (cs ds : List ℕ) → sum (cs ++ ds) ≡ sum cs + sum ds
unfolding sum
sum_append [] ds = sym (zero-add (sum ds))
sum_append (c ∷ cs) ds = ap (λ (z : ℕ). c + z) (sum_append cs ds) ∙ sym (add_assoc c (sum cs) (sum ds))

pub tally_more : (cs : List ℕ) (c : ℕ) → with_counter (tally cs) c ≡ tally (cs ++ (c ∷ []))
unfolding reciprocals sum
tally_more cs c = rw (reciprocals_append, sum_append, length-append, add-zero)

pub mean_of_tally : (m : MeanType) (cs : List ℕ) → mean_of m (tally cs) ≡ mean m cs
unfolding mean_of mean
mean_of_tally Arithmetic cs = refl
mean_of_tally Harmonic cs = refl
