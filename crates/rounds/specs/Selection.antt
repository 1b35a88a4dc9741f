-- Keeping the lowest: the first of the lowest is taken out, again and again. So the kept come in rising order, equals in list order.
use Rattle.std.specs.Prelude.{Bool, cond, List, [], ◌∷◌, ℕ, zero, suc}

-- an element and its place in a list
pub record Spot (A : Type 0) : Type 0 where
  pub at : ℕ
  pub what : A

-- what is kept, and what is passed over
pub record Chosen (A : Type 0) : Type 0 where
  pub kept : List A
  pub passed : List A

module _ {A : Type 0} where
  abbrev pub remove_at : ℕ → List A → List A
  remove_at i [] = []
  remove_at zero (x ∷ xs) = xs
  remove_at (suc i) (x ∷ xs) = x ∷ remove_at i xs

  module _ (lower : A → A → Bool) where
    -- the first of the lowest, of a spot and the elements from place i on
    unfoldable pub lowest_from : Spot A → ℕ → List A → Spot A
    lowest_from s i [] = s
    lowest_from s i (x ∷ xs) = lowest_from (cond (lower x s.what) (record { at = i; what = x }) s) (suc i) xs

    -- at most k are kept
    unfoldable pub rarest : ℕ → List A → Chosen A
    rarest zero xs = record { kept = []; passed = xs }
    rarest (suc k) [] = record { kept = []; passed = [] }
    rarest (suc k) (x ∷ xs) =
        let s = lowest_from (record { at = 0; what = x }) 1 xs in
        let others = rarest k (remove_at s.at (x ∷ xs)) in
        record { kept = s.what ∷ others.kept; passed = others.passed }
