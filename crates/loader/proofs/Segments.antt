-- The loop over a segment's words: what is left to load, at each turn.
use Rattle.std.proofs.Common.{List, ◌≡◌, ℕ, suc, ◌+◌, ◌-◌, ◌*◌, ◌<◌, ◌≤◌, arith}
use Rattle.values.specs.declared.Value.TheVariants.{Concrete}
use Rattle.rows.specs.Rows.{Row, set_memory}
use Rattle.loader.specs.Loading.{word_at, loaded_from}

-- k of n words are loaded, and x is the row with the next one in it
pub load_on : (n k m : ℕ) (bytes : List ℕ) (r x : Row) (word : ℕ) → k < n → word ≡ word_at bytes (8 * k) → x ≡ set_memory (m + k) (Concrete word) r → loaded_from (n - (k + 1)) (k + 1) m bytes x ≡ loaded_from (n - k) k m bytes r
unfolding loaded_from
load_on n k m bytes r x word more read written =
    let left : n - k ≡ suc (n - (k + 1)) = omega arith in
    rw (left, written, read)

-- no word is left
pub load_all : (n k m : ℕ) (bytes : List ℕ) (r : Row) → n ≤ k → r ≡ loaded_from (n - k) k m bytes r
unfolding loaded_from
load_all n k m bytes r h = let left : n - k ≡ 0 = omega arith in rw left

-- every word is left
pub load_none : (n m : ℕ) (bytes : List ℕ) (r : Row) → loaded_from (n - 0) 0 m bytes r ≡ loaded_from n 0 m bytes r
load_none n m bytes r = let left : n - 0 ≡ n = omega arith in rw left
