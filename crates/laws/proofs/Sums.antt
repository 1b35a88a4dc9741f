-- Sums of f 0, .., f (n - 1).
use Rattle.std.proofs.Common.{◌≡◌, refl, sym, ap, ap₂, ◌∙◌, inl, inr, ◌⊎◌, ℕ, zero, suc, ◌+◌, ◌<◌, ◌≤◌, eq-or-lt_of_le, le_of_suc-le-suc, not-suc-le-zero, add-one, arith, lit≤}

unfoldable pub sum : (ℕ → ℕ) → ℕ → ℕ
sum f zero = 0
sum f (suc n) = sum f n + f n

pub sum_same : (f g : ℕ → ℕ) (n : ℕ) → ((i : ℕ) → f i ≡ g i) → sum f n ≡ sum g n
unfolding sum
sum_same f g zero h = refl
sum_same f g (suc n) h = ap₂ (λ (x y : ℕ). x + y) (sum_same f g n h) (h n)

pub sum_none : (f : ℕ → ℕ) (n : ℕ) → ((i : ℕ) → i < n → f i ≡ 0) → sum f n ≡ 0
unfolding sum
sum_none f zero h = refl
sum_none f (suc n) h = ap₂ (λ (x y : ℕ). x + y) (sum_none f n (λ i l. h i (omega arith))) (h n (omega arith))

-- only f k is not 0
pub sum_one : (f : ℕ → ℕ) (n k : ℕ) → k < n → ((i : ℕ) → (i ≡ k → ⊥) → f i ≡ 0) → sum f n ≡ f k
unfolding sum
sum_one f zero k l h = absurd (not-suc-le-zero l)
sum_one f (suc n) k l h = go (eq-or-lt_of_le (le_of_suc-le-suc l)) (sum_one f n k)
  where
    go : (k ≡ n) ⊎ (k < n) → (k < n → ((i : ℕ) → (i ≡ k → ⊥) → f i ≡ 0) → sum f n ≡ f k) → sum f n + f n ≡ f k
    go (inl e) ih =
        let a : sum f n ≡ 0 = sum_none f n (λ i m. h i (λ d. omega arith)) in
        let b : f k ≡ f n = ap f e in
        omega arith
    go (inr m) ih =
        let a : sum f n ≡ f k = ih m h in
        let b : f n ≡ 0 = h n (λ d. omega arith) in
        omega arith

pub sum_add : (f g : ℕ → ℕ) (n : ℕ) → sum (λ (i : ℕ). f i + g i) n ≡ sum f n + sum g n
unfolding sum
sum_add f g zero = refl
sum_add f g (suc n) =
    let e = sum_add f g n in
    omega arith

-- the order of two sums
pub sum_swap : (f : ℕ → ℕ → ℕ) (m n : ℕ) → sum (λ (i : ℕ). sum (f i) n) m ≡ sum (λ (j : ℕ). sum (λ (i : ℕ). f i j) m) n
unfolding sum
sum_swap f zero n = sym (sum_none (λ (j : ℕ). 0) n (λ i l. refl))
sum_swap f (suc m) n =
    ap (λ (z : ℕ). z + sum (f m) n) (sum_swap f m n)
    ∙ sym (sum_add (λ (j : ℕ). sum (λ (i : ℕ). f i j) m) (f m) n)

-- of numbers that are 1 at most
pub sum_most : (f : ℕ → ℕ) (n : ℕ) → ((i : ℕ) → f i ≤ 1) → sum f n ≤ n
unfolding sum
sum_most f zero h = lit≤ tt
sum_most f (suc n) h = omega (arith, sum_most f n h, h n)

-- summed by a loop
pub sum_start : (f : ℕ → ℕ) → 0 ≡ sum f 0
unfolding sum
sum_start f = refl

pub sum_more : (f : ℕ → ℕ) (i n k : ℕ) → n ≡ sum f i → k ≡ f i → n + k ≡ sum f (i + 1)
unfolding sum
sum_more f i n k p q = ap₂ (λ (x y : ℕ). x + y) p q ∙ ap (sum f) (sym (add-one i))
