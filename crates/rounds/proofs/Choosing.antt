-- What `rarest` keeps, of elements of any type and any test `lower`.
use Rattle.std.proofs.Common.{Bool, true, false, cond, true≢false, List, [], ◌∷◌, ◌++◌, map, ◌⊎◌, inl, inr, ⊎_elim, ◌≡◌, refl, sym, ap, ◌∙◌, subst, ℕ, zero, suc, min, ◌+◌, ◌<◌, arith, length, get_or}
use Rattle.rounds.specs.Demand.{Inserted, Permutation, none, one, All, nil, cons}
use Rattle.rounds.specs.Selection.{Spot, Chosen, remove_at, lowest_from, rarest}
use Rattle.rounds.proofs.Lists.{permutation_refl, inserted_length, inserted_at, all_inserted, all_permuted, all_right, remove_map}

abbrev pub spot : {A : Type 0} → ℕ → A → Spot A
spot i x = record { at = i; what = x }

module _ {A : Type 0} (lower : A → A → Bool) where
  -- ---- the lowest is an element of the list, at its place
  lowest_in_list : (P : Spot A → Type 0) (s : Spot A) (i : ℕ) (xs : List A) (d : A) → P s
      → ((k : ℕ) → k < length xs → P (spot (i + k) (get_or xs k d))) → P (lowest_from lower s i xs)
  unfolding lowest_from
  lowest_in_list P s i [] d ps each = ps
  lowest_in_list P s i (x ∷ xs) d ps each =
      lowest_in_list P (cond (lower x s.what) (spot i x) s) (suc i) xs d
      (cases (lower x s.what) (subst (λ (k : ℕ). P (spot k x)) (omega arith) (each 0 (omega arith))))
      (λ k h. subst (λ (j : ℕ). P (spot j (get_or xs k d))) (omega arith) (each (suc k) (omega arith)))
    where
      cases : (b : Bool) → P (spot i x) → P (cond b (spot i x) s)
      cases true p = p
      cases false p = ps

  abbrev pub lowest : A → List A → Spot A
  lowest x xs = lowest_from lower (spot 0 x) 1 xs

  abbrev pub rest : A → List A → List A
  rest x xs = remove_at (lowest x xs).at (x ∷ xs)

  -- a spot of the list l
  pub record Placed (l : List A) (d : A) (s : Spot A) : Type 0 where
    pub within : s.at < length l
    pub there_it_is : get_or l s.at d ≡ s.what

  pub lowest_placed : (x : A) (xs : List A) → Placed (x ∷ xs) x (lowest x xs)
  lowest_placed x xs =
      lowest_in_list (Placed (x ∷ xs) x) (spot 0 x) 1 xs x
      (record { within = omega arith; there_it_is = refl })
      (λ k h. record { within = omega arith; there_it_is = let e : 1 + k ≡ suc k = omega arith in rw e })

  pub lowest_inserted : (x : A) (xs : List A) → Inserted (lowest x xs).what (rest x xs) (x ∷ xs)
  lowest_inserted x xs =
      let placed = lowest_placed x xs in
      subst (λ (y : A). Inserted y (rest x xs) (x ∷ xs)) placed.there_it_is (inserted_at (lowest x xs).at (x ∷ xs) x placed.within)

  -- ---- each element is kept or passed over, once
  pub rarest_each_once : (k : ℕ) (l : List A) → Permutation ((rarest lower k l).kept ++ (rarest lower k l).passed) l
  unfolding rarest
  rarest_each_once zero l = permutation_refl l
  rarest_each_once (suc k) [] = none
  rarest_each_once (suc k) (x ∷ xs) = one (lowest_inserted x xs) (rarest_each_once k (rest x xs))

  -- ---- as many are kept as asked, or all
  pub rarest_as_many : (k : ℕ) (l : List A) → length (rarest lower k l).kept ≡ min k (length l)
  unfolding rarest
  rarest_as_many zero l = omega arith
  rarest_as_many (suc k) [] = omega arith
  rarest_as_many (suc k) (x ∷ xs) =
      let n = rarest_as_many k (rest x xs) in
      let m = inserted_length (lowest_inserted x xs) in
      omega arith

  -- ---- none that is passed over is lower than one that is kept
  module _ (Good : A → Type 0) (irreflexive : (x : A) → Good x → lower x x ≡ false)
      (transitive : (x y z : A) → Good x → Good y → Good z → lower x y ≡ true → lower y z ≡ true → lower x z ≡ true) where
    -- r is the lowest of s and xs
    record Lowest (r s : A) (xs : List A) : Type 0 where
      good : Good r
      most : (r ≡ s) ⊎ (lower r s ≡ true)
      first : lower s r ≡ false
      others : All (λ y. lower y r ≡ false) xs

    lowest_step : (i : ℕ) (x : A) (s : Spot A) (r : A) (xs : List A) → Good x → Good s.what → (b : Bool) → lower x s.what ≡ b
        → Lowest r (cond b (spot i x) s).what xs → Lowest r s.what (x ∷ xs)
    lowest_step i x s r xs gx gs true e h =
        record {
          good = h.good;
          most =
              inr (⊎_elim (λ (p : r ≡ x). rw p e) (λ (p : lower r x ≡ true). transitive r x s.what h.good gx gs p e) h.most);
          first = no (lower s.what r) refl;
          others = cons h.first h.others;
        }
      where
        no : (b : Bool) → lower s.what r ≡ b → b ≡ false
        no false q = refl
        no true q = absurd (true≢false (sym (transitive x s.what r gx gs h.good e q) ∙ h.first))
    lowest_step i x s r xs gx gs false e h =
        record { good = h.good; most = h.most; first = h.first; others = cons (no (lower x r) refl) h.others }
      where
        no : (b : Bool) → lower x r ≡ b → b ≡ false
        no false q = refl
        no true q =
            ⊎_elim (λ (p : r ≡ s.what). sym q ∙ ap (lower x) p ∙ e)
            (λ (p : lower r s.what ≡ true). absurd (true≢false (sym (transitive x r s.what gx h.good gs q p) ∙ e)))
            h.most

    lowest_is : (s : Spot A) (i : ℕ) (xs : List A) → Good s.what → All Good xs → Lowest (lowest_from lower s i xs).what s.what xs
    unfolding lowest_from
    lowest_is s i [] gs nil = record { good = gs; most = inl refl; first = irreflexive s.what gs; others = nil }
    lowest_is s i (x ∷ xs) gs (cons gx more) =
        lowest_step i x s _ xs gx gs (lower x s.what) refl
        (lowest_is (cond (lower x s.what) (spot i x) s) (suc i) xs (good (lower x s.what)) more)
      where
        good : (b : Bool) → Good (cond b (spot i x) s).what
        good true = gx
        good false = gs

    pub rarest_lowest : (k : ℕ) (l : List A) → All Good l → All (λ x. All (λ y. lower y x ≡ false) (rarest lower k l).passed) (rarest lower k l).kept
    unfolding rarest
    rarest_lowest zero l g = nil
    rarest_lowest (suc k) [] g = nil
    rarest_lowest (suc k) (x ∷ xs) (cons gx gs) =
        let h = lowest_is (spot 0 x) 1 xs gx gs in
        let i = lowest_inserted x xs in
        cons
        (all_right (rarest lower k (rest x xs)).kept (all_permuted (rarest_each_once k (rest x xs)) (all_inserted i (cons h.first h.others)).1))
        (rarest_lowest k (rest x xs) (all_inserted i (cons gx gs)).1)

-- ---- of a mapped list, as the numbers of rows for the rows
abbrev with_rest : {A : Type 0} → Spot A → Chosen A → Chosen A
with_rest s c = record { kept = s.what ∷ c.kept; passed = c.passed }

module _ {A B : Type 0} (f : A → B) where
  abbrev spot_map : Spot A → Spot B
  spot_map s = spot s.at (f s.what)

  abbrev pub chosen_map : Chosen A → Chosen B
  chosen_map c = record { kept = map f c.kept; passed = map f c.passed }

  module _ (lower : B → B → Bool) where
    cond_map : (b : Bool) (s t : Spot A) → cond b (spot_map s) (spot_map t) ≡ spot_map (cond b s t)
    cond_map true s t = refl
    cond_map false s t = refl

    lowest_map : (s : Spot A) (i : ℕ) (l : List A) → lowest_from lower (spot_map s) i (map f l) ≡ spot_map (lowest_from (λ x y. lower (f x) (f y)) s i l)
    unfolding lowest_from
    lowest_map s i [] = refl
    lowest_map s i (x ∷ l) =
        ap (λ (t : Spot B). lowest_from lower t (suc i) (map f l)) (cond_map (lower (f x) (f s.what)) (spot i x) s)
        ∙ lowest_map (cond (lower (f x) (f s.what)) (spot i x) s) (suc i) l

    pub rarest_map : (k : ℕ) (l : List A) → rarest lower k (map f l) ≡ chosen_map (rarest (λ x y. lower (f x) (f y)) k l)
    unfolding rarest
    rarest_map zero l = refl
    rarest_map (suc k) [] = refl
    rarest_map (suc k) (x ∷ l) =
        let s = lowest_from (λ x y. lower (f x) (f y)) (spot 0 x) 1 l in
        ap (λ (t : Spot B). with_rest t (rarest lower k (remove_at t.at (f x ∷ map f l)))) (lowest_map (spot 0 x) 1 l)
        ∙ ap (λ (m : List B). with_rest (spot_map s) (rarest lower k m)) (remove_map f s.at (x ∷ l))
        ∙ ap (with_rest (spot_map s)) (rarest_map k (remove_at s.at (x ∷ l)))
