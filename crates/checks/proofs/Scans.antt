-- What the folds over a row's words and marks tell is what the definitions of a valid row say by recursion.
use Rattle.std.proofs.Common.{◌≡◌, refl, ap, ◌∙◌, Bool, ◌&&◌, Option, List, [], ◌∷◌, ℕ, zero, suc, eqb, length, ◌≤◌, arith, bit_or}
use denote.Param.Members.{Mut}
use Rattle.std.specs.List.{FoldsTo, list_all, zip}
use Rattle.std.proofs.lemmas.Nat.{le_or_l}
use Rattle.std.proofs.lemmas.Grind.{common_steps}
use Rattle.std.specs.Fn.{Called}
use Rattle.std.specs.Iterator.{Drains}
use Rattle.std.proofs.lemmas.Fn.{fold_over}
use Rattle.std.proofs.lemmas.Iterator.{YieldsList}
use Rattle.rows.specs.Valid.{slot_valid, slots_valid, all_zero}

or_is_zero : (a b : ℕ) → eqb (bit_or a b) 0 ≡ (eqb a 0 && eqb b 0)
or_is_zero zero b = refl
or_is_zero (suc a) b = grind (arith, common_steps, le_or_l (suc a) b)

-- one more fault
pub joined : (fault wrong both : ℕ) {right : Bool} → both ≡ bit_or fault wrong → eqb wrong 0 ≡ right → eqb both 0 ≡ (eqb fault 0 && right)
joined fault wrong both b w = ap (λ x. eqb x 0) b ∙ or_is_zero fault wrong ∙ ap (λ x. eqb fault 0 && x) w

-- a fold that joins what is wrong with each item is 0 where all of them are right, and only there
pub judged : {S A B F : Type 0} {steps : S → Option A → S → Type 0} {v : A → B} {s : S} {all : List B}
    (right : B → Bool) (g : Mut F (ℕ × (A × Unit {0})) ℕ) {f : F} {r : ℕ}
    → ((xs : List A) × (q : F) × Drains steps s xs × FoldsTo {P = F × ℕ} (λ a x b. Called g a.0 (a.1, (x, tt)) b.1 b.0) (f, 0) xs (q, r))
    → YieldsList steps v s all
    → ((a : ℕ) (x : A) (b : ℕ) (q : F) → Called g f (a, (x, tt)) b q → (eqb b 0 ≡ (eqb a 0 && right (v x))) × (q ≡ f))
    → eqb r 0 ≡ list_all right all
judged {steps = steps} {v} {s} {all} right g {f} {r} ran yields step =
    fold_over steps v g (λ seen fault. eqb fault 0 ≡ list_all right seen) f
    (λ seen a x b q h k. let t = step a x b q k in (grind (arith, common_steps, t.0, h), t.1)) s all 0 r yields.runs refl ran

pub zeros : (words : List ℕ) → list_all (λ x. eqb x 0) words ≡ all_zero words
unfolding all_zero
zeros [] = refl
zeros (x ∷ words) = ap (λ b. eqb x 0 && b) (zeros words)

-- there is a word for each mark
pub slots : (words marks : List ℕ) → length marks ≤ length words → list_all (λ p. slot_valid p.0 p.1) (zip words marks) ≡ slots_valid words marks
unfolding slots_valid
slots [] [] h = refl
slots [] (m ∷ marks) h = absurd (omega arith)
slots (w ∷ words) [] h = refl
slots (w ∷ words) (m ∷ marks) h = ap (λ b. slot_valid w m && b) (slots words marks (omega arith))
