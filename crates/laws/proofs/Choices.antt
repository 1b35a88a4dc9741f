-- What a test chooses, and tests of two parts.
use Rattle.std.proofs.Common.{◌≡◌, refl, Bool, true, false, cond, ◌&&◌, ◌||◌}

-- a claim about it, from the claim about each choice
pub chosen : {A : Type 0} (P : A → Type 0) (b : Bool) (x y : A) → (b ≡ true → P x) → (b ≡ false → P y) → P (cond b x y)
chosen P true x y p q = p refl
chosen P false x y p q = q refl

-- a claim about what one test chooses on two sides, from the claim about each pair of choices
pub both_chosen : {A B : Type 0} (P : A → B → Type 0) (b : Bool) {x y : A} {x' y' : B} → (b ≡ true → P x x') → (b ≡ false → P y y') → P (cond b x y) (cond b x' y')
both_chosen P true p q = p refl
both_chosen P false p q = q refl

-- a test that chooses between two that are the same
pub same : {A : Type 0} (b : Bool) (x : A) → cond b x x ≡ x
same true x = refl
same false x = refl

-- a test of two parts holds where both hold, and there alone
pub both : {a b : Bool} → a ≡ true → b ≡ true → a && b ≡ true
both p q = rw (p, q)

pub parts : (a b : Bool) → a && b ≡ true → (a ≡ true) × (b ≡ true)
parts true b h = (refl, h)
parts false b h = (cc, cc)

-- neither of two tests holds
pub neither : (a b : Bool) → (a || b) ≡ false → (a ≡ false) × (b ≡ false)
neither true b h = (h, cc)
neither false b h = (refl, h)
