-- What a draw tells.
use Rattle.std.proofs.Common.{Bool, true, false, cond, List, ◌≡◌, refl, sym, ◌∙◌, ℕ, ◌<◌, length, ltb-true}
use Rattle.std.specs.Prelude.{Result, Ok, Err}
use Rattle.answers.specs.declared.error.ExecutorError.{ExecutorError}
use Rattle.rows.specs.Rows.{Row, room_from, log_count}
use Rattle.reading.specs.Reading.{drawn}

-- a word that two tests let through passed both
both : (a b : Bool) (x y : ℕ) (e f : ExecutorError) → cond a (cond b (Ok x) (Err e)) (Err f) ≡ Ok y → (a ≡ true) × (b ≡ true)
both true true x y e f h = (refl, refl)
both true false x y e f h = (refl, cc)
both false b x y e f h = (cc, cc)

-- a word was drawn: the log has room, and the tape a word
pub drawn_room : {d : Result ℕ ExecutorError} (log : ℕ) (tape : List ℕ) (used : ℕ) (r : Row) (x : ℕ) → d ≡ drawn log tape used r → d ≡ Ok x
    → (log_count r < room_from log r) × (used < length tape)
unfolding drawn
drawn_room log tape used r x e h =
    let passed = both _ _ _ _ _ _ (sym e ∙ h) in
    (ltb-true _ _ passed.0, ltb-true _ _ passed.1)
