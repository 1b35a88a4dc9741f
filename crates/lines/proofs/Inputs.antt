-- The lines of inputs, by what is written so far.
use Rattle.std.proofs.Common.{◌≡◌, refl, sym, ap, ◌∙◌, List, [], ◌∷◌, ◌++◌, append_assoc, append-nil, ℕ, ◌+◌, ◌<◌, add-one, length, take, get_or, take-suc}
use Rattle.lines.specs.Lines.{input_label, number_line, input_lines}

-- the lines of two lists
inputs_append : (a b : List ℕ) → input_lines (a ++ b) ≡ input_lines a ++ input_lines b
unfolding input_lines
inputs_append [] b = refl
inputs_append (x ∷ a) b = rw (inputs_append a b) (sym (append_assoc (number_line input_label x) (input_lines a) (input_lines b)))

-- one word more
pub inputs_more : (l : List ℕ) (i : ℕ) → i < length l → input_lines (take (i + 1) l) ≡ input_lines (take i l) ++ number_line input_label (get_or l i 0)
unfolding input_lines
inputs_more l i h =
    rw (add-one, take-suc l i 0 h)
    (inputs_append (take i l) (get_or l i 0 ∷ [])
    ∙ ap (λ (x : List ℕ). input_lines (take i l) ++ x) (append-nil (number_line input_label (get_or l i 0))))
