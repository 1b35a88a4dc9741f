-- What the bench program prints, as bytes (docs/SHEETS.md): `answer A row R pc P value V`, for a find `born B` and `input I` for each logged
-- word, `used T`, all decimal, each line ended by one line feed.
use Rattle.std.specs.Prelude.{codes, cond, Option, Some, None, List, [], ◌∷◌, ◌++◌, ℕ, zero, suc, ◌+◌, ◌/◌, ◌%◌, ltb}
use Rattle.answers.specs.declared.answer.Answer.{Answer}

-- the decimal digits of n, at most k of them; 48 is "0"
unfoldable pub digits_up_to : ℕ → ℕ → List ℕ
digits_up_to zero n = []
digits_up_to (suc k) n = cond (ltb n 10) ((48 + n) ∷ []) (digits_up_to k (n / 10) ++ ((48 + n % 10) ∷ []))

-- a 64-bit number has at most 20
abbrev pub decimal : ℕ → List ℕ
decimal n = digits_up_to 20 n

abbrev pub answer_label : List ℕ
answer_label = codes "answer "

abbrev pub row_label : List ℕ
row_label = codes " row "

abbrev pub pc_label : List ℕ
pc_label = codes " pc "

abbrev pub value_label : List ℕ
value_label = codes " value "

abbrev pub born_label : List ℕ
born_label = codes "born "

abbrev pub input_label : List ℕ
input_label = codes "input "

abbrev pub used_label : List ℕ
used_label = codes "used "

abbrev pub line_feed : List ℕ
line_feed = 10 ∷ []

abbrev pub labelled : List ℕ → ℕ → List ℕ
labelled label n = label ++ decimal n

unfoldable pub answer_line : Answer → List ℕ
answer_line a =
    labelled answer_label a.number ++ (labelled row_label a.row ++ (labelled pc_label a.pc ++ (labelled value_label a.value ++ line_feed)))

-- a line of one label and one number
abbrev pub number_line : List ℕ → ℕ → List ℕ
number_line label n = labelled label n ++ line_feed

unfoldable pub input_lines : List ℕ → List ℕ
input_lines [] = []
input_lines (i ∷ inputs) = number_line input_label i ++ input_lines inputs

-- what is told of a find: the round in which its line was begun, and its inputs
pub record Told : Type 0 where
  pub born : ℕ
  pub inputs : List ℕ

unfoldable pub told_lines : Option Told → List ℕ
told_lines None = []
told_lines (Some t) = number_line born_label t.born ++ input_lines t.inputs

abbrev pub inputs_told : Option Told → List ℕ
inputs_told None = []
inputs_told (Some t) = t.inputs

-- all lines of an answer, of what is told, and of the tape words used
unfoldable pub lines : Answer → Option Told → List ℕ
lines a told = answer_line a ++ (told_lines told ++ number_line used_label a.used)
