-- What a line says of an answer and of a mean.
use Rattle.std.specs.Prelude.{ℕ, ◌+◌, Bool, cond, ◌==◌, ◌&&◌, List, Option, Some, None}
use Rattle.answers.specs.declared.answer.Answer.{Answer}
use Rattle.means.specs.declared.MeanType.{MeanType}
use Rattle.means.specs.declared.MeanType.TheVariants.{Arithmetic, Harmonic}
use Rattle.replay_lists.specs.Columns.{number_at}

-- whether number, pc, value and used count stand in four columns
unfoldable pub is_answer : List ℕ → ℕ → Answer → Bool
is_answer numbers at a =
    (a.number == number_at numbers at)
    && (a.pc == number_at numbers (at + 1))
    && (a.value == number_at numbers (at + 2))
    && (a.used == number_at numbers (at + 3))

-- the mean of a number
abbrev pub mean_numbered : ℕ → Option MeanType
mean_numbered n = cond (n == 0) (Some Arithmetic) (cond (n == 1) (Some Harmonic) None)

unfoldable pub mean_at : List ℕ → ℕ → Option MeanType
mean_at numbers at = mean_numbered (number_at numbers at)
