use Rattle.std.proofs.Common.{◌∙◌}
use Rattle.selection.proofs.KeptNumbers.{numbers}
use Rattle.selection.proofs.select_rarest.Goals as goal

pub move_kept-requires : goal.move_kept-requires
move_kept-requires c = record { numbers = numbers _ _ _ (c.as_slice.ensures.value ∙ c.order_of.ensures) c.requires.a_score_each }
