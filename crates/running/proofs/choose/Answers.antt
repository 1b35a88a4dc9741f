use Rattle.std.proofs.Common.{ap, ◌∙◌}
use Rattle.answers.specs.declared.outcome.Progress.TheVariants.{Ended}
use Rattle.running.proofs.Choice.{new_bug, bug_stays, new_error, outcome_stays, outcome_with}
use Rattle.running.proofs.choose.Goals as goal

pub returns-in_default : goal.returns-in_default
returns-in_default c = λ before last e n q. outcome_with before last n q c.in_default.is e

pub returns-in-Exited : goal.returns-in-Exited
returns-in-Exited c = λ before last e n q. outcome_with before last n q (c.in-Ended.is ∙ ap Ended c.in-Exited.is) e

pub returns-in-Found-best : goal.returns-in-Found-best
returns-in-Found-best c = λ before last e n q. outcome_with before last n q (c.in-Ended.is ∙ ap Ended c.in-Found.is) (bug_stays _ before e c.in-Found-best.is)

pub returns-in_default-best : goal.returns-in_default-best
returns-in_default-best c = λ before last e n q. outcome_with before last n q (c.in-Ended.is ∙ ap Ended c.in-Found.is) (new_bug _ before e c.in_default-best.not-Found)

pub returns-in-Nothing : goal.returns-in-Nothing
returns-in-Nothing c = λ before last e n q. outcome_with before last n q (c.in-Ended.is ∙ ap Ended c.in-Failed.is) (new_error _ before e c.in-Nothing.is)

pub returns-in_default-best-2 : goal.returns-in_default-best-2
returns-in_default-best-2 c =
    λ before last e n q. outcome_with before last n q (c.in-Ended.is ∙ ap Ended c.in-Failed.is) (outcome_stays _ before e c.in_default-best-2.not-Nothing)
