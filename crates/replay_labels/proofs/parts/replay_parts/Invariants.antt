use Rattle.replay_parts.specs.Parts.{left_of}
use Rattle.replay_labels.proofs.parts.replay_parts.Given as goal

abbrev pub decreases-loop-words : goal.decreases-loop-words
decreases-loop-words l = left_of l.parts
