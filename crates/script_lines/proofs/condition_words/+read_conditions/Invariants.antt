use Rattle.std.proofs.Common.{length}
use Rattle.av_text.specs.Words.{words_left}
use Rattle.script_lines.proofs.condition_words.+read_conditions.Given as goal

abbrev pub decreases-read_conditions : goal.decreases-read_conditions
decreases-read_conditions l = length (words_left l.words)
