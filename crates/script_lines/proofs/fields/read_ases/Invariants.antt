use Rattle.std.proofs.Common.{◌≡◌, ◌++◌, map, decimal, All}
use Rattle.av_text.specs.Words.{words_left}
use Rattle.av_text.specs.Number.{Is32Bit}
use Rattle.script_lines.proofs.fields.read_ases.Given as goal

abbrev pub invariant-loop-word : goal.invariant-loop-word
invariant-loop-word l = record {
  so_far : map decimal l.numbers ++ words_left l.word-iterator ≡ words_left l.fn.words;
  numbers : All Is32Bit l.numbers;
}
