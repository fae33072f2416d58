use Rattle.std.proofs.Common.{◌≡◌, ◌∷◌}
use Rattle.std.specs.Prelude.{◌↔◌}
use Rattle.av_text.specs.Words.{words_left}
use Rattle.script_lines.specs.Forms.{AreTexts, sentence}
use Rattle.script_lines.proofs.fields.read_more.Given as goal

abbrev pub invariant-loop-word : goal.invariant-loop-word
invariant-loop-word l = record {
  so_far : sentence (l.saying ∷ words_left l.word-iterator) ≡ sentence (l.fn.first ∷ words_left l.fn.words);
  texts : AreTexts (words_left l.word-iterator) ↔ AreTexts (words_left l.fn.words);
}
