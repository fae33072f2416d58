use Rattle.std.proofs.Common.{◌∷◌, ap, ◌∙◌, sym, List, ℕ}
use Rattle.av_text.specs.Words.{words_left}
use Rattle.script_lines.proofs.ReadingLemmas.{read_named}
use Rattle.script_lines.proofs.grammar.read.Goals as goal

pub returns : goal.returns
returns c =
    read_named c.args.line.now
    (record {
      read = record {
        no_comment = λ comment. let yes = c.is_comment.ensures.1 comment in let not = c.if-is_comment.false in let no : ⊥ = cc in no;
        short = c.if-line-gt-MAX_LINE.false;
      };
      name = c.in-Some-command_name.name;
      words = words_left c.next.new.self;
      words_are = sym c.words-arguments.ensures ∙ c.in-Some.ensures.steps ∙ ap (λ (w : List ℕ). w ∷ words_left c.next.new.self) c.in-Some-command_name.ensures.spelled;
    })
    (c.is_printable.ensures.0 c.if-not-is_printable.false) c.read_fields.result c.read_fields.ensures.spelled c.read_fields.ensures.refused
