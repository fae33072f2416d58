use Rattle.std.proofs.Common.{◌≡◌, ◌∷◌, List, ℕ, ap}
use Rattle.av_text.specs.Words.{words_left}
use Rattle.script_lines.specs.Forms.{sentence}
use Rattle.script_lines.proofs.TextLemmas.{joined_step, texts_step, texts_same, texts_done, texts_refused}
use Rattle.script_lines.proofs.fields.read_more.Goals as goal

pub loop-word-init : goal.loop-word-init
loop-word-init c =
    let same : words_left c.into_iter-word-iterator.result ≡ words_left c.args.words = ap words_left c.into_iter-word-iterator.ensures.into_iter_gives in
    record {
      so_far = ap (λ (ws : List (List ℕ)). sentence (c.args.first ∷ ws)) same;
      texts = texts_same (words_left c.into_iter-word-iterator.result) (words_left c.args.words) same;
    }

pub returns-in_err-next-clause-refused : goal.returns-in_err-next-clause-refused
returns-in_err-next-clause-refused c =
    texts_refused c.from_residual.result c.in_err-next.field-0.0 c.in-Some.word.now (words_left c.loop-word.word-iterator) (words_left c.next.new.self) (words_left c.args.words)
    c.from_residual.ensures c.in-Some.ensures.steps c.loop-word.invariant.texts c.in_err-next.ensures.refused

pub loop-word-preserved : goal.loop-word-preserved
loop-word-preserved c =
    let spelled = c.in_ok-next.ensures.spelled in
    let before = words_left c.loop-word.word-iterator in
    let words = words_left c.next.new.self in
    record {
      so_far =
          joined_step c.in_ok-saying.saying c.loop-word.saying c.in-Some.word.now c.in_ok-next.next (sentence (c.args.first ∷ words_left c.args.words)) before words
          c.in_ok-saying.ensures spelled.1 c.in-Some.ensures.steps c.loop-word.invariant.so_far;
      texts = texts_step c.in-Some.word.now before words (words_left c.args.words) c.in-Some.ensures.steps (c.in_ok-next.next, spelled) c.loop-word.invariant.texts;
    }

pub returns-clause-spelled : goal.returns-clause-spelled
returns-clause-spelled c =
    texts_done c.loop-word.saying (sentence (c.args.first ∷ words_left c.args.words)) (words_left c.loop-word.word-iterator) (words_left c.args.words)
    c.in-None.ensures.steps.0 c.loop-word.invariant.so_far c.loop-word.invariant.texts
