use Rattle.std.proofs.Common.{◌≡◌, ◌∷◌, length, sym, ap, rules}
use Rattle.av_text.specs.Words.{words_of}
use Rattle.av_text.proofs.WordLemmas.{words_of-none, words_of-some}
use Rattle.av_text.proofs.pieces.WordsIterator.next.Goals as goal

pub returns-in_err-start-clause-steps : goal.returns-in_err-start-clause-steps
returns-in_err-start-clause-steps c =
    let empty = words_of-none c.args.self.now.rest.now (sym c.in_err-start.ensures) in
    rw c.from_residual.ensures (empty, empty)

-- the word that comes is the first
first_word : (c : goal.After-rest-2-1) → words_of c.args.self.now.rest.now ≡ c.split_at-2.result.0.now ∷ words_of c.split_at-2.result.1.now
first_word c =
    words_of-some _ c.split_at.result.1.now _ _ c.first_blank.result c.in_ok-start.start c.unwrap_or-end.result
    (sym c.in_ok-start.ensures) c.split_at.ensures.back c.first_blank.ensures c.unwrap_or-end.ensures c.split_at-2.ensures.front c.split_at-2.ensures.back

pub returns-clause-steps : goal.returns-clause-steps
returns-clause-steps c = first_word c

pub returns-clause-goes : goal.returns-clause-goes
returns-clause-goes c =
    let shorter = ap length (first_word c) in
    search rules
