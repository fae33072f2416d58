use Rattle.std.proofs.Common.{◌≡◌, ℕ, [], ◌∷◌, ◌++◌, length, ap, sym, ◌∙◌, arith, rules}
use Rattle.std.proofs.lemmas.List.{take-append-drop}
use Rattle.bgp_attrs.specs.Segments.{numbers_4}
use Rattle.bgp_attrs.proofs.ChainLemmas.{number_of, numbers_last}
use Rattle.bgp_attrs.proofs.merging.take_last.Goals as goal

pub returns-in-len4-clause-last : goal.returns-in-len4-clause-last
returns-in-len4-clause-last c = λ whole.
    let front = c.split_at.result.0.now in
    let last = c.split_at.result.1.now in
    let parts : front ++ last ≡ c.args.bytes.now = rw (c.split_at.ensures.front, c.split_at.ensures.back) (take-append-drop _ c.args.bytes.now) in
    let four : length last ≡ 4 = omega (arith, c.in-len4.len_at_least, c.in-len4.len_below) in
    let same : c.from_be_bytes.result ≡ number_of last = search rules in
    numbers_last c.args.bytes.now front last parts four whole ∙ ap (λ (n : ℕ). numbers_4 front ++ n ∷ []) (sym same)
