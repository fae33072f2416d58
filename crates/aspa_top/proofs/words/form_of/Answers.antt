use Rattle.std.proofs.Common.{ap, ◌∙◌, sym, subst, map, List, ℕ, [], ◌∷◌}
use Rattle.std.specs.String.{string_bytes}
use Rattle.aspa_top.specs.Program.{AreOwn}
use Rattle.aspa_top.proofs.WordsLemmas.{one_item, two_items, run_word, two_other}
use Rattle.aspa_top.proofs.words.form_of.Goals as goal

pub returns-then-eq : goal.returns-then-eq
returns-then-eq c =
    (run_word c.eq.result c.as_str.result.now _
    (ap (map string_bytes) (sym c.as_slice.ensures.value) ∙ one_item string_bytes c.as_slice.result.now c.word-item.result c.in-len1.len_at_least c.in-len1.len_below c.word-item.is ∙ ap (λ t. t ∷ []) (sym c.as_str.ensures.value))
    c.eq.ensures).0 c.if-eq.true

pub returns-in-None : goal.returns-in-None
returns-in-None c =
    let words = ap (map string_bytes) (sym c.as_slice.ensures.value)
    ∙ two_items string_bytes c.as_slice.result.now c.word-item-then-this-lt3.result c.number-item.result c.in-len2.len_at_least c.in-len2.len_below c.word-item-then-this-lt3.is c.number-item.is in
    subst (λ (ws : List (List ℕ)). AreOwn ws → ⊥) (sym words) (two_other _ _ c.in-None.ensures.none)
