use Rattle.std.proofs.Common.{ℕ, List, Bor, map, ◌&&◌, sym, ap, ◌∙◌}
use Rattle.json_fields.specs.Object.{is_among}
use Rattle.json_fields.proofs.ObjectLemmas.{only_next}
use Rattle.json_fields.proofs.fields.only_after.Goals as goal

pub returns-then-before : goal.returns-then-before
returns-then-before c = λ d ms before.
    let names = map (λ (name : Bor (List ℕ)). name.now) c.args.names.now in
    c.is_among.ensures ∙ ap (λ b. b && is_among names c.args.name.now) (sym c.if-before.true) ∙ only_next names c.args.name.now d ms c.args.before before

pub returns-else-before : goal.returns-else-before
returns-else-before c = λ d ms before.
    let names = map (λ (name : Bor (List ℕ)). name.now) c.args.names.now in
    ap (λ b. b && is_among names c.args.name.now) (sym c.if-before.false) ∙ only_next names c.args.name.now d ms c.args.before before
