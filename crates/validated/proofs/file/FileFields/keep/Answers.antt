use Rattle.std.proofs.Common.{codes, refl, sym, ◌∙◌}
use Rattle.json_fields.specs.Tokens.{IsListOf, items_view}
use Rattle.json_fields.proofs.ListsLemmas.{list_replaced, list_kept}
use Rattle.json_fields.proofs.ObjectLemmas.{not_that}
use Rattle.validated.specs.Form.{IsAspa, IsRoa, aspa_view, roa_view}
use Rattle.json_fields.proofs.ValuesLemmas.{member_here, member_old}
use Rattle.validated.proofs.file.FileFields.keep.Goals as goal

pub returns-then-eq : goal.returns-then-eq
returns-then-eq c =
    let here = c.in_ok-self.ensures in
    let k = c.args.name.now in
    let same = sym c.eq.ensures ∙ c.if-eq.true in (
      here.0,
      here.1,
      λ ms is. record {
        aspas = list_replaced (items_view aspa_view) IsAspa c.in_ok-self.field-0 (codes "aspas") k here.0 ms same here.2;
        roas = member_old (items_view roa_view) (IsListOf IsRoa) (codes "roas") k here.0 ms c.args.self.roas (not_that k (codes "aspas") (codes "roas") same refl) is.roas;
      },
    )

pub returns-then-eq-2 : goal.returns-then-eq-2
returns-then-eq-2 c =
    let here = c.in_ok-self-2.ensures in
    let k = c.args.name.now in
    let same = sym c.eq-2.ensures ∙ c.if-eq-2.true in (
      here.0,
      here.1,
      λ ms is. record {
        aspas = list_kept (items_view aspa_view) IsAspa c.args.self.aspas (codes "aspas") k here.0 ms (sym c.eq.ensures ∙ c.if-eq.false) is.aspas;
        roas = member_here (items_view roa_view) (IsListOf IsRoa) (codes "roas") k here.0 ms c.in_ok-self-2.field-0 same here.2;
      },
    )

pub returns : goal.returns
returns c =
    let here = c.in_ok-pass.ensures in
    let k = c.args.name.now in (
      here.0,
      here.1,
      λ ms is. record {
        aspas = list_kept (items_view aspa_view) IsAspa c.args.self.aspas (codes "aspas") k here.0 ms (sym c.eq.ensures ∙ c.if-eq.false) is.aspas;
        roas = member_old (items_view roa_view) (IsListOf IsRoa) (codes "roas") k here.0 ms c.args.self.roas (sym c.eq-2.ensures ∙ c.if-eq-2.false) is.roas;
      },
    )
