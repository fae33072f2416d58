use Rattle.std.proofs.Common.{codes, refl, sym, ◌∙◌}
use Rattle.json_fields.specs.Tokens.{items_view}
use Rattle.json_fields.proofs.ListsLemmas.{list_replaced, list_kept}
use Rattle.json_fields.proofs.ObjectLemmas.{not_that}
use Rattle.validated.specs.Form.{IsAsNumeral, IsMomentNumeral, numeral_view}
use Rattle.json_fields.proofs.ValuesLemmas.{member_old}
use Rattle.validated.proofs.aspa.AspaFieldsFields.keep.Goals as goal

pub returns-then-eq : goal.returns-then-eq
returns-then-eq c =
    let here = c.in_ok-self.ensures in
    let k = c.args.name.now in
    let this = codes "providers" in
    let same = sym c.eq.ensures ∙ c.if-eq.true in (
      here.0,
      here.1,
      λ ms is. record {
        asid = member_old numeral_view IsAsNumeral (codes "customer_asid") k here.0 ms c.args.self.asid (not_that k this (codes "customer_asid") same refl) is.asid;
        customer = member_old numeral_view IsAsNumeral (codes "customer") k here.0 ms c.args.self.customer (not_that k this (codes "customer") same refl) is.customer;
        providers = list_replaced (items_view numeral_view) IsAsNumeral c.in_ok-self.field-0 this k here.0 ms same here.2;
        expires = member_old numeral_view IsMomentNumeral (codes "expires") k here.0 ms c.args.self.expires (not_that k this (codes "expires") same refl) is.expires;
      },
    )

pub returns : goal.returns
returns c =
    let here = c.in_ok-kind.ensures in (
      here.0,
      here.1,
      λ ms is. record {
        asid = c.value_after-self.ensures here.0 ms here.2 is.asid;
        customer = c.value_after-self-2.ensures here.0 ms here.2 is.customer;
        providers = list_kept (items_view numeral_view) IsAsNumeral c.args.self.providers (codes "providers") c.args.name.now here.0 ms (sym c.eq.ensures ∙ c.if-eq.false) is.providers;
        expires = c.value_after-self-3.ensures here.0 ms here.2 is.expires;
      },
    )
