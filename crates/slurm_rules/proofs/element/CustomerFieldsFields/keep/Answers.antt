use Rattle.std.proofs.Common.{codes, refl, sym, ◌∙◌}
use Rattle.json_fields.specs.Tokens.{items_view}
use Rattle.serde_json.specs.View.{number_view}
use Rattle.json_fields.specs.Object.{IsNumber}
use Rattle.json_fields.proofs.ListsLemmas.{list_replaced, list_kept}
use Rattle.json_fields.proofs.ObjectLemmas.{not_that, number_other, text_other}
use Rattle.slurm_rules.proofs.element.CustomerFieldsFields.keep.Goals as goal

pub returns-then-eq : goal.returns-then-eq
returns-then-eq c =
    let here = c.in_ok-self.ensures in
    let k = c.args.name.now in
    let this = codes "providerAsns" in
    let same = sym c.eq.ensures ∙ c.if-eq.true in (
      here.0,
      here.1,
      λ ms is. record {
        filter = c.only_after.ensures here.0 ms is.filter;
        assertion = c.only_after-2.ensures here.0 ms is.assertion;
        comment = is.comment ∙ text_other (codes "comment") k here.0 ms (not_that k this (codes "comment") same refl);
        customer = is.customer ∙ number_other (codes "customerAsn") k here.0 ms (not_that k this (codes "customerAsn") same refl);
        providers = list_replaced (items_view number_view) IsNumber c.in_ok-self.field-0 this k here.0 ms same here.2;
      },
    )

pub returns : goal.returns
returns c =
    let here = c.in_ok-kind.ensures in (
      here.0,
      here.1,
      λ ms is. record {
        filter = c.only_after.ensures here.0 ms is.filter;
        assertion = c.only_after-2.ensures here.0 ms is.assertion;
        comment = c.text_after.ensures here.0 ms here.2 is.comment;
        customer = c.number_after-self.ensures here.0 ms here.2 is.customer;
        providers = list_kept (items_view number_view) IsNumber c.args.self.providers (codes "providerAsns") c.args.name.now here.0 ms (sym c.eq.ensures ∙ c.if-eq.false) is.providers;
      },
    )
