use Rattle.std.proofs.Common.{is_some, sym, ap, subst, ◌∙◌}
use Rattle.json_fields.specs.Tokens.{items_view}
use Rattle.json_fields.proofs.ListsLemmas.{list_replaced, list_kept}
use Rattle.json_fields.proofs.ObjectLemmas.{not_that, array_other}
use Rattle.slurm_rules.specs.Kept.{AreDistinct, ArrayNames, names_view}
use Rattle.slurm_rules.proofs.KeptLemmas.{renamed}
use Rattle.slurm_rules.proofs.part.PartFields.keep.Goals as goal

pub returns-then-eq : goal.returns-then-eq
returns-then-eq g c =
    let here = c.in_ok-self.ensures in
    let k = c.args.name.now in
    let n = names_view c.names-names.result in
    let apart = subst (λ (m : ArrayNames). AreDistinct m) (sym c.names-names.ensures) g.met.P.PartKind.distinct in
    let same = sym c.eq.ensures ∙ c.if-eq.true in (
      here.0,
      here.1,
      λ ms given.
          let is = renamed (sym c.names-names.ensures) given in
          renamed c.names-names.ensures (record {
            one_is = c.only_after.ensures here.0 ms is.one_is;
            two_is = c.only_after-2.ensures here.0 ms is.two_is;
            bgpsec_is = is.bgpsec_is ∙ ap is_some (array_other n.bgpsec k here.0 ms (not_that k n.aspas n.bgpsec same apart.aspas_bgpsec));
            prefixes_are = list_kept (items_view g.P.Prefixed.Entry.see) g.P.Prefixed.Entry.stands_for c.args.self.prefixes n.prefixes k here.0 ms (not_that k n.aspas n.prefixes same apart.aspas_prefixes) is.prefixes_are;
            aspas_are = list_replaced (items_view g.P.Aspa.Entry.see) g.P.Aspa.Entry.stands_for c.in_ok-self.field-0 n.aspas k here.0 ms same here.2;
          }),
    )

pub returns-then-eq-2 : goal.returns-then-eq-2
returns-then-eq-2 g c =
    let here = c.in_ok-self-2.ensures in
    let k = c.args.name.now in
    let n = names_view c.names-names.result in
    let apart = subst (λ (m : ArrayNames). AreDistinct m) (sym c.names-names.ensures) g.met.P.PartKind.distinct in
    let same = sym c.eq-2.ensures ∙ c.if-eq-2.true in (
      here.0,
      here.1,
      λ ms given.
          let is = renamed (sym c.names-names.ensures) given in
          renamed c.names-names.ensures (record {
            one_is = c.only_after.ensures here.0 ms is.one_is;
            two_is = c.only_after-2.ensures here.0 ms is.two_is;
            bgpsec_is = is.bgpsec_is ∙ ap is_some (array_other n.bgpsec k here.0 ms (not_that k n.prefixes n.bgpsec same apart.prefixes_bgpsec));
            prefixes_are = list_replaced (items_view g.P.Prefixed.Entry.see) g.P.Prefixed.Entry.stands_for c.in_ok-self-2.field-0 n.prefixes k here.0 ms same here.2;
            aspas_are = list_kept (items_view g.P.Aspa.Entry.see) g.P.Aspa.Entry.stands_for c.args.self.aspas n.aspas k here.0 ms (sym c.eq.ensures ∙ c.if-eq.false) is.aspas_are;
          }),
    )

pub returns : goal.returns
returns g c =
    let here = c.in_ok-kind.ensures in
    let k = c.args.name.now in
    let n = names_view c.names-names.result in (
      here.0,
      here.1,
      λ ms given.
          let is = renamed (sym c.names-names.ensures) given in
          renamed c.names-names.ensures (record {
            one_is = c.only_after.ensures here.0 ms is.one_is;
            two_is = c.only_after-2.ensures here.0 ms is.two_is;
            bgpsec_is = c.array_after.ensures here.0 ms here.2 is.bgpsec_is;
            prefixes_are = list_kept (items_view g.P.Prefixed.Entry.see) g.P.Prefixed.Entry.stands_for c.args.self.prefixes n.prefixes k here.0 ms (sym c.eq-2.ensures ∙ c.if-eq-2.false) is.prefixes_are;
            aspas_are = list_kept (items_view g.P.Aspa.Entry.see) g.P.Aspa.Entry.stands_for c.args.self.aspas n.aspas k here.0 ms (sym c.eq.ensures ∙ c.if-eq.false) is.aspas_are;
          }),
    )
