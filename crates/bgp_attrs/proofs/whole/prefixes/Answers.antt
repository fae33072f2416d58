use Rattle.std.proofs.Common.{sym, ap, ◌∙◌, rules}
use Rattle.std.specs.Prelude.{option_map}
use Rattle.bgp_attrs.proofs.JoinedLemmas.{shortens, is_some-step, whole-end, whole-none, whole-joined}
use Rattle.bgp_attrs.specs.Prefixes.{nlri_at}
use Rattle.bgp_attrs.proofs.NlriLemmas.{nlri_reader}
use Rattle.bgp_attrs.proofs.whole.prefixes.Goals as goal

pub returns-in_default-clause-none : goal.returns-in_default-clause-none
returns-in_default-clause-none c = (whole-none (nlri_reader c.args.add_path c.args.six) c.args.bytes.now c.loop-rest.rest.now (search rules) (sym c.take_nlri.ensures ∙ ap (option_map (λ x. (x.0, x.1.now))) c.in_default.is) c.loop-rest.invariant)

pub loop-rest-smaller : goal.loop-rest-smaller
loop-rest-smaller c = shortens (nlri_reader c.args.add_path c.args.six) c.loop-rest.rest.now c.in-Some.field-0-0 c.in-Some.more.now (sym c.take_nlri.ensures ∙ ap (option_map (λ x. (x.0, x.1.now))) c.in-Some.is)

pub loop-rest-preserved : goal.loop-rest-preserved
loop-rest-preserved c = sym (is_some-step (nlri_at c.args.add_path c.args.six) (shortens (nlri_reader c.args.add_path c.args.six)) c.loop-rest.rest.now c.in-Some.field-0-0 c.in-Some.more.now (sym c.take_nlri.ensures ∙ ap (option_map (λ x. (x.0, x.1.now))) c.in-Some.is)) ∙ c.loop-rest.invariant

pub invariant_of-result : goal.invariant_of-result
invariant_of-result c = record { whole = whole-end (nlri_at c.args.add_path c.args.six) c.args.bytes.now c.loop-rest.rest.now (search rules) c.loop-rest.invariant }

pub returns-clause-some : goal.returns-clause-some
returns-clause-some c = whole-joined (nlri_reader c.args.add_path c.args.six) c.args.bytes.now (whole-end (nlri_at c.args.add_path c.args.six) c.args.bytes.now c.loop-rest.rest.now (search rules) c.loop-rest.invariant)
