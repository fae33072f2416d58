use Rattle.std.proofs.Common.{refl, sym, rules}
use Rattle.bgp_attrs.proofs.JoinedLemmas.{shortens}
use Rattle.bgp_attrs.proofs.FieldLemmas.{field_reader}
use Rattle.bgp_attrs.proofs.FirstLemmas.{walked_none, walked_more, walked_out, walked_whole, walked_joined, walked_have}
use Rattle.bgp_attrs.proofs.finding.attributes.Goals as goal

pub loop-rest-init : goal.loop-rest-init
loop-rest-init c = walked_none c.args.bytes.now _ (record { path = refl; path4 = refl; aggregator = refl; aggregator4 = refl; otc = refl; short = λ x e. absurd cc })

pub returns-in_err-attribute-clause-none : goal.returns-in_err-attribute-clause-none
returns-in_err-attribute-clause-none c = rw c.from_residual.ensures (walked_out c.args.bytes.now c.loop-rest.rest.now c.loop-rest.firsts (search rules) (sym c.in_err-attribute.ensures) c.loop-rest.invariant)

pub loop-rest-smaller : goal.loop-rest-smaller
loop-rest-smaller c = shortens field_reader c.loop-rest.rest.now _ c.in_ok-attribute.more.now (sym c.in_ok-attribute.ensures)

pub loop-rest-preserved : goal.loop-rest-preserved
loop-rest-preserved c = walked_more c.args.bytes.now c.loop-rest.rest.now c.in_ok-attribute.more.now c.loop-rest.firsts _ _ (sym c.in_ok-attribute.ensures) c.note.ensures c.loop-rest.invariant

pub invariant_of-result : goal.invariant_of-result
invariant_of-result c = record { whole = walked_whole c.args.bytes.now c.loop-rest.rest.now c.loop-rest.firsts (search rules) c.loop-rest.invariant }

pub invariant_of-result-2 : goal.invariant_of-result-2
invariant_of-result-2 c = record { have = walked_have c.args.bytes.now c.loop-rest.rest.now c.loop-rest.firsts (search rules) c.loop-rest.invariant }

pub returns-clause-some : goal.returns-clause-some
returns-clause-some c = walked_joined c.args.bytes.now c.loop-rest.rest.now c.loop-rest.firsts (search rules) c.loop-rest.invariant
