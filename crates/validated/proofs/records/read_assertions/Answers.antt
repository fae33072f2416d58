use Rattle.std.proofs.Common.{◌∷◌, ◌++◌, [], length, refl, sym, ◌∙◌, arith}
use Rattle.std.proofs.lemmas.Iterator.Adapters.{YieldsList-from_vec}
use Rattle.std.proofs.lemmas.Iterator.Consumers.{YieldsList-turn, YieldsList-end}
use Rattle.std.proofs.lemmas.List.{length_push}
use Rattle.json_fields.proofs.EachLemmas.{each_refused}
use Rattle.validated.specs.Content.{Asserts}
use Rattle.validated.specs.Form.{roa_view}
use Rattle.validated.proofs.AssertingLemmas.{asserting_next, asserting_end}
use Rattle.validated.proofs.records.read_assertions.Goals as goal

pub returns-in_default : goal.returns-in_default
returns-in_default c =
    let gives = c.into_iter-roa-iterator.ensures.into_iter_gives in
    let t = YieldsList-turn (YieldsList-from_vec {s = c.into_iter-roa-iterator.result} c.args.roas.items gives.0 (gives.1 ∙ c.args.roas.ok.0))
    c.loop-roa.yielded c.loop-roa.roa-iterator c.loop-roa.yielded_by c.next.result c.next.new.self c.in-Some.roa c.in-Some.is c.next.ensures.steps in
    (refl, each_refused Asserts roa_view c.args.roas.items (length c.loop-roa.yielded) c.in-Some.roa t.0 t.1 c.in_default.ensures.none)

pub loop-roa-preserved : goal.loop-roa-preserved
loop-roa-preserved c =
    let gives = c.into_iter-roa-iterator.ensures.into_iter_gives in
    let t = YieldsList-turn (YieldsList-from_vec {s = c.into_iter-roa-iterator.result} c.args.roas.items gives.0 (gives.1 ∙ c.args.roas.ok.0))
    c.loop-roa.yielded c.loop-roa.roa-iterator c.loop-roa.yielded_by c.next.result c.next.new.self c.in-Some.roa c.in-Some.is c.next.ensures.steps in
    asserting_next c.args.roas.items (length c.loop-roa.yielded) (length (c.loop-roa.yielded ++ c.in-Some.roa ∷ [])) c.in-Some.roa c.loop-roa.assertions.items c.push.new.self.items
    c.in-Some-read_assertion.assertion t.0 t.1 c.loop-roa.invariant c.in-Some-read_assertion.ensures.some c.in_ok-push.ensures.items (sym (length_push c.loop-roa.yielded c.in-Some.roa))

pub returns : goal.returns
returns c =
    let gives = c.into_iter-roa-iterator.ensures.into_iter_gives in
    let e = YieldsList-end (YieldsList-from_vec {s = c.into_iter-roa-iterator.result} c.args.roas.items gives.0 (gives.1 ∙ c.args.roas.ok.0))
    c.loop-roa.yielded c.loop-roa.roa-iterator c.loop-roa.yielded_by c.next.result c.next.new.self c.in-None.is c.next.ensures.steps in
    asserting_end c.args.roas.items (length c.loop-roa.yielded) c.loop-roa.assertions.items (omega (arith, e.1)) c.loop-roa.invariant
