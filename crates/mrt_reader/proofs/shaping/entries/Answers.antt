use Rattle.std.proofs.Common.{sym, ◌∙◌, rules, arith}
use Rattle.bgp_attrs.proofs.JoinedLemmas.{shortens, whole-joined}
use Rattle.mrt_reader.specs.Readers.{entry_at}
use Rattle.mrt_reader.proofs.EntryLemmas.{entry_reader}
use Rattle.mrt_reader.proofs.ShapeLemmas.{number-step, number-end, number-none}
use Rattle.mrt_reader.proofs.shaping.entries.Goals as goal

pub returns-in_err-more-clause-none : goal.returns-in_err-more-clause-none
returns-in_err-more-clause-none c = rw c.from_residual.ensures (number-none (entry_reader c.args.add_path) c.loop-rest.number c.args.bytes.now c.loop-rest.rest.now (search rules) (sym c.in_err-more.ensures) c.loop-rest.invariant.same)

pub loop-rest-smaller : goal.loop-rest-smaller
loop-rest-smaller c = shortens (entry_reader c.args.add_path) c.loop-rest.rest.now _ c.in_ok-more.more.now (sym c.in_ok-more.ensures)

pub loop-rest-preserved : goal.loop-rest-preserved
loop-rest-preserved c =
    let less = shortens (entry_reader c.args.add_path) c.loop-rest.rest.now _ c.in_ok-more.more.now (sym c.in_ok-more.ensures) in
    record {
      same = number-step (entry_at c.args.add_path) (shortens (entry_reader c.args.add_path)) c.loop-rest.number c.loop-rest.rest.now _ c.in_ok-more.more.now (sym c.in_ok-more.ensures) ∙ c.loop-rest.invariant.same;
      small = omega arith;
    }

pub invariant_of-result : goal.invariant_of-result
invariant_of-result c = record { whole = (number-end (entry_at c.args.add_path) c.loop-rest.number c.args.bytes.now c.loop-rest.rest.now (search rules) c.loop-rest.invariant.same).0 }

pub returns-clause-some : goal.returns-clause-some
returns-clause-some c = whole-joined (entry_reader c.args.add_path) c.args.bytes.now (number-end (entry_at c.args.add_path) c.loop-rest.number c.args.bytes.now c.loop-rest.rest.now (search rules) c.loop-rest.invariant.same).0

pub returns-clause-number : goal.returns-clause-number
returns-clause-number c = sym (number-end (entry_at c.args.add_path) c.loop-rest.number c.args.bytes.now c.loop-rest.rest.now (search rules) c.loop-rest.invariant.same).1
