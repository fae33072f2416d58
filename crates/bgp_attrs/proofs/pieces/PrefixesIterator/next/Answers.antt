use Rattle.std.proofs.Common.{length, sym, ap, rules}
use Rattle.bgp_attrs.proofs.JoinedLemmas.{shortens, whole-rest, left-none, left-some}
use Rattle.bgp_attrs.specs.Prefixes.{nlri_at}
use Rattle.bgp_attrs.proofs.NlriLemmas.{nlri_reader}
use Rattle.bgp_attrs.proofs.pieces.PrefixesIterator.next.Goals as goal

pub returns-in-None-clause-steps : goal.returns-in-None-clause-steps
returns-in-None-clause-steps c =
    let empty = left-none (nlri_at c.args.self.now.add_path c.args.self.now.six) c.args.self.now.rest.now c.args.self.now.whole (sym c.in-None.ensures) in
    (empty, empty)

pub invariant_of-self : goal.invariant_of-self
invariant_of-self c = record { whole = whole-rest (nlri_at c.args.self.now.add_path c.args.self.now.six) (shortens (nlri_reader c.args.self.now.add_path c.args.self.now.six)) c.args.self.now.rest.now _ _ c.args.self.now.whole (sym c.in-Some.ensures) }

pub returns-in-Some-clause-steps : goal.returns-in-Some-clause-steps
returns-in-Some-clause-steps c = left-some (nlri_at c.args.self.now.add_path c.args.self.now.six) (shortens (nlri_reader c.args.self.now.add_path c.args.self.now.six)) c.args.self.now.rest.now _ _ c.args.self.now.whole (sym c.in-Some.ensures)

pub returns-in-Some-clause-goes : goal.returns-in-Some-clause-goes
returns-in-Some-clause-goes c =
    let w = left-some (nlri_at c.args.self.now.add_path c.args.self.now.six) (shortens (nlri_reader c.args.self.now.add_path c.args.self.now.six)) c.args.self.now.rest.now _ _ c.args.self.now.whole (sym c.in-Some.ensures) in
    let shorter = ap length w in
    search rules
