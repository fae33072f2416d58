use Rattle.std.proofs.Common.{length, sym, ap, rules}
use Rattle.bgp_attrs.proofs.JoinedLemmas.{shortens, whole-rest, left-none, left-some}
use Rattle.mrt_reader.specs.Readers.{entry_at}
use Rattle.mrt_reader.proofs.EntryLemmas.{entry_reader}
use Rattle.mrt_reader.proofs.entries.EntriesIterator.next.Goals as goal

pub returns-in_err-entry-clause-steps : goal.returns-in_err-entry-clause-steps
returns-in_err-entry-clause-steps c =
    let empty = left-none (entry_at c.args.self.now.add_path) c.args.self.now.rest.now c.args.self.now.whole (sym c.in_err-entry.ensures) in
    rw c.from_residual.ensures (empty, empty)

pub invariant_of-self : goal.invariant_of-self
invariant_of-self c = record { whole = whole-rest (entry_at c.args.self.now.add_path) (shortens (entry_reader c.args.self.now.add_path)) c.args.self.now.rest.now _ c.in_ok-entry.rest.now c.args.self.now.whole (sym c.in_ok-entry.ensures) }

pub returns-clause-steps : goal.returns-clause-steps
returns-clause-steps c = left-some (entry_at c.args.self.now.add_path) (shortens (entry_reader c.args.self.now.add_path)) c.args.self.now.rest.now _ c.in_ok-entry.rest.now c.args.self.now.whole (sym c.in_ok-entry.ensures)

pub returns-clause-goes : goal.returns-clause-goes
returns-clause-goes c =
    let shorter = ap length (left-some (entry_at c.args.self.now.add_path) (shortens (entry_reader c.args.self.now.add_path)) c.args.self.now.rest.now _ c.in_ok-entry.rest.now c.args.self.now.whole (sym c.in_ok-entry.ensures)) in
    search rules
