use Rattle.std.proofs.Common.{List, ℕ, length, drop, ap, subst, arith}
use Rattle.std.proofs.lemmas.Bool.Decides.{nat_tests}
use Rattle.std.proofs.lemmas.List.{take_rest}
use Rattle.bgp_attrs.specs.Joined.{IsJoined}
use Rattle.bgp_attrs.proofs.JoinedLemmas.{joined_same}
use Rattle.mrt_reader.specs.Ribs.{Entry, IsEntry, IsCounted}
use Rattle.mrt_reader.specs.Left.{entries_left}
use Rattle.mrt_reader.proofs.EntryLemmas.{entry_reader}
use Rattle.mrt_reader.proofs.ShapeLemmas.{counted_of, counted_long}
use Rattle.mrt_reader.proofs.shaping.counted_entries.Goals as goal

pub returns-then-number-from-clause-none : goal.returns-then-number-from-clause-none
returns-then-number-from-clause-none c = λ (es : List Entry) (is : IsCounted c.args.add_path c.args.bytes.now es).
    let found = entries_left c.in_ok-found-in-len2-up.found in
    let o = counted_of c.args.add_path c.args.bytes.now es (counted_long c.args.add_path c.args.bytes.now es is) is in
    let joined : IsJoined (IsEntry c.args.add_path) (drop 2 c.args.bytes.now) found = subst (λ (xs : List ℕ). IsJoined (IsEntry c.args.add_path) xs found) (take_rest c.args.bytes.now 2) c.in_ok-found-in-len2-up.ensures.some in
    let same = joined_same (entry_reader c.args.add_path) (drop 2 c.args.bytes.now) es found o.0 joined in
    let sizes = ap length same in
    let number = c.in_ok-found-in-len2-up.ensures.number in
    let counts = o.1 in
    grind (arith, nat_tests)
