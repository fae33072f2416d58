use Rattle.std.proofs.Common.{rules, sym, ap, ◌∙◌}
use Rattle.bgp_attrs.specs.Prefixes.{prefix_at}
use Rattle.mrt_reader.specs.Left.{entries_left}
use Rattle.mrt_reader.proofs.ShapeLemmas.{rib_no_prefix, rib_no_entries, rib_made}
use Rattle.mrt_reader.proofs.shaping.rib_parts.Goals as goal

pub returns-in-Some-counted_entries-clause-some : goal.returns-in-Some-counted_entries-clause-some
returns-in-Some-counted_entries-clause-some c =
    rib_made c.args.add_path c.args.six c.args.body.now c.in-Some.taken.0 c.in-Some.taken.1.now (entries_left c.in-Some-counted_entries.entries) (search rules)
    (ap (prefix_at c.args.six) (sym c.split_at.ensures.back) ∙ sym c.in-Some.ensures) c.in-Some-counted_entries.ensures.some

pub returns-in-None-counted_entries-clause-none : goal.returns-in-None-counted_entries-clause-none
returns-in-None-counted_entries-clause-none c =
    rib_no_entries c.args.add_path c.args.six c.args.body.now c.in-Some.taken.0 c.in-Some.taken.1.now (ap (prefix_at c.args.six) (sym c.split_at.ensures.back) ∙ sym c.in-Some.ensures) c.in-None-counted_entries.ensures.none

pub returns-in-None-clause-none : goal.returns-in-None-clause-none
returns-in-None-clause-none c = rib_no_prefix c.args.add_path c.args.six c.args.body.now (ap (prefix_at c.args.six) (sym c.split_at.ensures.back) ∙ sym c.in-None.ensures)
