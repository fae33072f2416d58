use Rattle.std.proofs.Common.{arith, ap, sym, subst, ◌∙◌, ◌≤◌, length}
use Rattle.std.specs.List.{insert, remove}
use Rattle.sorted_map.specs.Joined.{AreFirsts}
use Rattle.sorted_map.proofs.FirstLemmas.{as_many, come}
use Rattle.sorted_map.proofs.ZipLemmas.{remove_inserted}
use Rattle.sorted_map.proofs.chunks.Chunks.insert_chunk.Goals as goal

pub insert-requires : goal.insert-requires
insert-requires g c = omega (arith, c.requires.within, c.self.inside.firsts.ok, as_many c.self.inside.firsts.items c.self.inside.list.items c.self.invariant, ap length c.self.view_is)

pub invariant_of-self-in-Ok : goal.invariant_of-self-in-Ok
invariant_of-self-in-Ok g c =
    subst (λ ks. AreFirsts ks c.insert-2.new.self.items) (sym c.in_ok-insert.ensures.items)
    (subst (AreFirsts (insert c.self.inside.firsts.items c.args.at c.first.result)) (sym c.in-Ok.ensures.items)
    (come c.self.inside.firsts.items c.self.inside.list.items c.args.at c.first.result c.args.chunk c.self.invariant c.first.ensures))

pub remove-requires : goal.remove-requires
remove-requires g c = omega (arith, c.requires.within, c.in_ok-insert.ensures.len, c.self.inside.firsts.ok, as_many c.self.inside.firsts.items c.self.inside.list.items c.self.invariant, ap length c.self.view_is)

pub invariant_of-self-in-Err : goal.invariant_of-self-in-Err
invariant_of-self-in-Err g c =
    let within : c.args.at ≤ length c.self.inside.firsts.items = omega (arith, c.requires.within, as_many c.self.inside.firsts.items c.self.inside.list.items c.self.invariant, ap length c.self.view_is) in
    let keys = c.remove.ensures.items ∙ ap (λ ks. remove ks c.args.at) c.in_ok-insert.ensures.items ∙ remove_inserted c.args.at c.self.inside.firsts.items c.first.result within in
    subst (λ ks. AreFirsts ks c.insert-2.new.self.items) (sym keys) (subst (AreFirsts c.self.inside.firsts.items) (sym c.in-Err.ensures.items) c.self.invariant)
