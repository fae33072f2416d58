use Rattle.std.proofs.Common.{List, ap, sym, ◌∙◌}
use Rattle.std.proofs.lemmas.List.Sorted.{list_any-IsPermutation}
use Rattle.hop_index.specs.declared.gone.GoneHop.{GoneHop}
use Rattle.hop_index.specs.Gone.{has_gone, is_gone}
use Rattle.hop_index.proofs.gone.GoneHops.into_sorted.Goals as goal

pub returns : goal.returns
returns c = λ x y n.
    sym (list_any-IsPermutation (is_gone x y n) c.self.inside.hops.items c.sort_by_key.new.self.items c.sort_by_key.ensures.permutation)
    ∙ ap (λ (gone : List GoneHop). has_gone gone x y n) c.self.view_is
