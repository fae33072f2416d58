use Rattle.std.proofs.Common.{◌≡◌, ℕ, List, [], ap}
use Rattle.av_base.specs.Memory.{named_in}
use Rattle.av_base.proofs.PlacesLemmas.{written_is_change}
use Rattle.av_base.proofs.mem_shelf.MemShelfShelf.close_file.Goals as goal

pub returns-clause-closed : goal.returns-clause-closed
returns-clause-closed c =
    let same : c.self.inside.opened.items ≡ c.args.self.now.left = ap (λ s. s.left) c.self.view_is in
    let changed = written_is_change (λ (_ : List ℕ). let none : List ℕ = [] in none) c.self.inside.opened.items c.args.self.now.left c.args.file c.index_mut.result.now c.let_go.new.self same c.index_mut.ensures.value c.let_go.ensures in
    let names : named_in c.self.inside.files.items ≡ named_in c.args.self.now.entries = ap (λ s. named_in s.entries) c.self.view_is in
    λ i. record { named = names i; left = changed i }
