use Rattle.std.proofs.Common.{ap, sym, ◌∙◌}
use Rattle.std.specs.Option.{option_copied}
use Rattle.otc_check.specs.Marks.{Marked, mark_of}
use Rattle.otc_check.proofs.MapLemmas.{mark_found}
use Rattle.otc_check.proofs.marks.Marks.of.Goals as goal

pub returns-in-None : goal.returns-in-None
returns-in-None c = sym (ap (λ (m : Marked). mark_of m c.args.key.now) (sym c.self.view_is)
    ∙ mark_found c.self.inside.held c.args.key.now _ (sym (ap option_copied c.in-None.is) ∙ c.get.ensures))

pub returns-in-Some : goal.returns-in-Some
returns-in-Some c = sym (ap (λ (m : Marked). mark_of m c.args.key.now) (sym c.self.view_is)
    ∙ mark_found c.self.inside.held c.args.key.now _ (sym (ap option_copied c.in-Some.is) ∙ c.get.ensures))
