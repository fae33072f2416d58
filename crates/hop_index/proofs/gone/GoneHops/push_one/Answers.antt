use Rattle.std.proofs.Common.{List, sym, subst}
use Rattle.hop_index.specs.declared.gone.GoneHop.{GoneHop}
use Rattle.hop_index.specs.Kept.{GathersHop}
use Rattle.hop_index.proofs.GoneLemmas.{one_gathered}
use Rattle.hop_index.proofs.gone.GoneHops.push_one.Goals as goal

pub returns : goal.returns
returns c = subst (λ (gone : List GoneHop). GathersHop gone c.args.x c.args.y c.args.case c.push.new.self.items) c.self.view_is
    (subst (GathersHop c.self.inside.hops.items c.args.x c.args.y c.args.case) (sym c.in_ok-push.ensures.items)
    (one_gathered c.args.x c.args.y c.args.case c.self.inside.hops.items c.of.result c.of.ensures))
