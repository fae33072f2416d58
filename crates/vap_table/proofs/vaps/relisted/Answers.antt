use Rattle.std.proofs.Common.{sym, subst}
use Rattle.attestations.specs.CurrentTable.{Parts}
use Rattle.vap_table.specs.Lasts.{AreLasts, AreLastsBut}
use Rattle.vap_table.proofs.LastsLemmas.{others_listed}
use Rattle.vap_table.proofs.vaps.relisted.Goals as goal

pub with-requires : goal.with-requires
with-requires c =
    subst (λ (parts : Parts). AreLastsBut c.without-lasts.result parts.sources c.args.ended.now) (sym c.parts-2.view_is)
    (others_listed c.without-lasts.result c.args.parts.sources c.change.new.self.sources c.args.ended.now (λ x out m. c.requires.ended c.change.new.self c.in_ok-change.ensures x out m)
    (subst (λ (parts : Parts). AreLastsBut c.without-lasts.result parts.sources c.args.ended.now) c.parts.view_is c.without-lasts.ensures))

pub returns-clause-listed : goal.returns-clause-listed
returns-clause-listed c = subst (λ (parts : Parts). AreLasts c.in_ok-lasts.lasts parts.sources) c.parts-2.view_is c.in_ok-lasts.ensures
