use Rattle.std.proofs.Common.{sym, subst}
use Rattle.vap_table.specs.declared.change.TableChange.{TableChange}
use Rattle.vap_table.specs.Change.{Alters}
use Rattle.vap_table.proofs.parts.HeldParts.is_idle.Goals as goal

pub returns-in-Assert : goal.returns-in-Assert
returns-in-Assert c = λ yes. subst (λ (change : TableChange). Alters c.args.self.now change c.args.self.now) (sym c.in-Assert.is) (c.has_asserted.ensures yes)
