use Rattle.std.proofs.Common.{ℕ, sym, subst}
use Rattle.attestations.specs.CurrentTable.{Parts}
use Rattle.vap_table.specs.declared.change.TableChange.{TableChange}
use Rattle.vap_table.specs.declared.change.TableChange.TheVariants.{Assert, Unassert}
use Rattle.vap_table.specs.Change.{Alters}
use Rattle.vap_table.specs.Tally.{IsTallyOf}
use Rattle.vap_table.proofs.TallyingLemmas.{apart_from, tally_asserted_apart, tally_of_assert, tally_of_unassert, tally_unasserted_apart}
use Rattle.vap_table.proofs.parts.HeldParts.retallied.Goals as goal

pub returns-in_ok-next-in-Patch : goal.returns-in_ok-next-in-Patch
returns-in_ok-next-in-Patch c = subst (λ (change : TableChange). (new : Parts) → Alters c.args.self.now change new → IsTallyOf new c.args.customer c.in_ok-next-in-Patch.next) (sym c.in-Patch.is) c.in_ok-next-in-Patch.ensures

pub returns-then-of-customer : goal.returns-then-of-customer
returns-then-of-customer c = subst (λ (change : TableChange). (new : Parts) → Alters c.args.self.now change new → IsTallyOf new c.args.customer c.args.tally) (sym c.in-Assert.is)
    (tally_asserted_apart c.args.self.now c.in-Assert.of c.in-Assert.providers c.args.customer c.args.tally (apart_from c.in-Assert.of c.args.customer c.if-of-customer.true) c.requires)

pub returns-in_ok-next-in-Assert : goal.returns-in_ok-next-in-Assert
returns-in_ok-next-in-Assert c = subst (λ (change : TableChange). (new : Parts) → Alters c.args.self.now change new → IsTallyOf new c.args.customer c.in_ok-next-in-Assert.next) (sym c.in-Assert.is)
    (subst (λ (of : ℕ). (new : Parts) → Alters c.args.self.now (Assert of c.in-Assert.providers) new → IsTallyOf new c.args.customer c.in_ok-next-in-Assert.next) (sym c.if-of-customer.false)
    (tally_of_assert c.args.self.now c.args.customer c.in-Assert.providers c.in_ok-next-in-Assert.next c.in_ok-next-in-Assert.ensures))

pub returns-then-of-customer-2 : goal.returns-then-of-customer-2
returns-then-of-customer-2 c = subst (λ (change : TableChange). (new : Parts) → Alters c.args.self.now change new → IsTallyOf new c.args.customer c.args.tally) (sym c.in-Unassert.is)
    (tally_unasserted_apart c.args.self.now c.in-Unassert.of c.args.customer c.args.tally (apart_from c.in-Unassert.of c.args.customer c.if-of-customer-2.true) c.requires)

pub returns-in_ok-next-in-Unassert : goal.returns-in_ok-next-in-Unassert
returns-in_ok-next-in-Unassert c = subst (λ (change : TableChange). (new : Parts) → Alters c.args.self.now change new → IsTallyOf new c.args.customer c.in_ok-next-in-Unassert.next) (sym c.in-Unassert.is)
    (subst (λ (of : ℕ). (new : Parts) → Alters c.args.self.now (Unassert of) new → IsTallyOf new c.args.customer c.in_ok-next-in-Unassert.next) (sym c.if-of-customer-2.false)
    (tally_of_unassert c.args.self.now c.args.customer c.in_ok-next-in-Unassert.next c.in_ok-next-in-Unassert.ensures))
