use Rattle.std.proofs.Common.{ap, sym, ◌∙◌}
use Rattle.std.specs.Option.{option_copied}
use Rattle.attestations.specs.Attested.{attested_list}
use Rattle.vap_table.proofs.TallyingLemmas.{tally_of_patch, tally_unpatched}
use Rattle.vap_table.proofs.parts.HeldParts.repatched.Goals as goal

pub returns-in-None : goal.returns-in-None
returns-in-None c = tally_unpatched c.args.self.now c.args.name.now c.args.patch.now c.args.customer c.args.tally (sym c.of.ensures.said ∙ ap option_copied c.in-None.is) c.requires

pub returns-in_ok-next-in-Some : goal.returns-in_ok-next-in-Some
returns-in_ok-next-in-Some c = tally_of_patch c.args.self.now c.args.name.now c.args.patch.now c.args.customer c.in-Some.given.now (attested_list c.lasting.result) c.in_ok-next-in-Some.next
    (sym c.of.ensures.said ∙ ap option_copied c.in-Some.is) c.lasting.ensures.list c.in_ok-next-in-Some.ensures
