use Rattle.slurm_rules.proofs.KeptLemmas.{no_aspas, no_prefixes}
use Rattle.slurm_rules.proofs.part.Part.of_two.Goals as goal

pub returns-in_err-prefixes : goal.returns-in_err-prefixes
returns-in_err-prefixes g c = λ name d is. rw c.from_residual.ensures (λ a h.
    let s = c.args.self in
    no_prefixes g.P.Aspa.Entry.see g.P.Aspa.Entry.stands_for g.P.Prefixed.Entry.see g.P.Prefixed.Entry.stands_for
    s.one s.two s.bgpsec s.prefixes s.aspas g.P.PartKind.names name d h.member is h.is c.in_err-prefixes.was a.prefixes h.holds.2)

pub returns-in_err-aspas : goal.returns-in_err-aspas
returns-in_err-aspas g c = λ name d is. rw c.from_residual-in_err-aspas.ensures (λ a h.
    let s = c.args.self in
    no_aspas g.P.Aspa.Entry.see g.P.Aspa.Entry.stands_for g.P.Prefixed.Entry.see g.P.Prefixed.Entry.stands_for
    s.one s.two s.bgpsec s.prefixes s.aspas g.P.PartKind.names name d h.member is h.is c.in_err-aspas.was a.aspas h.holds.1)
