use Rattle.std.proofs.Common.{refl}
use Rattle.aspa_top.proofs.tables.hold.Goals as goal

pub returns-in_ok-named-in-Source-clause-held : goal.returns-in_ok-named-in-Source-clause-held
returns-in_ok-named-in-Source-clause-held g c =
    rw c.in-Source.is (record { mid = c.in_ok-changed.changed; happened = c.in_ok-changed.ensures.happened; after = c.in_ok-amended.amended; amends = c.in_ok-amended.ensures; names = c.in_ok-named-in-Source.ensures })

pub returns-in-Slurm-clause-held : goal.returns-in-Slurm-clause-held
returns-in-Slurm-clause-held g c =
    rw c.in-Slurm.is (record { mid = c.in_ok-changed.changed; happened = c.in_ok-changed.ensures.happened; after = c.in_ok-amended.amended; amends = c.in_ok-amended.ensures; names = refl })
