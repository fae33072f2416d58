-- What the words of an `explain` line spell.
use Rattle.std.proofs.Common.{List, ℕ, Option, subst}
use Rattle.std.proofs.lemmas.Iterator.Adapters.{option_map_id}
use Rattle.std.specs.Option.{option_map}
use Rattle.path_model.specs.declared.addr.Addr.{Addr}
use Rattle.path_model.specs.declared.role.Role.{Role}
use Rattle.path_model.specs.Prefix.{Subnet}
use Rattle.script_lines.specs.declared.commands.Command.TheVariants.{Explain, ExplainRoute}
use Rattle.script_lines.specs.declared.commands.CommandName.TheVariants.{Explain as ExplainName}
use Rattle.script_lines.specs.declared.fields.OneOf.{OneOf}
use Rattle.script_lines.specs.declared.fields.OneOf.TheVariants.{One, Other}
use Rattle.script_lines.specs.Commands.{SpellsCommand}
use Rattle.script_lines.specs.Fields.{either, explains}

-- the path identifier of a route is the one that its word spells, or none
pub explained_spelled : (words : List (List ℕ)) (read : OneOf (Role × (ℕ × List ℕ)) (Addr × (ℕ × (Subnet × Option ℕ))))
    → SpellsCommand ExplainName words (either
    (λ typed. Explain typed.0 typed.1.0 typed.1.1)
    (λ held. ExplainRoute held.0 held.1.0 held.1.1.0 (option_map (λ n. n) held.1.1.1)) read)
    → SpellsCommand ExplainName words (explains read)
explained_spelled words (One typed) is = is
explained_spelled words (Other held) is =
    let P : Option ℕ → Type 0 = λ path. SpellsCommand ExplainName words (ExplainRoute held.0 held.1.0 held.1.1.0 path) in
    subst P (option_map_id held.1.1.1) is
