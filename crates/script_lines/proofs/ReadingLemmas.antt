-- How a line is read behind its command's name.
use Rattle.std.proofs.Common.{◌≢◌, inr, ℕ, List, IfOk, IfErr, refl}
use Rattle.std.specs.List.{All}
use Rattle.std.specs.declared.result.Result.{Result}
use Rattle.std.specs.declared.result.Result.TheVariants.{Ok, Err}
use Rattle.script_lines.specs.declared.commands.Command.{Command}
use Rattle.script_lines.specs.declared.fault.LineFault.{LineFault}
use Rattle.script_lines.specs.declared.fault.LineFault.TheVariants.{Long, Command as NoCommand, Words, Number, NoMemory}
use Rattle.script_lines.specs.Fields.{RefusesWords}
use Rattle.script_lines.specs.Commands.{form_of, SpellsCommand}
use Rattle.script_lines.specs.Grammar.{IsNamed, IsPrintable, IsReading}

-- what reading the words behind the name gives is the line's reading
pub read_named : (line : List ℕ) (named : IsNamed line) → All IsPrintable line → (result : Result Command LineFault) →
    IfOk result (SpellsCommand named.name named.words) →
    IfErr result (RefusesWords (form_of named.name) named.words) → result ≢ Err NoMemory → IsReading line result
read_named line named printable (Ok command) spelled refused some = inr (named, printable, spelled)
read_named line named printable (Err Words) spelled refused some = (named, λ formed. refused formed.1)
read_named line named printable (Err Number) spelled refused some = (named, (printable, refused.0), refused.1)
read_named line named printable (Err NoMemory) spelled refused some = absurd (some refl)
read_named line named printable (Err Long) spelled refused some = absurd refused
read_named line named printable (Err NoCommand) spelled refused some = absurd refused
