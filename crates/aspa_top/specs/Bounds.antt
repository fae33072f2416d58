-- How much one line may take; private contracts alone cite it.
use Rattle.std.specs.Prelude.{ℕ, ◌≤◌, length}
use Rattle.rtr_client.specs.Lines.{units_of}
use Rattle.script_lines.specs.declared.commands.Command.{Command}
use Rattle.aspa_top.specs.declared.task.Task.{Task}
use Rattle.aspa_top.specs.declared.task.Task.TheVariants.{Judge, Explain, Take, OnFeed, Serve}
use Rattle.aspa_top.specs.Task.{task_of}

-- the most units that a line takes
abbrev pub most : ℕ
most = 500000000

-- The path of a judgement isn't longer than a path can be, and a line takes no more units than it may.
abbrev pub IsWithinTask : Task → Type 0
IsWithinTask (Judge role neighbour path) = length path ≤ 65535
IsWithinTask (Explain role neighbour path) = length path ≤ 65535
IsWithinTask (Take name count) = count ≤ most
IsWithinTask (OnFeed name work) = units_of work ≤ most
IsWithinTask (Serve place session count) = count ≤ most
IsWithinTask task = Unit {0}

abbrev pub IsWithinBounds : Command → Type 0
IsWithinBounds command = IsWithinTask (task_of command)
