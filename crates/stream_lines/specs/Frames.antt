-- What a call on a shelf leaves of the other files.
use Rattle.std.specs.Prelude.{◌≡◌, ℕ, List}
use Rattle.std.specs.Option.{option_map}
use Rattle.std.specs.declared.option.Option.{Option}
use Rattle.av_base.specs.Files.{Files, left_of}

-- what each name holds, where the shelf tells it
abbrev pub names_of : Option Files → Option (List ℕ → Option (List ℕ))
names_of files = option_map (λ told. told.named) files

-- no name changed, and what is left of these files neither
pub record Leaves (P : ℕ → Type 0) (old new : Option Files) : Type 0 where
  pub names : names_of new ≡ names_of old
  pub files : (file : ℕ) → P file → left_of new file ≡ left_of old file
