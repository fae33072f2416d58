-- Which errors say that a name isn't there.
use Rattle.std.specs.Prelude.{Bool, true, false}
use Rattle.std.specs.declared.io.ErrorKind.{ErrorKind}
use Rattle.std.specs.declared.io.ErrorKind.TheVariants.{NotFound, NotADirectory, InvalidFilename, FilesystemLoop}

-- It or a part of it is missing, a part of it is a file, it or a part of it is too long, or its links go in a loop.
abbrev pub is_missing : ErrorKind → Bool
is_missing NotFound = true
is_missing NotADirectory = true
is_missing InvalidFilename = true
is_missing FilesystemLoop = true
is_missing _ = false
