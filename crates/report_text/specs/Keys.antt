-- What a route is known by, as rows and changes begin with it.
use Rattle.std.specs.Prelude.{ℕ, List, [], ◌∷◌, ◌++◌, codes, decimal}
use Rattle.std.specs.declared.option.Option.{Option}
use Rattle.std.specs.declared.option.Option.TheVariants.{Some, None}
use Rattle.path_model.specs.declared.key.Key.{Key}
use Rattle.av_text.specs.PeerText.{peer_text}
use Rattle.av_text.specs.PrefixText.{prefix_text}

-- the path identifier behind its word (RFC 7911, section 3), and nothing where there is none
abbrev pub identifier_text : Option ℕ → List ℕ
identifier_text None = []
identifier_text (Some id) = codes " path " ++ decimal id

-- who announced the route, what it leads to, and the path identifier where it has one, with one space between two
abbrev pub key_text : Key → List ℕ
key_text key = peer_text key.peer ++ 32 ∷ prefix_text key.prefix ++ identifier_text key.path
