-- The line that reports what Only-to-Customer shows of a route (RFC 9234, section 5).
use Rattle.std.specs.Prelude.{ℕ, List, [], ◌∷◌, ◌++◌, codes, decimal}
use Rattle.path_model.specs.declared.key.Key.{Key}
use Rattle.path_model.specs.declared.leak.Leak.{Leak}
use Rattle.path_model.specs.declared.leak.Leak.TheVariants.{Clean, Customer, RsClient, Peer, Malformed}
use Rattle.report_text.specs.Keys.{key_text}

-- the rule that the route breaks and the attribute's AS, or that the attribute is malformed; a clean one has no line
abbrev pub shown_text : Leak → List ℕ
shown_text Clean = []
shown_text (Customer asn) = codes "customer " ++ decimal asn
shown_text (RsClient asn) = codes "rs-client " ++ decimal asn
shown_text (Peer asn) = codes "peer " ++ decimal asn
shown_text Malformed = codes "malformed"

-- the route's key, and then that, with one space between them, without the line feed
abbrev pub leak_line : Key → Leak → List ℕ
leak_line key leak = key_text key ++ 32 ∷ shown_text leak

-- and with it
abbrev pub leak_text : Key → Leak → List ℕ
leak_text key leak = leak_line key leak ++ 10 ∷ []
