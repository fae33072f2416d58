-- A word's bytes are a text.
use Rattle.std.proofs.Common.{ℕ, List, ◌<◌, arith}
use Rattle.std.specs.List.{All}
use Rattle.std.specs.Str.{IsUtf8}
use Rattle.std.proofs.lemmas.Str.{IsUtf8-from_ascii}
use Rattle.std.proofs.lemmas.Str.Ascii.{IsAscii-from_all}
use Rattle.std.proofs.lemmas.List.Elements.{All-weaker}
use Rattle.script_lines.specs.Word.{IsVisible}

pub visible_is_utf8 : (text : List ℕ) → All IsVisible text → IsUtf8 text
visible_is_utf8 text visible = IsUtf8-from_ascii text (IsAscii-from_all text (All-weaker IsVisible (λ byte. byte < 128) (λ byte is. let most = is.1 in omega arith) text visible))
