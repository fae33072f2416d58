-- The front of a line, which lines of one peer share, and the rest of it; only private contracts cite it.
use Rattle.std.specs.Prelude.{◌≡◌, ℕ, ◌≤◌, List, [], ◌∷◌, ◌++◌, take}
use Rattle.std.specs.declared.option.Option.{Option}
use Rattle.std.specs.declared.option.Option.TheVariants.{Some, None}
use Rattle.path_model.specs.declared.key.Key.{Key}
use Rattle.path_model.specs.declared.peer.Peer.{Peer}
use Rattle.path_model.specs.declared.verdict.Verdict.{Verdict}
use Rattle.origin_model.specs.declared.origin_state.OriginState.{OriginState}
use Rattle.path_model.specs.declared.leak.Leak.{Leak}
use Rattle.av_text.specs.PeerText.{peer_text}
use Rattle.av_text.specs.PrefixText.{prefix_text}
use Rattle.av_text.specs.VerdictText.{verdict_text}
use Rattle.report_text.specs.Change.{mark_text}
use Rattle.report_text.specs.Keys.{identifier_text}
use Rattle.report_text.specs.Leaks.{shown_text}
use Rattle.report_text.specs.Origins.{state_text}

-- so many bytes of the line are the peer's text with a space behind it, where the line has a peer
abbrev pub IsFront : Option Peer → ℕ → List ℕ → Type 0
IsFront None front line = front ≤ 51
IsFront (Some peer) front line = (front ≤ 51) × (take front line ≡ peer_text peer ++ 32 ∷ [])

-- what the peer announced, and a space
abbrev pub nlri_text : Key → List ℕ
nlri_text key = prefix_text key.prefix ++ (identifier_text key.path ++ 32 ∷ [])

-- a row behind its front
abbrev pub row_rest : Key → Verdict → List ℕ
row_rest key verdict = nlri_text key ++ (verdict_text verdict ++ 10 ∷ [])

-- the same without its line feed
abbrev pub unended_rest : Key → Verdict → List ℕ
unended_rest key verdict = nlri_text key ++ verdict_text verdict

-- the state of an origin behind its front
abbrev pub origin_rest : Key → OriginState → List ℕ
origin_rest key state = nlri_text key ++ (state_text state ++ 10 ∷ [])

-- what a leak shows behind its front
abbrev pub leak_rest : Key → Leak → List ℕ
leak_rest key leak = nlri_text key ++ (shown_text leak ++ 10 ∷ [])

-- a change behind its front
abbrev pub change_rest : Key → Option Verdict → Option Verdict → List ℕ
change_rest key before after = nlri_text key ++ (mark_text before ++ 32 ∷ (mark_text after ++ 10 ∷ []))
