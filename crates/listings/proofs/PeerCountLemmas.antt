-- How many routes a peer has, counted one after another.
use Rattle.std.proofs.Common.{◌≡◌, ℕ, ◌+◌, ◌<◌, ◌^◌, suc, List, [], ◌∷◌, length, refl, ap, ◌∙◌, arith}
use Rattle.std.proofs.lemmas.List.{length-append}
use Rattle.path_model.specs.declared.nlri.Nlri.{Nlri}
use Rattle.path_model.specs.declared.peer.Peer.{Peer}
use Rattle.path_model.specs.declared.verdict.Verdict.{Verdict}
use Rattle.report_text.specs.declared.peer_summary.PeerSummary.{PeerSummary}
use Rattle.rib_store.specs.declared.counts.Counts.{Counts}
use Rattle.rib_store.specs.Counts.{counted}
use Rattle.rib_store.specs.Rows.{all_rows, rows_under}

-- what is said with these routes more
abbrev pub plus : PeerSummary → Counts → PeerSummary
plus s c = record s { routes = s.routes + c.routes; valid = s.valid + c.valid; unknown = s.unknown + c.unknown; invalid = s.invalid + c.invalid }

-- what was counted is no more than all
pub counted_few : (s all : PeerSummary) (p : Peer) (left : List (Nlri × Verdict)) → plus s (counted (rows_under p left)) ≡ all → all.routes < 2 ^ 63 → s.routes < 2 ^ 63
counted_few s all p left whole few = omega (arith, few, ap (λ (t : PeerSummary). t.routes) whole)

pub as_many : (p : Peer) (es : List (Nlri × Verdict)) → length (rows_under p es) ≡ length es
as_many p [] = refl
as_many p (e ∷ es) = ap suc (as_many p es)

all_of_first : (p : Peer) (rows : List (Nlri × Verdict)) (rest : List (Peer × List (Nlri × Verdict))) → length (all_rows ((p, rows) ∷ rest)) ≡ length rows + length (all_rows rest)
all_of_first p rows rest = length-append (rows_under p rows) (all_rows rest) ∙ ap (λ (n : ℕ). n + length (all_rows rest)) (as_many p rows)

-- a peer has no more than all
pub first_few : (left rest : List (Peer × List (Nlri × Verdict))) (p : Peer) (rows : List (Nlri × Verdict)) → length (all_rows left) < 2 ^ 63 → left ≡ (p, rows) ∷ rest → length rows < 2 ^ 63
first_few left rest p rows few is = omega (arith, few, ap (λ (ps : List (Peer × List (Nlri × Verdict))). length (all_rows ps)) is, all_of_first p rows rest)
