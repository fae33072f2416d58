-- Rows that are written line by line.
use Rattle.std.proofs.Common.{◌≡◌, ℕ, List, [], ◌∷◌, ◌++◌, flat_map, refl, sym, subst, ◌∙◌, ap, append_assoc}
use Rattle.std.specs.List.{concat}
use Rattle.std.specs.declared.option.Option.{Option}
use Rattle.std.specs.declared.result.Result.{Result}
use Rattle.std.specs.Io.KnownBytes.{append_known}
use Rattle.av_base.specs.Told.{AppendsBefore, AppendsFront}
use Rattle.av_base.proofs.ToldLemmas.{AppendsBefore-more, AppendsFront-trans}
use Rattle.path_model.specs.declared.key.Key.{Key}
use Rattle.path_model.specs.declared.nlri.Nlri.{Nlri}
use Rattle.path_model.specs.declared.peer.Peer.{Peer}
use Rattle.path_model.specs.declared.verdict.Verdict.{Verdict}
use Rattle.rib_store.specs.Rows.{all_rows, rows_under}
use Rattle.rib_store.specs.State.{State, AreRows}
use Rattle.av_base.specs.declared.stop.Stop.{Stop}
use Rattle.listings.specs.EachRow.{pieces_under}
use Rattle.listings.specs.Rows.{row_of}
use Rattle.listings.specs.Listing.{Listed, Lists, Pouring}
use Rattle.listings.proofs.ListingLemmas.{pieces_are}

-- the lines of some rows, and of more
rows_more : (rows more : List (Key × Verdict)) → flat_map row_of (rows ++ more) ≡ flat_map row_of rows ++ flat_map row_of more
rows_more [] more = refl
rows_more (row ∷ rows) more = ap (λ (t : List ℕ). row_of row ++ t) (rows_more rows more) ∙ sym (append_assoc (row_of row) (flat_map row_of rows) (flat_map row_of more))

-- the lines of a peer come first
first_peer : (left peers : List (Peer × List (Nlri × Verdict))) (peer : Peer) (rows : List (Nlri × Verdict)) → left ≡ (peer, rows) ∷ peers
    → flat_map row_of (all_rows left) ≡ concat (pieces_under peer rows) ++ flat_map row_of (all_rows peers)
first_peer left peers peer rows is =
    ap (λ (ps : List (Peer × List (Nlri × Verdict))). flat_map row_of (all_rows ps)) is ∙ rows_more (rows_under peer rows) (all_rows peers)
    ∙ ap (λ (t : List ℕ). t ++ flat_map row_of (all_rows peers)) (sym (pieces_are row_of (rows_under peer rows)))

-- a peer's lines were added
pub peer_added : {old mid : Option (List ℕ)} {text : List ℕ} (new : Option (List ℕ)) (left peers : List (Peer × List (Nlri × Verdict))) (peer : Peer) (rows : List (Nlri × Verdict))
    → AppendsBefore old mid text (flat_map row_of (all_rows left)) → left ≡ (peer, rows) ∷ peers → new ≡ append_known mid (concat (pieces_under peer rows))
    → AppendsBefore old new text (flat_map row_of (all_rows peers))
peer_added new left peers peer rows so_far is added =
    AppendsBefore-more so_far new (concat (pieces_under peer rows)) (flat_map row_of (all_rows peers)) (first_peer left peers peer rows is) added

-- or a front of them
pub peer_front : {old mid new : Option (List ℕ)} {text : List ℕ} (left peers : List (Peer × List (Nlri × Verdict))) (peer : Peer) (rows : List (Nlri × Verdict))
    → AppendsBefore old mid text (flat_map row_of (all_rows left)) → left ≡ (peer, rows) ∷ peers → AppendsFront mid new (concat (pieces_under peer rows))
    → AppendsFront old new text
peer_front {old} {mid} {new} {text} left peers peer rows so_far is front =
    AppendsFront-trans (flat_map row_of (all_rows peers)) (subst (λ (t : List ℕ). AppendsBefore old mid text t) (first_peer left peers peer rows is) so_far) front

pub rows_listed : {T : Type 0} (state : State) (peers : List (Peer × List (Nlri × Verdict))) (old new : Pouring) (result : Result T Stop) → AreRows state (all_rows peers)
    → Listed (flat_map row_of (all_rows peers)) old new result → Lists (AreRows state) row_of old new result
rows_listed {T} state peers old new result are listed = record { rows = all_rows peers; are = are; listed = listed }
