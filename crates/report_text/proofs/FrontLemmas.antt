-- Lines that are written behind their front.
use Rattle.std.proofs.Common.{◌≡◌, ℕ, ◌≤◌, List, [], ◌∷◌, ◌++◌, IsTrue, length, take, refl, sym, ap, subst, ◌∙◌, append_assoc, arith}
use Rattle.std.specs.declared.option.Option.{Option}
use Rattle.std.specs.declared.option.Option.TheVariants.{Some, None}
use Rattle.std.proofs.lemmas.List.{length-take-le, take-append-le, take-take}
use Rattle.std.specs.Ordering.{eq_by_cmp}
use Rattle.std.specs.Cmp.{Equal-is}
use Rattle.path_model.specs.Key.{peer_cmp}
use Rattle.path_model.proofs.OrderLemmas.{peer_exact}
use Rattle.path_model.specs.declared.key.Key.{Key}
use Rattle.path_model.specs.declared.peer.Peer.{Peer}
use Rattle.path_model.specs.declared.verdict.Verdict.{Verdict}
use Rattle.av_text.specs.PeerText.{peer_text}
use Rattle.av_text.specs.PrefixText.{prefix_text}
use Rattle.av_text.specs.VerdictText.{verdict_text}
use Rattle.report_text.specs.Change.{mark_text, change_text}
use Rattle.report_text.specs.Fronts.{IsFront, nlri_text, change_rest, unended_rest}
use Rattle.report_text.specs.Keys.{identifier_text, key_text}
use Rattle.report_text.specs.Rows.{row_line}
use Rattle.report_text.specs.Writes.{Writes}

-- peers that their order doesn't tell apart are the same
pub same_peer : (one other : Peer) → IsTrue (eq_by_cmp peer_cmp one other) → one ≡ other
same_peer one other same = peer_exact one other ((Equal-is (peer_cmp one other)).0 same)

-- what stands in front stays
front_stays : {t a b : List ℕ} {i j : ℕ} → Writes t a i b j → i ≤ length a → i ≤ j → take i b ≡ take i a
front_stays {t} {a} {b} {i} {j} written inside later =
    sym (take-take i j b later) ∙ ap (λ (l : List ℕ). take i l) written.front
    ∙ take-append-le i (take i a) t (omega (arith, length-take-le i a inside)) ∙ take-take i i a (omega arith)

pub front_kept : {t a b : List ℕ} {i j : ℕ} (held : Option Peer) → IsFront held i a → Writes t a i b j → 51 ≤ length a → i ≤ j → IsFront held i b
front_kept None is written long later = is
front_kept (Some peer) is written long later = let short = is.0 in (is.0, front_stays written (omega arith) later ∙ is.1)

line_parts : (p n i v : List ℕ) → (p ++ 32 ∷ []) ++ ((n ++ (i ++ 32 ∷ [])) ++ (v ++ 10 ∷ [])) ≡ (((p ++ 32 ∷ n) ++ i) ++ 32 ∷ v) ++ 10 ∷ []
line_parts p n i v = simp append_assoc refl

change_parts : (p n i v w : List ℕ) → (p ++ 32 ∷ []) ++ ((n ++ (i ++ 32 ∷ [])) ++ (v ++ 32 ∷ (w ++ 10 ∷ []))) ≡ (((p ++ 32 ∷ n) ++ i) ++ 32 ∷ (v ++ 32 ∷ w)) ++ 10 ∷ []
change_parts p n i v w = simp append_assoc refl

unended_parts : (p n i v : List ℕ) → (p ++ 32 ∷ []) ++ ((n ++ (i ++ 32 ∷ [])) ++ v) ≡ ((p ++ 32 ∷ n) ++ i) ++ 32 ∷ v
unended_parts p n i v = simp append_assoc refl

-- the front and the rest are the line: a row, or one of an origin or a leak,
pub line_of : {a b : List ℕ} {i j : ℕ} (held : Option Peer) (key : Key) (words : List ℕ) → held ≡ Some key.peer → IsFront held i a
    → Writes (nlri_text key ++ (words ++ 10 ∷ [])) a i b j → take j b ≡ (key_text key ++ 32 ∷ words) ++ 10 ∷ []
line_of {a} {b} {i} {j} held key words is front written =
    let own : IsFront (Some key.peer) i a = subst (λ (h : Option Peer). IsFront h i a) is front in
    written.front ∙ ap (λ (l : List ℕ). l ++ (nlri_text key ++ (words ++ 10 ∷ []))) own.1
    ∙ line_parts (peer_text key.peer) (prefix_text key.prefix) (identifier_text key.path) words

-- the words of a row alone,
pub words_of : {a b : List ℕ} {i j : ℕ} (held : Option Peer) (key : Key) (verdict : Verdict) → held ≡ Some key.peer → IsFront held i a
    → Writes (unended_rest key verdict) a i b j → take j b ≡ row_line key verdict
words_of {a} {b} {i} {j} held key verdict is front written =
    let own : IsFront (Some key.peer) i a = subst (λ (h : Option Peer). IsFront h i a) is front in
    written.front ∙ ap (λ (l : List ℕ). l ++ unended_rest key verdict) own.1
    ∙ unended_parts (peer_text key.peer) (prefix_text key.prefix) (identifier_text key.path) (verdict_text verdict)

-- and the change
pub change_of : {a b : List ℕ} {i j : ℕ} (held : Option Peer) (key : Key) (before after : Option Verdict) → held ≡ Some key.peer → IsFront held i a
    → Writes (change_rest key before after) a i b j → take j b ≡ change_text key before after
change_of {a} {b} {i} {j} held key before after is front written =
    let own : IsFront (Some key.peer) i a = subst (λ (h : Option Peer). IsFront h i a) is front in
    written.front ∙ ap (λ (l : List ℕ). l ++ change_rest key before after) own.1
    ∙ change_parts (peer_text key.peer) (prefix_text key.prefix) (identifier_text key.path) (mark_text before) (mark_text after)
