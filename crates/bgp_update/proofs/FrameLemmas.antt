-- Frames and the parts of an UPDATE are found exactly where they are, and there is one of each.
use Rattle.std.proofs.Common.{◌≡◌, ℕ, ◌-◌, ◌≤◌, get_or, Bool, false, List, [], ◌∷◌, ◌++◌, length, take, drop, Some, None, refl, sym, ap, subst, ◌∙◌, arith}
use Rattle.std.specs.declared.option.Option.{Option}
use Rattle.std.specs.Int.{w16, from_be_bytes}
use Rattle.std.proofs.lemmas.Option.{some_pair_parts}
use Rattle.std.proofs.lemmas.List.{append_cancel_left, take_all}
use Rattle.path_model.specs.declared.nlri.Nlri.{Nlri}
use Rattle.bgp_attrs.specs.Blocks.{block_at}
use Rattle.bgp_attrs.specs.Joined.{IsJoined}
use Rattle.bgp_attrs.specs.Prefixes.{IsNlri}
use Rattle.bgp_attrs.proofs.BlockLemmas.{block_reader}
use Rattle.bgp_attrs.proofs.JoinedLemmas.{joined_same}
use Rattle.bgp_attrs.proofs.NlriLemmas.{nlri_reader}
use Rattle.bgp_update.specs.Frames.{marker, IsFramed}
use Rattle.bgp_update.specs.Updates.{Update, IsUpdate, IsMessage}

-- what stands behind the marker in a frame
pub frame_rest : (message rest : List ℕ) (kind : ℕ) (behind : List ℕ) (is : IsFramed message kind behind) → message ≡ marker ++ rest → rest ≡ is.count ++ (kind ∷ behind)
frame_rest message rest kind behind is e = append_cancel_left marker rest (is.count ++ (kind ∷ behind)) (sym e ∙ is.whole)

pub frame_made : (message rest : List ℕ) → 3 ≤ length rest → message ≡ marker ++ rest → from_be_bytes w16 (get_or rest 0 0 ∷ get_or rest 1 0 ∷ []) ≡ length message → IsFramed message (get_or rest 2 0) (take (length rest - 3) (drop 3 rest))
frame_made message [] long whole counts = absurd (omega arith)
frame_made message (a ∷ []) long whole counts = absurd (omega arith)
frame_made message (a ∷ b ∷ []) long whole counts = absurd (omega arith)
frame_made message (a ∷ b ∷ c ∷ rest) long whole counts =
    let all : take (length (a ∷ b ∷ c ∷ rest) - 3) rest ≡ rest = take_all (length (a ∷ b ∷ c ∷ rest) - 3) rest (omega arith) in
    record { count = a ∷ b ∷ []; whole = rw all whole; counts = (refl, counts) }

heads : (count other : List ℕ) (k l : ℕ) (r s : List ℕ) → length count ≡ 2 → length other ≡ 2 → count ++ (k ∷ r) ≡ other ++ (l ∷ s) → (k ≡ l) × (r ≡ s)
heads (a ∷ b ∷ []) (c ∷ d ∷ []) k l r s p q e = (cc, cc)
heads [] other k l r s p q e = absurd (omega arith)
heads (a ∷ []) other k l r s p q e = absurd (omega arith)
heads (a ∷ b ∷ x ∷ more) other k l r s p q e = absurd (omega arith)
heads (a ∷ b ∷ []) [] k l r s p q e = absurd (omega arith)
heads (a ∷ b ∷ []) (c ∷ []) k l r s p q e = absurd (omega arith)
heads (a ∷ b ∷ []) (c ∷ d ∷ x ∷ more) k l r s p q e = absurd (omega arith)

-- a message has one frame
pub frames_same : (message : List ℕ) (k l : ℕ) (r s : List ℕ) → IsFramed message k r → IsFramed message l s → (k ≡ l) × (r ≡ s)
frames_same message k l r s p q = heads p.count q.count k l r s p.counts.0 q.counts.0 (append_cancel_left marker (p.count ++ (k ∷ r)) (q.count ++ (l ∷ s)) (sym p.whole ∙ q.whole))

-- ---- the parts of an UPDATE

pub no_first : (add_path : Bool) (rest : List ℕ) → block_at rest ≡ None → (update : Update) → IsUpdate add_path rest update → ⊥
no_first add_path rest none update is = let e = block_reader.only rest is.withdrawn is.more is.first in cc

first_is : (add_path : Bool) (rest w m : List ℕ) → block_at rest ≡ Some (w, m) → (update : Update) (is : IsUpdate add_path rest update) → (is.withdrawn ≡ w) × (is.more ≡ m)
first_is add_path rest w m e update is = some_pair_parts is.withdrawn w is.more m (sym (block_reader.only rest is.withdrawn is.more is.first) ∙ e)

pub no_second : (add_path : Bool) (rest w m : List ℕ) → block_at rest ≡ Some (w, m) → block_at m ≡ None → (update : Update) → IsUpdate add_path rest update → ⊥
no_second add_path rest w m e none update is =
    let f = first_is add_path rest w m e update is in
    let s = block_reader.only is.more update.attributes is.announced is.second in
    let t = ap block_at f.1 in
    cc

second_is : (add_path : Bool) (rest w m a n : List ℕ) → block_at rest ≡ Some (w, m) → block_at m ≡ Some (a, n) → (update : Update) (is : IsUpdate add_path rest update) → (update.attributes ≡ a) × (is.announced ≡ n)
second_is add_path rest w m a n e f update is =
    let s = first_is add_path rest w m e update is in
    some_pair_parts update.attributes a is.announced n (sym (block_reader.only is.more update.attributes is.announced is.second) ∙ ap block_at s.1 ∙ f)

pub no_withdrawn : (add_path : Bool) (rest w m : List ℕ) → block_at rest ≡ Some (w, m) → ((ps : List Nlri) → IsJoined (IsNlri add_path false) w ps → ⊥) → (update : Update) → IsUpdate add_path rest update → ⊥
no_withdrawn add_path rest w m e none update is = none update.withdrawn (subst (λ (bytes : List ℕ). IsJoined (IsNlri add_path false) bytes update.withdrawn) (first_is add_path rest w m e update is).0 is.are_withdrawn)

pub no_announced : (add_path : Bool) (rest w m a n : List ℕ) → block_at rest ≡ Some (w, m) → block_at m ≡ Some (a, n) → ((ps : List Nlri) → IsJoined (IsNlri add_path false) n ps → ⊥) → (update : Update) → IsUpdate add_path rest update → ⊥
no_announced add_path rest w m a n e f none update is = none update.announced (subst (λ (bytes : List ℕ). IsJoined (IsNlri add_path false) bytes update.announced) (second_is add_path rest w m a n e f update is).1 is.are_announced)

pub update_made : (add_path : Bool) (rest w m a n : List ℕ) (ps qs : List Nlri) → block_at rest ≡ Some (w, m) → block_at m ≡ Some (a, n) → IsJoined (IsNlri add_path false) w ps → IsJoined (IsNlri add_path false) n qs
    → IsUpdate add_path rest (record { withdrawn = ps; attributes = a; announced = qs })
update_made add_path rest w m a n ps qs e f p q = record { withdrawn = w; more = m; announced = n; first = block_reader.finds rest w m e; second = block_reader.finds m a n f; are_withdrawn = p; are_announced = q }

pub no_message : (add_path : Bool) (message : List ℕ) (kind : ℕ) (rest : List ℕ) → IsFramed message kind rest → kind ≡ 2 → ((update : Update) → IsUpdate add_path rest update → ⊥) → (shape : Option Update) → IsMessage add_path message shape → ⊥
no_message add_path message kind rest framed two none None is = is.3 (sym (frames_same message kind is.0 rest is.1 framed is.2).0 ∙ two)
no_message add_path message kind rest framed two none (Some update) is =
    none update (subst (λ (r : List ℕ). IsUpdate add_path r update) (sym (frames_same message kind 2 rest is.0 framed is.1).1) is.2)

pub no_frame : (add_path : Bool) (message : List ℕ) → ((kind : ℕ) (rest : List ℕ) → IsFramed message kind rest → ⊥) → (shape : Option Update) → IsMessage add_path message shape → ⊥
no_frame add_path message none None is = none is.0 is.1 is.2
no_frame add_path message none (Some update) is = none 2 is.0 is.1

-- ---- each message has one shape

update_same : (add_path : Bool) (rest : List ℕ) (one other : Update) → IsUpdate add_path rest one → IsUpdate add_path rest other → one ≡ other
update_same add_path rest one other p q =
    let f = first_is add_path rest q.withdrawn q.more (block_reader.only rest q.withdrawn q.more q.first) one p in
    let s = second_is add_path rest q.withdrawn q.more other.attributes q.announced (block_reader.only rest q.withdrawn q.more q.first) (block_reader.only q.more other.attributes q.announced q.second) one p in
    let withdrawn = joined_same (nlri_reader add_path false) q.withdrawn one.withdrawn other.withdrawn (subst (λ (bytes : List ℕ). IsJoined (IsNlri add_path false) bytes one.withdrawn) f.0 p.are_withdrawn) q.are_withdrawn in
    let announced = joined_same (nlri_reader add_path false) q.announced one.announced other.announced (subst (λ (bytes : List ℕ). IsJoined (IsNlri add_path false) bytes one.announced) s.1 p.are_announced) q.are_announced in
    λ i. record { withdrawn = withdrawn i; attributes = s.0 i; announced = announced i }

pub message_same : (add_path : Bool) (message : List ℕ) (one other : Option Update) → IsMessage add_path message one → IsMessage add_path message other → one ≡ other
message_same add_path message None None p q = refl
message_same add_path message None (Some update) p q = absurd (p.3 (frames_same message p.0 2 p.1 q.0 p.2 q.1).0)
message_same add_path message (Some update) None p q = absurd (q.3 (frames_same message q.0 2 q.1 p.0 q.2 p.1).0)
message_same add_path message (Some one) (Some other) p q =
    ap Some (update_same add_path q.0 one other (subst (λ (r : List ℕ). IsUpdate add_path r one) (frames_same message 2 2 p.0 q.0 p.1 q.1).1 p.2) q.2)
