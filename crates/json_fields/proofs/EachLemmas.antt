-- Lists whose items each stand for something.
use Rattle.std.proofs.Common.{◌≡◌, ℕ, zero, suc, ◌+◌, ◌<◌, ◌≤◌, List, [], ◌∷◌, ◌++◌, length, get_or, take, map, sym, arith, add-one, subst}
use Rattle.std.proofs.lemmas.List.{take_all}
use Rattle.json_fields.specs.Each.{Each}

pub each_next : {D A V : Type 0} (R : D → A → Type 0) (look : V → D) (vs : List V) (i : ℕ) (v : V) (list : List A) (a : A)
    → i < length vs → Each R (map look (take i vs)) list → R (look (get_or vs i v)) a
    → Each R (map look (take (suc i) vs)) (list ++ a ∷ [])
each_next R look [] i d list a h each holds = absurd (omega arith)
each_next R look (v ∷ vs) zero d [] a h each holds = (holds, tt)
each_next R look (v ∷ vs) zero d (b ∷ list) a h each holds = absurd each
each_next R look (v ∷ vs) (suc i) d [] a h each holds = absurd each
each_next R look (v ∷ vs) (suc i) d (b ∷ list) a h each holds = (each.0, each_next R look vs i d list a (omega arith) each.1 holds)

-- an item that stands for nothing
each_never : {D A V : Type 0} (R : D → A → Type 0) (look : V → D) (vs : List V) (i : ℕ) (v : V) (list : List A)
    → i < length vs → ((a : A) → R (look (get_or vs i v)) a → ⊥) → Each R (map look vs) list → ⊥
each_never R look [] i d list h never each = absurd (omega arith)
each_never R look (v ∷ vs) zero d [] h never each = each
each_never R look (v ∷ vs) zero d (a ∷ list) h never each = never a each.0
each_never R look (v ∷ vs) (suc i) d [] h never each = each
each_never R look (v ∷ vs) (suc i) d (a ∷ list) h never each = each_never R look vs i d list (omega arith) never each.1

-- the loop's refusal
pub each_refused : {D A V : Type 0} (R : D → A → Type 0) (look : V → D) (vs : List V) (i : ℕ) (v : V) → i < length vs
    → v ≡ get_or vs i v → ((a : A) → R (look v) a → ⊥) → (list : List A) → Each R (map look vs) list → ⊥
each_refused {V = V} R look vs i v h at never list each = each_never R look vs i v list h (λ a holds. never a (subst (λ (v : V). R (look v) a) (sym at) holds)) each

-- the step of a loop that reads each item and pushes what it stands for
pub each_grown : {D A V : Type 0} (R : D → A → Type 0) (look : V → D) (vs : List V) (i : ℕ) (v : V) (old new : List A) (x : A)
    → i < length vs → v ≡ get_or vs i v → Each R (map look (take i vs)) old
    → R (look v) x → new ≡ old ++ x ∷ [] → Each R (map look (take (i + 1) vs)) new
each_grown {V = V} R look vs i v old new x h at each holds is =
    rw (is, add-one) (each_next R look vs i v old x h each (subst (λ (v : V). R (look v) x) at holds))

-- the loop's end
pub each_whole : {D A V : Type 0} (R : D → A → Type 0) (look : V → D) (vs : List V) (i : ℕ) (list : List A) → length vs ≤ i → Each R (map look (take i vs)) list → Each R (map look vs) list
each_whole {V = V} R look vs i list all each = subst (λ (us : List V). Each R (map look us) list) (take_all i vs all) each
