-- A router takes PDUs one after another: in one way only, and lists behind each other.
use Rattle.std.proofs.Common.{◌≡◌, ℕ, List, [], ◌∷◌, ◌++◌, refl, sym, ap, subst, ◌∙◌}
use Rattle.std.specs.declared.option.Option.TheVariants.{None}
use Rattle.rtr_pdu.specs.declared.pdu.Pdu.{Pdu}
use Rattle.rtr_session.specs.declared.act.Act.{Act}
use Rattle.rtr_session.specs.declared.act.Act.TheVariants.{Nothing, Apply}
use Rattle.rtr_session.specs.declared.act.Delta.{Delta}
use Rattle.rtr_session.specs.State.{State}
use Rattle.rtr_session.specs.Client.{Client}
use Rattle.rtr_session.proofs.CaseLemmas.{one_case}
use Rattle.rtr_cache.specs.Laws.{Takes, last_query}

pub Takes-unique : (pdus : List Pdu) (old : State) (acts others : List Act) (new other : State) → Takes old pdus acts new → Takes old pdus others other → (others ≡ acts) × (other ≡ new)
Takes-unique [] old acts others new other a b = (b.0 ∙ sym a.0, b.1 ∙ sym a.1)
Takes-unique (pdu ∷ more) old acts others new other a b =
    let one = one_case old pdu in
    let first = one.only a.0 a.1 a.3 in
    let second = one.only b.0 b.1 b.3 in
    let next : b.1 ≡ a.1 = second.1 ∙ sym first.1 in
    let rest = Takes-unique more a.1 a.2 b.2 new other a.4 (subst (λ (s : State). Takes s more b.2 other) next b.4) in
    (b.5 ∙ (λ i. (second.0 ∙ sym first.0) i ∷ rest.0 i) ∙ sym a.5, rest.1)

pub Takes-append : (pdus behind : List Pdu) (old mid new : State) (acts more : List Act) → Takes old pdus acts mid → Takes mid behind more new → Takes old (pdus ++ behind) (acts ++ more) new
Takes-append [] behind old mid new acts more a b = subst (λ (l : List Act). Takes old behind (l ++ more) new) (sym a.0) (subst (λ (s : State). Takes s behind more new) a.1 b)
Takes-append (pdu ∷ pdus) behind old mid new acts more a b = (a.0, a.1, a.2 ++ more, a.3, Takes-append pdus behind a.1 mid new a.2 more a.4 b, ap (λ (l : List Act). l ++ more) a.5)

-- one PDU
pub Takes-one : (old new : State) (pdu : Pdu) (act : Act) → Client old pdu act new → Takes old (pdu ∷ []) (act ∷ []) new
Takes-one old new pdu act h = (act, new, [], h, (refl, refl), refl)

pub Takes-then : (old next new : State) (pdu : Pdu) (pdus : List Pdu) (act : Act) (acts : List Act) → Client old pdu act next → Takes next pdus acts new → Takes old (pdu ∷ pdus) (act ∷ acts) new
Takes-then old next new pdu pdus act acts h more = (act, next, acts, h, more, refl)

-- nothing is done on these
abbrev pub nothings : List ℕ → List Act
nothings [] = []
nothings (x ∷ xs) = Nothing ∷ nothings xs

pub no_query : (xs : List ℕ) (delta : Delta) → last_query (nothings xs ++ Apply delta ∷ []) ≡ None
no_query [] delta = refl
no_query (x ∷ xs) delta = no_query xs delta
