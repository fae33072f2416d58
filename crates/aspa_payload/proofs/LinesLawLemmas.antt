-- Each file of lines has one reading.
use Rattle.std.proofs.Common.{◌≡◌, ℕ, suc, ◌+◌, ◌⊎◌, inl, inr, List, [], ◌∷◌, ◌++◌, length, Option, Some, None, refl, sym, ap, ◌∙◌, subst, arith}
use Rattle.std.specs.Str.Lines.{lines}
use Rattle.std.specs.declared.result.Result.{Result}
use Rattle.std.specs.declared.result.Result.TheVariants.{Ok, Err}
use Rattle.attestations.specs.Terms.{TermMap}
use Rattle.aspa_payload.specs.Line.{IsLineRefused}
use Rattle.aspa_payload.specs.Lines.{StandsFor, StandFor, dated, AreAttested, IsLinesReading}
use Rattle.av_base.specs.One.{HasOne}
use Rattle.aspa_payload.specs.Laws.{EachFileOfLinesHasOneReading}
use Rattle.aspa_payload.specs.declared.file.FileFault.{FileFault}
use Rattle.aspa_payload.specs.declared.file.FileFault.TheVariants.{Bad, NoMemory as OutOfMemory}
use Rattle.aspa_payload.specs.declared.fault.PayloadFault.{PayloadFault}
use Rattle.aspa_payload.specs.declared.line.Dated.{Dated}
use Rattle.aspa_payload.proofs.LineLawLemmas.{one_line, one_line_refused, good_or_refused, SomeLine, some_line}
use Rattle.aspa_payload.proofs.AttestedLemmas.{one_attested, some_attested}
use Rattle.aspa_payload.proofs.DecideLemmas.{empty_or_not}

-- ---- a line

stands_or_refused : (line : List ℕ) (unit : Option Dated) (f : PayloadFault) → StandsFor line unit → (line ≡ [] → ⊥)
    → IsLineRefused line f → ⊥
stands_or_refused line None f s some h = some s
stands_or_refused line (Some unit) f s some h = good_or_refused line unit f s.1 h

one_meaning : (line : List ℕ) (u v : Option Dated) → StandsFor line u → StandsFor line v → u ≡ v
one_meaning line None None s t = refl
one_meaning line None (Some v) s t = absurd (t.0 s)
one_meaning line (Some u) None s t = absurd (s.0 t)
one_meaning line (Some u) (Some v) s t = ap Some (one_line line u v s.1 t.1)

-- ---- lines: not more than one reading

one_units : (ls : List (List ℕ)) (us vs : List (Option Dated)) → StandFor ls us → StandFor ls vs → us ≡ vs
one_units [] [] [] s t = refl
one_units [] [] (v ∷ vs) s t = absurd t
one_units [] (u ∷ us) vs s t = absurd s
one_units (l ∷ ls) [] vs s t = absurd s
one_units (l ∷ ls) (u ∷ us) [] s t = absurd t
one_units (l ∷ ls) (u ∷ us) (v ∷ vs) s t =
    let same = one_meaning l u v s.0 t.0 in
    let more = one_units ls us vs s.1 t.1 in
    λ i. same i ∷ more i

head_same : {l m : List ℕ} {ls ms : List (List ℕ)} → l ∷ ls ≡ m ∷ ms → l ≡ m
head_same e = cc

tail_same : {l m : List ℕ} {ls ms : List (List ℕ)} → l ∷ ls ≡ m ∷ ms → ls ≡ ms
tail_same e = cc

no_line : {l : List ℕ} {ls : List (List ℕ)} → [] ≡ l ∷ ls → ⊥
no_line e = cc

all_or_refused : (ls before : List (List ℕ)) (us : List (Option Dated)) (line : List ℕ) (after : List (List ℕ)) (f : PayloadFault)
    → StandFor ls us → ls ≡ before ++ line ∷ after → (line ≡ [] → ⊥) → IsLineRefused line f → ⊥
all_or_refused [] [] us line after f s e some h = no_line e
all_or_refused [] (b ∷ before) us line after f s e some h = no_line e
all_or_refused (l ∷ ls) before [] line after f s e some h = s
all_or_refused (l ∷ ls) [] (u ∷ us) line after f s e some h = stands_or_refused line u f (subst (λ (x : List ℕ). StandsFor x u) (head_same e) s.0) some h
all_or_refused (l ∷ ls) (b ∷ before) (u ∷ us) line after f s e some h = all_or_refused ls before us line after f s.1 (tail_same e) some h

one_place : (bs cs : List (List ℕ)) (us vs : List (Option Dated)) (l m : List ℕ) (x y : List (List ℕ)) (f g : PayloadFault)
    → StandFor bs us → StandFor cs vs → bs ++ l ∷ x ≡ cs ++ m ∷ y
    → (l ≡ [] → ⊥) → (m ≡ [] → ⊥) → IsLineRefused l f → IsLineRefused m g → (length bs ≡ length cs) × (f ≡ g)
one_place [] [] us vs l m x y f g s t e some other h k = (refl, one_line_refused m f g (subst (λ (z : List ℕ). IsLineRefused z f) (head_same e) h) k)
one_place [] (c ∷ cs) us [] l m x y f g s t e some other h k = absurd t
one_place [] (c ∷ cs) us (v ∷ vs) l m x y f g s t e some other h k =
    absurd (stands_or_refused l v f (subst (λ (z : List ℕ). StandsFor z v) (sym (head_same e)) t.0) some h)
one_place (b ∷ bs) [] [] vs l m x y f g s t e some other h k = absurd s
one_place (b ∷ bs) [] (u ∷ us) vs l m x y f g s t e some other h k =
    absurd (stands_or_refused m u g (subst (λ (z : List ℕ). StandsFor z u) (head_same e) s.0) other k)
one_place (b ∷ bs) (c ∷ cs) [] vs l m x y f g s t e some other h k = absurd s
one_place (b ∷ bs) (c ∷ cs) (u ∷ us) [] l m x y f g s t e some other h k = absurd t
one_place (b ∷ bs) (c ∷ cs) (u ∷ us) (v ∷ vs) l m x y f g s t e some other h k =
    let more = one_place bs cs us vs l m x y f g s.1 t.1 (tail_same e) some other h k in
    (ap suc more.0, more.1)

one_reading : (bytes : List ℕ) (r s : Result TermMap FileFault) → IsLinesReading bytes r → IsLinesReading bytes s → r ≡ s
one_reading bytes (Ok terms) (Ok others) h k =
    let same = one_units (lines bytes) h.units k.units h.stand k.stand in
    ap Ok (one_attested (dated k.units) terms others (subst (λ (us : List (Option Dated)). AreAttested (dated us) terms) same h.attested) k.attested)
one_reading bytes (Ok terms) (Err (Bad v g)) h k = absurd (all_or_refused (lines bytes) k.before h.units k.line k.after g h.stand k.whole k.some k.refused)
one_reading bytes (Err (Bad u f)) (Ok others) h k = absurd (all_or_refused (lines bytes) h.before k.units h.line h.after f k.stand h.whole h.some h.refused)
one_reading bytes (Err (Bad u f)) (Err (Bad v g)) h k =
    let same = one_place h.before k.before h.units k.units h.line k.line h.after k.after f g h.good k.good (sym h.whole ∙ k.whole) h.some k.some h.refused k.refused in
    let place : u ≡ v = h.number ∙ ap (λ (n : ℕ). n + 1) same.0 ∙ sym k.number in
    λ i. Err (Bad (place i) (same.1 i))
one_reading bytes (Ok terms) (Err OutOfMemory) h k = absurd k
one_reading bytes (Err (Bad u f)) (Err OutOfMemory) h k = absurd k
one_reading bytes (Err OutOfMemory) s h k = absurd h

-- ---- at least one

abbrev SomeMeaning : List ℕ → Type 0
SomeMeaning line = ((u : Option Dated) × StandsFor line u) ⊎ ((f : PayloadFault) × ((line ≡ [] → ⊥) × IsLineRefused line f))

line_meaning : (line : List ℕ) → (line ≡ [] → ⊥) → SomeLine line → SomeMeaning line
line_meaning line some (inl u) = inl (Some u.0, (some, u.1))
line_meaning line some (inr r) = inr (r.0, (some, r.1))

line_some : (line : List ℕ) → (line ≡ []) ⊎ (line ≡ [] → ⊥) → SomeMeaning line
line_some line (inl e) = inl (None, e)
line_some line (inr some) = line_meaning line some (some_line line)

record Stops (ls : List (List ℕ)) (unit : ℕ) (f : PayloadFault) : Type 0 where
  before : List (List ℕ)
  units : List (Option Dated)
  good : StandFor before units
  line : List ℕ
  after : List (List ℕ)
  whole : ls ≡ before ++ line ∷ after
  number : unit ≡ length before + 1
  some : line ≡ [] → ⊥
  refused : IsLineRefused line f

abbrev SomeLines : List (List ℕ) → Type 0
SomeLines ls = ((us : List (Option Dated)) × StandFor ls us) ⊎ ((unit : ℕ) × ((f : PayloadFault) × Stops ls unit f))

lines_next : (l : List ℕ) (ls : List (List ℕ)) → SomeMeaning l → SomeLines ls → SomeLines (l ∷ ls)
lines_next l ls (inl u) (inl more) = inl (u.0 ∷ more.0, (u.1, more.1))
lines_next l ls (inl u) (inr r) = inr (
  r.0 + 1,
  (
    r.1.0,
    record {
      before = l ∷ r.1.1.before;
      units = u.0 ∷ r.1.1.units;
      good = (u.1, r.1.1.good);
      line = r.1.1.line;
      after = r.1.1.after;
      whole = ap (λ (more : List (List ℕ)). l ∷ more) r.1.1.whole;
      number = omega (arith, r.1.1.number);
      some = r.1.1.some;
      refused = r.1.1.refused;
    },
  ),
)
lines_next l ls (inr r) more = inr (1, (r.0, record { before = []; units = []; good = tt; line = l; after = ls; whole = refl; number = refl; some = r.1.0; refused = r.1.1 }))

some_lines : (ls : List (List ℕ)) → SomeLines ls
some_lines [] = inl ([], tt)
some_lines (l ∷ ls) = lines_next l ls (line_some l (empty_or_not l)) (some_lines ls)

-- the reading that there is, and no other
only_reading : (bytes : List ℕ) (r : Result TermMap FileFault) → IsLinesReading bytes r → HasOne (IsLinesReading bytes)
only_reading bytes r h = record { one = r; is = h; only = λ s k. one_reading bytes s r k h }

lines_reading : (bytes : List ℕ) → SomeLines (lines bytes) → HasOne (IsLinesReading bytes)
lines_reading bytes (inl f) = let t = some_attested (dated f.0) in only_reading bytes (Ok t.0) (record { units = f.0; stand = f.1; attested = t.1 })
lines_reading bytes (inr r) = only_reading bytes (Err (Bad r.0 r.1.0)) (record {
  before = r.1.1.before;
  units = r.1.1.units;
  good = r.1.1.good;
  line = r.1.1.line;
  after = r.1.1.after;
  whole = r.1.1.whole;
  number = r.1.1.number;
  some = r.1.1.some;
  refused = r.1.1.refused;
})

pub each_file_of_lines : EachFileOfLinesHasOneReading
each_file_of_lines bytes = lines_reading bytes (some_lines (lines bytes))
