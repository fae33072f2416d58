-- The lines of a script, of the pieces that it is read in, and of what is held of them.
use Rattle.std.proofs.Common.{◌≡◌, ℕ, zero, suc, ◌+◌, ◌-◌, ◌<◌, ◌≤◌, ◌==◌, Bool, true, false, if◌then◌else◌, nat_le, List, [], ◌∷◌, ◌++◌, length, take, drop, None, Some, Ok, Err, inl, inr, refl, sym, ap, subst, ◌∙◌, arith, append_assoc, take-append-drop, slice_get}
use Rattle.std.proofs.Math.Seq.{drop-append-add, drop-append_seam, take-append-add}
use Rattle.std.specs.Io.KnownBytes.{prepend_known}
use Rattle.std.specs.List.{slice_index}
use Rattle.std.specs.declared.option.Option.{Option}
use Rattle.std.specs.declared.result.Result.{Result}
use Rattle.std.proofs.lemmas.Bool.Decides.{nat_tests}
use Rattle.std.proofs.lemmas.List.{length-append, length-take, length-take-le, take_all, take-append-le}
use Rattle.std.proofs.lemmas.List.Elements.{All-append, All-take}
use Rattle.av_text.specs.Lines.{AreWhole, IsPart, lines_in}
use Rattle.av_text.proofs.LineLemmas.{line_of, lines_onto, lines_split}
use Rattle.script_lines.specs.declared.commands.Command.{Command}
use Rattle.script_lines.specs.declared.fault.LineFault.{LineFault}
use Rattle.script_lines.specs.declared.fault.LineFault.TheVariants.{Long, Command as NoCommand, Words, Number, NoMemory}
use Rattle.script_lines.specs.Grammar.{IsReading}
use Rattle.aspa_top.specs.Lines.{performed}
use Rattle.aspa_top.specs.Script.{CameMore, ReadAs, ReadsAs, end_of, held_of}

-- ---- what is performed

-- a script within its limit is performed whole
pub performed-whole : (limit : ℕ) (script : List ℕ) → length script ≤ limit → performed limit script ≡ lines_in true script
performed-whole limit script within =
    let fits : nat_le (length script) limit ≡ true = grind (arith, nat_tests) in
    rw (fits, take_all limit script within) refl

-- of a longer one the front is
pub performed-front : (limit : ℕ) (script more : List ℕ) → length script ≡ limit → 0 < length more
    → performed limit (script ++ more) ≡ lines_in false script
performed-front limit script more full some =
    let size = length-append script more in
    let long : nat_le (length (script ++ more)) limit ≡ false = grind (arith, nat_tests) in
    rw (long, take-append-le limit script more (omega arith), take_all limit script (omega arith)) refl

-- where whole lines within the limit are in front, they are performed first
pub performed-after : (limit : ℕ) (front more : List ℕ) → AreWhole front → length front ≤ limit
    → (rest : List (List ℕ)) × (performed limit (front ++ more) ≡ lines_in false front ++ rest)
performed-after limit front more are within =
    let room = limit - length front in
    let same : length front + room ≡ limit = omega arith in
    let whole = nat_le (length (front ++ more)) limit in
    let taken : take limit (front ++ more) ≡ front ++ take room more = subst (λ (n : ℕ). take n (front ++ more) ≡ front ++ take room more) same (take-append-add front more room) in
    (lines_in whole (take room more), ap (lines_in whole) taken ∙ lines_split whole front (take room more) are)

-- ---- what was read

pub prepend_known-append : (front more : List ℕ) (left : Option (List ℕ)) → prepend_known front (prepend_known more left) ≡ prepend_known (front ++ more) left
prepend_known-append front more None = refl
prepend_known-append front more (Some left) = ap (λ (l : List ℕ). Some l) (sym (append_assoc front more left))

-- ---- what is held of a line

pub read_same : (lines : List (List ℕ)) → ReadAs lines lines
read_same [] = tt
read_same (line ∷ lines) = (λ reading is. is, read_same lines)

-- two lines that are too long are read alike where they begin with the same byte
long_reads : (line held : List ℕ) → 4096 < length line → 4096 < length held → slice_get line 0 ≡ slice_get held 0 → ReadsAs line held
long_reads line held long over first = λ reading. by reading
  where
    by : (reading : Result Command LineFault) → IsReading held reading → IsReading line reading
    by (Ok command) is = elim is [
      | inl idle ↦ elim idle.0 [ inl comment ↦ inl (inl (first ∙ comment), idle.1) | inr none ↦ absurd (let short = none.0.short in omega (arith, over, short)) ]
      | inr named ↦ absurd (let short = named.0.read.short in omega (arith, over, short))
    ]
    by (Err Long) is = (λ comment. is.0 (sym first ∙ comment), long)
    by (Err NoCommand) is = absurd (let short = is.0.short in omega (arith, over, short))
    by (Err Words) is = absurd (let short = is.0.read.short in omega (arith, over, short))
    by (Err Number) is = absurd (let short = is.0.read.short in omega (arith, over, short))
    by (Err NoMemory) is = absurd is

-- a CR at the end is one byte at most
line_long : (ended : Bool) (bytes : List ℕ) → length bytes ≤ length (line_of ended bytes) + 1
line_long false bytes = omega arith
line_long true bytes = by (slice_index bytes (length bytes - 1) == 13)
  where
    by : (b : Bool) → length bytes ≤ length (if b then take (length bytes - 1) bytes else bytes) + 1
    by true = omega (arith, length-take {A = ℕ})
    by false = omega arith

take_first : (n byte : ℕ) (bytes : List ℕ) → 0 < n → slice_get (take n (byte ∷ bytes)) 0 ≡ Some byte
take_first zero byte bytes some = absurd (omega (arith, some))
take_first (suc n) byte bytes some = refl

line_first : (ended : Bool) (byte next : ℕ) (bytes : List ℕ) → slice_get (line_of ended (byte ∷ next ∷ bytes)) 0 ≡ Some byte
line_first false byte next bytes = refl
line_first true byte next bytes = by (slice_index (byte ∷ next ∷ bytes) (length (byte ∷ next ∷ bytes) - 1) == 13)
  where
    by : (b : Bool) → slice_get (if b then take (length (byte ∷ next ∷ bytes) - 1) (byte ∷ next ∷ bytes) else byte ∷ next ∷ bytes) 0 ≡ Some byte
    by true = take_first (length (byte ∷ next ∷ bytes) - 1) byte (next ∷ bytes) (omega arith)
    by false = refl

-- the first line of a long part and what comes after it, and of what is held of it
held_reads : (ended : Bool) (part first : List ℕ) → 4098 < length part → ReadsAs (line_of ended (part ++ first)) (line_of ended (held_of part ++ first))
held_reads ended [] first long = absurd (omega (arith, long))
held_reads ended (byte ∷ []) first long = absurd (omega (arith, long))
held_reads ended (byte ∷ next ∷ part) first long =
    let all = byte ∷ next ∷ part in
    let held : length (held_of all) ≡ 4098 = length-take-le 4098 all (omega (arith, long)) in
    long_reads (line_of ended (all ++ first)) (line_of ended (held_of all ++ first))
    (omega (arith, long, line_long ended (all ++ first), length-append all first))
    (omega (arith, held, line_long ended (held_of all ++ first), length-append (held_of all) first))
    (line_first ended byte next (part ++ first) ∙ sym (line_first ended byte next (take 4096 part ++ first)))

-- so it is with all lines of a part of a line and what comes after it
pub held_lines : (whole : Bool) (part bytes : List ℕ) → IsPart part → ReadAs (lines_in whole (part ++ bytes)) (lines_in whole (held_of part ++ bytes))
held_lines whole part bytes is = by (nat_le (length part) 4098) refl
  where
    by : (b : Bool) → nat_le (length part) 4098 ≡ b → ReadAs (lines_in whole (part ++ bytes)) (lines_in whole (held_of part ++ bytes))
    by true same =
        let short : length part ≤ 4098 = grind (arith, nat_tests) in
        rw (take_all 4098 part short) (read_same (lines_in whole (part ++ bytes)))
    by false same =
        let long : 4098 < length part = grind (arith, nat_tests) in
        let held : length (held_of part) ≡ 4098 = length-take-le 4098 part (omega (arith, long)) in
        elim (lines_onto whole part (held_of part) bytes is (All-take (λ byte. byte ≡ 10 → ⊥) 4098 part is) (omega (arith, long)) (omega (arith, held))) [
          | inl none ↦ rw (none.0, none.1) tt
          | inr onto ↦ rw (onto.part_is, onto.other_is) (held_reads onto.ended part onto.first long, read_same onto.more)
        ]

-- what is held of a longer part is what is held of what was held and the rest
held_more : (n : ℕ) (part rest : List ℕ) → take n (take n part ++ rest) ≡ take n (part ++ rest)
held_more zero part rest = refl
held_more (suc n) [] rest = refl
held_more (suc n) (byte ∷ part) rest = ap (λ (l : List ℕ). byte ∷ l) (held_more n part rest)

-- ---- what comes of reading once

-- no LF came
pub came_part : (room : ℕ) (old new : Option (List ℕ)) (held held_new bytes : List ℕ) → old ≡ prepend_known bytes new → 0 < length bytes → length bytes ≤ room
    → held_new ≡ held ++ bytes → IsPart bytes → CameMore room old new held held_new (length bytes) 0
came_part room old new held held_new bytes told some within after lacks = record {
  lines = [];
  rest = bytes;
  told = told;
  size = refl;
  some = some;
  within = within;
  held = after;
  whole = inl refl;
  part = lacks;
  ends = refl;
}

ends_at : (held lines : List ℕ) (end : ℕ) → length lines ≡ end → 0 < end → length held + end ≡ end_of held lines
ends_at held [] end size some = absurd (omega (arith, size, some))
ends_at held (byte ∷ lines) end size some = omega (arith, size)

-- one came, and what stands up to the last one is whole lines
pub came_lines : (room : ℕ) (old new : Option (List ℕ)) (held held_new bytes : List ℕ) (end : ℕ) → old ≡ prepend_known bytes new → length bytes ≤ room
    → held_new ≡ held ++ bytes → 0 < end → end ≤ length bytes → AreWhole (take end bytes) → IsPart (drop end bytes)
    → CameMore room old new held held_new (length bytes) (length held + end)
came_lines room old new held held_new bytes end told within after some ends whole part =
    let both = take-append-drop end bytes in
    record {
      lines = take end bytes;
      rest = drop end bytes;
      told = told ∙ ap (λ (l : List ℕ). prepend_known l new) (sym both);
      size = ap length both;
      some = omega (arith, some, ends);
      within = within;
      held = after ∙ ap (λ (l : List ℕ). held ++ l) (sym both);
      whole = whole;
      part = part;
      ends = ends_at held (take end bytes) end (length-take-le end bytes ends) some;
    }

-- ---- what a read brought to a part of a line

-- Whole lines, of which the first goes on from the part, and a part of a line again. What is held of the lines is read as they are.
pub record Brought (part held_new : List ℕ) (end : ℕ) (bytes : List ℕ) : Type 0 where
  pub lines : List ℕ
  pub rest : List ℕ
  pub all : lines ++ rest ≡ part ++ bytes
  pub whole : AreWhole lines
  pub is_part : IsPart rest
  pub held : held_of (drop end held_new) ≡ held_of rest
  pub reads : ReadAs (lines_in false lines) (lines_in false (take end held_new))
  pub few : length (take end held_new) ≤ length lines
  pub ends : end ≤ length held_new

line_after : (part bytes : List ℕ) → 0 < length bytes → AreWhole bytes → AreWhole (part ++ bytes)
line_after part bytes some are = elim are [
  | inl none ↦ absurd (omega (arith, some, ap length none))
  | inr lines ↦ inr (part ++ lines.0, ap (λ (l : List ℕ). part ++ l) lines.1 ∙ sym (append_assoc part lines.0 (10 ∷ [])))
]

brought_by : (part held held_new lines rest : List ℕ) (end : ℕ) → IsPart part → held ≡ held_of part → held_new ≡ held ++ (lines ++ rest) → AreWhole lines → IsPart rest
    → end ≡ end_of held lines → Brought part held_new end (lines ++ rest)
brought_by part held held_new [] rest end is kept after whole is_rest ends = rw (ends, after, kept) (record {
  lines = [];
  rest = part ++ rest;
  all = refl;
  whole = inl refl;
  is_part = All-append (λ byte. byte ≡ 10 → ⊥) part rest is is_rest;
  held = held_more 4098 part rest;
  reads = tt;
  few = omega arith;
  ends = omega arith;
})
brought_by part held held_new (byte ∷ more) rest end is kept after whole is_rest ends =
    let lines = byte ∷ more in
    let taken : take end held_new ≡ held ++ lines =
    ap (λ (l : List ℕ). take end l) (after ∙ sym (append_assoc held lines rest)) ∙ take-append-le end (held ++ lines) rest (omega (arith, ends, length-append held lines))
    ∙ take_all end (held ++ lines) (omega (arith, ends, length-append held lines)) in
    let left : drop end held_new ≡ rest =
    ap (λ (n : ℕ). drop n held_new) ends ∙ ap (drop (length held + length lines)) after ∙ drop-append-add held (lines ++ rest) (length lines) ∙ drop-append_seam lines rest in
    record {
      lines = part ++ lines;
      rest = rest;
      all = append_assoc part lines rest;
      whole = line_after part lines (omega arith) whole;
      is_part = is_rest;
      held = ap held_of left;
      reads = subst (λ (l : List ℕ). ReadAs (lines_in false (part ++ lines)) (lines_in false l)) (ap (λ (l : List ℕ). l ++ lines) (sym kept) ∙ sym taken) (held_lines false part lines is);
      few = omega (arith, ap length taken, ap length kept, length-append held lines, length-append part lines, length-take {A = ℕ} 4098 part);
      ends = omega (arith, ends, ap length after, length-append held (lines ++ rest), length-append lines rest);
    }

pub brought : (room : ℕ) (old new : Option (List ℕ)) (part held held_new : List ℕ) (count end : ℕ) → IsPart part → held ≡ held_of part
    → (came : CameMore room old new held held_new count end) → Brought part held_new end (came.lines ++ came.rest)
brought room old new part held held_new count end is kept came = brought_by part held held_new came.lines came.rest end is kept came.held came.whole came.part came.ends
