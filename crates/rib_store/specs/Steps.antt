-- How changes of one route go. Private contracts alone cite it.
use Rattle.std.specs.Prelude.{◌≡◌, ℕ, Bool, true, false, if◌then◌else◌, ⊤, ◌⊎◌}
use Rattle.std.specs.declared.option.Option.{Option}
use Rattle.std.specs.declared.option.Option.TheVariants.{Some, None}
use Rattle.std.specs.BTreeMap.{is_at}
use Rattle.std.specs.Map.{lookup}
use Rattle.path_model.specs.declared.key.Key.{Key}
use Rattle.path_model.specs.declared.verdict.Verdict.{Verdict}
use Rattle.path_model.specs.Key.{key_cmp}
use Rattle.shared_cases.specs.Cases.{Slots, at, Rewrites}
use Rattle.shared_cases.specs.Taking.{left}
use Rattle.rib_store.specs.Cased.{Noted}

-- the case of a key that had one has one user less
abbrev pub Leaves : Slots → Option ℕ → Slots → Type 0
Leaves old None new = new ≡ old
Leaves old (Some n) new = Rewrites old new n (left (at old n))

-- the first note of a key stays
abbrev pub or_noted : Option (Option Verdict) → Bool → Option Verdict → Option (Option Verdict)
or_noted None here marked = if here then Some marked else None
or_noted (Some noted) here marked = Some noted

-- what was marked of the key is noted, once verdicts were marked
abbrev pub Notes : Bool → Noted → Key → Option Verdict → Noted → Type 0
Notes false old key marked new = ⊤
Notes true old key marked new =
    (q : Key) → lookup (is_at (key_cmp q)) new ≡ or_noted (lookup (is_at (key_cmp q)) old) (is_at (key_cmp key) q) marked

-- a note that the key had no route is let go where the key has none again
abbrev pub kept_note : Option ℕ → Bool → Option (Option Verdict) → Option (Option Verdict)
kept_note after here None = None
kept_note after here (Some (Some verdict)) = Some (Some verdict)
kept_note None here (Some None) = if here then None else Some None
kept_note (Some n) here (Some None) = Some None

-- what was marked of the key is noted, once verdicts were marked, where its case becomes this one
abbrev pub NotesChange : Bool → Noted → Key → Option ℕ → Option Verdict → Noted → Type 0
NotesChange false old key after marked new = new ≡ old
NotesChange true old key after marked new = (q : Key) → lookup (is_at (key_cmp q)) new
    ≡ kept_note after (is_at (key_cmp key) q) (or_noted (lookup (is_at (key_cmp q)) old) (is_at (key_cmp key) q) marked)

-- the same of a key whose case becomes another one, and nothing of one whose case stays
abbrev pub NotesMove : Bool → Noted → Key → Option ℕ → Option ℕ → Option Verdict → Noted → Type 0
NotesMove is_marked old key before after marked new = ((before ≡ after) × (new ≡ old)) ⊎ NotesChange is_marked old key after marked new
