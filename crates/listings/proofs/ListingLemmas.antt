-- The steps of a listing, and one that never began.
use Rattle.std.proofs.Common.{◌≡◌, ℕ, List, [], ◌∷◌, ◌++◌, map, flat_map, Ok, Err, refl, sym, subst, ◌∙◌, ap, arith}
use Rattle.std.specs.List.{concat}
use Rattle.std.specs.Io.KnownBytes.{append_known}
use Rattle.std.specs.declared.option.Option.{Option}
use Rattle.av_base.specs.Told.{AppendsBefore}
use Rattle.av_base.proofs.PouringLemmas.{Grows-refl}
use Rattle.av_base.proofs.ToldLemmas.{append_known-append, AppendsBefore-more, AppendsFront-start}
use Rattle.std.specs.declared.result.Result.{Result}
use Rattle.av_base.specs.declared.stop.Stop.{Stop}
use Rattle.av_base.specs.declared.stop.Stop.TheVariants.{NoMemory}
use Rattle.listings.specs.Listing.{Adds, Listed, Lists, Pouring, all_of}

-- one step more was taken, and what is held was perhaps written
pub one_more : {all_old : Option (List ℕ)} {text : List ℕ} (left more : List (List ℕ)) (written : Option (List ℕ)) (text_old text_new : List ℕ) (all_new : Option (List ℕ))
    → AppendsBefore all_old (append_known written text_old) text (concat left) → Adds left more text_old text_new → all_new ≡ append_known written text_new
    → AppendsBefore all_old all_new text (concat more)
one_more left more written text_old text_new all_new so_far adds same =
    AppendsBefore-more so_far all_new adds.piece (concat more) (ap concat adds.first) (same ∙ ap (append_known written) adds.added ∙ sym (append_known-append written text_old adds.piece))

-- where each step adds the line of a row
pub pieces_are : {Row : Type 0} (line_of : Row → List ℕ) (rows : List Row) → concat (map line_of rows) ≡ flat_map line_of rows
pieces_are line_of [] = refl
pieces_are line_of (row ∷ rows) = ap (λ (t : List ℕ). line_of row ++ t) (pieces_are line_of rows)

pub all_listed : {Row T : Type 0} (Are : List Row → Type 0) (line_of : Row → List ℕ) (rows : List Row) (old new : Pouring) (result : Result T Stop) → Are rows
    → Listed (concat (map line_of rows)) old new result → Lists Are line_of old new result
all_listed Are line_of rows old new result are listed =
    record { rows = rows; are = are; listed = subst (λ (t : List ℕ). Listed t old new result) (pieces_are line_of rows) listed }

-- memory ran out before anything was added,
pub none_added : {T : Type 0} (text : List ℕ) (old : Pouring) (result : Result T Stop) → result ≡ Err NoMemory → Listed text old old result
none_added {T} text old (Ok x) is = let no : ⊥ = cc in absurd no
none_added {T} text old (Err stop) is =
    let same : stop ≡ NoMemory = cc in
    record {
      whole = tt;
      front = AppendsFront-start (all_of old) text;
      held = λ sink. let no : ⊥ = cc in absurd no;
      sink_cause = λ sink. let no : ⊥ = cc in absurd no;
      sink_faults = omega arith;
      grows = Grows-refl old.written;
      no_shelf = λ shelf. cc;
    }

-- before the first line
pub none_listed : {Row T : Type 0} (Are : List Row → Type 0) (line_of : Row → List ℕ) (rows : List Row) (old : Pouring) (result : Result T Stop) → Are rows
    → result ≡ Err NoMemory → Lists Are line_of old old result
none_listed Are line_of rows old result are is = record { rows = rows; are = are; listed = none_added (flat_map line_of rows) old result is }
