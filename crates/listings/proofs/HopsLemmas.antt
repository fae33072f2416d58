-- Hops that are listed line by line, and that none reads as a refusal.
use Rattle.std.proofs.Common.{◌≡◌, ℕ, ◌+◌, ◌-◌, ◌<◌, ◌≤◌, suc, Bool, true, false, if◌then◌else◌, List, [], ◌∷◌, ◌++◌, length, map, flat_map, Err, refl, sym, ap, subst, ◌∙◌, arith}
use Rattle.std.specs.List.{All, concat, range_with_len}
use Rattle.std.specs.Io.KnownBytes.{append_known}
use Rattle.std.specs.declared.option.Option.{Option}
use Rattle.std.specs.declared.result.Result.{Result}
use Rattle.std.proofs.lemmas.List.Elements.{All-map}
use Rattle.av_base.specs.declared.stop.Stop.{Stop}
use Rattle.av_base.specs.declared.stop.Stop.TheVariants.{NoMemory}
use Rattle.av_base.proofs.PouringLemmas.{Grows-refl}
use Rattle.av_base.proofs.ToldLemmas.{append_known-append}
use Rattle.path_model.specs.declared.verdict.Verdict.{Verdict}
use Rattle.path_model.specs.declared.witness.Witness.{Witness}
use Rattle.path_model.specs.Authority.{Table}
use Rattle.path_model.specs.Trail.{Path}
use Rattle.report_text.specs.declared.hop.Hop.{Hop}
use Rattle.report_text.specs.Hops.{hop_line}
use Rattle.report_text.specs.Laws.{IsAnswerLine}
use Rattle.report_text.specs.Reported.{lines_text}
use Rattle.report_text.specs.Why.{why_text}
use Rattle.report_text.proofs.AttestedLemmas.{hop_is_one_line}
use Rattle.listings.specs.EachHop.{pieces_from}
use Rattle.listings.specs.Hops.{AreHops, explained_text, hop_at, hop_row, hops_of}
use Rattle.listings.specs.Listing.{Listed, Lists, Pouring}
use Rattle.listings.proofs.ListingLemmas.{all_listed, none_added}
use Rattle.listings.proofs.AttestsOfLemmas.{then_listed}

-- ---- line by line

-- the hop that begins at a place comes first
pub first_hop : (table : Table) (chain : List ℕ) (place : ℕ) → place + 1 < length chain → pieces_from table chain place ≡ hop_row (hop_at table chain place) ∷ pieces_from table chain (place + 1)
first_hop table chain place more =
    let left : length chain - (place + 1) ≡ suc (length chain - (place + 1 + 1)) = omega (arith, more) in
    ap (λ (n : ℕ). map hop_row (map (hop_at table chain) (range_with_len place n))) left

-- and at the end none
pub no_hop : (table : Table) (chain : List ℕ) (place : ℕ) → length chain ≤ place + 1 → pieces_from table chain place ≡ []
no_hop table chain place end =
    let left : length chain - (place + 1) ≡ 0 = omega (arith, end) in
    ap (λ (n : ℕ). map hop_row (map (hop_at table chain) (range_with_len place n))) left

-- what is listed: all hops, or none
chosen : (table : Table) (set : Bool) (chain : List ℕ) → hops_of table (if set then [] else chain) ≡ (if set then [] else hops_of table chain)
chosen table true chain = refl
chosen table false chain = refl

pub hops_listed : {T : Type 0} (table : Table) (path : Path) (chain : List ℕ) (old new : Pouring) (result : Result T Stop) → chain ≡ (if path.set then [] else path.chain)
    → Listed (concat (pieces_from table chain 0)) old new result → Lists (AreHops table path) hop_row old new result
hops_listed {T} table path chain old new result is listed =
    all_listed (AreHops table path) hop_row (hops_of table chain) old new result (ap (hops_of table) is ∙ chosen table path.set path.chain) listed

-- ---- lines

pub hops_are_lines : (hops : List Hop) → flat_map hop_row hops ≡ lines_text (map hop_line hops)
hops_are_lines [] = refl
hops_are_lines (hop ∷ hops) = ap (λ (t : List ℕ). hop_row hop ++ t) (hops_are_lines hops)

pub hops_answer : (hops : List Hop) → All IsAnswerLine (map hop_line hops)
hops_answer hops = All-map IsAnswerLine hop_line hops (λ k hop within. hop_is_one_line _)

-- ---- the text that explains a path

-- its first line, and then the hops
pub explained_listed : {T : Type 0} (table : Table) (path : Path) (verdict : Verdict) (witness : Witness) (written : Option (List ℕ)) (faults : ℕ) (text_old text_mid : List ℕ) (new : Pouring)
    (result : Result T Stop) → text_mid ≡ text_old ++ why_text verdict witness
    → Lists (AreHops table path) hop_row (record { written = written; faults = faults; held = text_mid }) new result
    → Listed (explained_text table path verdict witness) (record { written = written; faults = faults; held = text_old }) new result
explained_listed {T} table path verdict witness written faults text_old text_mid new result added lists =
    let first = why_text verdict witness in
    let old : Pouring = record { written = written; faults = faults; held = text_old } in
    let mid : Pouring = record { written = written; faults = faults; held = text_mid } in
    subst (λ (hops : List Hop). Listed (first ++ flat_map hop_row hops) old new result) lists.are
    (then_listed {mid = mid} first (flat_map hop_row lists.rows) (ap (append_known written) added ∙ sym (append_known-append written text_old first)) (omega arith) (Grows-refl written) lists.listed)

-- where that isn't added, nothing is
pub explained_stopped : {T : Type 0} (text : List ℕ) (written : Option (List ℕ)) (faults : ℕ) (text_old text_new : List ℕ) (result : Result T Stop) → text_new ≡ text_old → result ≡ Err NoMemory
    → Listed text (record { written = written; faults = faults; held = text_old }) (record { written = written; faults = faults; held = text_new }) result
explained_stopped {T} text written faults text_old text_new result same is =
    let old : Pouring = record { written = written; faults = faults; held = text_old } in
    subst (λ (held : List ℕ). Listed text old (record { written = written; faults = faults; held = held }) result) (sym same) (none_added text old result is)
