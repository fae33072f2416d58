-- Where the row of one customer comes from, line by line, and that no line reads as a refusal.
use Rattle.std.proofs.Common.{◌≡◌, ℕ, ◌<◌, ◌≤◌, Bool, true, false, List, [], ◌∷◌, ◌++◌, suc, ◌+◌, length, drop, get_or, map, flat_map, Some, None, Ok, Err, OnOk, refl, sym, ap, subst, ◌∙◌, arith}
use Rattle.std.specs.FinMap as fin
use Rattle.std.specs.Io.KnownBytes.{append_known}
use Rattle.std.specs.List.{All, concat}
use Rattle.std.specs.declared.option.Option.{Option}
use Rattle.std.specs.declared.result.Result.{Result}
use Rattle.std.proofs.Math.Seq.{drop-cons}
use Rattle.std.proofs.lemmas.Grind.{flat_map-append}
use Rattle.std.proofs.lemmas.List.{append-nil, append_assoc}
use Rattle.std.proofs.lemmas.List.Elements.{All-append, All-cons, All-head, All-map, All-nil, All-tail}
use Rattle.av_base.specs.Told.{AppendsBefore, AppendsFront, Grows, Rose}
use Rattle.av_base.specs.declared.stop.Stop.{Stop}
use Rattle.av_base.proofs.PouringLemmas.{Grows-trans}
use Rattle.av_base.proofs.ToldLemmas.{AppendsBefore-more, AppendsFront-trans, append_known-append}
use Rattle.path_model.specs.Authority.{has}
use Rattle.path_model.specs.Name.{IsName}
use Rattle.attestations.specs.ComputedTable.{table_of}
use Rattle.attestations.specs.CurrentTable.{IsCurrentRow, Parts}
use Rattle.attestations.specs.Terms.{TermMap, members, terms_or_none}
use Rattle.attestations.specs.declared.term.Term.{Term}
use Rattle.attestations.proofs.PartsLemmas.{one_row, table_is_current}
use Rattle.report_text.specs.Attested.{current_line, with_lf}
use Rattle.report_text.specs.Laws.{IsAnswerLine}
use Rattle.report_text.specs.Reported.{lines_text}
use Rattle.report_text.specs.declared.attested.LocalPart.{LocalPart}
use Rattle.report_text.specs.declared.attested.LocalPart.TheVariants.{Hand, Slurm}
use Rattle.report_text.proofs.AttestedLemmas.{asserted_is_one_line, current_is_one_line, filtered_is_one_line, source_is_one_line}
use Rattle.listings.proofs.NamedSourceLemmas.{all_sources, sources_named}
use Rattle.listings.specs.AttestsOf.{named_sources, AreAttestsOf, asserted_lines, filtered_lines, local_lines, source_lines, term_line}
use Rattle.listings.specs.EachAttests.{lines_at, sources_text, term_pieces, text_at}
use Rattle.listings.specs.Listing.{Listed, Lists, Pouring, all_of}
use Rattle.listings.specs.declared.attests_of.LocalLine.{LocalLine}
use Rattle.listings.specs.declared.attests_of.LocalLine.TheVariants.{Asserted, Filtered, Row}

abbrev Source : Type 0
Source = List ℕ × TermMap

-- ---- two texts, one behind the other

pub front_longer : {old new : Option (List ℕ)} {one : List ℕ} (other : List ℕ) → AppendsFront old new one → AppendsFront old new (one ++ other)
front_longer {old} {new} {one} other front = record {
  rest = front.rest ++ other;
  before = record {
    front = front.before.front;
    whole = ap (λ (t : List ℕ). t ++ other) front.before.whole ∙ append_assoc front.before.front front.rest other;
    told = front.before.told;
  };
}

whole_then : {T : Type 0} (old mid new : Option (List ℕ)) (one other : List ℕ) (result : Result T Stop) → mid ≡ append_known old one → OnOk result (new ≡ append_known mid other)
    → OnOk result (new ≡ append_known old (one ++ other))
whole_then old mid new one other (Ok x) first second = second ∙ ap (λ (o : Option (List ℕ)). append_known o other) first ∙ append_known-append old one other
whole_then old mid new one other (Err e) first second = tt

rose_before : (a b c : ℕ) → a ≤ b → Rose b c → Rose a c
rose_before a b c later rose = omega (arith, later, rose)

pub then_listed : {T : Type 0} {old mid new : Pouring} {result : Result T Stop} (one other : List ℕ) → all_of mid ≡ append_known (all_of old) one → old.faults ≤ mid.faults
    → Grows old.written mid.written → Listed other mid new result → Listed (one ++ other) old new result
then_listed {T} {old} {mid} {new} {result} one other first faults grows second = record {
  whole = whole_then (all_of old) (all_of mid) (all_of new) one other result first second.whole;
  front = AppendsFront-trans {text = one ++ other} {piece = other} []
      record { front = one; whole = ap (λ (t : List ℕ). one ++ t) (sym (append-nil other)); told = first } second.front;
  held = second.held;
  sink_cause = λ sink. rose_before old.faults mid.faults new.faults faults (second.sink_cause sink);
  sink_faults = omega (arith, faults, second.sink_faults);
  grows = Grows-trans grows second.grows;
  no_shelf = second.no_shelf;
}

-- ---- sources

module _ (moment customer : ℕ) where
  term_texts : (name : List ℕ) (terms : List Term) → flat_map with_lf (map (term_line moment name) terms) ≡ concat (term_pieces moment name terms)
  term_texts name [] = refl
  term_texts name (term ∷ terms) = ap (λ (t : List ℕ). with_lf (term_line moment name term) ++ t) (term_texts name terms)

  -- all lines of a source
  pub source_listed : {T : Type 0} (source : Source) (terms : List Term) (old new : Pouring) (result : Result T Stop) → terms ≡ members (terms_or_none (fin.get source.1 customer))
      → Listed (concat (term_pieces moment source.0 terms)) old new result → Listed (flat_map with_lf (source_lines moment customer source)) old new result
  source_listed {T} source terms old new result is listed =
      subst (λ (t : List ℕ). Listed t old new result) (sym (term_texts source.0 terms) ∙ ap (λ (ts : List Term). flat_map with_lf (map (term_line moment source.0) ts)) is) listed

  -- those of the next source come first
  first_source : (sources : List Source) (i : ℕ) (source : Source) → i < length sources → get_or sources i source ≡ source
      → sources_text moment customer (drop i sources) ≡ flat_map with_lf (source_lines moment customer source) ++ sources_text moment customer (drop (i + 1) sources)
  first_source sources i source within is =
      let next : suc i ≡ i + 1 = omega arith in
      let rest : drop i sources ≡ source ∷ drop (i + 1) sources = drop-cons sources i source within ∙ (λ j. is j ∷ drop (next j) sources) in
      ap (sources_text moment customer) rest
      ∙ flat_map-append with_lf (source_lines moment customer source) (flat_map (source_lines moment customer) (drop (i + 1) sources))

  pub source_added : {old mid : Option (List ℕ)} {text : List ℕ} (new : Option (List ℕ)) (sources : List Source) (i : ℕ) (source : Source)
      → AppendsBefore old mid text (sources_text moment customer (drop i sources)) → i < length sources → get_or sources i source ≡ source
      → new ≡ append_known mid (flat_map with_lf (source_lines moment customer source)) → AppendsBefore old new text (sources_text moment customer (drop (i + 1) sources))
  source_added new sources i source so_far within is added =
      AppendsBefore-more so_far new (flat_map with_lf (source_lines moment customer source)) (sources_text moment customer (drop (i + 1) sources)) (first_source sources i source within is) added

  pub source_front : {old mid new : Option (List ℕ)} {text : List ℕ} (sources : List Source) (i : ℕ) (source : Source)
      → AppendsBefore old mid text (sources_text moment customer (drop i sources)) → i < length sources → get_or sources i source ≡ source
      → AppendsFront mid new (flat_map with_lf (source_lines moment customer source)) → AppendsFront old new text
  source_front {old} {mid} {new} {text} sources i source so_far within is front =
      AppendsFront-trans (sources_text moment customer (drop (i + 1) sources)) (subst (λ (t : List ℕ). AppendsBefore old mid text t) (first_source sources i source within is) so_far) front

-- ---- what stands behind them

abbrev pub all_local : List LocalLine
all_local = Asserted Slurm ∷ Asserted Hand ∷ Filtered Slurm ∷ Filtered Hand ∷ Row ∷ []

module _ (parts : Parts) (customer : ℕ) where
  abbrev Lines : Type 0
  Lines = List (List ℕ)

  -- the current row is read off the table
  pub row_put : {T E : Type 0} (line : LocalLine) (row : Option (List ℕ)) (old new : List ℕ) (result : Result T E) → line ≡ Row → IsCurrentRow parts customer row
      → OnOk result (new ≡ old ++ with_lf (current_line row)) → OnOk result (new ≡ old ++ text_at parts customer line)
  row_put line row old new (Err e) is current done = tt
  row_put line row old new (Ok x) is current done =
      let same : row ≡ table_of parts customer = one_row parts customer row (table_of parts customer) current (table_is_current parts customer) in
      done ∙ ap (λ (o : Option (List ℕ)). old ++ with_lf (current_line o)) same
      ∙ ap (λ (t : List ℕ). old ++ t) (sym (append-nil (with_lf (current_line (table_of parts customer)))))
      ∙ sym (ap (λ (l : LocalLine). old ++ text_at parts customer l) is)

  five : (a b c d e : List ℕ) → a ++ (b ++ (c ++ (d ++ (e ++ [])))) ≡ (((a ++ b) ++ c) ++ d) ++ e
  five a b c d e = simp (append_assoc, append-nil) refl

  five_texts : (a b c d e : Lines) → flat_map with_lf ((((a ++ b) ++ c) ++ d) ++ e)
      ≡ (((flat_map with_lf a ++ flat_map with_lf b) ++ flat_map with_lf c) ++ flat_map with_lf d) ++ flat_map with_lf e
  five_texts a b c d e =
      flat_map-append with_lf (((a ++ b) ++ c) ++ d) e
      ∙ ap (λ (t : List ℕ). t ++ flat_map with_lf e) (flat_map-append with_lf ((a ++ b) ++ c) d
      ∙ ap (λ (t : List ℕ). t ++ flat_map with_lf d) (flat_map-append with_lf (a ++ b) c
      ∙ ap (λ (t : List ℕ). t ++ flat_map with_lf c) (flat_map-append with_lf a b)))

  local_text : concat (map (text_at parts customer) all_local) ≡ flat_map with_lf (local_lines parts customer ++ current_line (table_of parts customer) ∷ [])
  local_text =
      let told : LocalLine → Lines = lines_at parts customer in
      five (flat_map with_lf (told (Asserted Slurm))) (flat_map with_lf (told (Asserted Hand))) (flat_map with_lf (told (Filtered Slurm))) (flat_map with_lf (told (Filtered Hand))) (flat_map with_lf (told Row))
      ∙ sym (five_texts (told (Asserted Slurm)) (told (Asserted Hand)) (told (Filtered Slurm)) (told (Filtered Hand)) (told Row))

  whole_text : sources_text parts.moment customer parts.sources ++ concat (map (text_at parts customer) all_local)
      ≡ flat_map with_lf (flat_map (source_lines parts.moment customer) parts.sources ++ local_lines parts customer ++ current_line (table_of parts customer) ∷ [])
  whole_text =
      let sources = flat_map (source_lines parts.moment customer) parts.sources in
      let behind = local_lines parts customer ++ current_line (table_of parts customer) ∷ [] in
      ap (λ (t : List ℕ). flat_map with_lf sources ++ t) local_text
      ∙ sym (flat_map-append with_lf sources behind)
      ∙ ap (flat_map with_lf) (sym (append_assoc sources (local_lines parts customer) (current_line (table_of parts customer) ∷ [])))

  pub attests_of_listed : {T : Type 0} (old new : Pouring) (result : Result T Stop) → All (λ source. IsName source.0) parts.sources
      → Listed (sources_text parts.moment customer parts.sources ++ concat (map (text_at parts customer) all_local)) old new result → Lists (AreAttestsOf parts customer) with_lf old new result
  attests_of_listed {T} old new result names listed = record {
    rows = flat_map (source_lines parts.moment customer) parts.sources ++ local_lines parts customer ++ current_line (table_of parts customer) ∷ [];
    are = record {
      table = table_of parts;
      current = table_is_current parts;
      listed = ap (λ (s : List Source). flat_map (source_lines parts.moment customer) s ++ local_lines parts customer ++ current_line (table_of parts customer) ∷ []) (sym (all_sources parts.sources names));
    };
    listed = subst (λ (t : List ℕ). Listed t old new result) whole_text listed;
  }

  pub sources_same : (moment : ℕ) (sources : List Source) → moment ≡ parts.moment → sources ≡ parts.sources → sources_text moment customer sources ≡ sources_text parts.moment customer parts.sources
  sources_same moment sources same_moment same_sources = λ i. sources_text (same_moment i) customer (same_sources i)

-- ---- lines

pub attests_of_are_lines : (lines : List (List ℕ)) → flat_map with_lf lines ≡ lines_text lines
attests_of_are_lines [] = refl
attests_of_are_lines (line ∷ lines) = ap (λ (t : List ℕ). with_lf line ++ t) (attests_of_are_lines lines)

source_answers : (moment customer : ℕ) (source : Source) → IsName source.0 → All IsAnswerLine (source_lines moment customer source)
source_answers moment customer source is =
    All-map IsAnswerLine (term_line moment source.0) (members (terms_or_none (fin.get source.1 customer))) (λ k term within. source_is_one_line source.0 _ _ _ is)

sources_answer : (moment customer : ℕ) (sources : List Source) → All (λ source. IsName source.0) sources → All IsAnswerLine (flat_map (source_lines moment customer) sources)
sources_answer moment customer [] names = All-nil IsAnswerLine
sources_answer moment customer (source ∷ sources) names =
    All-append IsAnswerLine (source_lines moment customer source) (flat_map (source_lines moment customer) sources)
    (source_answers moment customer source (All-head (λ s. IsName s.0) source sources names))
    (sources_answer moment customer sources (All-tail (λ s. IsName s.0) source sources names))

asserted_answers : (part : LocalPart) (row : Option (List ℕ)) → All IsAnswerLine (asserted_lines part row)
asserted_answers part None = All-nil IsAnswerLine
asserted_answers part (Some row) = All-cons IsAnswerLine _ [] (asserted_is_one_line part row) (All-nil IsAnswerLine)

filtered_answers : (part : LocalPart) (filtered : Bool) → All IsAnswerLine (filtered_lines part filtered)
filtered_answers part false = All-nil IsAnswerLine
filtered_answers part true = All-cons IsAnswerLine _ [] (filtered_is_one_line part) (All-nil IsAnswerLine)

local_answers : (parts : Parts) (customer : ℕ) → All IsAnswerLine (local_lines parts customer)
local_answers parts customer =
    let slurm = asserted_lines Slurm (fin.get parts.slurm_assertions customer) in
    let hand = asserted_lines Hand (fin.get parts.assertions customer) in
    let by_slurm = filtered_lines Slurm (has parts.slurm_filters customer) in
    let by_hand = filtered_lines Hand (has parts.filters customer) in
    All-append IsAnswerLine ((slurm ++ hand) ++ by_slurm) by_hand
    (All-append IsAnswerLine (slurm ++ hand) by_slurm
    (All-append IsAnswerLine slurm hand (asserted_answers Slurm (fin.get parts.slurm_assertions customer)) (asserted_answers Hand (fin.get parts.assertions customer)))
    (filtered_answers Slurm (has parts.slurm_filters customer))) (filtered_answers Hand (has parts.filters customer))

pub attests_of_answer : (parts : Parts) (customer : ℕ) (lines : List (List ℕ)) → AreAttestsOf parts customer lines → All IsAnswerLine lines
attests_of_answer parts customer lines are =
    let sources = flat_map (source_lines parts.moment customer) (named_sources parts.sources) in
    subst (All IsAnswerLine) (sym are.listed)
    (All-append IsAnswerLine (sources ++ local_lines parts customer) (current_line (are.table customer) ∷ [])
    (All-append IsAnswerLine sources (local_lines parts customer) (sources_answer parts.moment customer (named_sources parts.sources) (sources_named parts.sources)) (local_answers parts customer))
    (All-cons IsAnswerLine _ [] (current_is_one_line (are.table customer)) (All-nil IsAnswerLine)))
