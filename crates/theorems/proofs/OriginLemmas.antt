-- The states of origins are those by the union of all that is held.
use Rattle.std.proofs.Common.{◌≡◌, ℕ, Bool, true, false, cond, inl, inr, List, [], ◌∷◌, None, Some, Ok, refl, sym, ap, subst, ◌∙◌}
use Rattle.std.specs.FinMap as fin
use Rattle.std.specs.BTreeMap.{is_at}
use Rattle.std.specs.Cmp.{eq_by_cmp_equiv}
use Rattle.std.specs.Cmp.Lexicographic.{nat_list_cmp_total, slice_cmp, texts_ties}
use Rattle.std.specs.List.{AllByRecursion, AllZip}
use Rattle.std.specs.List.Sorted.{IsStrictlySortedBy}
use Rattle.std.specs.Map.{keys_of}
use Rattle.std.specs.Ordering.{is_eq, nat_cmp}
use Rattle.std.specs.declared.cmp.Ordering.{Ordering}
use Rattle.std.specs.declared.cmp.Ordering.TheVariants.{Less}
use Rattle.std.specs.declared.option.Option.{Option}
use Rattle.std.specs.declared.result.Result.{Result}
use Rattle.std.proofs.lemmas.Map.Keys.{sorted_head, sorted_tail}
use Rattle.path_model.specs.declared.key.Key.{Key}
use Rattle.path_model.specs.Prefix.{Subnet}
use Rattle.path_model.specs.Trail.{Path}
use Rattle.origin_model.specs.declared.origin_state.OriginState.{OriginState}
use Rattle.origin_model.specs.declared.origin_state.OriginState.TheVariants.{Valid, Invalid, NotFound}
use Rattle.origin_model.specs.Current.{IsCurrent, IsGiven, Parts, no_parts}
use Rattle.origin_model.specs.declared.prefix_filter.PrefixFilter.{PrefixFilter}
use Rattle.origin_model.specs.OriginState.{HasState}
use Rattle.origin_model.specs.Vrp.{Payload}
use Rattle.origin_model.specs.VrpSet.{has}
use Rattle.origin_validation.specs.Records.{source_of, with_source}
use Rattle.sorted_map.proofs.BlockLemmas.{sorted_inserted}
use Rattle.script_lines.specs.declared.commands.Command.{Command}
use Rattle.script_lines.specs.declared.commands.Command.TheVariants.{Origins as OriginsLine}
use Rattle.script_lines.specs.declared.fault.LineFault.{LineFault}
use Rattle.script_lines.proofs.LawLemmas.{IsReading-unique}
use Rattle.origin_validation.specs.Rows.{AreRowsOf}
use Rattle.origin_validation.proofs.RowLemmas.{has_one_list}
use Rattle.rtr_client.proofs.NamedLemmas.{is_same}
use Rattle.rtr_client.proofs.SourceLemmas.{source_itself, source_other}
use Rattle.rtr_client.proofs.TiedLemmas.{feeds_are_tied}
use Rattle.aspa_top.specs.Evaluation.{Does, Evaluates, counted}
use Rattle.aspa_top.specs.Tasks.{State, feeds_of, start}
use Rattle.aspa_top.specs.World.{World}
use Rattle.aspa_top.proofs.TiedLemmas.{sources_have_feeds_payloads}
use Rattle.theorems.specs.Origins.{AllMake, AreNamed, AreValidated, Change, IsAmong, IsInUnion, IsOfSource, IsPut, IsRowByUnion, Makes, OriginsAreByTheUnion, Patch, Put, Slurm}

-- ---- sources by their names

abbrev Named : Type 0
Named = List (List ℕ × List Payload)

abbrev name_cmp : List ℕ → List ℕ → Ordering
name_cmp = slice_cmp nat_cmp

missing : (name : List ℕ) (sources : Named) → AllByRecursion (λ other. name_cmp name other ≡ Less) (keys_of sources) → source_of sources name ≡ None
missing name [] above = refl
missing name (s ∷ sources) above = ap (λ o. cond (is_eq o) (Some s.1) (source_of sources name)) above.0 ∙ missing name sources above.1

-- what is found behind a first source is found behind it too
found_behind : (s : List ℕ × List Payload) (sources : Named) (name : List ℕ) (payloads : List Payload) → IsStrictlySortedBy name_cmp (keys_of (s ∷ sources)) → source_of sources name ≡ Some payloads
    → source_of (s ∷ sources) name ≡ Some payloads
found_behind s sources name payloads sorted found = by_test (is_at (name_cmp name) s.0) refl where
  by_test : (b : Bool) → is_at (name_cmp name) s.0 ≡ b → source_of (s ∷ sources) name ≡ Some payloads
  by_test true test =
      let same : name ≡ s.0 = is_same name s.0 (texts_ties name s.0 ∙ test) in
      let gone : source_of sources name ≡ None = ap (source_of sources) same ∙ missing s.0 sources (sorted_head name_cmp s.0 (keys_of sources) sorted) in
      let never : Some payloads ≡ None = sym found ∙ gone in
      absurd (let no : ⊥ = cc in no)
  by_test false test = ap (λ b. cond b (Some s.1) (source_of sources name)) test ∙ found

found_first : (s : List ℕ × List Payload) (sources : Named) → source_of (s ∷ sources) s.0 ≡ Some s.1
found_first s sources = ap (λ b. cond b (Some s.1) (source_of sources s.0)) ((eq_by_cmp_equiv nat_list_cmp_total).refl s.0)

-- what is there is found by its name
found_there : (sources : Named) (source : List ℕ × List Payload) → IsStrictlySortedBy name_cmp (keys_of sources) → IsAmong sources source → source_of sources source.0 ≡ Some source.1
found_there [] source sorted there = absurd there
found_there (s ∷ sources) source sorted (inl here) = subst (λ (e : List ℕ × List Payload). source_of (s ∷ sources) e.0 ≡ Some e.1) here (found_first s sources)
found_there (s ∷ sources) source sorted (inr behind) =
    found_behind s sources source.0 source.1 sorted (found_there sources source (sorted_tail name_cmp s.0 (keys_of sources) sorted) behind)

-- and what is found is there
record Found (sources : Named) (payloads : List Payload) : Type 0 where
  source : List ℕ × List Payload
  there : IsAmong sources source
  its : source.1 ≡ payloads

is_found : (sources : Named) (name : List ℕ) (payloads : List Payload) → source_of sources name ≡ Some payloads → Found sources payloads
is_found [] name payloads found = absurd (let no : ⊥ = cc in no)
is_found (s ∷ sources) name payloads found = by_test (is_at (name_cmp name) s.0) refl (is_found sources name payloads) where
  by_test : (b : Bool) → is_at (name_cmp name) s.0 ≡ b → (source_of sources name ≡ Some payloads → Found sources payloads) → Found (s ∷ sources) payloads
  by_test true test behind =
      let here : Some s.1 ≡ Some payloads = sym (ap (λ b. cond b (Some s.1) (source_of sources name)) test) ∙ found in
      let same : s.1 ≡ payloads = cc in
      record { source = s; there = inl refl; its = same }
  by_test false test behind =
      let more = behind (sym (ap (λ b. cond b (Some s.1) (source_of sources name)) test) ∙ found) in
      record { source = more.source; there = inr more.there; its = more.its }

-- ---- the union

-- what is given is of some source
given_by : (sources : Named) (filters : List PrefixFilter) (assertions : List Payload) (v : Payload) → IsGiven sources v → IsOfSource (record { sources = sources; filters = filters; assertions = assertions }) v
given_by [] filters assertions v given = absurd given
given_by (s ∷ sources) filters assertions v (inl here) = record { source = s; there = inl refl; among = here }
given_by (s ∷ sources) filters assertions v (inr behind) =
    let more = given_by sources filters assertions v behind in
    record { source = more.source; there = inr more.there; among = more.among }

gives : (sources : Named) (source : List ℕ × List Payload) (v : Payload) → IsAmong sources source → has source.1 v ≡ true → IsGiven sources v
gives [] source v there among = absurd there
gives (s ∷ sources) source v (inl here) among = inl (ap (λ (e : List ℕ × List Payload). has e.1 v) here ∙ among)
gives (s ∷ sources) source v (inr behind) among = inr (gives sources source v behind among)

module _ (parts : Parts) where
  to_union : (v : Payload) → IsCurrent parts v → IsInUnion parts v
  to_union v (inl (given, unhit)) = inl (given_by parts.sources parts.filters parts.assertions v given, unhit)
  to_union v (inr asserted) = inr asserted

  of_union : (v : Payload) → IsInUnion parts v → IsCurrent parts v
  of_union v (inl (of, unhit)) = inl (gives parts.sources of.source v of.there of.among, unhit)
  of_union v (inr asserted) = inr asserted

-- payloads that are the same give the same state
state_by : (Is Also : Payload → Type 0) → ((v : Payload) → Is v → Also v) → ((v : Payload) → Also v → Is v) → (prefix : Subnet) (origin : Option ℕ) (state : OriginState)
    → HasState Is prefix origin state → HasState Also prefix origin state
state_by Is Also to back prefix origin Valid state = record { payload = state.payload; is = to state.payload state.is; matches = state.matches }
state_by Is Also to back prefix origin Invalid state = (
  λ m. state.0 (record { payload = m.payload; is = back m.payload m.is; matches = m.matches }),
  record { payload = state.1.payload; is = to state.1.payload state.1.is; covers = state.1.covers },
)
state_by Is Also to back prefix origin NotFound state = λ c. state (record { payload = c.payload; is = back c.payload c.is; covers = c.covers })

module _ (parts : Parts) where
  to_rows : (routes : List (Key × Path)) (rows : List (Key × OriginState)) → AreRowsOf parts routes rows → AllZip (IsRowByUnion parts) routes rows
  to_rows [] [] are = tt
  to_rows [] (row ∷ rows) are = absurd are
  to_rows (route ∷ routes) [] are = absurd are
  to_rows (route ∷ routes) (row ∷ rows) are = (
    record { key = are.0.key; state = state_by (IsCurrent parts) (IsInUnion parts) (to_union parts) (of_union parts) _ _ row.1 are.0.state },
    to_rows routes rows are.1,
  )

  of_rows : (routes : List (Key × Path)) (rows : List (Key × OriginState)) → AllZip (IsRowByUnion parts) routes rows → AreRowsOf parts routes rows
  of_rows [] [] are = tt
  of_rows [] (row ∷ rows) are = absurd are
  of_rows (route ∷ routes) [] are = absurd are
  of_rows (route ∷ routes) (row ∷ rows) are = (
    record { key = are.0.key; state = state_by (IsInUnion parts) (IsCurrent parts) (of_union parts) (to_union parts) _ _ row.1 are.0.state },
    of_rows routes rows are.1,
  )

-- ---- behind lines

validated : (world : World) (lines : List (List ℕ)) (text : List ℕ) (end : State) → Evaluates world (start world) lines text end → AreValidated end
validated world lines text end evaluates =
    let routes = fin.entries end.analysis.routes in
    let one = has_one_list end.analysis.routes end.origins in
    let tied = feeds_are_tied.ready (feeds_of end) (sources_have_feeds_payloads world lines text end evaluates) in
    record {
      rows = record {
        one = one.one;
        is = to_rows end.origins routes one.one one.is;
        only = λ other are. one.only other (of_rows end.origins routes other are);
      };
      lists = λ w line own next performs reads.
          let same = IsReading-unique line performs.reading (Ok OriginsLine) performs.reads reads in
          let does = subst (λ (r : Result Command LineFault). Does w (counted end) r own next) same performs.does in
          record { rows = does.0.rows; are = to_rows end.origins routes does.0.rows does.0.are; text_is = does.0.text_is };
      feeds = tied;
      of_feeds = λ name feed v there ready among.
          let found = is_found end.origins.sources name feed.session.payloads (tied name feed there ready) in
          record { source = found.source; there = found.there; among = ap (λ (ps : List Payload). has ps v) found.its ∙ among };
    }

-- ---- behind changes

abbrev Sorted : Parts → Type 0
Sorted parts = IsStrictlySortedBy name_cmp (keys_of parts.sources)

put_sorted : (parts : Parts) (name : List ℕ) (payloads : List Payload) → Sorted parts → Sorted (with_source parts name payloads)
put_sorted parts name payloads sorted = sorted_inserted nat_list_cmp_total name payloads parts.sources sorted

change_sorted : (change : Change) (old new : Parts) → Sorted old → Makes change old new → Sorted new
change_sorted (Put name payloads) old new sorted is = subst Sorted (sym is) (put_sorted old name payloads sorted)
change_sorted (Patch name changes) old new sorted patches = subst Sorted (sym patches.puts) (put_sorted old name patches.payloads sorted)
change_sorted (Slurm filters assertions) old new sorted is = subst Sorted (sym is) sorted

all_sorted : (changes : List Change) (old new : Parts) → Sorted old → AllMake changes old new → Sorted new
all_sorted [] old new sorted is = subst Sorted (sym is) sorted
all_sorted (change ∷ more) old new sorted all = all_sorted more all.0 new (change_sorted change old all.0 sorted all.1) all.2

none_sorted : Sorted no_parts
unfolding IsStrictlySortedBy
none_sorted = tt

are_named : (changes : List Change) (parts : Parts) → AllMake changes no_parts parts → AreNamed parts
are_named changes parts all =
    let sorted = all_sorted changes no_parts parts none_sorted all in
    record {
      sorted = sorted;
      each = λ v. (
        λ of. (of.source.0, of.source.1, found_there parts.sources of.source sorted of.there, of.among),
        λ by.
            let found = is_found parts.sources by.0 by.1 by.2 in
            record { source = found.source; there = found.there; among = ap (λ (ps : List Payload). has ps v) found.its ∙ by.3 },
      );
    }

is_put : (name : List ℕ) (payloads : List Payload) (old : Parts) → IsPut name payloads old (with_source old name payloads)
is_put name payloads old = record {
  its = source_itself name payloads old.sources;
  others = λ other differ. source_other name payloads other differ old.sources;
  filters = refl;
  assertions = refl;
}

pub origins_are_by_the_union : OriginsAreByTheUnion
origins_are_by_the_union = record { behind = validated; named = are_named; puts = is_put }
