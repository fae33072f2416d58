-- A question has one answer, of lines that read as no refusal. Each question has a clause in `one_answer` and in `answer_lines`.
use Rattle.std.proofs.Common.{◌≡◌, ℕ, ◌+◌, List, [], ◌∷◌, ◌++◌, map, flat_map, refl, sym, ap, subst, ◌∙◌, append_assoc, append-nil, cond, Bool, zero-add}
use Rattle.std.specs.FinMap as fin
use Rattle.std.specs.List.{All}
use Rattle.std.specs.Option.{unwrap_or}
use Rattle.std.specs.declared.option.Option.{Option}
use Rattle.std.specs.declared.option.Option.TheVariants.{Some, None}
use Rattle.std.proofs.lemmas.List.Elements.{All-cons, All-head, All-nil, All-tail}
use Rattle.av_base.specs.One.{HasOne}
use Rattle.path_model.specs.declared.key.Key.{Key}
use Rattle.path_model.specs.declared.verdict.Verdict.{Verdict}
use Rattle.path_model.specs.declared.witness.Witness.{Witness}
use Rattle.path_model.specs.Authority.{Table}
use Rattle.attestations.specs.ComputedTable.{table_of}
use Rattle.path_model.specs.PrintedWitness.{IsPrinted}
use Rattle.path_model.specs.Roles.{role_of}
use Rattle.path_model.specs.Trail.{Path}
use Rattle.path_model.proofs.LawLemmas.{one_printed}
use Rattle.attestations.proofs.PartsLemmas.{table_is_current, parts_have_one_table}
use Rattle.path_model.proofs.WitnessLemmas.{printed_facts}
use Rattle.origin_validation.proofs.RowLemmas.{has_one_list}
use Rattle.listings.specs.Origins.{origin_row}
use Rattle.origin_validation.specs.Rows.{AreOriginRows}
use Rattle.listings.proofs.OriginsLemmas.{line_of as origin_line_of, rows_answer as origins_answer, rows_are_lines as origins_are_lines}
use Rattle.report_text.specs.declared.cause.Cause.{Cause}
use Rattle.report_text.specs.Laws.{IsAnswerLine}
use Rattle.report_text.specs.Reported.{lines_text}
use Rattle.report_text.specs.PeerSummaries.{peer_summary_line}
use Rattle.report_text.specs.Summary.{summary_line, summary_text}
use Rattle.report_text.specs.Why.{why_line, why_text}
use Rattle.report_text.proofs.AnswerLemmas.{summary_is_one_line, reason_is_one_line}
use Rattle.rib_store.specs.Shown.{IsExplained}
use Rattle.rib_store.specs.State.{AreRows, State as Analysis}
use Rattle.rib_store.proofs.ReportLemmas.{has_one_report}
use Rattle.stream_lines.specs.Counts.{refusals_in}
use Rattle.listings.specs.Leaks.{AreLeaks, leak_row}
use Rattle.listings.specs.Rows.{row_of}
use Rattle.listings.proofs.LeaksLemmas.{leak_line_of, leaks_answer, leaks_are_lines, one_list_of_leaks}
use Rattle.stream_lines.proofs.RefusalLemmas.{lacks, refusals_in-line}
use Rattle.listings.proofs.ReportedLemmas.{line_of, rows_answer, rows_are_lines}
use Rattle.listings.proofs.SummaryLemmas.{some_summary, one_summary}
use Rattle.report_text.specs.Attested.{with_lf}
use Rattle.report_text.specs.Hops.{hop_line}
use Rattle.report_text.specs.Neighbours.{neighbour_line}
use Rattle.listings.specs.Attests.{AreAttested, attested_row}
use Rattle.listings.specs.AttestsOf.{AreAttestsOf}
use Rattle.listings.specs.Details.{AreDetails, detail_row}
use Rattle.listings.specs.Hops.{explained_text, path_hops}
use Rattle.listings.specs.Neighbours.{AreNeighboursOf, neighbour_row}
use Rattle.listings.specs.Silent.{AreSilent, silent_row}
use Rattle.listings.proofs.AttestsLemmas.{attests_answer, attests_are_lines, line_of_row}
use Rattle.listings.proofs.AttestsOfLemmas.{attests_of_answer, attests_of_are_lines}
use Rattle.listings.proofs.AttestedListLemmas.{one_list_of_attests, one_list_of_attests_of}
use Rattle.listings.proofs.HopsLemmas.{hops_answer, hops_are_lines}
use Rattle.listings.proofs.NeighbourLemmas.{neighbours_answer, neighbours_are_lines}
use Rattle.listings.proofs.BesideLemmas.{one_list_of_neighbours}
use Rattle.listings.specs.Sent.{SentRow, sent_row}
use Rattle.listings.proofs.SentLemmas.{sent_answer, sent_are_lines, sent_line_of}
use Rattle.listings.proofs.SilentLemmas.{one_list_of_silent_ases, silent_answer, silent_are_lines, silent_line_of}
use Rattle.listings.specs.Peers.{ArePeers, peer_row}
use Rattle.listings.specs.Suspected.{suspect_row}
use Rattle.listings.specs.Suspects.{AreSuspects}
use Rattle.listings.proofs.DetailsLemmas.{detail_line_of, details_answer, details_are_lines, one_list_of_details}
use Rattle.listings.proofs.PeersLemmas.{one_list_of_peers, peers_answer, peers_are_lines}
use Rattle.listings.proofs.SuspectedLemmas.{one_list_of_suspects, suspect_line_of, suspects_answer, suspects_are_lines}
use Rattle.aspa_top.specs.declared.task.Question.{Question}
use Rattle.aspa_top.specs.declared.task.Question.TheVariants.{Report, Origins as ListOrigins, Leaks as ListLeaks, Suspects, Peers, Summary as SumUp, Routes, Why, Explain, Attests, Neighbours, Silent}
use Rattle.aspa_top.specs.Answers.{Answers, AnswersUnless, Replies, Shows, no_route, refused_for}
use Rattle.aspa_top.specs.Tasks.{State}

-- ---- one answer

-- a route has one reason
one_reason : (state : Analysis) (key : Key) (v w : Verdict) (x y : Witness) → IsExplained state key v x → IsExplained state key w y → (v ≡ w) × (x ≡ y)
one_reason state key v w x y a b =
    let role = role_of state.roles key.peer.asn in
    let path : a.path ≡ b.path = ap (λ (o : Option Path). unwrap_or o a.path) (sym a.route ∙ b.route) in
    let tables = parts_have_one_table state.parts in
    let table : a.table ≡ b.table = λ i q. (tables.only a.table a.current q ∙ sym (tables.only b.table b.current q)) i in
    let one = one_printed b.table role key.peer.asn b.path in
    let first : IsPrinted b.table role key.peer.asn b.path v x =
    subst (λ (p : Path). IsPrinted b.table role key.peer.asn p v x) path (subst (λ (t : Table). IsPrinted t role key.peer.asn a.path v x) table a.printed) in
    let v_is = one.only v x first in
    let w_is = one.only w y b.printed in
    (v_is.0 ∙ sym w_is.0, v_is.1 ∙ sym w_is.1)

-- and one text that explains it with its hops
one_explanation : (state : Analysis) (key : Key) (v w : Verdict) (x y : Witness) (a : IsExplained state key v x) (b : IsExplained state key w y)
    → explained_text a.table a.path v x ≡ explained_text b.table b.path w y
one_explanation state key v w x y a b =
    let path : a.path ≡ b.path = ap (λ (o : Option Path). unwrap_or o a.path) (sym a.route ∙ b.route) in
    let tables = parts_have_one_table state.parts in
    let table : a.table ≡ b.table = λ i q. (tables.only a.table a.current q ∙ sym (tables.only b.table b.current q)) i in
    let same = one_reason state key v w x y a b in
    λ i. explained_text (table i) (path i) (same.0 i) (same.1 i)

-- it is that of the computed table
pub explained_same : (state : Analysis) (key : Key) (path : Path) (v : Verdict) (x : Witness) (a : IsExplained state key v x) → fin.get state.routes key ≡ Some path
    → explained_text (table_of state.parts) path v x ≡ explained_text a.table a.path v x
explained_same state key path v x a route =
    let same : path ≡ a.path = ap (λ (o : Option Path). unwrap_or o path) (sym route ∙ a.route) in
    let table : table_of state.parts ≡ a.table = λ i q. ((parts_have_one_table state.parts).only (table_of state.parts) (table_is_current state.parts) q
    ∙ sym ((parts_have_one_table state.parts).only a.table a.current q)) i in
    λ i. explained_text (table i) (same i) v x

some_reason : (path : Option Path) (state : Analysis) (key : Key) → fin.get state.routes key ≡ path → no_route path ≡ None
    → (verdict : Verdict) × (witness : Witness) × IsExplained state key verdict witness
some_reason None state key route there = let none : ⊥ = cc in absurd none
some_reason (Some path) state key route there =
    let table = table_of state.parts in
    let role = role_of state.roles key.peer.asn in
    let one = one_printed table role key.peer.asn path in (
      one.one,
      one.its,
      record {
        path = path;
        route = route;
        table = table;
        current = table_is_current state.parts;
        printed = one.is;
        facts = printed_facts table role key.peer.asn path one.one one.its one.is;
      },
    )

-- a listing has one text
one_listing : {Row : Type 0} (Are : List Row → Type 0) (line_of : Row → List ℕ) → HasOne Are → HasOne (Shows Are line_of)
one_listing Are line_of list = record {
  one = flat_map line_of list.one;
  is = record { rows = list.one; are = list.is; text_is = refl };
  only = λ other is. is.text_is ∙ ap (flat_map line_of) (list.only is.rows is.are);
}

pub one_answer : (state : State) (question : Question) → refused_for state question ≡ None → HasOne (Answers state question)
one_answer state Report there =
    one_listing (AreRows state.analysis) row_of (has_one_report state.analysis)
one_answer state ListOrigins there =
    one_listing (AreOriginRows state.analysis.routes state.origins) origin_row (has_one_list state.analysis.routes state.origins)
one_answer state ListLeaks there =
    one_listing (AreLeaks state.analysis.roles state.marks) leak_row (one_list_of_leaks state.analysis.roles state.marks)
one_answer state Suspects there =
    one_listing (AreSuspects state.analysis) suspect_row (one_list_of_suspects state.analysis)
one_answer state Peers there =
    one_listing (ArePeers state.analysis) peer_row (one_list_of_peers state.analysis)
one_answer state SumUp there =
    let found = some_summary state.analysis state.passed state.refused in
    record {
      one = summary_text found.0;
      is = record { summary = found.0; is = found.1; text_is = refl };
      only = λ other is. is.text_is ∙ ap summary_text (one_summary state.analysis state.passed state.refused is.summary found.0 is.is found.1);
    }
one_answer state (Routes conditions) there =
    one_listing (AreDetails state.analysis conditions) detail_row (one_list_of_details state.analysis conditions)
one_answer state (Attests None) there =
    one_listing (AreAttested state.analysis.parts) attested_row (one_list_of_attests state.analysis.parts)
one_answer state (Attests (Some customer)) there =
    one_listing (AreAttestsOf state.analysis.parts customer) with_lf (one_list_of_attests_of state.analysis.parts customer)
one_answer state (Neighbours asn) there =
    one_listing (AreNeighboursOf state.analysis asn) neighbour_row (one_list_of_neighbours state.analysis asn)
one_answer state Silent there =
    one_listing (AreSilent state.analysis) silent_row (one_list_of_silent_ases state.analysis)
one_answer state (Explain key) there =
    let found = some_reason (fin.get state.analysis.routes key) state.analysis key refl there in
    record {
      one = explained_text found.2.table found.2.path found.0 found.1;
      is = record { verdict = found.0; witness = found.1; explained = found.2; text_is = refl };
      only = λ other is. is.text_is ∙ one_explanation state.analysis key is.verdict found.0 is.witness found.1 is.explained found.2;
    }
one_answer state (Why key) there =
    let found = some_reason (fin.get state.analysis.routes key) state.analysis key refl there in
    record {
      one = why_text found.0 found.1;
      is = record { verdict = found.0; witness = found.1; explained = found.2; text_is = refl };
      only = λ other is.
          let same = one_reason state.analysis key is.verdict found.0 is.witness found.1 is.explained found.2 in
          is.text_is ∙ (λ i. why_text (same.0 i) (same.1 i));
    }

-- ---- lines that read as no refusal

-- a text of such lines
pub record AreAnswers (text : List ℕ) : Type 0 where
  pub lines : List (List ℕ)
  pub each : All IsAnswerLine lines
  pub is : text ≡ lines_text lines

-- what explains a path is its first line, and those of its hops
pub explanation_lines : (table : Table) (path : Path) (verdict : Verdict) (witness : Witness) → AreAnswers (explained_text table path verdict witness)
explanation_lines table path verdict witness =
    let hops = path_hops table path in
    record {
      lines = why_line verdict witness ∷ map hop_line hops;
      each = All-cons IsAnswerLine (why_line verdict witness) (map hop_line hops) (reason_is_one_line verdict witness) (hops_answer hops);
      is = ap (λ (t : List ℕ). why_text verdict witness ++ t) (hops_are_lines hops);
    }

-- what is sent, and how our own routes stand
pub sent_lines : (rows : List SentRow) → AreAnswers (flat_map sent_row rows)
sent_lines rows = record { lines = map sent_line_of rows; each = sent_answer rows; is = sent_are_lines rows }

-- a text that is one of answers
answers_as : (text other : List ℕ) → text ≡ other → AreAnswers other → AreAnswers text
answers_as text other is are = record { lines = are.lines; each = are.each; is = is ∙ are.is }

-- of one
one_line : (line text : List ℕ) → IsAnswerLine line → text ≡ line ++ 10 ∷ [] → AreAnswers text
one_line line text answer is = record { lines = line ∷ []; each = All-cons IsAnswerLine line [] answer (All-nil IsAnswerLine); is = is ∙ sym (append-nil (line ++ 10 ∷ [])) }

pub answer_lines : (state : State) (question : Question) (text : List ℕ) → Answers state question text → AreAnswers text
answer_lines state Report text reports =
    record { lines = map line_of reports.rows; each = rows_answer reports.rows; is = reports.text_is ∙ rows_are_lines reports.rows }
answer_lines state ListOrigins text lists =
    record { lines = map origin_line_of lists.rows; each = origins_answer lists.rows; is = lists.text_is ∙ origins_are_lines lists.rows }
answer_lines state ListLeaks text lists =
    record { lines = map leak_line_of lists.rows; each = leaks_answer lists.rows; is = lists.text_is ∙ leaks_are_lines lists.rows }
answer_lines state Suspects text lists =
    record { lines = map suspect_line_of lists.rows; each = suspects_answer lists.rows; is = lists.text_is ∙ suspects_are_lines lists.rows }
answer_lines state Peers text lists =
    record { lines = map peer_summary_line lists.rows; each = peers_answer lists.rows; is = lists.text_is ∙ peers_are_lines lists.rows }
answer_lines state (Attests None) text lists =
    record { lines = map line_of_row lists.rows; each = attests_answer lists.rows; is = lists.text_is ∙ attests_are_lines lists.rows }
answer_lines state (Attests (Some customer)) text lists =
    record { lines = lists.rows; each = attests_of_answer state.analysis.parts customer lists.rows lists.are; is = lists.text_is ∙ attests_of_are_lines lists.rows }
answer_lines state (Neighbours asn) text lists =
    record { lines = map neighbour_line lists.rows; each = neighbours_answer lists.rows; is = lists.text_is ∙ neighbours_are_lines lists.rows }
answer_lines state Silent text lists =
    record { lines = map silent_line_of lists.rows; each = silent_answer lists.rows; is = lists.text_is ∙ silent_are_lines lists.rows }
answer_lines state (Explain key) text explains =
    answers_as text (explained_text explains.explained.table explains.explained.path explains.verdict explains.witness) explains.text_is
    (explanation_lines explains.explained.table explains.explained.path explains.verdict explains.witness)
answer_lines state (Routes conditions) text lists =
    record { lines = map detail_line_of lists.rows; each = details_answer lists.rows; is = lists.text_is ∙ details_are_lines lists.rows }
answer_lines state SumUp text sums = one_line (summary_line sums.summary) text (summary_is_one_line sums.summary) sums.text_is
answer_lines state (Why key) text explains = one_line (why_line explains.verdict explains.witness) text (reason_is_one_line explains.verdict explains.witness) explains.text_is

-- ---- so much for all questions

-- such a line counts no refusal
pub answer_counted : (line rest : List ℕ) → IsAnswerLine line → refusals_in ((line ++ 10 ∷ []) ++ rest) ≡ refusals_in rest
answer_counted line rest is =
    refusals_in-line line rest (lacks line is.in_line) ∙ ap (λ (b : Bool). cond b 1 0 + refusals_in rest) is.unmarked ∙ zero-add (refusals_in rest)

lines_counted : (lines : List (List ℕ)) (rest : List ℕ) → All IsAnswerLine lines → refusals_in (lines_text lines ++ rest) ≡ refusals_in rest
lines_counted [] rest answer = refl
lines_counted (line ∷ lines) rest answer =
    ap (λ (t : List ℕ). refusals_in t) (append_assoc (line ++ 10 ∷ []) (lines_text lines) rest)
    ∙ answer_counted line (lines_text lines ++ rest) (All-head IsAnswerLine line lines answer) ∙ lines_counted lines rest (All-tail IsAnswerLine line lines answer)

-- nor do all of them
pub answers_counted : (text rest : List ℕ) → AreAnswers text → refusals_in (text ++ rest) ≡ refusals_in rest
answers_counted text rest are = ap (λ (t : List ℕ). refusals_in (t ++ rest)) are.is ∙ lines_counted are.lines rest are.each

-- a question is refused, or has an answer
pub some_reply : (state : State) (question : Question) → (text : List ℕ) × (next : State) × Replies state question text next
some_reply state question = by_cause (refused_for state question) refl where
  by_cause : (cause : Option Cause) → refused_for state question ≡ cause → (text : List ℕ) × (next : State) × AnswersUnless cause state question text next
  by_cause (Some cause) is = (_, _, (refl, refl))
  by_cause None is = let one = one_answer state question is in (one.one, state, (one.is, refl))

-- and no two
pub replies_unique : (state : State) (question : Question) (one other : List ℕ) (end last : State)
    → Replies state question one end → Replies state question other last → (one ≡ other) × (end ≡ last)
replies_unique state question one other end last a b = by_cause (refused_for state question) refl a b where
  by_cause : (cause : Option Cause) → refused_for state question ≡ cause → AnswersUnless cause state question one end → AnswersUnless cause state question other last
      → (one ≡ other) × (end ≡ last)
  by_cause (Some cause) is c d = (c.0 ∙ sym d.0, c.1 ∙ sym d.1)
  by_cause None is c d =
      let answer = one_answer state question is in
      (answer.only one c.0 ∙ sym (answer.only other d.0), c.1 ∙ sym d.1)
