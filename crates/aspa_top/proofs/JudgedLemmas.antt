-- What is judged for a line alone, by the current table.
use Rattle.std.proofs.Common.{◌≡◌, ℕ, ◌+◌, false, List, [], ◌∷◌, ◌++◌, flat_map, sym, ap, subst, refl, ◌∙◌}
use Rattle.std.specs.declared.option.Option.{Option}
use Rattle.path_model.specs.declared.role.Role.{Role}
use Rattle.path_model.specs.declared.verdict.Verdict.{Verdict}
use Rattle.path_model.specs.Authority.{said_by}
use Rattle.path_model.specs.Trail.{Path, path_of}
use Rattle.path_model.specs.RightVerdict.{IsRight}
use Rattle.attestations.specs.CurrentTable.{Parts}
use Rattle.attestations.specs.ComputedTable.{table_of}
use Rattle.path_model.proofs.LawLemmas.{IsRight-unique, hops_decide}
use Rattle.attestations.proofs.PartsLemmas.{one_row, table_is_current}
use Rattle.av_text.specs.VerdictText.{verdict_text}
use Rattle.path_model.specs.declared.witness.Witness.{Witness}
use Rattle.path_model.specs.Authority.{Table}
use Rattle.path_model.specs.PrintedWitness.{IsPrinted}
use Rattle.path_model.proofs.LawLemmas.{one_printed}
use Rattle.attestations.proofs.PartsLemmas.{parts_have_one_table}
use Rattle.listings.specs.Hops.{explained_text}
use Rattle.listings.specs.Sent.{IsSentPair, sent_row}
use Rattle.listings.proofs.SentCountLemmas.{some_number}
use Rattle.listings.proofs.SentLemmas.{one_list_of_sent}
use Rattle.listings.proofs.TallyUniqueLemmas.{number_same}
use Rattle.aspa_top.specs.Tasks.{ExplainsPath, IsJudged, ListsSent, State}

-- a verdict that is right by the computed table is right by the current one
pub judged_by_computed : (parts : Parts) (role : Role) (neighbour : ℕ) (path : List ℕ) (trail : Path) (verdict : Verdict) → trail ≡ path_of false path
    → IsRight (table_of parts) role neighbour trail verdict → IsJudged parts role neighbour path (verdict_text verdict ++ 10 ∷ [])
judged_by_computed parts role neighbour path trail verdict same right =
    record { table = table_of parts; current = table_is_current parts; verdict = verdict; right = rw same at right; text_is = refl }

-- a path has no two judgements
pub IsJudged-unique : (parts : Parts) (role : Role) (neighbour : ℕ) (path one other : List ℕ)
    → IsJudged parts role neighbour path one → IsJudged parts role neighbour path other → one ≡ other
IsJudged-unique parts role neighbour path one other a b =
    let says = λ (x y : ℕ). ap (λ (row : Option (List ℕ)). said_by row y) (one_row parts x (b.table x) (a.table x) (b.current x) (a.current x)) in
    let right : IsRight a.table role neighbour (path_of false path) b.verdict = hops_decide b.table a.table role neighbour (path_of false path) b.verdict
    (record { upward = λ k within. says _ _; downward = λ k within. says _ _ }) b.right in
    let same = IsRight-unique a.table role neighbour (path_of false path) a.verdict b.verdict a.right right in
    a.text_is ∙ ap (λ (v : Verdict). verdict_text v ++ 10 ∷ []) same ∙ sym b.text_is

-- nor two explanations
pub ExplainsPath-unique : (parts : Parts) (role : Role) (neighbour : ℕ) (path one other : List ℕ)
    → ExplainsPath parts role neighbour path one → ExplainsPath parts role neighbour path other → one ≡ other
ExplainsPath-unique parts role neighbour path one other a b =
    let trail = path_of false path in
    let tables = parts_have_one_table parts in
    let table : a.table ≡ b.table = λ i q. (tables.only a.table a.current q ∙ sym (tables.only b.table b.current q)) i in
    let first : IsPrinted b.table role neighbour trail a.verdict a.witness = subst (λ (t : Table). IsPrinted t role neighbour trail a.verdict a.witness) table a.printed in
    let the = one_printed b.table role neighbour trail in
    let v = the.only a.verdict a.witness first in
    let w = the.only b.verdict b.witness b.printed in
    a.text_is ∙ (λ i. explained_text (table i) trail ((v.0 ∙ sym w.0) i) ((v.1 ∙ sym w.1) i)) ∙ sym b.text_is

-- a path has one
pub some_explanation : (parts : Parts) (role : Role) (neighbour : ℕ) (path : List ℕ) → (text : List ℕ) × ExplainsPath parts role neighbour path text
some_explanation parts role neighbour path =
    let table = table_of parts in
    let one = one_printed table role neighbour (path_of false path) in (
      explained_text table (path_of false path) one.one one.its,
      record { table = table; current = table_is_current parts; verdict = one.one; witness = one.its; printed = one.is; text_is = refl },
    )

-- by the computed table
pub explained_by_computed : (parts : Parts) (role : Role) (neighbour : ℕ) (path : List ℕ) (trail : Path) (verdict : Verdict) (witness : Witness) → trail ≡ path_of false path
    → IsPrinted (table_of parts) role neighbour trail verdict witness → ExplainsPath parts role neighbour path (explained_text (table_of parts) trail verdict witness)
explained_by_computed parts role neighbour path trail verdict witness same printed = record {
  table = table_of parts;
  current = table_is_current parts;
  verdict = verdict;
  witness = witness;
  printed = subst (λ (p : Path). IsPrinted (table_of parts) role neighbour p verdict witness) same printed;
  text_is = ap (λ (p : Path). explained_text (table_of parts) p verdict witness) same;
}

-- what is sent has one text, and leaves one state
pub ListsSent-unique : (state : State) (role : Role) (path one other : List ℕ) (end last : State)
    → ListsSent state role path one end → ListsSent state role path other last → (one ≡ other) × (end ≡ last)
ListsSent-unique state role path one other end last a b =
    let list = one_list_of_sent state.analysis role path in (
      a.text_is ∙ ap (flat_map sent_row) (list.only a.rows a.are ∙ sym (list.only b.rows b.are)) ∙ sym b.text_is,
      a.left ∙ ap (λ (n : ℕ). record state { judgements = state.judgements + (1 + n) }) (number_same (IsSentPair state.analysis) a.pairs b.pairs a.judged b.judged) ∙ sym b.left,
    )

pub some_sent : (state : State) (role : Role) (path : List ℕ) → (text : List ℕ) × (next : State) × ListsSent state role path text next
some_sent state role path =
    let list = one_list_of_sent state.analysis role path in
    let number = some_number state.analysis in
    (flat_map sent_row list.one, _, record { rows = list.one; are = list.is; text_is = refl; pairs = number.0; judged = number.1; left = refl })
