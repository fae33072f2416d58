-- The lines of answers are lines, and none of them begins with `! `.
use Rattle.std.proofs.Common.{◌≡◌, ◌≢◌, ℕ, suc, ◌+◌, ◌/◌, ◌%◌, ◌^◌, ◌≤◌, ◌&&◌, take, Bool, true, false, cond, nat_eq, nat_lt, List, [], ◌∷◌, ◌++◌, codes, decimal, reverse, refl, sym, subst, ◌∙◌, arith}
use Rattle.std.specs.List.{starts_with}
use Rattle.std.specs.Cmp.Lexicographic.{pointwise}
use Rattle.std.specs.Char.{digit_char}
use Rattle.std.specs.declared.option.Option.{Option}
use Rattle.std.specs.declared.option.Option.TheVariants.{Some, None}
use Rattle.std.proofs.lemmas.List.{append_assoc}
use Rattle.std.proofs.lemmas.List.Elements.{All-cons, All-nil}
use Rattle.std.proofs.lemmas.Bool.Decides.{nat_tests}
use Rattle.path_model.specs.declared.addr.Addr.{Addr}
use Rattle.path_model.specs.declared.addr.Addr.TheVariants.{V4, V6}
use Rattle.path_model.specs.declared.key.Key.{Key}
use Rattle.path_model.specs.declared.verdict.Verdict.{Verdict}
use Rattle.path_model.specs.declared.verdict.Verdict.TheVariants.{Valid, Unknown, Invalid}
use Rattle.path_model.specs.declared.witness.Witness.{Witness}
use Rattle.path_model.specs.declared.witness.Witness.TheVariants.{Valid as ByLabelling, Empty, Set, Neighbour, Blocked, Unsettled}
use Rattle.origin_model.specs.declared.origin_state.OriginState.{OriginState}
use Rattle.origin_model.specs.declared.origin_state.OriginState.TheVariants.{Valid as OriginValid, Invalid as OriginInvalid, NotFound}
use Rattle.path_model.specs.declared.leak.Leak.{Leak}
use Rattle.path_model.specs.declared.leak.Leak.TheVariants.{Clean, Customer, RsClient, Peer as FromPeer, Malformed}
use Rattle.av_text.specs.AddressText.{addr_text, hex4, octets_text, groups_text, parts_text}
use Rattle.av_text.specs.Marks.{Lacks}
use Rattle.av_text.specs.VerdictText.{verdict_text}
use Rattle.av_text.specs.PeerText.{peer_text}
use Rattle.av_text.specs.PrefixText.{prefix_text}
use Rattle.av_text.specs.RoleText.{role_text}
use Rattle.av_text.specs.Spellings.{IsInLine}
use Rattle.av_text.proofs.AnySpellingLemmas.{addresses_in_line, peers_in_line, prefixes_in_line, roles_in_line, verdicts_in_line}
use Rattle.av_text.proofs.LackLemmas.{decimal-lacks}
use Rattle.report_text.specs.declared.peer_summary.PeerSummary.{PeerSummary}
use Rattle.report_text.specs.declared.summary.Summary.{Summary}
use Rattle.report_text.specs.Change.{mark_text, marks_text, change_line, changed_line}
use Rattle.report_text.specs.Keys.{identifier_text, key_text}
use Rattle.report_text.specs.Laws.{IsAnswerLine}
use Rattle.report_text.specs.Leaks.{leak_line, shown_text}
use Rattle.path_model.specs.declared.authority.Authority.{Authority}
use Rattle.path_model.specs.declared.authority.Authority.TheVariants.{Silent, Refuses, Provides}
use Rattle.report_text.specs.declared.neighbour.Neighbour.{Neighbour as Beside}
use Rattle.report_text.specs.AuthorityText.{attested_part, authority_text}
use Rattle.report_text.specs.Neighbours.{both_part, neighbour_line, went_part}
use Rattle.report_text.specs.Origins.{origin_line, state_text}
use Rattle.report_text.specs.Own.{own_line}
use Rattle.report_text.specs.PeerSummaries.{address_text, owner_text, peer_summary_line, routes_part, who_part}
use Rattle.report_text.specs.Rows.{row_line}
use Rattle.report_text.specs.Served.{served_line}
use Rattle.report_text.specs.Summary.{verdicts_part, sources_part, summary_line}
use Rattle.report_text.specs.Why.{hops_text, labelling_text, witness_text, why_line}
use Rattle.report_text.specs.Details.{ases_text, detail_line, path_text, set_text}
use Rattle.report_text.specs.Sayings.{said_line}
use Rattle.report_text.specs.Silent.{silent_line}
use Rattle.report_text.specs.declared.silent.SilentAs.{SilentAs}
use Rattle.report_text.specs.declared.suspect.Suspect.{Suspect}
use Rattle.report_text.specs.Suspects.{having_text, suspect_line, to_text, valley_text}
use Rattle.path_model.specs.Trail.{Path}
use Rattle.report_text.proofs.InLineLemmas.{clean, both, number}

-- ---- lines that begin with an address

and_first : (a b : Bool) → a ≡ false → (a && b) ≡ false
and_first true b e = absurd cc
and_first false b e = refl

-- whether a line begins with `! `
abbrev begins : List ℕ → Bool
begins line = starts_with nat_eq line (codes "! ")

first_differs : (x : ℕ) (back : List ℕ) → x ≢ 33 → begins (x ∷ back) ≡ false
first_differs x back other =
    let test : nat_eq 33 x ≡ false = grind (arith, nat_tests) in
    and_first (nat_eq 33 x) (pointwise nat_eq (32 ∷ []) (take 1 back)) test

-- a text's first byte, if it has one, isn't `!`
abbrev StartsOther : List ℕ → Type 0
StartsOther text = (x : ℕ) (more : List ℕ) → text ≡ x ∷ more → x ≢ 33

begins_other : (text : List ℕ) → StartsOther text → begins text ≡ false
begins_other [] starts = refl
begins_other (x ∷ more) starts = first_differs x more (starts x more refl)

head_other : (first : ℕ) (rest : List ℕ) → first ≢ 33 → StartsOther (first ∷ rest)
head_other first rest other = λ x more is same. let heads : first ≡ x = cc in other (heads ∙ same)

-- the first part has no `!`, and what comes behind begins with none
starts_at : (front : List ℕ) (mark : ℕ) (back : List ℕ) → Lacks 33 front → mark ≢ 33 → StartsOther (front ++ mark ∷ back)
starts_at [] mark back lacks other = head_other mark back other
starts_at (x ∷ front) mark back lacks other = head_other x (front ++ mark ∷ back) (lacks 0 x (omega arith))

digit_above : (d : ℕ) → 48 ≤ digit_char d
digit_above d = by_size (nat_lt d 10) where
  by_size : (small : Bool) → 48 ≤ cond small (48 + d) (87 + d)
  by_size true = omega arith
  by_size false = omega arith

-- parts without `!`
parts_start : (spell : ℕ → List ℕ) (mark base marks n : ℕ) (back : List ℕ) → ((d : ℕ) → Lacks 33 (spell d)) → mark ≢ 33
    → StartsOther (parts_text spell mark base (suc marks) n ++ back)
parts_start spell mark base marks n back lacks other =
    let rest = parts_text spell mark base marks (n % base ^ suc marks) in
    subst StartsOther (sym (append_assoc (spell (n / base ^ suc marks)) (mark ∷ rest) back))
    (starts_at (spell (n / base ^ suc marks)) mark (rest ++ back) (lacks (n / base ^ suc marks)) other)

several_start : (spell : ℕ → List ℕ) (mark base marks fewer n : ℕ) (back : List ℕ) → marks ≡ suc fewer → ((d : ℕ) → Lacks 33 (spell d)) → mark ≢ 33
    → StartsOther (parts_text spell mark base marks n ++ back)
several_start spell mark base marks fewer n back some lacks other =
    subst (λ (m : ℕ). StartsOther (parts_text spell mark base m n ++ back)) (sym some) (parts_start spell mark base fewer n back lacks other)

digit_other : (d : ℕ) → digit_char d ≢ 33
digit_other d same = let above = digit_above d in omega (arith, above, same)

hex4_lacks : (g : ℕ) → Lacks 33 (hex4 g)
hex4_lacks g =
    let P : ℕ → Type 0 = λ byte. byte ≢ 33 in
    All-cons P (digit_char (g / 4096)) (digit_char (g / 256 % 16) ∷ digit_char (g / 16 % 16) ∷ digit_char (g % 16) ∷ []) (digit_other (g / 4096))
    (All-cons P (digit_char (g / 256 % 16)) (digit_char (g / 16 % 16) ∷ digit_char (g % 16) ∷ []) (digit_other (g / 256 % 16))
    (All-cons P (digit_char (g / 16 % 16)) (digit_char (g % 16) ∷ []) (digit_other (g / 16 % 16))
    (All-cons P (digit_char (g % 16)) [] (digit_other (g % 16)) (All-nil P))))

octets_start : (n : ℕ) (back : List ℕ) → StartsOther (octets_text 3 n ++ back)
octets_start n back = several_start decimal 46 256 3 2 n back refl (λ d. decimal-lacks 33 d (omega arith)) (λ e. cc)

groups_start : (n : ℕ) (back : List ℕ) → StartsOther (groups_text 7 n ++ back)
groups_start n back = several_start hex4 58 65536 7 6 n back refl hex4_lacks (λ e. cc)

addr_start : (a : Addr) (back : List ℕ) → StartsOther (addr_text a ++ back)
addr_start a back = elim a as (λ x. StartsOther (addr_text x ++ back)) [ V4 n ↦ octets_start n back | V6 n ↦ groups_start n back ]

identifier_in_line : (path : Option ℕ) → IsInLine (identifier_text path)
identifier_in_line None = clean [] refl
identifier_in_line (Some id) = both (codes " path ") (decimal id) (clean (codes " path ") refl) (number id)

key_in_line : (key : Key) → IsInLine (key_text key)
key_in_line key =
    both (peer_text key.peer ++ 32 ∷ prefix_text key.prefix) (identifier_text key.path)
    (both (peer_text key.peer) (32 ∷ prefix_text key.prefix) (peers_in_line key.peer)
    (both (codes " ") (prefix_text key.prefix) (clean (codes " ") refl) (prefixes_in_line key.prefix)))
    (identifier_in_line key.path)

-- a key's text begins with an address, whatever stands behind it
key_start : (key : Key) (back : List ℕ) → StartsOther (key_text key ++ back)
key_start key back =
    let behind = identifier_text key.path ++ back in
    let more = (32 ∷ prefix_text key.prefix) ++ behind in
    let is = append_assoc (peer_text key.peer ++ 32 ∷ prefix_text key.prefix) (identifier_text key.path) back
    ∙ append_assoc (peer_text key.peer) (32 ∷ prefix_text key.prefix) behind
    ∙ append_assoc (addr_text key.peer.addr) (32 ∷ decimal key.peer.asn) more in
    subst StartsOther (sym is) (addr_start key.peer.addr ((32 ∷ decimal key.peer.asn) ++ more))

-- a key, and then some words
of_key : (key : Key) (words : List ℕ) → IsInLine words → IsAnswerLine (key_text key ++ 32 ∷ words)
of_key key words in_line = record {
  in_line = both (key_text key) (32 ∷ words) (key_in_line key) (both (codes " ") words (clean (codes " ") refl) in_line);
  unmarked = begins_other (key_text key ++ 32 ∷ words) (key_start key (32 ∷ words));
}

-- ---- rows, origins, leaks and changes

pub row_is_one_line : (key : Key) (verdict : Verdict) → IsAnswerLine (row_line key verdict)
row_is_one_line key verdict = of_key key (verdict_text verdict) (verdicts_in_line verdict)

state_in_line : (state : OriginState) → IsInLine (state_text state)
state_in_line OriginValid = clean (codes "valid") refl
state_in_line OriginInvalid = clean (codes "invalid") refl
state_in_line NotFound = clean (codes "not-found") refl

pub origin_is_one_line : (key : Key) (state : OriginState) → IsAnswerLine (origin_line key state)
origin_is_one_line key state = of_key key (state_text state) (state_in_line state)

shown_in_line : (leak : Leak) → IsInLine (shown_text leak)
shown_in_line Clean = clean [] refl
shown_in_line (Customer asn) = both (codes "customer ") (decimal asn) (clean (codes "customer ") refl) (number asn)
shown_in_line (RsClient asn) = both (codes "rs-client ") (decimal asn) (clean (codes "rs-client ") refl) (number asn)
shown_in_line (FromPeer asn) = both (codes "peer ") (decimal asn) (clean (codes "peer ") refl) (number asn)
shown_in_line Malformed = clean (codes "malformed") refl

pub leak_is_one_line : (key : Key) (leak : Leak) → IsAnswerLine (leak_line key leak)
leak_is_one_line key leak = of_key key (shown_text leak) (shown_in_line leak)

mark_in_line : (mark : Option Verdict) → IsInLine (mark_text mark)
mark_in_line None = clean (codes "none") refl
mark_in_line (Some verdict) = verdicts_in_line verdict

marks_in_line : (before after : Option Verdict) → IsInLine (marks_text before after)
marks_in_line before after = both (mark_text before) (32 ∷ mark_text after) (mark_in_line before) (both (codes " ") (mark_text after) (clean (codes " ") refl) (mark_in_line after))

pub change_is_one_line : (key : Key) (before after : Option Verdict) → IsAnswerLine (change_line key before after)
change_is_one_line key before after = of_key key (marks_text before after) (marks_in_line before after)

-- ---- summaries

-- a word and a number behind a text
counted : (text word : List ℕ) (n : ℕ) → IsInLine text → IsInLine word → IsInLine (text ++ word ++ decimal n)
counted text word n in_line clean_word = both (text ++ word) (decimal n) (both text word in_line clean_word) (number n)

worded : (word : List ℕ) (n : ℕ) → IsInLine word → IsInLine (word ++ decimal n)
worded word n clean_word = both word (decimal n) clean_word (number n)

verdicts_part_in_line : (summary : Summary) → IsInLine (verdicts_part summary)
verdicts_part_in_line summary =
    counted (codes " valid " ++ decimal summary.valid ++ codes " unknown " ++ decimal summary.unknown) (codes " invalid ") summary.invalid
    (counted (codes " valid " ++ decimal summary.valid) (codes " unknown ") summary.unknown
    (worded (codes " valid ") summary.valid (clean (codes " valid ") refl))
    (clean (codes " unknown ") refl))
    (clean (codes " invalid ") refl)

sources_part_in_line : (summary : Summary) → IsInLine (sources_part summary)
sources_part_in_line summary =
    counted (codes " customers " ++ decimal summary.customers ++ codes " passed " ++ decimal summary.passed) (codes " refused ") summary.refused
    (counted (codes " customers " ++ decimal summary.customers) (codes " passed ") summary.passed
    (worded (codes " customers ") summary.customers (clean (codes " customers ") refl))
    (clean (codes " passed ") refl))
    (clean (codes " refused ") refl)

pub summary_is_one_line : (summary : Summary) → IsAnswerLine (summary_line summary)
summary_is_one_line summary = record {
  in_line = both (codes "summary routes " ++ decimal summary.routes ++ verdicts_part summary) (sources_part summary)
      (both (codes "summary routes " ++ decimal summary.routes) (verdicts_part summary)
      (worded (codes "summary routes ") summary.routes (clean (codes "summary routes ") refl)) (verdicts_part_in_line summary))
      (sources_part_in_line summary);
  unmarked = refl;
}

-- ---- how many changed

pub changed_is_one_line : (changes : ℕ) → IsAnswerLine (changed_line changes)
changed_is_one_line changes = record { in_line = worded (codes "changed ") changes (clean (codes "changed ") refl); unmarked = refl }

-- ---- what came of serving routers

pub served_is_one_line : (accepted answers : ℕ) → IsAnswerLine (served_line accepted answers)
served_is_one_line accepted answers = record {
  in_line =
      counted (codes "served " ++ decimal accepted) (codes " answers ") answers
      (worded (codes "served ") accepted (clean (codes "served ") refl)) (clean (codes " answers ") refl);
  unmarked = refl;
}

-- ---- reasons

hops_in_line : (first : ℕ) (last : Option ℕ) → IsInLine (hops_text first last)
hops_in_line first None = number first
hops_in_line first (Some last) = both (decimal first) (32 ∷ decimal last) (number first) (both (codes " ") (decimal last) (clean (codes " ") refl) (number last))

labelling_in_line : (climbs free descents : ℕ) → IsInLine (labelling_text climbs free descents)
labelling_in_line climbs free descents =
    counted (codes "climbs " ++ decimal climbs ++ codes " free " ++ decimal free) (codes " descents ") descents
    (counted (codes "climbs " ++ decimal climbs) (codes " free ") free (worded (codes "climbs ") climbs (clean (codes "climbs ") refl)) (clean (codes " free ") refl))
    (clean (codes " descents ") refl)

witness_in_line : (witness : Witness) → IsInLine (witness_text witness)
witness_in_line (ByLabelling climbs free descents) = labelling_in_line climbs free descents
witness_in_line Empty = clean (codes "empty") refl
witness_in_line Set = clean (codes "set") refl
witness_in_line Neighbour = clean (codes "neighbour") refl
witness_in_line (Blocked first last) = both (codes "blocked ") (hops_text first last) (clean (codes "blocked ") refl) (hops_in_line first last)
witness_in_line (Unsettled first last climbs free descents) =
    both (codes "unsettled " ++ hops_text first last) (32 ∷ labelling_text climbs free descents)
    (both (codes "unsettled ") (hops_text first last) (clean (codes "unsettled ") refl) (hops_in_line first last))
    (both (codes " ") (labelling_text climbs free descents) (clean (codes " ") refl) (labelling_in_line climbs free descents))

-- no verdict begins with `!`
why_unmarked : (verdict : Verdict) (back : List ℕ) → begins (verdict_text verdict ++ back) ≡ false
why_unmarked Valid back = refl
why_unmarked Unknown back = refl
why_unmarked Invalid back = refl

pub reason_is_one_line : (verdict : Verdict) (witness : Witness) → IsAnswerLine (why_line verdict witness)
reason_is_one_line verdict witness = record {
  in_line = both (verdict_text verdict) (32 ∷ witness_text witness) (verdicts_in_line verdict)
      (both (codes " ") (witness_text witness) (clean (codes " ") refl) (witness_in_line witness));
  unmarked = why_unmarked verdict (32 ∷ witness_text witness);
}

-- ---- details

-- a number behind a space
behind_space : (n : ℕ) → IsInLine (32 ∷ decimal n)
behind_space n = worded (codes " ") n (clean (codes " ") refl)

set_in_line : (set : Bool) → IsInLine (set_text set)
set_in_line false = clean [] refl
set_in_line true = clean (codes " set") refl

pub ases_in_line : (ases : List ℕ) → IsInLine (ases_text ases)
ases_in_line [] = clean [] refl
ases_in_line (asn ∷ ases) = both (32 ∷ decimal asn) (ases_text ases) (behind_space asn) (ases_in_line ases)

path_in_line : (path : Path) → IsInLine (path_text path)
path_in_line path =
    both (codes " path" ++ set_text path.set) (ases_text (reverse path.chain))
    (both (codes " path") (set_text path.set) (clean (codes " path") refl) (set_in_line path.set)) (ases_in_line (reverse path.chain))

detail_parts : (k v w p : List ℕ) → ((k ++ 32 ∷ v) ++ 32 ∷ w) ++ p ≡ k ++ 32 ∷ ((v ++ 32 ∷ w) ++ p)
detail_parts k v w p = simp append_assoc refl

pub detail_is_one_line : (key : Key) (verdict : Verdict) (witness : Witness) (path : Path) → IsAnswerLine (detail_line key verdict witness path)
detail_is_one_line key verdict witness path =
    let words = (verdict_text verdict ++ 32 ∷ witness_text witness) ++ path_text path in
    let reason = reason_is_one_line verdict witness in
    subst IsAnswerLine (sym (detail_parts (key_text key) (verdict_text verdict) (witness_text witness) (path_text path)))
    (of_key key words (both (why_line verdict witness) (path_text path) reason.in_line (path_in_line path)))

-- ---- valleys

to_in_line : (to : Option ℕ) → IsInLine (to_text to)
to_in_line None = clean (codes "here") refl
to_in_line (Some asn) = number asn

valley_in_line : (from first last : ℕ) (to : Option ℕ) → IsInLine (valley_text from first last to)
valley_in_line from first last to =
    both (decimal from ++ 32 ∷ decimal first ++ 32 ∷ decimal last) (32 ∷ to_text to)
    (both (decimal from ++ 32 ∷ decimal first) (32 ∷ decimal last)
    (both (decimal from) (32 ∷ decimal first) (number from) (behind_space first)) (behind_space last))
    (both (codes " ") (to_text to) (clean (codes " ") refl) (to_in_line to))

having_in_line : (routes paths : ℕ) → IsInLine (having_text routes paths)
having_in_line routes paths =
    counted (codes " routes " ++ decimal routes) (codes " paths ") paths
    (worded (codes " routes ") routes (clean (codes " routes ") refl)) (clean (codes " paths ") refl)

suspect_parts : (a b c d e : List ℕ) → (((a ++ 32 ∷ b) ++ 32 ∷ c) ++ 32 ∷ d) ++ e ≡ a ++ 32 ∷ (b ++ 32 ∷ (c ++ 32 ∷ (d ++ e)))
suspect_parts a b c d e = simp append_assoc refl

pub suspect_is_one_line : (suspect : Suspect) → IsAnswerLine (suspect_line suspect)
suspect_is_one_line suspect =
    let line = suspect_line suspect in
    let valley = valley_text suspect.from suspect.first suspect.last suspect.to in
    let having = having_text suspect.routes suspect.paths in
    let after = decimal suspect.first ++ 32 ∷ (decimal suspect.last ++ 32 ∷ (to_text suspect.to ++ having)) in
    let is = suspect_parts (decimal suspect.from) (decimal suspect.first) (decimal suspect.last) (to_text suspect.to) having in
    record {
      in_line = both valley having (valley_in_line suspect.from suspect.first suspect.last suspect.to) (having_in_line suspect.routes suspect.paths);
      unmarked = begins_other line (subst StartsOther (sym is) (starts_at (decimal suspect.from) 32 after (decimal-lacks 33 suspect.from (omega arith)) (λ e. cc)));
    }

pub silent_is_one_line : (silent : SilentAs) → IsAnswerLine (silent_line silent)
silent_is_one_line silent =
    let having = having_text silent.routes silent.paths in
    let after = codes "routes " ++ decimal silent.routes ++ codes " paths " ++ decimal silent.paths in
    record {
      in_line = both (decimal silent.asn) having (number silent.asn) (having_in_line silent.routes silent.paths);
      unmarked = begins_other (silent_line silent) (starts_at (decimal silent.asn) 32 after (decimal-lacks 33 silent.asn (omega arith)) (λ e. cc));
    }

-- ---- peers, with their roles and how many routes they have

address_in_line : (addr : Option Addr) → IsInLine (address_text addr)
address_in_line None = clean (codes "-") refl
address_in_line (Some addr) = addresses_in_line addr

owner_in_line : (own : Bool) → IsInLine (owner_text own)
owner_in_line true = clean (codes " own") refl
owner_in_line false = clean (codes " default") refl

who_in_line : (peer : PeerSummary) → IsInLine (who_part peer)
who_in_line peer =
    both ((address_text peer.addr ++ 32 ∷ decimal peer.asn) ++ 32 ∷ role_text peer.role) (owner_text peer.own)
    (both (address_text peer.addr ++ 32 ∷ decimal peer.asn) (32 ∷ role_text peer.role)
    (both (address_text peer.addr) (32 ∷ decimal peer.asn) (address_in_line peer.addr) (behind_space peer.asn))
    (both (codes " ") (role_text peer.role) (clean (codes " ") refl) (roles_in_line peer.role)))
    (owner_in_line peer.own)

routes_in_line : (peer : PeerSummary) → IsInLine (routes_part peer)
routes_in_line peer =
    counted (codes " routes " ++ decimal peer.routes ++ codes " valid " ++ decimal peer.valid ++ codes " unknown " ++ decimal peer.unknown) (codes " invalid ") peer.invalid
    (counted (codes " routes " ++ decimal peer.routes ++ codes " valid " ++ decimal peer.valid) (codes " unknown ") peer.unknown
    (counted (codes " routes " ++ decimal peer.routes) (codes " valid ") peer.valid
    (worded (codes " routes ") peer.routes (clean (codes " routes ") refl))
    (clean (codes " valid ") refl))
    (clean (codes " unknown ") refl))
    (clean (codes " invalid ") refl)

address_start : (addr : Option Addr) (back : List ℕ) → StartsOther (address_text addr ++ back)
address_start addr back = elim addr as (λ x. StartsOther (address_text x ++ back)) [ None ↦ head_other 45 back (λ e. cc) | Some a ↦ addr_start a back ]

peer_parts : (a b c d e : List ℕ) → (((a ++ 32 ∷ b) ++ 32 ∷ c) ++ d) ++ e ≡ a ++ 32 ∷ (b ++ 32 ∷ (c ++ (d ++ e)))
peer_parts a b c d e = simp append_assoc refl

pub peer_summary_is_one_line : (peer : PeerSummary) → IsAnswerLine (peer_summary_line peer)
peer_summary_is_one_line peer =
    let back = decimal peer.asn ++ 32 ∷ (role_text peer.role ++ (owner_text peer.own ++ routes_part peer)) in
    let is = peer_parts (address_text peer.addr) (decimal peer.asn) (role_text peer.role) (owner_text peer.own) (routes_part peer) in
    record {
      in_line = both (who_part peer) (routes_part peer) (who_in_line peer) (routes_in_line peer);
      unmarked = begins_other (peer_summary_line peer) (subst StartsOther (sym is) (address_start peer.addr (32 ∷ back)));
    }

-- ---- our own routes

pub own_is_one_line : (verdict : Verdict) → IsAnswerLine (own_line verdict)
own_is_one_line verdict = record { in_line = both (codes "own ") (verdict_text verdict) (clean (codes "own ") refl) (verdicts_in_line verdict); unmarked = refl }

-- ---- neighbours

authority_in_line : (authority : Authority) → IsInLine (authority_text authority)
authority_in_line Provides = clean (codes "provides") refl
authority_in_line Refuses = clean (codes "refuses") refl
authority_in_line Silent = clean (codes "silent") refl

both_in_line : (beside : Beside) → IsInLine (both_part beside)
both_in_line beside = both (decimal beside.asn) (32 ∷ decimal beside.neighbour) (number beside.asn) (behind_space beside.neighbour)

pub attested_in_line : (climb descend : Authority) → IsInLine (attested_part climb descend)
attested_in_line climb descend =
    let first = codes " climb " ++ authority_text climb in
    both (first ++ codes " descend ") (authority_text descend)
    (both first (codes " descend ")
    (both (codes " climb ") (authority_text climb) (clean (codes " climb ") refl) (authority_in_line climb))
    (clean (codes " descend ") refl)) (authority_in_line descend)

went_in_line : (beside : Beside) → IsInLine (went_part beside)
went_in_line beside =
    counted (codes " to " ++ decimal beside.to) (codes " from ") beside.from
    (worded (codes " to ") beside.to (clean (codes " to ") refl))
    (clean (codes " from ") refl)

beside_parts : (a b c d : List ℕ) → ((a ++ 32 ∷ b) ++ c) ++ d ≡ a ++ 32 ∷ (b ++ (c ++ d))
beside_parts a b c d = simp append_assoc refl

pub neighbour_is_one_line : (beside : Beside) → IsAnswerLine (neighbour_line beside)
neighbour_is_one_line beside =
    let back = decimal beside.neighbour ++ (attested_part beside.climb beside.descend ++ went_part beside) in
    let is = beside_parts (decimal beside.asn) (decimal beside.neighbour) (attested_part beside.climb beside.descend) (went_part beside) in
    record {
      in_line = both (both_part beside ++ attested_part beside.climb beside.descend) (went_part beside)
          (both (both_part beside) (attested_part beside.climb beside.descend) (both_in_line beside) (attested_in_line beside.climb beside.descend)) (went_in_line beside);
      unmarked = begins_other (neighbour_line beside)
          (subst StartsOther (sym is) (starts_at (decimal beside.asn) 32 back (decimal-lacks 33 beside.asn (omega arith)) (λ e. cc)));
    }

-- ---- what is said

pub saying_is_one_line : (text : List ℕ) → IsInLine text → IsAnswerLine (said_line text)
saying_is_one_line text in_line = record { in_line = both (codes "# ") text (clean (codes "# ") refl) in_line; unmarked = refl }
