-- What becomes of the attempts and the connections.
use Rattle.std.proofs.lemmas.List.Elements.{All-append, All-cons, All-nil, All-weaker}
use Rattle.std.proofs.Common.{◌≡◌, ℕ, ◌+◌, ◌≤◌, arith, List, [], ◌∷◌, ◌++◌, length, None, Some, refl, sym, ◌∙◌, ap, append_assoc, append-nil, length-append}
use Rattle.std.specs.Prelude.{slice_get, IfSome}
use Rattle.std.specs.declared.option.Option.{Option}
use Rattle.av_base.specs.Connections.{AddsAttempt, Attempt, Failed, Link, Made, ToldLater, Unaccepted}
use Rattle.av_base.proofs.LaterLemmas.{ToldLater-refl, ToldLater-trans}
use Rattle.av_base.proofs.LinksLemmas.{length-later}
use Rattle.connection_calls.specs.Connection.{Now}
use Rattle.connection_calls.specs.Moves.{Ever}
use Rattle.connection_calls.specs.World.{AddsAttempts, ComesTo, InEnd, IsAttempt, IsMadeFrom, World}

pub AddsAttempts-refl : (wire : Option (List Link)) (attempts : Option (List Attempt)) → AddsAttempts wire attempts attempts
AddsAttempts-refl wire attempts = record { added = λ after is. (after, [], is, sym (append-nil after), λ links told. All-nil (IsMadeFrom (length links))) }

IsMadeFrom-more : (count most : ℕ) → count ≤ most → (attempt : Attempt) → IsMadeFrom most attempt → IsMadeFrom count attempt
IsMadeFrom-more count most within (Made link) from = omega arith
IsMadeFrom-more count most within (Failed place) from = tt
IsMadeFrom-more count most within (Unaccepted place) from = tt

pub AddsAttempts-trans : {wire_old wire_mid : Option (List Link)} {old mid new : Option (List Attempt)} → ToldLater wire_old wire_mid → AddsAttempts wire_old old mid → AddsAttempts wire_mid mid new → AddsAttempts wire_old old new
AddsAttempts-trans later first second = record {
  added = λ after is.
      let two = second.added after is in
      let one = first.added two.0 two.2 in (
        one.0,
        one.1 ++ two.1,
        one.2,
        two.3 ∙ ap (λ (l : List Attempt). l ++ two.1) one.3 ∙ append_assoc one.0 one.1 two.1,
        λ links told.
            let mid = later.goes_on links told in
            All-append (IsMadeFrom (length links)) one.1 two.1 (one.4 links told)
            (All-weaker (IsMadeFrom (length mid.0)) (IsMadeFrom (length links)) (IsMadeFrom-more (length links) (length mid.0) (length-later mid.2)) two.1 (two.4 mid.0 mid.1)),
      );
}

-- one attempt was added
pub AddsAttempts-one : {wire : Option (List Link)} {old new : Option (List Attempt)} (attempt : Attempt) → ((links : List Link) → wire ≡ Some links → IsMadeFrom (length links) attempt) → AddsAttempt old new attempt
    → AddsAttempts wire old new
AddsAttempts-one attempt from one = record {
  added = λ after is.
      let had = one.added after is in
      (had.0, attempt ∷ [], had.1, had.2, λ links told. All-cons (IsMadeFrom (length links)) attempt [] (from links told) (All-nil (IsMadeFrom (length links))));
}

pub one_more : {old new : Option (List Attempt)} (attempt : Attempt) → AddsAttempt old new attempt → (now : List Attempt) → new ≡ Some now → (before : List Attempt) × (old ≡ Some before) × (length now ≡ length before + 1)
one_more attempt one now is = let had = one.added now is in (had.0, had.1, ap length had.2 ∙ length-append had.0 (attempt ∷ []))

get_behind : (before more : List Attempt) (attempt : Attempt) → slice_get (before ++ attempt ∷ [] ++ more) (length before) ≡ Some attempt
get_behind [] more attempt = refl
get_behind (first ∷ before) more attempt = get_behind before more attempt

-- it is the next, in whatever the attempts come to
pub is_attempt : {old new : Option (List Attempt)} {wire : Option (List Link)} (attempt : Attempt) → AddsAttempt old new attempt → (made : ℕ) → ((now : List Attempt) → old ≡ Some now → made ≡ length now)
    → (world : World) → ComesTo new wire world → IsAttempt world made attempt
is_attempt {old} {new} {wire} attempt one made count world comes = by_case world.attempts comes.adds
  where
    by_case : (all : Option (List Attempt)) → AddsAttempts wire new all → IfSome all (λ l. slice_get l made ≡ Some attempt)
    by_case None adds = tt
    by_case (Some all) adds =
        let last = adds.added all refl in
        let had = one.added last.0 last.2 in
        let whole : all ≡ had.0 ++ attempt ∷ [] ++ last.1 = last.3 ∙ ap (λ (l : List Attempt). l ++ last.1) had.2 in
        ap (λ (l : List Attempt). slice_get l made) whole ∙ ap (λ k. slice_get (had.0 ++ attempt ∷ [] ++ last.1) k) (count had.0 had.1) ∙ get_behind had.0 last.1 attempt

-- what comes of what was told later comes of what was told before
pub ComesTo-earlier : {attempts_old attempts_new : Option (List Attempt)} {wire_old wire_new : Option (List Link)} → AddsAttempts wire_old attempts_old attempts_new → ToldLater wire_old wire_new
    → (world : World) → ComesTo attempts_new wire_new world → ComesTo attempts_old wire_old world
ComesTo-earlier adds later world comes = record { adds = AddsAttempts-trans later adds comes.adds; goes_on = ToldLater-trans later comes.goes_on }

-- at the end they come to themselves
pub ComesTo-now : (attempts : Option (List Attempt)) (links : List Link) → ComesTo attempts (Some links) (record { attempts = attempts; links = links })
ComesTo-now attempts links = record { adds = AddsAttempts-refl (Some links) attempts; goes_on = ToldLater-refl (Some links) }

-- what will be so of a connection that is there is so in the end
pub in_end : {attempts : Option (List Attempt)} {wire : Option (List Link)} {is_now holds : Link → Type 0} (link : ℕ) → Now wire link is_now → Ever wire link holds → (world : World) → ComesTo attempts wire world
    → InEnd world link holds
in_end link now ever world comes =
    let start = comes.goes_on.came_from world.links refl in
    let here = now.told start.0 start.1 in
    let last = start.2.each link here.0 here.1 in
    record { t = last.0; there = last.1; so = ever start.0 world.links start.1 start.2 last.0 last.1 }

-- a connection stays there
pub Now-later : {old new : Option (List Link)} {is_now : Link → Type 0} (link : ℕ) → ToldLater old new → Now old link is_now → Now new link (λ t. Unit {0})
Now-later link later now = record {
  told = λ links is.
      let start = later.came_from links is in
      let here = now.told start.0 start.1 in
      let last = start.2.each link here.0 here.1 in
      (last.0, last.1, tt);
}
