-- What calls leave of what is known of a connection, and what becomes of it.
use Rattle.std.proofs.Common.{◌≡◌, ◌≢◌, ℕ, ◌<◌, ◌⊎◌, inl, inr, Bool, true, false, List, [], ◌∷◌, ◌++◌, length, take, drop, Some, None, refl, sym, ap, subst, ◌∙◌, arith, append_assoc, append-nil, take-append-drop}
use Rattle.std.specs.Prelude.{slice_get}
use Rattle.std.specs.Option.{option_map}
use Rattle.std.specs.Io.KnownBytes.{IsAtEnd}
use Rattle.std.specs.declared.option.Option.{Option}
use Rattle.av_base.specs.Places.{change_at}
use Rattle.av_base.specs.Connections.{Agrees, Link, LinkLater, ToldLater, IsUsable, IsOpen, receives, sends, breaks, closes, to_come_of, stands_broken}
use Rattle.av_base.specs.declared.standing.Standing.{Standing}
use Rattle.av_base.specs.declared.standing.Break.{Break}
use Rattle.av_base.specs.declared.standing.Break.TheVariants.{BySend, ByRecv}
use Rattle.av_base.proofs.PlacesLemmas.{get-change_at, get-change_other}
use Rattle.av_base.proofs.LinksLemmas.{IsOpen-usable, IsOpen-broken}
use Rattle.av_base.proofs.LaterLemmas.{Later-trans, ToldLater-refl, ToldLater-trans}
use Rattle.connection_calls.proofs.StandingLemmas.{stands_open}
use Rattle.connection_calls.specs.Connection.{Now, Has, Spares, told_at}
use Rattle.connection_calls.specs.Moves.{Ever, Only, Sending, KeepsSent, Finishes, Sends, SendsOrCloses}
use Rattle.connection_calls.specs.Ends.{BrokeByReceive, CameToEnd, IsClosed, LostAtSend}

-- ---- one connection

pub Now-change : {wire new : Option (List Link)} {link : ℕ} {p q : Link → Type 0} (f : Link → Link) → new ≡ option_map (change_at link f) wire → ((t : Link) → p t → q (f t)) → Now wire link p → Now new link q
Now-change {wire} {new} {link} {p} {q} f is keeps now = record { told = go wire new is now }
  where
    go : (wire new : Option (List Link)) → new ≡ option_map (change_at link f) wire → Now wire link p → (links : List Link) → new ≡ Some links → (t : Link) × (slice_get links link ≡ Some t) × q t
    go None new is now links told = let none : ⊥ = cc in absurd none
    go (Some before) new is now links told =
        let had = now.told before refl in
        let same : links ≡ change_at link f before = cc in
        (f had.0, ap (λ (l : List Link). slice_get l link) same ∙ get-change_at f link before ∙ ap (option_map f) had.1, keeps had.0 had.2)

pub Now-map : {wire : Option (List Link)} {link : ℕ} {p q : Link → Type 0} → ((t : Link) → p t → q t) → Now wire link p → Now wire link q
Now-map keeps now = record { told = λ links is. let had = now.told links is in (had.0, had.1, keeps had.0 had.2) }

pub Now-got : {wire : Option (List Link)} {link : ℕ} {sent : List ℕ} (one other : List ℕ) → one ≡ other → Now wire link (Has one sent) → Now wire link (Has other sent)
Now-got {wire} {link} {sent} one other same now = subst (λ (l : List ℕ). Now wire link (Has l sent)) same now

pub Now-gave : {wire : Option (List Link)} {link : ℕ} {got : List ℕ} (one other : List ℕ) → one ≡ other → Now wire link (Has got one) → Now wire link (Has got other)
Now-gave {wire} {link} {got} one other same now = subst (λ (l : List ℕ). Now wire link (Has got l)) same now

pub received_more : {wire new : Option (List Link)} {link : ℕ} (bytes before held sent : List ℕ) → new ≡ option_map (receives link bytes) wire → Now wire link (Has (before ++ held) sent) → Now new link (Has (before ++ (held ++ bytes)) sent)
received_more {wire} {new} {link} bytes before held sent is now =
    Now-change (λ t. record t { received = t.received ++ bytes; to_come = drop (length bytes) t.to_come }) is
    (λ t had. record { got = ap (λ (l : List ℕ). l ++ bytes) had.got ∙ append_assoc before held bytes; gave = had.gave }) now

pub received_end : {wire new : Option (List Link)} {link : ℕ} (stands : List Standing) → Agrees new stands → IsUsable stands link → (n : ℕ) (buf got sent : List ℕ) → new ≡ option_map (receives link (take n buf)) wire → n ≡ 0 → IsAtEnd (to_come_of new link)
    → Now wire link (Has got sent) → Now new link (λ t. Has got sent t × CameToEnd t)
received_end {wire} {new} {link} stands agrees usable n buf got sent is none ended now =
    let nothing : take n buf ≡ [] = ap (λ k. take k buf) none in
    let after : Now new link (Has got sent) =
    Now-change (λ t. record t { received = t.received ++ take n buf; to_come = drop (length (take n buf)) t.to_come }) is
    (λ t had. record { got = ap (λ (l : List ℕ). t.received ++ l) nothing ∙ append-nil t.received ∙ had.got; gave = had.gave }) now in
    record {
      told = λ links told.
          let had = after.told links told in
          let at_end : IsAtEnd (to_come_of (Some links) link) = subst (λ (o : Option (List Link)). IsAtEnd (to_come_of o link)) told ended in
          let last : IsAtEnd (Some had.0.to_come) = subst (λ (o : Option (List ℕ)). IsAtEnd o) (ap (option_map (λ (t : Link). t.to_come)) had.1) at_end in
          (had.0, had.1, (had.2, ((stands_open new stands link agrees usable links told had.0 had.1).1, last)));
    }

pub broke_end : {wire new : Option (List Link)} {link : ℕ} (got sent : List ℕ) → new ≡ option_map (breaks link ByRecv) wire → Now wire link (Has got sent) → Now new link (λ t. Has got sent t × BrokeByReceive t)
broke_end got sent is now = Now-change (λ t. record t { broken = Some ByRecv }) is (λ t had. (record { got = had.got; gave = had.gave }, refl)) now

-- one that may be used isn't broken
pub Now-usable : (wire : Option (List Link)) (stands : List Standing) (link : ℕ) {p : Link → Type 0} → Agrees wire stands → IsUsable stands link → Now wire link p → Now wire link (λ t. p t × (t.broken ≡ None))
Now-usable wire stands link agrees usable now = record {
  told = λ links is. let had = now.told links is in (had.0, had.1, (had.2, (stands_open wire stands link agrees usable links is had.0 had.1).1));
}

-- ---- what was sent

pub KeepsSent-refl : (link : ℕ) (wire : Option (List Link)) → KeepsSent link wire wire
KeepsSent-refl link wire = record { keeps = λ gave now. now }

pub KeepsSent-trans : {link : ℕ} {old mid new : Option (List Link)} → KeepsSent link old mid → KeepsSent link mid new → KeepsSent link old new
KeepsSent-trans first second = record { keeps = λ gave now. second.keeps gave (first.keeps gave now) }

pub KeepsSent-received : {link : ℕ} {wire new : Option (List Link)} (bytes : List ℕ) → new ≡ option_map (receives link bytes) wire → KeepsSent link wire new
KeepsSent-received bytes is = record { keeps = λ gave now. Now-change (λ t. record t { received = t.received ++ bytes; to_come = drop (length bytes) t.to_come }) is (λ t had. had) now }

pub KeepsSent-broke : {link : ℕ} {wire new : Option (List Link)} → new ≡ option_map (breaks link ByRecv) wire → KeepsSent link wire new
KeepsSent-broke is = record { keeps = λ gave now. Now-change (λ t. record t { broken = Some ByRecv }) is (λ t had. had) now }

-- ---- the others

told_other : (wire new : Option (List Link)) (f : Link → Link) (link other : ℕ) → new ≡ option_map (change_at link f) wire → other ≢ link → told_at new other ≡ told_at wire other
told_other None new f link other is apart = ap (λ (o : Option (List Link)). told_at o other) is
told_other (Some links) new f link other is apart = ap (λ (o : Option (List Link)). told_at o other) is ∙ ap (λ (t : Option Link). Some t) (get-change_other f link other links apart)

-- a call that leaves how they stand
pub Only-quiet : {wire new : Option (List Link)} {stood stands : List Standing} {link : ℕ} (f : Link → Link) → ToldLater wire new → new ≡ option_map (change_at link f) wire → stands ≡ stood → Only link wire new stood stands
Only-quiet {wire} {new} {stood} {stands} {link} f later is same = record {
  later = later;
  others = λ other apart. told_other wire new f link other is apart;
  standing = λ other apart. ap (λ (l : List Standing). slice_get l other) same;
}

-- and one that changes how one stands
pub Only-loud : {wire new : Option (List Link)} {stood stands : List Standing} {link : ℕ} (f : Link → Link) (g : Standing → Standing) → ToldLater wire new → new ≡ option_map (change_at link f) wire → stands ≡ change_at link g stood → Only link wire new stood stands
Only-loud {wire} {new} {stood} {stands} {link} f g later is same = record {
  later = later;
  others = λ other apart. told_other wire new f link other is apart;
  standing = λ other apart. ap (λ (l : List Standing). slice_get l other) same ∙ get-change_other g link other stood apart;
}

pub Spares-refl : (P : ℕ → Type 0) (wire : Option (List Link)) (stands : List Standing) → Spares P wire wire stands stands
Spares-refl P wire stands = record { later = ToldLater-refl wire; others = λ other apart. refl; standing = λ other apart. refl }

pub Spares-trans : {P : ℕ → Type 0} {old mid new : Option (List Link)} {a b c : List Standing} → Spares P old mid a b → Spares P mid new b c → Spares P old new a c
Spares-trans first second = record {
  later = ToldLater-trans first.later second.later;
  others = λ other apart. second.others other apart ∙ first.others other apart;
  standing = λ other apart. second.standing other apart ∙ first.standing other apart;
}

pub Spares-weaker : {P Q : ℕ → Type 0} {old new : Option (List Link)} {a b : List Standing} → Spares P old new a b → ((other : ℕ) → Q other → P other) → Spares Q old new a b
Spares-weaker first weaker = record {
  later = first.later;
  others = λ other apart. first.others other (weaker other apart);
  standing = λ other apart. first.standing other (weaker other apart);
}

pub open_broken : (stood stands : List Standing) (link : ℕ) (call : Break) → IsUsable stood link → stands ≡ stands_broken link call stood → IsOpen stands link
open_broken stood stands link call usable is = subst (λ (l : List Standing). IsOpen l link) (sym is) (IsOpen-broken stood link call (IsOpen-usable stood link usable))

-- ---- sending

pub Sending-start : (wire : Option (List Link)) (link : ℕ) (bytes : List ℕ) → Sending wire wire link bytes bytes
Sending-start wire link bytes = record { front = []; whole = refl; keeps = λ got gave now. Now-gave gave (gave ++ []) (sym (append-nil gave)) now }

pub Sending-more : {old mid new : Option (List Link)} {link : ℕ} {bytes rest : List ℕ} → Sending old mid link bytes rest → (n : ℕ) → new ≡ option_map (sends link (take n rest)) mid → Sending old new link bytes (drop n rest)
Sending-more {old} {mid} {new} {link} {bytes} {rest} so_far n is = record {
  front = so_far.front ++ take n rest;
  whole = so_far.whole ∙ ap (λ (l : List ℕ). so_far.front ++ l) (sym (take-append-drop n rest)) ∙ sym (append_assoc so_far.front (take n rest) (drop n rest));
  keeps = λ got gave now.
      Now-change (λ t. record t { sent = t.sent ++ take n rest }) is
      (λ t had. record { got = had.got; gave = ap (λ (l : List ℕ). l ++ take n rest) had.gave ∙ append_assoc gave so_far.front (take n rest) }) (so_far.keeps got gave now);
}

pub Sending-part : {old mid new : Option (List Link)} {link : ℕ} {bytes rest : List ℕ} → Sending old mid link bytes rest → 0 < length rest → new ≡ option_map (breaks link BySend) mid
    → (got gave : List ℕ) → Now old link (Has got gave) → Sends new link got gave bytes false
Sending-part {old} {mid} {new} {link} {bytes} {rest} so_far more is got gave now =
    Now-change (λ t. record t { broken = Some BySend }) is
    (λ t had. (had.got, record { front = so_far.front; rest = rest; whole = so_far.whole; some_left = more; gave = had.gave; broke = refl }))
    (so_far.keeps got gave now)

pub Sending-all : {old mid : Option (List Link)} {link : ℕ} {bytes rest : List ℕ} → Sending old mid link bytes rest → length rest ≡ 0 → (got gave : List ℕ) → Now old link (Has got gave) → Now mid link (Has got (gave ++ bytes))
Sending-all {old} {mid} {link} {bytes} {rest} so_far empty got gave now =
    let none = nothing rest empty in
    Now-gave (gave ++ so_far.front) (gave ++ bytes) (ap (λ (l : List ℕ). gave ++ l) (sym (so_far.whole ∙ ap (λ (l : List ℕ). so_far.front ++ l) none ∙ append-nil so_far.front))) (so_far.keeps got gave now)
  where
    nothing : (l : List ℕ) → length l ≡ 0 → l ≡ []
    nothing [] h = refl
    nothing (x ∷ l) h = absurd (omega arith)

-- and closing

pub sends_lost : {mid new : Option (List Link)} {link : ℕ} {got gave bytes : List ℕ} → Sends mid link got gave bytes false → new ≡ option_map (closes link) mid → SendsOrCloses new link got gave bytes false
sends_lost sends closed = Now-change (λ t. record t { closed = true }) closed
    (λ t had. (had.0, record { front = had.1.front; rest = had.1.rest; whole = had.1.whole; some_left = had.1.some_left; gave = had.1.gave; broke = had.1.broke }, refl)) sends

pub finishes : (mid new : Option (List Link)) (stands : List Standing) (link : ℕ) (got gave bytes : List ℕ) (whole : Bool) → Agrees mid stands → (whole ≡ true → IsUsable stands link) → Sends mid link got gave bytes whole → new ≡ option_map (closes link) mid → Finishes new link got gave bytes whole
finishes mid new stands link got gave bytes true agrees usable sent closed =
    Now-change (λ t. record t { closed = true }) closed (λ t had. (had.0.got, had.0.gave, refl, had.1)) (Now-usable mid stands link agrees (usable refl) sent)
finishes mid new stands link got gave bytes false agrees usable sent closed = sends_lost sent closed

-- they went or not, and it was closed
pub finished : (new : Option (List Link)) (link : ℕ) (got gave bytes : List ℕ) (whole : Bool) → Finishes new link got gave bytes whole → Now new link (λ t. (t.received ≡ got) × ((t.sent ≡ gave ++ bytes) ⊎ LostAtSend t gave bytes) × IsClosed t)
finished new link got gave bytes true had = Now-map (λ t h. (h.0, inl h.1, h.2)) had
finished new link got gave bytes false had = Now-map (λ t h. (h.0, inr h.1, h.2)) had

-- ---- whatever becomes of it

pub Ever-later : {old new : Option (List Link)} (link : ℕ) (holds : Link → Type 0) → ToldLater old new → Ever old link holds → Ever new link holds
Ever-later link holds later ever = λ links final is goes. let start = later.came_from links is in ever start.0 final start.1 (Later-trans start.2 goes)

pub Ever-now : {wire : Option (List Link)} {link : ℕ} {p q : Link → Type 0} → ((t u : Link) → p t → LinkLater t u → q u) → Now wire link p → Ever wire link q
Ever-now {wire} {link} {p} {q} keeps now = λ links final is goes t there.
    let had = now.told links is in
    let last = goes.each link had.0 had.1 in
    let same : last.0 ≡ t = cc in
    subst q same (keeps had.0 last.0 had.2 last.2)

-- a connection that is closed stands in the end as it was closed
pub Ever-closed : {wire : Option (List Link)} {link : ℕ} {p : Link → Type 0} → ((t : Link) → p t → IsClosed t) → Now wire link p → Ever wire link p
Ever-closed {wire} {link} {p} closed now = Ever-now (λ t u is later. subst p (sym (later.after_close (closed t is))) is) now

pub Ever-map : {wire : Option (List Link)} {link : ℕ} {p q : Link → Type 0} → ((t : Link) → p t → q t) → Ever wire link p → Ever wire link q
Ever-map keeps ever = λ links final is goes t there. keeps t (ever links final is goes t there)
