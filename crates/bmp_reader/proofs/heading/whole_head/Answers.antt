use Rattle.std.proofs.Common.{◌≡◌, ℕ, List, ◌∷◌, ap, sym, subst, ◌∙◌}
use Rattle.bmp_reader.specs.Coming.{IsPartial}
use Rattle.bgp_attrs.proofs.FixedLemmas.{byte_finds, byte_none}
use Rattle.bmp_reader.proofs.MessageLemmas.{headed_by, partial_empty, partial_short}
use Rattle.bmp_reader.proofs.heading.whole_head.Goals as goal

pub returns-then-version-ne-VERSION : goal.returns-then-version-ne-VERSION
returns-then-version-ne-VERSION c = record {
  version = c.in-Some.version;
  rest = c.in-Some.behind.now;
  other = c.if-version-ne-VERSION.true;
  whole = byte_finds c.args.held.now c.in-Some.version c.in-Some.behind.now (sym c.in-Some.ensures);
}

pub returns-in-Some-take_head : goal.returns-in-Some-take_head
returns-in-Some-take_head c =
    let held = byte_finds c.args.held.now c.in-Some.version c.in-Some.behind.now (sym c.in-Some.ensures) in
    let three : c.args.held.now ≡ 3 ∷ c.in-Some.behind.now = held ∙ ap (λ (n : ℕ). n ∷ c.in-Some.behind.now) c.if-version-ne-VERSION.false in
    headed_by c.args.held.now c.in-Some.behind.now c.in-Some-take_head.size c.in-Some-take_head.kind c.sized_head.result three (sym c.in-Some-take_head.ensures) c.sized_head.ensures

pub returns-in-None-take_head : goal.returns-in-None-take_head
returns-in-None-take_head c =
    let held = byte_finds c.args.held.now c.in-Some.version c.in-Some.behind.now (sym c.in-Some.ensures) in
    let three : c.args.held.now ≡ 3 ∷ c.in-Some.behind.now = held ∙ ap (λ (n : ℕ). n ∷ c.in-Some.behind.now) c.if-version-ne-VERSION.false in
    partial_short c.args.held.now c.in-Some.behind.now three (sym c.in-None-take_head.ensures)

pub returns-in-None : goal.returns-in-None
returns-in-None c = subst (λ (l : List ℕ). IsPartial l) (sym (byte_none c.args.held.now (sym c.in-None.ensures))) partial_empty
