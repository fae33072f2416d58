-- Runs of groups, read from the front.
use Rattle.std.proofs.Common.{◌≡◌, ◌≢◌, ℕ, zero, suc, ◌+◌, ◌*◌, ◌/◌, ◌%◌, ◌^◌, ◌<◌, ◌≤◌, Bool, true, List, [], ◌∷◌, ◌++◌, length, get_or, add-one, ◌-◌, refl, sym, ap, subst, ◌∙◌, arith, ◌⊎◌, inl, inr, Some, decimal}
use Rattle.std.proofs.Math.ListN.{get_or-append}
use Rattle.std.proofs.lemmas.List.{get_or-append-add, length-append}
use Rattle.std.proofs.lemmas.List.Elements.{All-head, All-tail}
use Rattle.std.proofs.Math.Nat.{pow-suc}
use Rattle.std.proofs.lemmas.Nat.{mul-add-lt, div-add-mod'}
use Rattle.std.specs.declared.option.Option.{Option}
use Rattle.std.specs.Option.{unwrap_or}
use Rattle.path_model.specs.declared.addr.Addr.{Addr}
use Rattle.path_model.specs.declared.addr.Addr.TheVariants.{V4, V6}
use Rattle.av_text.specs.AddressText.{IsAddrText, parts_text}
use Rattle.av_text.specs.Marks.{Lacks}
use Rattle.any_prefix.proofs.TextLemmas.{addr_text_injective, has_mark, one_cut, parts_fit, quad_colon}
use Rattle.any_prefix.specs.Group.{IsGroup}
use Rattle.any_prefix.specs.AnyAddress.{joined, AreGroups, IsRun}
use Rattle.any_prefix.specs.declared.run.Run.{Run}
use Rattle.any_prefix.specs.Reading.{IsReadRun}
use Rattle.any_prefix.proofs.GroupLemmas.{group_lacks, group_same, no_colon, no_dot}

-- ---- pieces

-- a piece has no colon
pub first_lacks : (last : Bool) (p : List ℕ) (ps : List (List ℕ)) (gs : List ℕ) → AreGroups last (p ∷ ps) gs → Lacks 58 p
first_lacks last p [] gs (inl h) = group_lacks 58 no_colon p h.0 h.1
first_lacks last p [] gs (inr h) = quad_colon p h.0 h.2
first_lacks last p (q ∷ ps) gs h = group_lacks 58 no_colon p h.0 h.2

-- where a run has a piece it has a group
pub some_groups : (last : Bool) (p : List ℕ) (ps : List (List ℕ)) (gs : List ℕ) → AreGroups last (p ∷ ps) gs → 1 ≤ length gs
some_groups last p [] gs (inl h) = omega (arith, ap length h.2)
some_groups last p [] gs (inr h) = omega (arith, ap length h.3)
some_groups last p (q ∷ ps) gs h = omega (arith, ap length h.4)

-- ---- a run without a colon is one piece

pub one_piece : (last : Bool) (text : List ℕ) (groups : List ℕ) → Lacks 58 text → IsRun last text groups → 1 ≤ length groups
    → ((g : ℕ) × IsGroup text g × (groups ≡ g ∷ [])) ⊎ ((n : ℕ) × (last ≡ true) × IsAddrText text (V4 n) × (groups ≡ n / 65536 ∷ n % 65536 ∷ []))
one_piece last text groups lacks run some = by run.pieces run.joins run.are where
  by : (ps : List (List ℕ)) → text ≡ joined ps → AreGroups last ps groups
      → ((g : ℕ) × IsGroup text g × (groups ≡ g ∷ [])) ⊎ ((n : ℕ) × (last ≡ true) × IsAddrText text (V4 n) × (groups ≡ n / 65536 ∷ n % 65536 ∷ []))
  by [] joins are = absurd (omega (arith, some, ap length are))
  by (p ∷ []) joins are = subst (λ (t : List ℕ). ((g : ℕ) × IsGroup t g × (groups ≡ g ∷ [])) ⊎ ((n : ℕ) × (last ≡ true) × IsAddrText t (V4 n) × (groups ≡ n / 65536 ∷ n % 65536 ∷ []))) (sym joins) are
  by (p ∷ q ∷ ps) joins are = absurd (has_mark 58 p (joined (q ∷ ps)) (subst (λ (t : List ℕ). Lacks 58 t) joins lacks))

-- ---- a run with a colon is a group and a run

pub record Splits (last : Bool) (first rest groups : List ℕ) : Type 0 where
  pub head : ℕ
  pub group : IsGroup first head
  pub more : List ℕ
  pub run : IsRun last rest more
  pub some : 1 ≤ length more
  pub is : groups ≡ head ∷ more

pub splits : (last : Bool) (text first rest groups : List ℕ) → text ≡ first ++ 58 ∷ rest → Lacks 58 first → IsRun last text groups → 1 ≤ length groups → Splits last first rest groups
splits last text first rest groups cut lacks run some = by run.pieces run.joins run.are where
  by : (ps : List (List ℕ)) → text ≡ joined ps → AreGroups last ps groups → Splits last first rest groups
  by [] joins are = absurd (omega (arith, some, ap length are))
  by (p ∷ []) joins are = absurd (has_mark 58 first rest (subst (λ (t : List ℕ). Lacks 58 t) (sym joins ∙ cut) (first_lacks last p [] groups are)))
  by (p ∷ q ∷ ps) joins are =
      let e = one_cut 58 first p rest (joined (q ∷ ps)) lacks (first_lacks last p (q ∷ ps) groups are) (sym cut ∙ joins) in
      record {
        head = are.0;
        group = subst (λ (t : List ℕ). IsGroup t are.0) (sym e.0) are.2;
        more = are.1;
        run = record { pieces = q ∷ ps; joins = e.1; are = are.3 };
        some = some_groups last q ps are.1 are.3;
        is = are.4;
      }

-- and the other way round
pub joined_run : (last : Bool) (text first rest more : List ℕ) (g : ℕ) → text ≡ first ++ 58 ∷ rest → IsGroup first g → IsRun last rest more → 1 ≤ length more → IsRun last text (g ∷ more)
joined_run last text first rest more g cut group run some = by run.pieces run.joins run.are where
  by : (ps : List (List ℕ)) → rest ≡ joined ps → AreGroups last ps more → IsRun last text (g ∷ more)
  by [] joins are = absurd (omega (arith, some, ap length are))
  by (q ∷ ps) joins are = record { pieces = first ∷ q ∷ ps; joins = cut ∙ ap (λ (t : List ℕ). first ++ 58 ∷ t) joins; are = (g, more, group, are, refl) }

-- ---- what is read

pub group_run : (last : Bool) (text : List ℕ) (g : ℕ) → IsGroup text g → IsRun last text (g ∷ [])
group_run last text g is = record { pieces = text ∷ []; joins = refl; are = inl (g, is, refl) }

pub quad_run : (last : Bool) (text : List ℕ) (n : ℕ) → last ≡ true → IsAddrText text (V4 n) → IsRun last text (n / 65536 ∷ n % 65536 ∷ [])
quad_run last text n end is = record { pieces = text ∷ []; joins = refl; are = inr (n, end, is, refl) }

pub end_none : (last : Bool) (text groups : List ℕ) → Lacks 58 text → IsRun last text groups → 1 ≤ length groups → ((g : ℕ) → IsGroup text g → ⊥)
    → ((n : ℕ) → last ≡ true → IsAddrText text (V4 n) → length groups ≡ 2 → ⊥) → ⊥
end_none last text groups lacks run some no_group no_quad = elim (one_piece last text groups lacks run some) [
  | inl one ↦ no_group one.0 one.1
  | inr two ↦ no_quad two.0 two.1 two.2 (ap length two.3)
]

pub group_read : (last : Bool) (text : List ℕ) (most g : ℕ) (run : Run) → IsGroup text g → g < 65536 → 1 ≤ most → run ≡ record { count = 1; number = g } → IsReadRun last text most run
group_read last text most g run is small some same = subst (λ (r : Run). IsReadRun last text most r) (sym same) (record {
  groups = g ∷ [];
  is = group_run last text g is;
  count = refl;
  some = omega arith;
  few = some;
  number = omega arith;
  small = omega (arith, small);
})

pub quad_read : (last : Bool) (text : List ℕ) (most n : ℕ) (run : Run) → last ≡ true → IsAddrText text (V4 n) → 2 ≤ most → run ≡ record { count = 2; number = n } → IsReadRun last text most run
quad_read last text most n run end is some same = subst (λ (r : Run). IsReadRun last text most r) (sym same) (record {
  groups = n / 65536 ∷ n % 65536 ∷ [];
  is = quad_run last text n end is;
  count = refl;
  some = omega arith;
  few = some;
  number = omega (arith, div-add-mod' n 65536);
  small = omega (arith, is.0);
})

pub more_small : (c high low : ℕ) → high < 65536 → low < 65536 ^ c → high * 65536 ^ c + low < 65536 ^ (c + 1)
more_small c high low a b =
    let lt : high * 65536 ^ c + low < 65536 ^ c * 65536 = mul-add-lt high (65536 ^ c) low 65536 a b in
    let e : 65536 ^ (c + 1) ≡ 65536 ^ c * 65536 = ap (λ (k : ℕ). 65536 ^ k) (add-one c) ∙ pow-suc 65536 c in
    omega (arith, lt, e)

pub more_read : (last : Bool) (text first rest : List ℕ) (most high : ℕ) (low run : Run) → text ≡ first ++ 58 ∷ rest → IsGroup first high → high < 65536 → 1 ≤ most → IsReadRun last rest (most - 1) low
    → run ≡ record { count = low.count + 1; number = high * 65536 ^ low.count + low.number } → IsReadRun last text most run
more_read last text first rest most high low run cut group small some read same = subst (λ (r : Run). IsReadRun last text most r) (sym same) (record {
  groups = high ∷ read.groups;
  is = joined_run last text first rest read.groups high cut group read.is (omega (arith, read.some, read.count));
  count = omega (arith, read.count);
  some = omega arith;
  few = omega (arith, read.few, some);
  number = ap (λ (k : ℕ). high * 65536 ^ k + low.number) read.count ∙ ap (λ (m : ℕ). high * 65536 ^ length read.groups + m) read.number;
  small = more_small low.count high low.number small read.small;
})

pub run_fits : (c high low : ℕ) → c ≤ 7 → high < 65536 → low < 65536 ^ c → high * 65536 ^ c + low < 340282366920938463463374607431768211456
run_fits c high low few a b = parts_fit 65536 c 7 high low (omega arith) few (more_small c high low a b)

pub other_family : (m n : ℕ) (a : Addr) → a ≡ V6 m → Some a ≡ Some (V4 n) → ⊥
other_family m n a is same = let e : V6 m ≡ V4 n = sym is ∙ ap (λ (o : Option Addr). unwrap_or o a) same in absurd cc

-- ---- how many groups a text has

group_dotless : (text : List ℕ) (g n : ℕ) → IsGroup text g → IsAddrText text (V4 n) → ⊥
group_dotless text g n group quad = has_mark 46 (decimal (n / 256 ^ 3)) (parts_text decimal 46 256 2 (n % 256 ^ 3)) (subst (λ (t : List ℕ). Lacks 46 t) quad.1 (group_lacks 46 no_dot text g group))

quads_same : (text : List ℕ) (m n : ℕ) → IsAddrText text (V4 m) → IsAddrText text (V4 n) → m ≡ n
quads_same text m n one other = let e = addr_text_injective (V4 m) (V4 n) one.0 other.0 (sym one.1 ∙ other.1) in cc

quad_pair : (m n : ℕ) → m ≡ n → m / 65536 ∷ m % 65536 ∷ [] ≡ n / 65536 ∷ n % 65536 ∷ []
quad_pair m n e = ap (λ (k : ℕ). k / 65536 ∷ k % 65536 ∷ []) e

-- one text spells one run
pub same_run : (last : Bool) (text : List ℕ) (gs hs : List ℕ) → IsRun last text gs → IsRun last text hs → 1 ≤ length gs → 1 ≤ length hs → gs ≡ hs
same_run last text gs hs run other some some' = by run.pieces text gs hs run.joins run.are other some some' where
  by : (ps : List (List ℕ)) (text : List ℕ) (gs hs : List ℕ) → text ≡ joined ps → AreGroups last ps gs → IsRun last text hs → 1 ≤ length gs → 1 ≤ length hs → gs ≡ hs
  by [] text gs hs joins are other some some' = absurd (omega (arith, some, ap length are))
  by (p ∷ []) text gs hs joins are other some some' =
      let lacks : Lacks 58 text = subst (λ (t : List ℕ). Lacks 58 t) (sym joins) (first_lacks last p [] gs are) in
      elim (one_piece last text hs lacks other some') [
        | inl one ↦ elim are [
          | inl own ↦ own.2 ∙ ap (λ (g : ℕ). g ∷ []) (group_same text own.0 one.0 (subst (λ (t : List ℕ). IsGroup t own.0) (sym joins) own.1) one.1) ∙ sym one.2
          | inr own ↦ absurd (group_dotless text one.0 own.0 one.1 (subst (λ (t : List ℕ). IsAddrText t (V4 own.0)) (sym joins) own.2))
        ]
        | inr two ↦ elim are [
          | inl own ↦ absurd (group_dotless text own.0 two.0 (subst (λ (t : List ℕ). IsGroup t own.0) (sym joins) own.1) two.2)
          | inr own ↦ own.3 ∙ quad_pair own.0 two.0 (quads_same text own.0 two.0 (subst (λ (t : List ℕ). IsAddrText t (V4 own.0)) (sym joins) own.2) two.2) ∙ sym two.3
        ]
      ]
  by (p ∷ q ∷ ps) text gs hs joins are other some some' =
      let s = splits last text p (joined (q ∷ ps)) hs joins (first_lacks last p (q ∷ ps) gs are) other some' in
      let more = by (q ∷ ps) (joined (q ∷ ps)) are.1 s.more refl are.3 s.run (some_groups last q ps are.1 are.3) s.some in
      are.4 ∙ ap (λ (g : ℕ). g ∷ are.1) (group_same p are.0 s.head are.2 s.group) ∙ ap (λ (m : List ℕ). s.head ∷ m) more ∙ sym s.is

pub same_count : (last : Bool) (text : List ℕ) (gs hs : List ℕ) → IsRun last text gs → IsRun last text hs → 1 ≤ length gs → 1 ≤ length hs → length gs ≡ length hs
same_count last text gs hs run other some some' = ap length (same_run last text gs hs run other some some')

-- ---- runs that may be empty

quad_some : (p : List ℕ) (n : ℕ) → IsAddrText p (V4 n) → 1 ≤ length p
quad_some p n is =
    let e : length p ≡ length (decimal (n / 256 ^ 3)) + suc (length (parts_text decimal 46 256 2 (n % 256 ^ 3))) =
    ap (λ (t : List ℕ). length t) is.1 ∙ length-append (decimal (n / 256 ^ 3)) (46 ∷ parts_text decimal 46 256 2 (n % 256 ^ 3)) in
    omega (arith, e)

pub piece_some : (last : Bool) (p : List ℕ) (ps : List (List ℕ)) (gs : List ℕ) → AreGroups last (p ∷ ps) gs → 1 ≤ length p
piece_some last p [] gs (inl h) = h.1.some
piece_some last p [] gs (inr h) = quad_some p h.0 h.2
piece_some last p (q ∷ ps) gs h = h.2.some

joined_some : (last : Bool) (p : List ℕ) (ps : List (List ℕ)) (gs : List ℕ) → AreGroups last (p ∷ ps) gs → 1 ≤ length (joined (p ∷ ps))
joined_some last p [] gs are = piece_some last p [] gs are
joined_some last p (q ∷ ps) gs are = let e = length-append p (58 ∷ joined (q ∷ ps)) in let some = piece_some last p (q ∷ ps) gs are in omega (arith, e, some)

-- an empty text has no group, and another text has some
pub empty_run : (last : Bool) (text gs : List ℕ) → length text ≡ 0 → IsRun last text gs → length gs ≡ 0
empty_run last text gs none run = by run.pieces run.joins run.are where
  by : (ps : List (List ℕ)) → text ≡ joined ps → AreGroups last ps gs → length gs ≡ 0
  by [] joins are = ap length are
  by (p ∷ ps) joins are = absurd (omega (arith, none, ap (λ (t : List ℕ). length t) joins, joined_some last p ps gs are))

pub full_run : (last : Bool) (text gs : List ℕ) → 1 ≤ length text → IsRun last text gs → 1 ≤ length gs
full_run last text gs some run = by run.pieces run.joins run.are where
  by : (ps : List (List ℕ)) → text ≡ joined ps → AreGroups last ps gs → 1 ≤ length gs
  by [] joins are = absurd (omega (arith, some, ap (λ (t : List ℕ). length t) joins))
  by (p ∷ ps) joins are = some_groups last p ps gs are

none_or_some : (n : ℕ) → (n ≡ 0) ⊎ (1 ≤ n)
none_or_some n = search arith

none_is : (gs : List ℕ) → length gs ≡ 0 → gs ≡ []
none_is [] e = refl
none_is (g ∷ gs) e = absurd (omega (arith, e))

pub part_same : (last : Bool) (text gs hs : List ℕ) → IsRun last text gs → IsRun last text hs → gs ≡ hs
part_same last text gs hs run other = elim (none_or_some (length text)) [
  | inl none ↦ none_is gs (empty_run last text gs none run) ∙ sym (none_is hs (empty_run last text hs none other))
  | inr some ↦ same_run last text gs hs run other (full_run last text gs some run) (full_run last text hs some other)
]

pub part_count : (last : Bool) (text gs hs : List ℕ) → IsRun last text gs → IsRun last text hs → length gs ≡ length hs
part_count last text gs hs run other = ap length (part_same last text gs hs run other)

-- ---- a colon of a run stands before a byte that is no colon

lacks_at : (p : List ℕ) (k : ℕ) → Lacks 58 p → k < length p → get_or p k 0 ≢ 58
lacks_at [] k lacks below = absurd (omega (arith, below))
lacks_at (b ∷ bs) zero lacks below = All-head (λ byte. byte ≢ 58) b bs lacks
lacks_at (b ∷ bs) (suc k) lacks below = lacks_at bs k (All-tail (λ byte. byte ≢ 58) b bs lacks) (omega (arith, below))

first_at : (last : Bool) (p : List ℕ) (ps : List (List ℕ)) (gs : List ℕ) → AreGroups last (p ∷ ps) gs → get_or (joined (p ∷ ps)) 0 0 ≢ 58
first_at last p [] gs are e = lacks_at p 0 (first_lacks last p [] gs are) (piece_some last p [] gs are) e
first_at last p (q ∷ ps) gs are e = lacks_at p 0 (first_lacks last p (q ∷ ps) gs are) (piece_some last p (q ∷ ps) gs are) (sym (get_or-append p (58 ∷ joined (q ∷ ps)) 0 0 (piece_some last p (q ∷ ps) gs are)) ∙ e)

below_or : (k n : ℕ) → (k < n) ⊎ ((k ≡ n) ⊎ (n < k))
below_or k n = search arith

pub colon_inside : (last : Bool) (ps : List (List ℕ)) (gs : List ℕ) (k : ℕ) → AreGroups last ps gs → k < length (joined ps) → get_or (joined ps) k 0 ≡ 58
    → (k + 1 < length (joined ps)) × (get_or (joined ps) (k + 1) 0 ≢ 58)
colon_inside last [] gs k are below e = absurd (omega (arith, below))
colon_inside last (p ∷ []) gs k are below e = absurd (lacks_at p k (first_lacks last p [] gs are) below e)
colon_inside last (p ∷ q ∷ ps) gs k are below e = elim (below_or k (length p)) [
  | inl lt ↦ absurd (lacks_at p k (first_lacks last p (q ∷ ps) gs are) lt (sym (get_or-append p (58 ∷ joined (q ∷ ps)) 0 k lt) ∙ e))
  | inr rest ↦ elim rest [
    | inl is ↦ (
      omega (arith, is, length-append p (58 ∷ joined (q ∷ ps)), joined_some last q ps are.1 are.3),
      λ f. first_at last q ps are.1 are.3 (sym (get_or-append-add p (58 ∷ joined (q ∷ ps)) 1 0) ∙ ap (λ (n : ℕ). get_or (p ++ 58 ∷ joined (q ∷ ps)) (n + 1) 0) (sym is) ∙ f),
    )
    | inr gt ↦
        let m : ℕ = k - length p - 1 in
        let at : k ≡ length p + suc m = omega (arith, gt) in
        let next : k + 1 ≡ length p + suc (m + 1) = omega (arith, gt) in
        let long = length-append p (58 ∷ joined (q ∷ ps)) in
        let inner = colon_inside last (q ∷ ps) are.1 m are.3 (omega (arith, below, long, at))
        (sym (get_or-append-add p (58 ∷ joined (q ∷ ps)) (suc m) 0) ∙ ap (λ (n : ℕ). get_or (p ++ 58 ∷ joined (q ∷ ps)) n 0) (sym at) ∙ e) in (
          omega (arith, inner.0, long, next),
          λ f. inner.1 (sym (get_or-append-add p (58 ∷ joined (q ∷ ps)) (suc (m + 1)) 0) ∙ ap (λ (n : ℕ). get_or (p ++ 58 ∷ joined (q ∷ ps)) n 0) (sym next) ∙ f),
        )
  ]
]
