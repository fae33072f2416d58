-- Lists of bytes, joined and taken apart. Proofs above cite these.
use Rattle.std.proofs.Common.{ℕ, zero, suc, ◌<◌, List, [], ◌∷◌, ◌++◌, subst, arith}
use Rattle.der_reader.specs.Number.{IsBytes}
use Rattle.der_reader.specs.Value.{Spells, Begins}

pub no_bytes : IsBytes []
no_bytes i = omega arith

pub one_more : (b : ℕ) (bs : List ℕ) → b < 256 → IsBytes bs → IsBytes (b ∷ bs)
one_more b bs h more zero = h
one_more b bs h more (suc i) = more i

pub both_bytes : (xs ys : List ℕ) → IsBytes xs → IsBytes ys → IsBytes (xs ++ ys)
both_bytes [] ys h k i = k i
both_bytes (x ∷ xs) ys h k zero = h 0
both_bytes (x ∷ xs) ys h k (suc i) = both_bytes xs ys (λ j. h (suc j)) k i

pub front_bytes : (xs ys : List ℕ) → IsBytes (xs ++ ys) → IsBytes xs
front_bytes [] ys h i = omega arith
front_bytes (x ∷ xs) ys h zero = h 0
front_bytes (x ∷ xs) ys h (suc i) = front_bytes xs ys (λ j. h (suc j)) i

pub back_bytes : (xs ys : List ℕ) → IsBytes (xs ++ ys) → IsBytes ys
back_bytes [] ys h = h
back_bytes (x ∷ xs) ys h = back_bytes xs ys (λ j. h (suc j))

-- the parts of a spelling
inside : (tag : ℕ) (content a : List ℕ) (s : Spells tag content a) → IsBytes a → IsBytes (s.octets ++ content)
inside tag content a s bytes =
    let all : IsBytes (tag ∷ s.octets ++ content) = subst IsBytes s.whole bytes in
    λ j. all (suc j)

pub octets_bytes : (tag : ℕ) (content a : List ℕ) (s : Spells tag content a) → IsBytes a → IsBytes s.octets
octets_bytes tag content a s bytes = front_bytes s.octets content (inside tag content a s bytes)

-- the content of the value at the front, that value, and what follows it
pub value_bytes : (tag : ℕ) (bytes content rest : List ℕ) (b : Begins tag bytes content rest) → IsBytes bytes → IsBytes b.front
value_bytes tag bytes content rest b h = front_bytes b.front rest (subst IsBytes b.whole h)

pub rest_bytes : (tag : ℕ) (bytes content rest : List ℕ) → Begins tag bytes content rest → IsBytes bytes → IsBytes rest
rest_bytes tag bytes content rest b h = back_bytes b.front rest (subst IsBytes b.whole h)

pub content_bytes : (tag : ℕ) (bytes content rest : List ℕ) → Begins tag bytes content rest → IsBytes bytes → IsBytes content
content_bytes tag bytes content rest b h =
    back_bytes b.spelled.octets content (inside tag content b.front b.spelled (value_bytes tag bytes content rest b h))
