-- A message needs at most 59 pages.
use Rattle.std.proofs.Common.{◌≡◌, ℕ, zero, suc, ◌+◌, ◌-◌, ◌*◌, ◌/◌, ◌^◌, ◌<◌, ◌≤◌, List, inl, inr, sym, ap, ◌∙◌, subst, arith}
use Rattle.std.proofs.lemmas.Bool.{cases_lt}
use Rattle.wire.specs.declared.message.Ask.{Ask}
use Rattle.node_maps.specs.Digest.{Hash}
use Rattle.node_maps.specs.Room.{page_span}
use Rattle.partial_tree.specs.Claims.{span, top_layer, GoodRange, GoodCount}
use Rattle.partial_tree.specs.MessagePages.{row_height_of, row_first_of, pages_of_layers, pages_up_to}
use Rattle.partial_tree.proofs.Powers.{exponent_le}

-- how many pages the rows of 2, 4, .. 2 ^ r places have beyond one each
abbrev extra : ℕ → ℕ
extra zero = 0
extra (suc zero) = 0
extra (suc (suc zero)) = 0
extra (suc (suc (suc zero))) = 0
extra (suc (suc (suc (suc zero)))) = 0
extra (suc (suc (suc (suc (suc zero))))) = 0
extra (suc (suc (suc (suc (suc (suc zero)))))) = 0
extra (suc (suc (suc (suc (suc (suc (suc zero))))))) = 0
extra (suc (suc (suc (suc (suc (suc (suc (suc zero)))))))) = 0
extra (suc (suc (suc (suc (suc (suc (suc (suc (suc zero))))))))) = 0
extra (suc (suc (suc (suc (suc (suc (suc (suc (suc (suc zero)))))))))) = 1
extra (suc (suc (suc (suc (suc (suc (suc (suc (suc (suc (suc zero))))))))))) = 4
extra (suc (suc (suc (suc (suc (suc (suc (suc (suc (suc (suc (suc zero)))))))))))) = 11
extra (suc (suc (suc (suc (suc (suc (suc (suc (suc (suc (suc (suc (suc zero))))))))))))) = 26
extra (suc (suc (suc (suc (suc (suc (suc (suc (suc (suc (suc (suc (suc r))))))))))))) = 0

-- a row of 2 ^ suc r places at a multiple of its length
row-few : (r m : ℕ) → r < 13 → page_span (m * 2 ^ suc r) (2 ^ suc r) + extra r ≤ 1 + extra (suc r)
row-few zero m low = omega arith
row-few (suc zero) m low = omega arith
row-few (suc (suc zero)) m low = omega arith
row-few (suc (suc (suc zero))) m low = omega arith
row-few (suc (suc (suc (suc zero)))) m low = omega arith
row-few (suc (suc (suc (suc (suc zero))))) m low = omega arith
row-few (suc (suc (suc (suc (suc (suc zero)))))) m low = omega arith
row-few (suc (suc (suc (suc (suc (suc (suc zero))))))) m low = omega arith
row-few (suc (suc (suc (suc (suc (suc (suc (suc zero)))))))) m low = omega arith
row-few (suc (suc (suc (suc (suc (suc (suc (suc (suc zero))))))))) m low = omega arith
row-few (suc (suc (suc (suc (suc (suc (suc (suc (suc (suc zero)))))))))) m low = omega arith
row-few (suc (suc (suc (suc (suc (suc (suc (suc (suc (suc (suc zero))))))))))) m low = omega arith
row-few (suc (suc (suc (suc (suc (suc (suc (suc (suc (suc (suc (suc zero)))))))))))) m low = omega arith
row-few (suc (suc (suc (suc (suc (suc (suc (suc (suc (suc (suc (suc (suc r))))))))))))) m low = absurd (omega (arith, low))

module _ (base index k : ℕ) (small : k ≤ 13) where
  layers-few : (n : ℕ) → pages_of_layers base index k n + extra (k - n) ≤ n + extra k
  layers-few zero = let whole : k - 0 ≡ k = omega arith in omega (arith, ap extra whole)
  layers-few (suc n) = elim (cases_lt n k) [
    | inl below ↦
        let high : row_height_of base k (base + n) ≡ suc (k - suc n) = omega arith in
        let row = subst (λ r. page_span (index / 2 ^ (base + n - base) / 2 ^ r * 2 ^ r) (2 ^ r) + extra (k - suc n) ≤ 1 + extra (suc (k - suc n))) (sym high)
        (row-few (k - suc n) (index / 2 ^ (base + n - base) / 2 ^ suc (k - suc n)) (omega arith)) in
        let next : suc (k - suc n) ≡ k - n = omega arith in
        omega (arith, layers-few n, row, ap extra next)
    | inr past ↦
        let high : row_height_of base k (base + n) ≡ 1 = omega arith in
        let row = subst (λ r. page_span (index / 2 ^ (base + n - base) / 2 ^ r * 2 ^ r) (2 ^ r) + 0 ≤ 1) (sym high)
        (row-few 0 (index / 2 ^ (base + n - base) / 2 ^ 1) (omega arith)) in
        let none : k - n ≡ 0 = omega arith in
        let none' : k - suc n ≡ 0 = omega arith in
        omega (arith, layers-few n, row, ap extra none, ap extra none')
  ]

extra-most : (k : ℕ) → k ≤ 13 → extra k ≤ 26
extra-most zero low = omega arith
extra-most (suc zero) low = omega arith
extra-most (suc (suc zero)) low = omega arith
extra-most (suc (suc (suc zero))) low = omega arith
extra-most (suc (suc (suc (suc zero)))) low = omega arith
extra-most (suc (suc (suc (suc (suc zero))))) low = omega arith
extra-most (suc (suc (suc (suc (suc (suc zero)))))) low = omega arith
extra-most (suc (suc (suc (suc (suc (suc (suc zero))))))) low = omega arith
extra-most (suc (suc (suc (suc (suc (suc (suc (suc zero)))))))) low = omega arith
extra-most (suc (suc (suc (suc (suc (suc (suc (suc (suc zero))))))))) low = omega arith
extra-most (suc (suc (suc (suc (suc (suc (suc (suc (suc (suc zero)))))))))) low = omega arith
extra-most (suc (suc (suc (suc (suc (suc (suc (suc (suc (suc (suc zero))))))))))) low = omega arith
extra-most (suc (suc (suc (suc (suc (suc (suc (suc (suc (suc (suc (suc zero)))))))))))) low = omega arith
extra-most (suc (suc (suc (suc (suc (suc (suc (suc (suc (suc (suc (suc (suc zero))))))))))))) low = omega arith
extra-most (suc (suc (suc (suc (suc (suc (suc (suc (suc (suc (suc (suc (suc (suc r)))))))))))))) low = absurd (omega (arith, low))

-- up to a top of a tree's height at most
pub few-up_to : (base index k top : ℕ) → k ≤ 13 → top ≤ 32 → pages_up_to base index k top ≤ 59
few-up_to base index k top small low = omega (arith, layers-few base index k small (top - base), extra-most k small)

pub span-small : (h : ℕ) (ask : Ask) → GoodRange h ask → span ask ≤ 13
span-small h ask range = exponent_le (span ask) 13 (omega (arith, range.power_of_two, range.most))

pub message-few : (h : ℕ) (ask : Ask) (hashes : List Hash) → h ≤ 32 → GoodRange h ask → GoodCount h ask hashes
    → pages_up_to ask.base ask.index (span ask) (top_layer ask hashes) ≤ 59
message-few h ask hashes low range count = few-up_to ask.base ask.index (span ask) (top_layer ask hashes) (span-small h ask range)
    (omega (arith, low, count.top_inside))

-- one place has one page
pub one_place : (index : ℕ) → page_span index 1 ≡ 1
one_place index = omega arith

-- the rows up to a layer, and the row of that layer
pub layer-more : (base index k l : ℕ) → base ≤ l → pages_of_layers base index k (l + 1 - base) ≡ pages_of_layers base index k (l - base) + page_span
    (row_first_of base index k l) (2 ^ row_height_of base k l)
layer-more base index k l from =
    let next : l + 1 - base ≡ suc (l - base) = omega arith in
    let here : base + (l - base) ≡ l = omega arith in
    ap (pages_of_layers base index k) next ∙ ap (λ j. pages_of_layers base index k (l - base) + page_span (row_first_of base index k j)
    (2 ^ row_height_of base k j)) here
