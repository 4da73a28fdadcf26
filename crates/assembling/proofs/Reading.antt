-- Digests that are read of a text one by one.
use Rattle.std.specs.Option.{IsSome, MatchOption}
use Rattle.std.proofs.Common.{◌≡◌, ℕ, zero, suc, ◌+◌, ◌*◌, ◌<◌, ◌≤◌, Bool, true, false, Option, Some, None, List, [], ◌∷◌, ◌++◌, length, take}
use Rattle.std.proofs.Common.{refl, drop, get_or, sym, ap, ◌∙◌, append_assoc, arith}
use Rattle.std.proofs.Math.Seq.{drop-append_seam, take-append_seam}
use Rattle.std.proofs.lemmas.List.{take_more}
use Rattle.drafts.specs.Outline.{AreOfLength}
use Rattle.gathering.specs.PartRows.{joined_hashes}
use Rattle.part_texts.proofs.Fronts.{next_front}
use Rattle.assembling.specs.Sizes.{row_size}
use Rattle.assembling.proofs.RowTexts.{some_size}

pub width_at : (width : ℕ) (xs : List (List ℕ)) (i : ℕ) (d : List ℕ) → AreOfLength width xs → i < length xs → length (get_or xs i d) ≡ width
width_at width [] i d are lt = absurd (omega (arith, lt))
width_at width (x ∷ xs) zero d are lt = are.0
width_at width (x ∷ xs) (suc i) d are lt = width_at width xs i d are.1 (omega (arith, lt))

-- the next one stands in front
module _ (width : ℕ) (given : List (List ℕ)) (i : ℕ) (rest more : List ℕ) (lt : i < length given) (are : AreOfLength width given)
    (is : rest ≡ joined_hashes (drop i given) ++ more) where
  front : rest ≡ get_or given i [] ++ (joined_hashes (drop (i + 1) given) ++ more)
  front = next_front (λ x. x) given i [] rest more lt is

  wide : length (get_or given i []) ≡ width
  wide = width_at width given i [] are lt

  pub next_digest : take width rest ≡ get_or given i []
  next_digest = ap (λ n. take n rest) (sym wide) ∙ ap (take (length (get_or given i []))) front
      ∙ take-append_seam (get_or given i []) (joined_hashes (drop (i + 1) given) ++ more)

  pub next_rest : drop width rest ≡ joined_hashes (drop (i + 1) given) ++ more
  next_rest = ap (λ n. drop n rest) (sym wide) ∙ ap (drop (length (get_or given i []))) front
      ∙ drop-append_seam (get_or given i []) (joined_hashes (drop (i + 1) given) ++ more)

pub read_more : (old now given : List (List ℕ)) (i : ℕ) (x : List ℕ) → i < length given → now ≡ old ++ take i given → x ≡ get_or given i []
    → now ++ x ∷ [] ≡ old ++ take (i + 1) given
read_more old now given i x lt so_far is =
    ap (λ l. l ++ x ∷ []) so_far ∙ append_assoc old (take i given) (x ∷ []) ∙ ap (λ y. old ++ (take i given ++ y ∷ [])) is
    ∙ ap (λ l. old ++ l) (sym (take_more given i [] lt))

-- ---- room for digests

pub product : (n a b : ℕ) → a < b → n * a + n ≤ n * b
product n a b lt = let m : n * (a + 1) ≤ n * b = grind (arith, lt) in omega (arith, m)

pub some_found : {A P : Type 0} (Q : A → Type 0) (o : Option A) → MatchOption o P Q → (P → ⊥) → IsSome o
some_found Q None found none = absurd (none found)
some_found Q (Some a) found none = refl

-- of some pieces there are nodes, and in a hybrid digests of their cuts
pub row_room : (hybrid : Bool) (count n : ℕ) → 0 < count → row_size hybrid count ≤ n → 32 * count ≤ n
row_room hybrid count n some room = by_kind hybrid room
  where
    by_kind : (h : Bool) → row_size h count ≤ n → 32 * count ≤ n
    by_kind true room = omega (arith, some_size true count some, room)
    by_kind false room = omega (arith, some_size false count some, room)
