-- The pages of one layer by their numbers: page p has the places from 512 p on.
use Rattle.std.specs.Prelude.{◌≡◌, ◌≢◌, ℕ, zero, suc, ◌/◌, ◌%◌, ◌^◌, ◌<◌, Bool, true, false, ◌==◌, if◌then◌else◌, ◌||◌, List, [], ◌∷◌, slice_index_or, Option}
use Rattle.std.specs.Prelude.{Some, None, IsSome, is_some}
use Rattle.std.specs.FinSet as set
use Rattle.std.specs.List.{All}
use Rattle.node_maps.specs.declared.page.Cell.{Cell}
use Rattle.node_maps.specs.declared.page.Cell.TheVariants.{Empty}
use Rattle.node_maps.specs.declared.page.Page.{Page}
use Rattle.node_maps.specs.Cell.{is_blank, page_length, with_hash}
use Rattle.node_maps.specs.Digest.{Hash}
use Rattle.node_maps.specs.Known.{Marked}
use Rattle.node_maps.specs.Rising.{page_numbered}

-- the page of each number, if there is one
abbrev pub Numbered : Type 0
Numbered = ℕ → Option Page

-- the page of a number in an index, if there is one
abbrev pub page_within : {D : Type 0} → (D → Numbered) → Option D → Numbered
page_within find None n = None
page_within find (Some d) n = find d n

-- the page of a number, in the index of the number's first bits
abbrev pub find_under : {D : Type 0} → (D → Numbered) → List ℕ → List D → ℕ → Numbered
find_under find ns ds shift n = page_within find (page_numbered ns ds (n / 2 ^ shift)) n

-- each index has an entry, and so has each in it
abbrev pub AreInUse : {D : Type 0} → (D → ℕ) → (D → Type 0) → List D → Type 0
AreInUse entries in_use indexes = All (λ d. (0 < entries d) × in_use d) indexes

-- the cell at a place of a page, if there is one
abbrev pub cell_of : Option Page → ℕ → Cell
cell_of None o = Empty
cell_of (Some p) o = slice_index_or p.kept.items o Empty

-- there is a page, and it holds nothing
abbrev pub is_spare : Option Page → Bool
is_spare None = false
is_spare (Some p) = is_blank p.kept.items

-- the cell of a place of the layer
abbrev pub cell_in : Numbered → ℕ → Cell
cell_in pages i = cell_of (pages (i / page_length)) (i % page_length)

-- each number has the page that it had
abbrev pub AreAlike : Numbered → Numbered → Type 0
AreAlike old new = (n : ℕ) → new n ≡ old n

-- one number has this page or none, and each other has what it had
abbrev pub IsChanged : ℕ → Option Page → Numbered → Numbered → Type 0
IsChanged number page old new = (n : ℕ) → new n ≡ (if number == n then page else old n)

-- a hash was written at a place of a page, and marked, if `mark` says so
pub record IsPut (place : ℕ) (hash : Hash) (mark : Bool) (old new : Option Page) : Type 0 where
  pub there : IsSome new
  pub here : cell_of new place ≡ with_hash (cell_of old place) hash mark
  pub others : (o : ℕ) → o ≢ place → cell_of new o ≡ cell_of old o

-- the number is in the list
abbrev pub is_among : ℕ → List ℕ → Bool
is_among q [] = false
is_among q (n ∷ ns) = n == q || is_among q ns

-- pages that hold nothing are among the fresh ones
pub record AreSpare (pages : Numbered) (fresh : List ℕ) : Type 0 where
  pub known : (n : ℕ) → is_spare (pages n) ≡ true → is_among n fresh ≡ true

-- the numbers below n for which f holds
unfoldable pub marks_where : (ℕ → Bool) → ℕ → Marked
marks_where f zero = set.empty
marks_where f (suc n) =
    (if f n then set.insert (marks_where f n) n else marks_where f n)

-- this many numbers have a page, all below 2 ^ 32
pub record AreCounted (pages : Numbered) (count : ℕ) : Type 0 where
  pub count_is : count ≡ set.len (marks_where (λ n. is_some (pages n)) (2 ^ 32))
  pub low : (n : ℕ) → is_some (pages n) ≡ true → n < 2 ^ 32
