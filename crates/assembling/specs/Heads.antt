-- What was read of the fronts of parts' texts. Public clauses do not name these.
use Rattle.std.specs.Prelude.{◌≡◌, ℕ, List, length, map, slice_get, Some}
use Rattle.part_texts.specs.declared.head.Head.{Head}
use Rattle.assembling.specs.Fronts.{AreAllParts, Front, IsFront}
use Rattle.assembling.specs.declared.numbers.Parts.{Parts}

-- a front that was read
abbrev pub front_of : Head → Front
front_of h = record {
  part = h.part;
  parts = h.parts;
  listing = h.listing.now;
  rows = h.rows.now;
}

-- this stands behind the front of the part's text, which is at the part's place
pub record IsBehindFront (texts : List (List ℕ)) (p : Parts) (part : ℕ) (rest : List ℕ)
    : Type 0 where
  pub place : ℕ
  pub text : List ℕ
  pub at : slice_get p.places.items part ≡ Some place
  pub there : slice_get texts place ≡ Some text
  pub front : IsFront text (record {
    part = part;
    parts = length p.rows.items;
    listing = p.listing.now;
    rows = rest;
  })

-- the texts are those of all parts, and these are in the order of their numbers
pub record ArePartsOf (texts : List (List ℕ)) (p : Parts) : Type 0 where
  pub count : length p.places.items ≡ length p.rows.items
  pub all : AreAllParts (length p.rows.items) p.listing.now texts
  pub each : (part : ℕ) (rest : List ℕ) → slice_get (map (λ r. r.now) p.rows.items) part ≡ Some rest
      → IsBehindFront texts p part rest
