-- What the texts of parts begin with, and when they are those of all parts of one whole.
use Rattle.std.specs.Prelude.{◌≡◌, ℕ, ◌^◌, ◌<◌, List, ◌++◌, length, slice_get, Some}
use Rattle.part_texts.specs.Texts.{head_text}

-- which part a text is of, counted from 0, of how many, what was listed, and what stands behind
pub record Front : Type 0 where
  pub part : ℕ
  pub parts : ℕ
  pub listing : List ℕ
  pub rows : List ℕ

-- the text begins so
pub record IsFront (text : List ℕ) (f : Front) : Type 0 where
  pub there : f.part < f.parts
  pub small : f.parts < 2 ^ 64
  pub short : length f.listing < 2 ^ 64
  pub is : text ≡ head_text f.part f.parts f.listing ++ f.rows

-- these are the fronts of the texts, which are of different parts of one whole: all are of as many
-- parts, and of one listing
pub record AreOfOne (texts : List (List ℕ)) (fronts : List Front) : Type 0 where
  pub count : length fronts ≡ length texts
  pub each : (i : ℕ) (text : List ℕ) (f : Front) → slice_get texts i ≡ Some text
      → slice_get fronts i ≡ Some f → IsFront text f
  pub one : (i j : ℕ) (f g : Front) → slice_get fronts i ≡ Some f → slice_get fronts j ≡ Some g
      → (f.parts ≡ g.parts) × (f.listing ≡ g.listing)
  pub apart : (i j : ℕ) (f g : Front) → slice_get fronts i ≡ Some f → slice_get fronts j ≡ Some g
      → f.part ≡ g.part → i ≡ j

-- one of these is the front of this part
abbrev pub HasPart : List Front → ℕ → Type 0
HasPart fronts part = (i : ℕ) × (f : Front) × (slice_get fronts i ≡ Some f) × (f.part ≡ part)

-- the texts are those of all parts of one whole, of as many parts and of this listing: each part is
-- there, and once
pub record AreAllParts (parts : ℕ) (listing : List ℕ) (texts : List (List ℕ)) : Type 0 where
  pub fronts : List Front
  pub are : AreOfOne texts fronts
  pub some : 0 < parts
  pub of : (i : ℕ) (f : Front) → slice_get fronts i ≡ Some f
      → (f.parts ≡ parts) × (f.listing ≡ listing)
  pub all : (part : ℕ) → part < parts → HasPart fronts part

-- the first of these texts begins as that of a part of what was listed so
pub record IsOfListing (listing : List ℕ) (texts : List (List ℕ)) : Type 0 where
  pub first : List ℕ
  pub there : slice_get texts 0 ≡ Some first
  pub front : Front
  pub begins : IsFront first front
  pub of : front.listing ≡ listing
