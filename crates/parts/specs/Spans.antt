-- The pieces of a file that are among a part's places.
use Rattle.std.specs.Prelude.{◌≡◌, ◌↔◌, ℕ, ◌-◌, ◌*◌, ◌<◌, ◌≤◌, min, max, IsTrue, true, Option, Some, None}
use Rattle.opening.specs.Description.{Description, FileEntry}
use Rattle.parts.specs.Parts.{Holds, Touches, last_place, piece_count}
use Rattle.parts.specs.declared.places.Places.{Places}
use Rattle.parts.specs.declared.places.Span.{Span}

-- the number within the file of the first of its pieces that is among these places
abbrev pub first_in : Places → FileEntry → ℕ
first_in r f = max r.from f.first_piece - f.first_piece

-- the number within the file of the piece after the last that is among these places
abbrev pub end_in : Description → Places → FileEntry → ℕ
end_in t r f = min (r.to - f.first_piece) (piece_count t f)

-- how many bytes of a file the pieces have that are among these places
abbrev pub bytes_in_places : Description → Places → FileEntry → ℕ
bytes_in_places t r f =
    min (t.piece_length * end_in t r f) f.length - t.piece_length * first_in r f

-- the pieces of a file that are among these places, of which it has one
pub record IsSpanOf (t : Description) (r : Places) (f : FileEntry) (s : Span) : Type 0 where
  pub touches : Touches t r f
  pub from_is : s.from ≡ first_in r f
  pub to_is : s.to ≡ end_in t r f
  pub ends : IsTrue s.ends ↔ Holds r (last_place t f)

-- the pieces of a file that are among these places, or it has no place there
abbrev pub IsSpanned : Description → Places → FileEntry → Option Span → Type 0
IsSpanned t r f None = Touches t r f → ⊥
IsSpanned t r f (Some s) = IsSpanOf t r f s

-- some pieces of a file in a row: from its first one on, or one before its end, and up to its end
-- exactly if its end is checked
pub record IsSpan (t : Description) (f : FileEntry) (s : Span) : Type 0 where
  pub order : s.from ≤ s.to
  pub inside : s.to ≤ piece_count t f
  pub some : 0 < s.from → s.from < s.to
  pub ends : IsTrue s.ends ↔ (s.to ≡ piece_count t f)

-- all pieces of a file, up to its end
pub record IsWholeSpan (t : Description) (f : FileEntry) (s : Span) : Type 0 where
  pub from_is : s.from ≡ 0
  pub to_is : s.to ≡ piece_count t f
  pub ends_is : s.ends ≡ true

-- how many bytes they have
abbrev pub span_bytes : Description → FileEntry → Span → ℕ
span_bytes t f s = min (t.piece_length * s.to) f.length - t.piece_length * s.from
