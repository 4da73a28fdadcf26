-- The pieces of a file that are among a part's places, by numbers.
use Rattle.std.proofs.Common.{◌≡◌, ℕ, ◌+◌, ◌<◌, ◌≤◌, max, IsTrue, nat_lt, arith}
use Rattle.opening.specs.Description.{Description, FileEntry}
use Rattle.parts.specs.Parts.{Holds, Touches, last_place, piece_count}
use Rattle.parts.specs.Spans.{IsSpan, IsSpanOf}
use Rattle.parts.specs.declared.places.Places.{Places}
use Rattle.parts.specs.declared.places.Span.{Span}

-- no place of the file is among these: its last one comes before the first that could be
pub ends_before : (t : Description) (r : Places) (f : FileEntry) (held last : ℕ) → held ≡ max r.from f.first_piece → last ≡ last_place t f → last < held
    → Touches t r f → ⊥
ends_before t r f held last h l lt touched = omega (arith, h, l, lt, touched.1, touched.2, touched.3.0)

-- or the part ends before it
pub begins_after : (t : Description) (r : Places) (f : FileEntry) (held : ℕ) → held ≡ max r.from f.first_piece → r.to ≤ held → Touches t r f → ⊥
begins_after t r f held h le touched = omega (arith, h, le, touched.1, touched.3.0, touched.3.1)

-- else the first that could be is
pub first_touches : (t : Description) (r : Places) (f : FileEntry) (held last : ℕ) → held ≡ max r.from f.first_piece → last ≡ last_place t f
    → held ≤ last → held < r.to
    → Touches t r f
first_touches t r f held last h l le lt = (held, omega (arith, h), omega (arith, l, le), (omega (arith, h), lt))

-- whether the last place is among these
pub last_held : (t : Description) (r : Places) (f : FileEntry) (held last : ℕ) → held ≡ max r.from f.first_piece → last ≡ last_place t f → held ≤ last
    → (IsTrue (nat_lt last r.to) → Holds r (last_place t f)) × (Holds r (last_place t f) → IsTrue (nat_lt last r.to))
last_held t r f held last h l le = (
  λ on. (omega (arith, h, l, le), below last r.to (last_place t f) on l),
  λ held_last. above last r.to (last_place t f) held_last.1 l,
)
  where
    below : (a b x : ℕ) → IsTrue (nat_lt a b) → a ≡ x → x < b
    below a b x on is = let lt : a < b = grind arith in omega (arith, lt, is)

    above : (a b x : ℕ) → x < b → a ≡ x → IsTrue (nat_lt a b)
    above a b x lt is = let less : a < b = omega (arith, lt, is) in grind arith

-- the pieces of a file that are among these places are those of its span
pub held_between : (t : Description) (r : Places) (f : FileEntry) (s : Span) (k : ℕ) → IsSpanOf t r f s → k < piece_count t f → Holds r (f.first_piece + k)
    → (s.from ≤ k) × (k < s.to)
held_between t r f s k is lt held = (omega (arith, is.from_is, held.0), omega (arith, is.to_is, lt, held.1))

pub between_held : (t : Description) (r : Places) (f : FileEntry) (s : Span) (k : ℕ) → IsSpanOf t r f s → s.from ≤ k → k < s.to
    → (k < piece_count t f) × Holds r (f.first_piece + k)
between_held t r f s k is ge lt =
    (omega (arith, is.to_is, lt), (omega (arith, is.from_is, ge), omega (arith, is.to_is, lt)))

-- a piece that is among them is a place of the file there
pub piece_touches : (t : Description) (r : Places) (f : FileEntry) (k : ℕ) → k < piece_count t f → Holds r (f.first_piece + k) → Touches t r f
piece_touches t r f k lt held = (f.first_piece + k, omega arith, omega (arith, lt), held)

-- the pieces of a file that are among these places, of which it has one, are some in a row
pub span_shape : (t : Description) (r : Places) (f : FileEntry) (s : Span) → IsSpanOf t r f s → IsSpan t f s
span_shape t r f s is =
    let x = is.touches in
    record {
      order = omega (arith, is.from_is, is.to_is, x.1, x.2, x.3.0, x.3.1);
      inside = omega (arith, is.to_is);
      some = λ some. omega (arith, some, is.from_is, is.to_is, x.1, x.2, x.3.0, x.3.1);
      ends = (
        λ on. (let last = is.ends.0 on in omega (arith, is.to_is, last.1)),
        λ all. is.ends.1 (omega (arith, x.2, x.3.0), omega (arith, is.to_is, all, x.1, x.3.1)),
      );
    }
