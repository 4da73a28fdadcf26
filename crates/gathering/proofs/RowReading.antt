-- What came of reading a row of a source.
use Rattle.std.proofs.Common.{◌≡◌, ◌≢◌, inl, inr, ℕ, Bool, true, false, List, [], ◌++◌, length, take, Option, Result, Err}
use Rattle.std.proofs.Common.{refl, sym, ◌∙◌, subst, append-nil, arith}
use Rattle.std.specs.Prelude.{◌==◌}
use borrow.Author.Tests.{eqb-false, eqb-true}
use Rattle.std.proofs.lemmas.List.{length-append, length-take-le, nil_from_length}
use Rattle.benc.specs.Device.{SourceSeen}
use Rattle.folders.specs.Exactly.{TakesExactly, TookExactly}
use Rattle.folders.specs.TakeAll.{Fills, IsReadWithin}
use Rattle.folders.specs.declared.taking.ReadFault.{ReadFault}
use Rattle.gathering.specs.Hashing.{AreHashesOf, BeginsHashing, EndsWithHashes, Hashes}
use Rattle.gathering.specs.declared.hashing.FileHashes.{FileHashes}
use Rattle.gathering.specs.declared.hashing.Hashing.{Hashing}
use Rattle.gathering.proofs.Digests.{found_whole}
use Rattle.wire.specs.Reading.{Gave}
use Rattle.wire.proofs.Giving.{Gave-nil, Gave-trans}
use Rattle.gathering.specs.PartRows.{EndsElsewhere, EndsHere, GivesRow, ReadsCounted, ReadsRowHashes}

-- ---- the end

-- a source that is not to end here was not asked
pub unasked : (ends : Bool) (s : SourceSeen) → ends ≡ false → EndsHere ends s s true
unasked ends s off = (Gave-nil s, λ on. let no : ⊥ = cc in absurd no)

-- a source that is to end here was asked for one byte
pub asked : (ends : Bool) (old new : SourceSeen) (buffer : List ℕ) (count : ℕ) → ends ≡ true → length buffer ≡ 1 → Fills old new buffer count
    → EndsHere ends old new (count == 0)
asked ends old new buffer count on one fills = by (count == 0) refl
  where
    by : (b : Bool) → (count == 0) ≡ b → EndsHere ends old new b
    by true is =
        let none : count ≡ 0 = eqb-true count 0 is in
        let nothing : take count buffer ≡ [] = nil_from_length (take count buffer) (length-take-le count buffer fills.bound ∙ none) in
        (subst (Gave old new) nothing fills.gave, λ _. fills.ended (omega (arith, one, none)))
    by false is =
        let some : count ≢ 0 = eqb-false count 0 is in
        (on, take count buffer, fills.gave, length-take-le count buffer fills.bound ∙ omega (arith, one, fills.bound, some))

-- ---- a row

module _ (size : ℕ) (ends : Bool) (old mid new : SourceSeen) (before after : Hashing) where
  took_all : (b : Bool) → b ≡ true → TakesExactly Hashes old mid size before after b → TookExactly Hashes old mid size before after
  took_all b is taken = subst (TakesExactly Hashes old mid size before after) is taken

  -- it ended too early
  pub ended_early : (b : Bool) → b ≡ false → TakesExactly Hashes old mid size before after b → EndsElsewhere size ends old mid
  ended_early b is taken =
      let e = subst (TakesExactly Hashes old mid size before after) is taken in
      record { bytes = e.bytes; gave = e.gave; why = inl (e.short, e.ended) }

  -- it has one more byte
  pub ended_late : (b over : Bool) → b ≡ true → TakesExactly Hashes old mid size before after b → over ≡ false → EndsHere ends mid new over
      → EndsElsewhere size ends old new
  ended_late b over all taken is here =
      let t = took_all b all taken in
      let more = subst (EndsHere ends mid new) is here in
      record {
        bytes = t.bytes ++ more.1;
        gave = Gave-trans old mid new t.bytes more.1 t.gave more.2;
        why = inr (more.0, omega (arith, length-append t.bytes more.1, t.count, more.3));
      }

  -- no byte behind the row was read
  pub within : (b : Bool) → b ≡ true → TakesExactly Hashes old mid size before after b → IsReadWithin 0 mid new → IsReadWithin size old new
  within b all taken none = let t = took_all b all taken in omega (arith, t.gave.falls, t.count, none)

  -- it gave a row
  pub gave_row : (b over : Bool) → b ≡ true → (taken : TakesExactly Hashes old mid size before after b) → over ≡ true → EndsHere ends mid new over
      → (t : TookExactly Hashes old mid size before after) × GivesRow size ends old new t.bytes
  gave_row b over all taken is here =
      let t = took_all b all taken in
      let none = subst (EndsHere ends mid new) is here in (
        t,
        record {
          size_is = t.count;
          gave = subst (Gave old new) (append-nil t.bytes) (Gave-trans old mid new t.bytes [] t.gave none.0);
          ended = none.1;
        },
      )

  module _ (piece_length : ℕ) (hybrid : Bool) (found : FileHashes) where
    pub read_none : (b over : Bool) → b ≡ true → TakesExactly Hashes old mid size before after b → over ≡ true → EndsHere ends mid new over → size ≡ 0
        → AreHashesOf piece_length hybrid [] found → ReadsRowHashes piece_length hybrid size ends old new found
    read_none b over all taken is here none hashes =
        let t = gave_row b over all taken is here in
        record {
          row = t.0.bytes;
          gives = t.1;
          hashes = subst (λ row. AreHashesOf piece_length hybrid row found) (sym (nil_from_length t.0.bytes (t.0.count ∙ none))) hashes;
        }

    pub read_some : (b over : Bool) → b ≡ true → TakesExactly Hashes old mid size before after b → over ≡ true → EndsHere ends mid new over
        → BeginsHashing piece_length hybrid before → EndsWithHashes after found → ReadsRowHashes piece_length hybrid size ends old new found
    read_some b over all taken is here begins finished =
        let t = gave_row b over all taken is here in
        record {
          row = t.0.bytes;
          gives = t.1;
          hashes = found_whole piece_length hybrid before after t.0.bytes found begins t.0.taken finished;
        }

-- the fault that was answered
pub faulted : (piece_length : ℕ) (hybrid : Bool) (size : ℕ) (ends : Bool) (old new : SourceSeen) (r : Result (Option FileHashes) ReadFault) (e x : ReadFault)
    → r ≡ Err e → e ≡ x → ReadsCounted piece_length hybrid size ends (Err x) old new → ReadsCounted piece_length hybrid size ends r old new
faulted piece_length hybrid size ends old new r e x is same counted =
    subst (λ a. ReadsCounted piece_length hybrid size ends a old new) (sym is)
    (subst (λ a. ReadsCounted piece_length hybrid size ends (Err a) old new) (sym same) counted)
