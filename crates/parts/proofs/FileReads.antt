-- How a check reads an opened file, by what came of it.
use Rattle.std.proofs.Common.{◌≡◌, ◌≢◌, ◌∙◌, ℕ, ◌+◌, ◌-◌, ◌*◌, min, Bool, true, false, IsTrue, List, Option, Some, None, Result, Ok, Err, Vec}
use Rattle.std.proofs.Common.{refl, ap, ap₂, cond, sym, subst}
use Rattle.std.specs.Global.{Global}
use Rattle.benc.specs.Device.{SourceSeen, one_more}
use Rattle.benc.specs.declared.device.DeviceFault.{DeviceFault}
use Rattle.opening.specs.Description.{Description, FileEntry}
use Rattle.folders.specs.Shelf.{more}
use Rattle.folders.specs.TakeAll.{IsReadWithin}
use Rattle.folders.specs.Verdicts.{is_unreadable, is_whole}
use Rattle.folders.specs.Visits.{Extent, HadBytes, IsReadOf}
use Rattle.folders.specs.declared.report.FileVerdict.{FileVerdict}
use Rattle.folders.specs.declared.report.FileVerdict.TheVariants as file
use Rattle.parts.specs.PartVisits.{extent_in}
use Rattle.parts.specs.PieceReads.{ReadsPieces}
use Rattle.parts.specs.Saying.{SaysRead, row_says}
use Rattle.parts.specs.Spans.{IsSpanOf, span_bytes}
use Rattle.parts.specs.declared.places.Places.{Places}
use Rattle.parts.specs.declared.row.Found.{Found}
use Rattle.parts.specs.declared.places.Span.{Span}
use Rattle.parts.specs.declared.verdicts.Verdicts.{Verdicts}
use Rattle.parts.proofs.FoundFiles.{Judges, Meaning, row_is_whole}

-- a file that was read whole could be read
pub readable : (v : FileVerdict) → is_whole v ≡ true → is_unreadable v ≡ false
readable file.Good on = refl
readable file.Missing on = refl
readable file.Unreadable on = let no : ⊥ = cc in absurd no
readable file.WrongLength on = refl
readable (file.Bad p) on = refl

no : (b : Bool) → b ≡ true → b ≡ false → ⊥
no b on off = cc

module _ (x : Extent) (states : Option (List ℕ) → FileVerdict → Type 0) (old new : SourceSeen) (within : IsReadWithin (x.size + 1) old new)
    (own : (x.ends → ⊥) → IsReadWithin x.size old new) where
  -- it was read whole
  pub was_whole : (v : FileVerdict) → is_whole v ≡ true → HadBytes old.left x.offset (λ bytes. states (Some bytes) v) → new.faults ≡ old.faults
      → new.limit + x.size ≡ old.limit → IsReadOf x states v old new
  was_whole v on had quiet taken = record {
    within = within;
    own = own;
    own_fault = quiet ∙ sym (ap (λ b. more old.faults (cond b 1 0)) (readable v on));
    gives = λ could. had;
    whole = λ _. taken;
    other = λ off. absurd (no (is_whole v) on off);
    early = λ bad. absurd (no (is_unreadable v) bad (readable v on));
  }

  -- its content is not as long as stated
  pub was_other : HadBytes old.left x.offset (λ bytes. states (Some bytes) file.WrongLength) → new.faults ≡ old.faults → new.limit + x.size ≢ old.limit
      → IsReadOf x states file.WrongLength old new
  was_other had quiet taken = record {
    within = within;
    own = own;
    own_fault = quiet;
    gives = λ could. had;
    whole = λ on. (let never : ⊥ = cc in absurd never);
    other = λ off could. taken;
    early = λ bad. (let never : ⊥ = cc in absurd never);
  }

  -- a read failed
  pub had_failed : new.faults ≡ one_more old.faults → IsReadWithin x.size old new → IsReadOf x states file.Unreadable old new
  had_failed counted early = record {
    within = within;
    own = own;
    own_fault = counted;
    gives = λ could. (let never : ⊥ = cc in absurd never);
    whole = λ on. (let never : ⊥ = cc in absurd never);
    other = λ off could. (let never : ⊥ = cc in absurd never);
    early = λ _. early;
  }

-- what is to be read of a file is what these pieces of it have
pub record IsExtentOf (t : Description) (f : FileEntry) (s : Span) (x : Extent) : Type 0 where
  pub offset_is : t.piece_length * s.from ≡ x.offset
  pub size_is : span_bytes t f s ≡ x.size
  pub ends_there : IsTrue s.ends → x.ends

pub part_extent_of : (t : Description) (r : Places) (f : FileEntry) (s : Span) → IsSpanOf t r f s → IsExtentOf t f s (extent_in t r f)
part_extent_of t r f s span = record {
  offset_is = ap (λ k. t.piece_length * k) span.from_is;
  size_is = ap₂ (λ a b. min (t.piece_length * a) f.length - t.piece_length * b) span.to_is span.from_is;
  ends_there = span.ends.0;
}

-- pieces of a file in a row were read
pub read_row : (t : Description) (f : FileEntry) (m : Meaning t f) (s : Span) (by_root : Bool) (x : Extent) (lent bits : Vec ℕ Global) (v : Verdicts)
    (old new : SourceSeen) (answer : Result (Option Found) DeviceFault) → Judges t f m s by_root → IsExtentOf t f s x
    → SaysRead by_root f.first_piece answer v → ReadsPieces t f s lent bits answer old new → IsReadOf x (m.says f) v.file old new
read_row t f m s by_root x lent bits v old new answer j extent says read =
    by_answer answer says read (subst (λ n. IsReadWithin (n + 1) old new) extent.size_is read.no_further)
    (λ off. subst (λ n. IsReadWithin n old new) extent.size_is (read.own (λ on. off (extent.ends_there on))))
  where
    had : (w : FileVerdict) → HadBytes old.left (t.piece_length * s.from) (λ bytes. m.says f (Some bytes) w)
        → HadBytes old.left x.offset (λ bytes. m.says f (Some bytes) w)
    had w = subst (λ n. HadBytes old.left n (λ bytes. m.says f (Some bytes) w)) extent.offset_is

    by_answer : (answer : Result (Option Found) DeviceFault) → SaysRead by_root f.first_piece answer v → ReadsPieces t f s lent bits answer old new
        → IsReadWithin (x.size + 1) old new → ((x.ends → ⊥) → IsReadWithin x.size old new) → IsReadOf x (m.says f) v.file old new
    by_answer (Ok (Some found)) says read within own =
        let w = row_says by_root f.first_piece found in
        subst (λ w. IsReadOf x (m.says f) w old new) (sym says.0) (was_whole x (m.says f) old new within own w
        (row_is_whole by_root f.first_piece found)
        (had w (record {
          rest = read.found.rest;
          agrees = read.found.agrees;
          each = λ bytes is. j.row bits.items bytes found (read.found.each bytes is);
        }))
        read.counts (subst (λ n. new.limit + n ≡ old.limit) extent.size_is read.taken))
    by_answer (Ok None) says read within own =
        subst (λ w. IsReadOf x (m.says f) w old new) (sym says.0) (was_other x (m.says f) old new within own
        (had file.WrongLength (record {
          rest = read.found.rest;
          agrees = read.found.agrees;
          each = λ bytes is. m.other bytes (read.found.each bytes is).other;
        }))
        read.counts (subst (λ n. new.limit + n ≢ old.limit) extent.size_is read.taken))
    by_answer (Err e) says read within own =
        subst (λ w. IsReadOf x (m.says f) w old new) (sym says.0)
        (had_failed x (m.says f) old new within own read.counts (subst (λ n. IsReadWithin n old new) extent.size_is read.blamed))
