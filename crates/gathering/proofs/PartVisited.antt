-- A share that was visited.
use Rattle.std.proofs.Common.{◌≡◌, inl, inr, ℕ, zero, suc, ◌<◌, Bool, true, false, List, [], Option, Some, None, Result, Ok, Err, IsTrue, ◌↔◌, ap}
use Rattle.std.proofs.Common.{refl, sym, ◌∙◌, subst, append-nil, arith, ◌++◌}
use Rattle.benc.specs.Device.{SourceSeen, one_more}
use Rattle.benc.specs.declared.device.DeviceFault.{DeviceFault}
use Rattle.folders.specs.SeekVisits.{ReadsFoundAt, VisitsForAt}
use Rattle.folders.specs.Shelf.{more}
use Rattle.folders.specs.TakeAll.{IsReadWithin}
use Rattle.folders.specs.declared.shelf.Shelf.{Ghosts}
use Rattle.folders.specs.declared.taking.ReadFault.{ReadFault}
use Rattle.folders.specs.declared.taking.ReadFault.TheVariants as took
use Rattle.gathering.specs.declared.hashing.FileHashes.{FileHashes}
use Rattle.gathering.specs.Parts.{IsRow}
use Rattle.gathering.specs.PartRows.{EndsElsewhere, GivesRow, ReadsCounted, row_text}
use Rattle.gathering.specs.PartSteps.{FindsShare, PutsRow, found_by}
use Rattle.gathering.specs.PartVisits.{IsTouched, ReadsShare, Share, VisitsShare, share_offset, share_size}
use Rattle.gathering.proofs.RowFound.{nothing_found, row_known}

module _ {S F : Type 0} (shelf : Ghosts S F) (opens_at : S → List (List ℕ) → ℕ → Result (Option F) DeviceFault → S → Type 0) (seen : F → SourceSeen)
    (p : ℕ) (hybrid : Bool) (s : S) (x : Share) (s' : S) where
  -- a source gave this row of the share
  abbrev row_of : List ℕ → SourceSeen → SourceSeen → Type 0
  row_of row old new = GivesRow (share_size p x) x.span.ends old new row

  -- what was opened was read so
  reads_as : (answer : Result (Option FileHashes) ReadFault) (IsRead : SourceSeen → SourceSeen → Type 0)
      → (v : ReadsFoundAt shelf opens_at seen (ReadsCounted p hybrid (share_size p x) x.span.ends) s x.file.path (share_offset p x) answer s')
      → IsRead (seen v.file) (seen v.handed.read) → ReadsShare shelf opens_at seen p IsRead s x s'
  reads_as answer IsRead v is = record {
    file = v.file;
    found = v.found;
    handed = record {
      between = v.handed.between;
      opened = v.handed.opened;
      read = v.handed.read;
      reading = is;
      closed = v.handed.closed;
    };
  }

  none_counted : (count a b : ℕ) → a ≡ b → b ≡ 0 → count ≡ more (shelf.faults s) a → count ≡ shelf.faults s
  none_counted count a b same none is = is ∙ ap (more (shelf.faults s)) (same ∙ none)

  one_counted : (count a b : ℕ) → a ≡ one_more b → b ≡ 0 → count ≡ more (shelf.faults s) a → count ≡ one_more (shelf.faults s)
  one_counted count a b same none is = is ∙ ap (more (shelf.faults s)) (same ∙ ap one_more none)

  row_visited : (row : List ℕ) → IsTouched p x → ReadsShare shelf opens_at seen p (λ old new. GivesRow (share_size p x) x.span.ends old new row) s x s'
      → shelf.faults s' ≡ shelf.faults s → VisitsShare shelf opens_at seen p s x row s'
  row_visited row touched reads quiet = record {
    touched = λ _. reads;
    other = λ off. absurd (off touched);
    quiet = quiet;
  }

  share_found : (place : ℕ) (answer : Result (Option (Result (Option FileHashes) ReadFault)) DeviceFault) → IsTouched p x
      → VisitsForAt shelf opens_at seen (ReadsCounted p hybrid (share_size p x) x.span.ends) s x.file.path (share_offset p x) answer s'
      → FindsShare shelf opens_at seen p hybrid place s x s' (found_by place answer)
  share_found place (Ok (Some (Ok (Some found)))) touched v =
      let r = v.handed.reading in
      let quiet = none_counted (shelf.faults s') (seen v.handed.read).faults (seen v.file).faults r.1 v.fresh v.counted in
      record {
        row = r.0.row;
        visits = row_visited r.0.row touched (reads_as (Ok (Some found)) (row_of r.0.row) v r.0.gives) quiet;
        is = row_known (shelf.contents s).under p x.file x.span (seen v.file) (seen v.handed.read) r.0.row v.found r.0.gives;
        hashes = r.0.hashes;
      }
  share_found place (Ok (Some (Ok None))) touched v =
      let r = v.handed.reading in (
        refl,
        record {
          touched = touched;
          quiet = none_counted (shelf.faults s') (seen v.handed.read).faults (seen v.file).faults r.1 v.fresh v.counted;
          why = inr (reads_as (Ok None) (EndsElsewhere (share_size p x) x.span.ends) v r.0);
        },
      )
  share_found place (Ok (Some (Err took.NoMemory))) touched v =
      let r = v.handed.reading in
      let quiet = none_counted (shelf.faults s') (seen v.handed.read).faults (seen v.file).faults r.1 v.fresh v.counted in
      record {
        touched = touched;
        why = inr (r.0.0, row_visited r.0.0 touched (reads_as (Err took.NoMemory) (row_of r.0.0) v r.0.1) quiet);
      }
  share_found place (Ok (Some (Err took.Device))) touched v =
      let r = v.handed.reading in (
        refl,
        record {
          touched = touched;
          counted = one_counted (shelf.faults s') (seen v.handed.read).faults (seen v.file).faults r.1 v.fresh v.counted;
          failed = inr (reads_as (Err took.Device) (IsReadWithin (share_size p x)) v r.0);
        },
      )
  share_found place (Ok None) touched v = (refl, record { touched = touched; quiet = v.2; why = inl (v.0, v.1) })
  share_found place (Err e) touched v = (refl, record { touched = touched; counted = v.1; failed = inl (e, v.0) })

  -- the same, of what is the same
  pub share_found_as : (place : ℕ) (answer : Result (Option (Result (Option FileHashes) ReadFault)) DeviceFault) (path : List (List ℕ)) (offset size : ℕ)
      → IsTouched p x → path ≡ x.file.path → offset ≡ share_offset p x → size ≡ share_size p x
      → VisitsForAt shelf opens_at seen (ReadsCounted p hybrid size x.span.ends) s path offset answer s'
      → FindsShare shelf opens_at seen p hybrid place s x s' (found_by place answer)
  share_found_as place answer path offset size touched path_is offset_is size_is v =
      share_found place answer touched
      (subst (λ n. VisitsForAt shelf opens_at seen (ReadsCounted p hybrid n x.span.ends) s x.file.path (share_offset p x) answer s') size_is
      (subst (λ n. VisitsForAt shelf opens_at seen (ReadsCounted p hybrid size x.span.ends) s x.file.path n answer s') offset_is
      (subst (λ q. VisitsForAt shelf opens_at seen (ReadsCounted p hybrid size x.span.ends) s q offset answer s') path_is v)))

  -- what was found of a share was put behind a text
  pub row_put : (row old new : List ℕ) → VisitsShare shelf opens_at seen p s x row s' → IsRow (shelf.contents s).under p x.file x.span row
      → new ≡ old ++ row_text p hybrid x.file.bytes row → PutsRow shelf opens_at seen p hybrid s x s' old new
  row_put row old new visits is text = record { row = row; visits = visits; is = is; text_is = text }

no_bytes : (n : ℕ) → (0 < n → ⊥) → 0 ≡ n
no_bytes zero off = refl
no_bytes (suc n) off = absurd (off (omega arith))

no_end : (b : Bool) → (b ≡ true → ⊥) → b ≡ false
no_end true off = absurd (off refl)
no_end false off = refl

-- a share that is not touched
pub untouched : {S F : Type 0} (shelf : Ghosts S F) (opens_at : S → List (List ℕ) → ℕ → Result (Option F) DeviceFault → S → Type 0)
    (seen : F → SourceSeen) (p : ℕ) (hybrid : Bool) (s : S) (x : Share) (text : List ℕ) → (IsTouched p x → ⊥)
    → PutsRow shelf opens_at seen p hybrid s x s text text
untouched shelf opens_at seen p hybrid s x text off = record {
  row = [];
  visits = record { touched = λ on. absurd (off on); other = λ _. (refl, refl); quiet = refl };
  is = nothing_found (shelf.contents s).under p x.file x.span (no_bytes (share_size p x) (λ some. off (inl some))) (no_end x.span.ends (λ on. off (inr on)));
  text_is = sym (append-nil text);
}

-- by the test of a share
pub test_fails : (b : Bool) {P : Type 0} → b ≡ false → (IsTrue b ↔ P) → P → ⊥
test_fails b off is p = let on : b ≡ true = is.1 p in let no : ⊥ = cc in no

pub test_holds : (b : Bool) {P : Type 0} → b ≡ true → (IsTrue b ↔ P) → P
test_holds b on is = is.0 on
