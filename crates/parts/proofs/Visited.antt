-- What follows of a file from how it was visited.
use Rattle.std.proofs.Common.{◌≡◌, ℕ, ◌*◌, Bool, true, false, List, Option, Some, None, Result, Ok, Err, IfOk, IfSome, Vec, slice_get}
use Rattle.std.proofs.Common.{refl, sym, ap, subst, ◌∙◌}
use Rattle.std.specs.Global.{Global}
use Rattle.benc.specs.Device.{SourceSeen, one_more}
use Rattle.benc.specs.declared.device.DeviceFault.{DeviceFault}
use Rattle.folders.specs.Seeking.{from_offset}
use Rattle.folders.specs.Shelf.{more}
use Rattle.folders.specs.Verdicts.{Agrees, fault_count}
use Rattle.folders.specs.SeekVisits.{VisitsForAt}
use Rattle.folders.specs.Visits.{Extent, IsReadOf, ReadsKnown, VisitsFor, VisitsKnown, VisitsOnce, whole_extent}
use Rattle.folders.specs.declared.report.FileVerdict.{FileVerdict}
use Rattle.folders.specs.declared.report.FileVerdict.TheVariants as file
use Rattle.folders.specs.declared.shelf.Shelf.{Ghosts}
use Rattle.opening.specs.Description.{Description, FileEntry}
use Rattle.opening.specs.Sound.{IsSound}
use Rattle.parts.specs.FilePieces.{FindsPieces}
use Rattle.parts.specs.Finding.{FindsAs}
use Rattle.parts.specs.PartVisits.{extent_in}
use Rattle.parts.specs.PieceReads.{ReadsPieces}
use Rattle.parts.specs.Saying.{HasSmallPieces, IsNotWhole, SaysVisit}
use Rattle.parts.specs.Spans.{IsSpan, IsSpanOf, IsWholeSpan, first_in}
use Rattle.parts.specs.Visiting.{VisitsFile, part_visiting, whole_visiting}
use Rattle.parts.specs.declared.places.Places.{Places}
use Rattle.parts.specs.declared.row.Found.{Found}
use Rattle.parts.specs.declared.places.Span.{Span}
use Rattle.parts.specs.declared.verdicts.Verdicts.{Verdicts}
use Rattle.parts.proofs.FileReads.{IsExtentOf, part_extent_of, read_row}
use Rattle.parts.proofs.FoundFiles.{HoldsFound, Judges, Meaning, finds_missing, finds_read, finds_unreadable, from_none, goes_on_so, none_from}
use Rattle.parts.proofs.FoundFiles.{part_judges, part_meaning, small_pieces}
use Rattle.parts.proofs.HeldPieces.{span_shape}
use Rattle.parts.proofs.WholeFiles.{from_start, whole_extent_of, whole_judges, whole_meaning, whole_shape}

module _ {S F : Type 0} (shelf : Ghosts S F) (seen : F → SourceSeen) (opens : Result (Option F) DeviceFault → S → Type 0)
    (stated : Option (Option (List ℕ))) (t : Description) (f : FileEntry) (m : Meaning t f) (x : Extent) (bits : List ℕ) (s s' : S) (v : Verdicts) where
  -- the file was visited for these verdicts, which are true of it
  pub record IsVisited : Type 0 where
    pub finds : FindsAs m.places m.says t f stated bits v
    pub visits : VisitsOnce opens shelf.closes seen (IsReadOf x (m.says f)) v.file s'
    pub counts : shelf.faults s' ≡ more (shelf.faults s) (fault_count v.file)

  -- it was there, and read for them
  pub was_there : {A : Type 0} (IsReadAs : A → SourceSeen → SourceSeen → Type 0) (known : Option (Option (List ℕ))) (answer : A)
      → (visit : ReadsKnown shelf seen opens known IsReadAs s answer s') → FindsAs m.places m.says t f stated bits v
      → IsReadOf x (m.says f) v.file (seen visit.file) (seen visit.handed.read) → IsVisited
  was_there IsReadAs known answer visit finds reading = record {
    finds = finds;
    visits = record {
      answer = Ok (Some visit.file);
      opened = record {
        between = visit.handed.between;
        opened = visit.handed.opened;
        read = visit.handed.read;
        reading = reading;
        closed = visit.handed.closed;
      };
      follows = tt;
    };
    counts = visit.counted ∙ ap (more (shelf.faults s)) (reading.own_fault ∙ ap (λ n. more n (fault_count v.file)) visit.fresh ∙ none_more v.file);
  }
    where
      none_more : (w : FileVerdict) → more 0 (fault_count w) ≡ fault_count w
      none_more file.Good = refl
      none_more file.Missing = refl
      none_more file.Unreadable = refl
      none_more file.WrongLength = refl
      none_more (file.Bad p) = refl

  -- nothing was there
  pub was_missing : opens (Ok None) s' → Agrees stated None → shelf.faults s' ≡ shelf.faults s → IsNotWhole file.Missing v → IsVisited
  was_missing opened none quiet is = record {
    finds = finds_missing t f m stated bits v none is;
    visits = record { answer = Ok None; opened = opened; follows = is.0 };
    counts = quiet ∙ sym (ap (λ w. more (shelf.faults s) (fault_count w)) is.0);
  }

  -- its opening failed
  pub was_unopened : (fault : DeviceFault) → opens (Err fault) s' → shelf.faults s' ≡ one_more (shelf.faults s) → IsNotWhole file.Unreadable v → IsVisited
  was_unopened fault opened counted is = record {
    finds = finds_unreadable t f m stated bits v is;
    visits = record { answer = Err fault; opened = opened; follows = is.0 };
    counts = counted ∙ sym (ap (λ w. more (shelf.faults s) (fault_count w)) is.0);
  }

-- ---- some of its pieces in a row

module _ {S F : Type 0} (shelf : Ghosts S F) (seen : F → SourceSeen) (opens : Result (Option F) DeviceFault → S → Type 0)
    (stated : Option (Option (List ℕ))) (t : Description) (f : FileEntry) (p : Span) (lent bits : Vec ℕ Global) (s s' : S) where
  -- the file was opened at the first of them, and they were read
  abbrev pub VisitsRow : Result (Option (Result (Option Found) DeviceFault)) DeviceFault → Type 0
  VisitsRow visited = VisitsKnown shelf seen opens (from_offset (t.piece_length * p.from) stated) (ReadsPieces t f p lent bits) s visited s'

  pub row_visited : (m : Meaning t f) (by_root : Bool) (x : Extent) (v : Verdicts) (visited : Result (Option (Result (Option Found) DeviceFault)) DeviceFault)
      → Judges t f m p by_root → IsExtentOf t f p x → SaysVisit by_root f.first_piece visited v → VisitsRow visited
      → IsVisited shelf seen opens stated t f m x bits.items s s' v
  row_visited m by_root x v (Ok (Some answer)) j extent says visit =
      was_there shelf seen opens stated t f m x bits.items s s' v (ReadsPieces t f p lent bits) (from_offset (t.piece_length * p.from) stated) answer visit
      (finds_read t f m stated bits.items v p by_root answer j (held answer visit.handed.reading.found) says)
      (read_row t f m p by_root x lent bits v (seen visit.file) (seen visit.handed.read) answer j extent says visit.handed.reading)
    where
      held : (answer : Result (Option Found) DeviceFault) → IfOk answer (FindsPieces t f p (seen visit.file).left bits.items)
          → IfOk answer (HoldsFound stated t f p bits.items)
      held (Ok found) read =
          let on = goes_on_so stated (t.piece_length * p.from) (seen visit.file).left read.rest visit.found read.agrees in
          record { bytes = on.bytes; agrees = on.agrees; so = read.each on.bytes on.from_there }
      held (Err e) read = tt
  row_visited m by_root x v (Ok None) j extent says visit =
      was_missing shelf seen opens stated t f m x bits.items s s' v visit.0 (none_from stated (t.piece_length * p.from) visit.1) visit.2 says
  row_visited m by_root x v (Err fault) j extent says visit = was_unopened shelf seen opens stated t f m x bits.items s s' v fault visit.0 visit.1 says

  -- the numbers of pieces that were found fit
  pub row_is_small : (n : ℕ) (visited : Result (Option (Result (Option Found) DeviceFault)) DeviceFault) → IsSound t → slice_get t.files n ≡ Some f
      → IsSpan t f p → VisitsRow visited → IfOk visited (λ o. IfSome o (HasSmallPieces f.first_piece))
  row_is_small n (Ok (Some answer)) sound there span visit = small_pieces t n f p answer sound there span visit.handed.reading.inside
  row_is_small n (Ok None) sound there span visit = tt
  row_is_small n (Err fault) sound there span visit = tt

-- ---- all of its pieces

module _ {S F : Type 0} (shelf : Ghosts S F) (seen : F → SourceSeen) (t : Description) (n : ℕ) (f : FileEntry) (p : Span) (sound : IsSound t)
    (there : slice_get t.files n ≡ Some f) (whole : IsWholeSpan t f p) (lent bits : Vec ℕ Global) (s s' : S) (path : List (List ℕ)) (own : path ≡ f.path)
    (visited : Result (Option (Result (Option Found) DeviceFault)) DeviceFault)
    (visit : VisitsFor shelf seen (ReadsPieces t f p lent bits) s path visited s') where
  whole_row : VisitsRow shelf seen (shelf.opens s f.path) ((shelf.contents s).under f.path) t f p lent bits s s' visited
  whole_row =
      let stated = (shelf.contents s).under f.path in
      subst (λ known. VisitsKnown shelf seen (shelf.opens s f.path) known (ReadsPieces t f p lent bits) s visited s')
      (from_none stated ∙ ap (λ k. from_offset k stated) (sym (from_start t f p whole)))
      (subst (λ at. VisitsFor shelf seen (ReadsPieces t f p lent bits) s at visited s') own visit)

  pub whole_is_small : IfOk visited (λ o. IfSome o (HasSmallPieces f.first_piece))
  whole_is_small = row_is_small shelf seen (shelf.opens s f.path) ((shelf.contents s).under f.path) t f p lent bits s s' n visited sound there
      (whole_shape t f p whole) whole_row

  pub whole_visited : (v : Verdicts) → SaysVisit true f.first_piece visited v → shelf.contents s' ≡ shelf.contents s
      → VisitsFile (whole_visiting shelf seen t) t s f bits.items v s'
  whole_visited v says stays =
      let so = row_visited shelf seen (shelf.opens s f.path) ((shelf.contents s).under f.path) t f p lent bits s s' (whole_meaning t f) true
      (whole_extent f) v visited (whole_judges t n f p sound there whole) (whole_extent_of t f p sound whole) says whole_row in
      record { finds = so.finds; visits = so.visits; counts = so.counts; stays = stays }

-- ---- those in a part

module _ {S F : Type 0} (shelf : Ghosts S F) (opens_at : S → List (List ℕ) → ℕ → Result (Option F) DeviceFault → S → Type 0) (seen : F → SourceSeen)
    (t : Description) (r : Places) (n : ℕ) (f : FileEntry) (p : Span) (sound : IsSound t) (there : slice_get t.files n ≡ Some f) (span : IsSpanOf t r f p)
    (lent bits : Vec ℕ Global) (s s' : S) (path : List (List ℕ)) (own : path ≡ f.path) (offset : ℕ) (begins : offset ≡ t.piece_length * p.from)
    (visited : Result (Option (Result (Option Found) DeviceFault)) DeviceFault)
    (visit : VisitsForAt shelf opens_at seen (ReadsPieces t f p lent bits) s path offset visited s') where
  part_row : VisitsRow shelf seen (opens_at s f.path (t.piece_length * first_in r f)) ((shelf.contents s).under f.path) t f p lent bits s s' visited
  part_row =
      subst (λ k. VisitsKnown shelf seen (opens_at s f.path (t.piece_length * k)) (from_offset (t.piece_length * p.from) ((shelf.contents s).under f.path))
      (ReadsPieces t f p lent bits) s visited s') span.from_is
      (subst (λ k. VisitsForAt shelf opens_at seen (ReadsPieces t f p lent bits) s f.path k visited s') begins
      (subst (λ at. VisitsForAt shelf opens_at seen (ReadsPieces t f p lent bits) s at offset visited s') own visit))

  pub part_is_small : IfOk visited (λ o. IfSome o (HasSmallPieces f.first_piece))
  part_is_small = row_is_small shelf seen (opens_at s f.path (t.piece_length * first_in r f)) ((shelf.contents s).under f.path) t f p lent bits s s' n visited
      sound there (span_shape t r f p span) part_row

  pub part_visited : (v : Verdicts) → SaysVisit false f.first_piece visited v → shelf.contents s' ≡ shelf.contents s
      → VisitsFile (part_visiting shelf opens_at seen r t) t s f bits.items v s'
  part_visited v says stays =
      let so = row_visited shelf seen (opens_at s f.path (t.piece_length * first_in r f)) ((shelf.contents s).under f.path) t f p lent bits s s'
      (part_meaning t r f) false (extent_in t r f) v visited (part_judges t r f p span) (part_extent_of t r f p span) says part_row in
      record {
        finds = so.finds;
        visits = record { touched = λ _. so.visits; other = λ off. absurd (off span.touches) };
        counts = so.counts;
        stays = stays;
      }
