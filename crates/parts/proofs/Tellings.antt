-- What was told of a file.
use Rattle.std.proofs.Common.{◌≡◌, ℕ, ◌*◌, ◌≤◌, Bool, true, false, List, [], ◌∷◌, ◌++◌}
use Rattle.std.proofs.Common.{length, Option, Ok, Err, refl, ap, sym, ◌∙◌, subst, append-nil, arith}
use Rattle.std.proofs.lemmas.Grind.{flat_map-append}
use Rattle.std.proofs.lemmas.Option.{none-some}
use Rattle.benc.proofs.Known.{Appends_nothing}
use Rattle.benc.proofs.Out.{Broke-append, Sent-append}
use Rattle.benc.specs.Device.{Broke, Sent, SinkSeen}
use Rattle.benc.specs.declared.device.DeviceFault.{DeviceFault}
use Rattle.lines.specs.Rows.{Row, Spelling, spell}
use Rattle.opening.specs.Description.{Description, FileEntry}
use Rattle.folders.specs.Printed.{verdict_row, wanted_rows}
use Rattle.folders.proofs.SentLines.{wrote_one}
use Rattle.folders.specs.declared.report_lines.Lines.{Lines}
use Rattle.folders.specs.declared.report.FileVerdict.{FileVerdict}
use Rattle.parts.specs.PartLines.{has_place, held_rows}
use Rattle.parts.specs.Parts.{Touches, piece_count}
use Rattle.parts.specs.RowBits.{HasGoodPiece}
use Rattle.parts.specs.Runs.{AreBadRuns, AreClearRuns, AreRunsIn, IsGoodIfIn, IsSetIfIn, Run, WentFirst, runs_rows}
use Rattle.parts.specs.Spans.{IsSpanOf, first_in}
use Rattle.parts.specs.Telling.{AreMarkedRuns, AreToldRuns, MarksIn, MarksRow, NeedsBits, TellsFile, has_runs}
use Rattle.parts.specs.declared.places.Places.{Places}
use Rattle.parts.specs.declared.places.Span.{Span}
use Rattle.parts.specs.declared.telling.Telling.{Telling}
use Rattle.parts.specs.declared.telling.Telling.TheVariants as telling
use Rattle.parts.proofs.HeldPieces.{between_held, held_between, piece_touches, span_shape}
use Rattle.parts.proofs.PlaceTests.{place_test}
use Rattle.parts.proofs.RowRuns.{AsksOfRow, IsRow, row_runs}

-- the bits are needed for runs
pub needs_bits : (s : Telling) (lines : Lines) → s ≡ telling.LineAndRuns lines → NeedsBits s
needs_bits s lines is = subst NeedsBits (sym is) tt

pub needs_bits_in : (s : Telling) (r : Places) → s ≡ telling.RunsIn r → NeedsBits s
needs_bits_in s r is = subst NeedsBits (sym is) tt

-- ---- a line and runs

-- what went out: what stands in front of the runs, and runs that these are of each content that has the bits
pub record SaysRuns (spelled : Spelling) (t : Description) (f : FileEntry) (v : FileVerdict) (bits : List ℕ) (from to : ℕ) (front : List Row)
    (AreRuns : List ℕ → List Run → Type 0) (Went : List ℕ → Type 0) : Type 0 where
  pub text : List ℕ
  pub went : Went text
  pub is : (content : Option (List ℕ)) → MarksRow t f from to content v bits
      → (runs : List Run) × AreToldRuns AreRuns (has_runs v) content runs × (text ≡ spell spelled (front ++ runs_rows t f runs))

abbrev pub AreAll : Description → FileEntry → (List ℕ → ℕ → Type 0) → List ℕ → List Run → Type 0
AreAll t f IsGood bytes runs = AreBadRuns (piece_count t f) (piece_count t f) (IsGood bytes) runs

abbrev pub AreFirst : Description → FileEntry → (List ℕ → ℕ → Type 0) → List ℕ → List Run → Type 0
AreFirst t f IsGood bytes runs = (end : ℕ) × (end ≤ piece_count t f) × AreBadRuns (piece_count t f) end (IsGood bytes) runs

module _ (spelled : Spelling) (t : Description) (f : FileEntry) (v : FileVerdict) (bits : List ℕ) (from to : ℕ) (front : List Row)
    (IsGood : List ℕ → ℕ → Type 0) where
  told_runs : (content : Option (List ℕ)) (runs : List Run) → IsRow t f from to bits → AsksOfRow t f from to IsGood → has_runs v ≡ true
      → MarksRow t f from to content v bits → AreClearRuns t f from to bits (piece_count t f) runs
      → AreToldRuns (AreAll t f IsGood) (has_runs v) content runs
  told_runs content runs row asks on marks are =
      let m = marks on in
      subst (λ b. AreToldRuns (AreAll t f IsGood) b content runs) (sym on)
      (m.0, m.1, row_runs t f from to (piece_count t f) IsGood m.0 bits runs row asks (omega arith) m.2 are)

  told_first : (content : Option (List ℕ)) (runs : List Run) (end : ℕ) → IsRow t f from to bits → AsksOfRow t f from to IsGood → has_runs v ≡ true
      → end ≤ piece_count t f → MarksRow t f from to content v bits → AreClearRuns t f from to bits end runs
      → AreToldRuns (AreFirst t f IsGood) (has_runs v) content runs
  told_first content runs end row asks on le marks are =
      let m = marks on in
      subst (λ b. AreToldRuns (AreFirst t f IsGood) b content runs) (sym on)
      (m.0, m.1, (end, le, row_runs t f from to end IsGood m.0 bits runs row asks le m.2 are))

  -- no run yet
  first_none : (content : Option (List ℕ)) → IsRow t f from to bits → AsksOfRow t f from to IsGood → MarksRow t f from to content v bits
      → (b : Bool) → has_runs v ≡ b → AreToldRuns (AreFirst t f IsGood) (has_runs v) content []
  first_none content row asks marks true on = told_first content [] 0 row asks on (omega arith) marks (record {
    each = λ i r is. absurd (none-some r is);
    ascend = λ i j a b lt is. absurd (none-some a is);
    all = λ k lt. absurd (omega (arith, lt));
  })
  first_none content row asks marks false off = subst (λ b. AreToldRuns (AreFirst t f IsGood) b content []) (sym off) refl

  -- what stands in front broke off
  pub front_broke : (old new : SinkSeen) → IsRow t f from to bits → AsksOfRow t f from to IsGood → Broke old new (spell spelled front)
      → SaysRuns spelled t f v bits from to front (AreFirst t f IsGood) (Broke old new)
  front_broke old new row asks broke = record {
    text = spell spelled front;
    went = broke;
    is = λ content marks. ([], first_none content row asks marks (has_runs v) refl, ap (spell spelled) (sym (append-nil front)));
  }

  -- all runs follow
  pub front_and_runs : (old mid new : SinkSeen) (runs : List Run) → IsRow t f from to bits → AsksOfRow t f from to IsGood → has_runs v ≡ true
      → Sent old mid (spell spelled front) → AreClearRuns t f from to bits (piece_count t f) runs → Sent mid new (spell spelled (runs_rows t f runs))
      → SaysRuns spelled t f v bits from to front (AreAll t f IsGood) (Sent old new)
  front_and_runs old mid new runs row asks on first are sent = record {
    text = spell spelled (front ++ runs_rows t f runs);
    went = subst (Sent old new) (sym (flat_map-append spelled front (runs_rows t f runs)))
        (Sent-append old mid new (spell spelled front) (spell spelled (runs_rows t f runs)) first sent);
    is = λ content marks. (runs, told_runs content runs row asks on marks are, refl);
  }

  -- some do, before one broke off
  pub runs_broke : (old mid new : SinkSeen) → IsRow t f from to bits → AsksOfRow t f from to IsGood → has_runs v ≡ true
      → Sent old mid (spell spelled front) → WentFirst spelled t f (IsSetIfIn 0 from to bits) (Broke mid new)
      → SaysRuns spelled t f v bits from to front (AreFirst t f IsGood) (Broke old new)
  runs_broke old mid new row asks on first (runs, end, le, are, broke) = record {
    text = spell spelled (front ++ runs_rows t f runs);
    went = subst (Broke old new) (sym (flat_map-append spelled front (runs_rows t f runs)))
        (Broke-append old mid new (spell spelled front) (spell spelled (runs_rows t f runs)) first broke);
    is = λ content marks. (runs, told_first content runs end row asks on le marks are, refl);
  }

-- ---- of a whole file

pub whole_row : (t : Description) (f : FileEntry) (bits : List ℕ) → piece_count t f ≤ 8 * length bits → IsRow t f 0 (piece_count t f) bits
whole_row t f bits room = record { order = omega arith; inside = omega arith; room = omega (arith, room) }

pub whole_asks : (t : Description) (f : FileEntry) → AsksOfRow t f 0 (piece_count t f) (HasGoodPiece t f)
whole_asks t f bytes k lt = (λ good. good (omega arith) lt, λ good low high. good)

-- and what is told is the line, if it is wanted, and runs
pub whole_told : (spelled : Spelling) (t : Description) (lines : Lines) (f : FileEntry) (v : FileVerdict) (bits : List ℕ) (old new : SinkSeen)
    → SaysRuns spelled t f v bits 0 (piece_count t f) (wanted_rows lines v f) (AreAll t f (HasGoodPiece t f)) (Sent old new)
    → TellsFile spelled t (telling.LineAndRuns lines) f v bits old new (Ok tt)
whole_told spelled t lines f v bits old new says = record { text = says.text; went = says.went; is = says.is }

pub whole_first : (spelled : Spelling) (t : Description) (lines : Lines) (f : FileEntry) (v : FileVerdict) (bits : List ℕ) (old new : SinkSeen)
    (e : DeviceFault)
    → SaysRuns spelled t f v bits 0 (piece_count t f) (wanted_rows lines v f) (AreFirst t f (HasGoodPiece t f)) (Broke old new)
    → TellsFile spelled t (telling.LineAndRuns lines) f v bits old new (Err e)
whole_first spelled t lines f v bits old new e says = record { text = says.text; went = says.went; is = says.is }

-- ---- of the pieces among places

span_row : (t : Description) (r : Places) (f : FileEntry) (s : Span) (bits : List ℕ) → IsSpanOf t r f s → piece_count t f ≤ 8 * length bits
    → IsRow t f s.from s.to bits
span_row t r f s bits is room =
    let shape = span_shape t r f s is in
    record { order = shape.order; inside = shape.inside; room = omega (arith, room, shape.inside) }

span_asks : (t : Description) (r : Places) (f : FileEntry) (s : Span) → IsSpanOf t r f s → AsksOfRow t f s.from s.to (IsGoodIfIn t r f)
span_asks t r f s is bytes k lt = (
  λ good held. (let b = held_between t r f s k is lt held in good b.0 b.1),
  λ good low high. good (between_held t r f s k is low high).1,
)

pub span_marks : (t : Description) (r : Places) (f : FileEntry) (s : Span) (content : Option (List ℕ)) (v : FileVerdict) (bits : List ℕ) → IsSpanOf t r f s
    → MarksIn t r f content v bits → MarksRow t f s.from s.to content v bits
span_marks t r f s content v bits is marks =
    subst (λ from. MarksRow t f from s.to content v bits) (sym is.from_is)
    (subst (λ to. MarksRow t f (first_in r f) to content v bits) (sym is.to_is) marks)

-- what is told is the line, and runs
span_told : (spelled : Spelling) (t : Description) (r : Places) (f : FileEntry) (s : Span) (v : FileVerdict) (bits : List ℕ) (old new : SinkSeen)
    → IsSpanOf t r f s
    → has_place t r f ≡ true → SaysRuns spelled t f v bits s.from s.to (verdict_row v f ∷ []) (AreAll t f (IsGoodIfIn t r f)) (Sent old new)
    → TellsFile spelled t (telling.RunsIn r) f v bits old new (Ok tt)
span_told spelled t r f s v bits old new is on says = record {
  text = says.text;
  went = says.went;
  is = λ content marks.
      let told = says.is content (span_marks t r f s content v bits is marks) in
      (told.0, told.1, told.2 ∙ sym (ap (λ b. spell spelled (held_rows b v f ++ runs_rows t f told.0)) on));
}

span_first : (spelled : Spelling) (t : Description) (r : Places) (f : FileEntry) (s : Span) (v : FileVerdict) (bits : List ℕ) (old new : SinkSeen)
    (e : DeviceFault)
    → IsSpanOf t r f s → has_place t r f ≡ true
    → SaysRuns spelled t f v bits s.from s.to (verdict_row v f ∷ []) (AreFirst t f (IsGoodIfIn t r f)) (Broke old new)
    → TellsFile spelled t (telling.RunsIn r) f v bits old new (Err e)
span_first spelled t r f s v bits old new e is on says = record {
  text = says.text;
  went = says.went;
  is = λ content marks.
      let told = says.is content (span_marks t r f s content v bits is marks) in
      (told.0, told.1, told.2 ∙ sym (ap (λ b. spell spelled (held_rows b v f ++ runs_rows t f told.0)) on));
}

module _ (spelled : Spelling) (t : Description) (r : Places) (f : FileEntry) (s : Span) (v : FileVerdict) (bits : List ℕ) (is : IsSpanOf t r f s)
    (room : piece_count t f ≤ 8 * length bits) where
  has_one : has_place t r f ≡ true
  has_one = sym (place_test t r f true (λ _. is.touches, λ _. refl))

  -- the line broke off
  pub span_line_broke : (old new : SinkSeen) (e : DeviceFault) → Broke old new (spelled (verdict_row v f))
      → TellsFile spelled t (telling.RunsIn r) f v bits old new (Err e)
  span_line_broke old new e broke =
      span_first spelled t r f s v bits old new e is has_one
      (front_broke spelled t f v bits s.from s.to (verdict_row v f ∷ []) (IsGoodIfIn t r f) old new (span_row t r f s bits is room)
      (span_asks t r f s is) (wrote_one spelled (verdict_row v f) old new (Err e) broke))

  -- the line of a run behind it broke off
  pub span_run_broke : (old mid new : SinkSeen) (e : DeviceFault) → has_runs v ≡ true → Sent old mid (spelled (verdict_row v f))
      → WentFirst spelled t f (IsSetIfIn 0 s.from s.to bits) (Broke mid new) → TellsFile spelled t (telling.RunsIn r) f v bits old new (Err e)
  span_run_broke old mid new e on sent went =
      span_first spelled t r f s v bits old new e is has_one
      (runs_broke spelled t f v bits s.from s.to (verdict_row v f ∷ []) (IsGoodIfIn t r f) old mid new (span_row t r f s bits is room)
      (span_asks t r f s is) on (wrote_one spelled (verdict_row v f) old mid (Ok tt) sent) went)

  -- all runs stand behind it
  pub span_runs_sent : (old mid new : SinkSeen) (runs : List Run) → has_runs v ≡ true → Sent old mid (spelled (verdict_row v f))
      → AreClearRuns t f s.from s.to bits (piece_count t f) runs → Sent mid new (spell spelled (runs_rows t f runs))
      → TellsFile spelled t (telling.RunsIn r) f v bits old new (Ok tt)
  span_runs_sent old mid new runs on sent are went =
      span_told spelled t r f s v bits old new is has_one
      (front_and_runs spelled t f v bits s.from s.to (verdict_row v f ∷ []) (IsGoodIfIn t r f) old mid new runs (span_row t r f s bits is room)
      (span_asks t r f s is) on (wrote_one spelled (verdict_row v f) old mid (Ok tt) sent) are went)

-- a file that has no place has no runs
pub none_in : (spelled : Spelling) (t : Description) (r : Places) (f : FileEntry) (v : FileVerdict) (bits : List ℕ) (out : SinkSeen) → (Touches t r f → ⊥)
    → has_place t r f ≡ false → TellsFile spelled t (telling.RunsIn r) f v bits out out (Ok tt)
none_in spelled t r f v bits out other off = record {
  text = [];
  went = record { bytes = Appends_nothing out.written; faults = refl; flushes = refl };
  is = λ content marks. (
    [],
    none content marks (has_runs v) refl,
    sym (ap (λ b. spell spelled (held_rows b v f ++ [])) off),
  );
}
  where
    none : (content : Option (List ℕ)) → MarksIn t r f content v bits → (b : Bool) → has_runs v ≡ b → AreMarkedRuns t r f content v []
    none content marks true on =
        let m = marks on in
        subst (λ b. AreToldRuns (AreRunsIn t r f) b content []) (sym on) (
          m.0,
          m.1,
          record {
            each = λ i x is. absurd (none-some x is);
            ascend = λ i j a b lt is. absurd (none-some a is);
            all = λ k lt bad. absurd (bad (λ held. absurd (other (piece_touches t r f k lt held))));
          },
        )
    none content marks false off = subst (λ b. AreToldRuns (AreRunsIn t r f) b content []) (sym off) refl
