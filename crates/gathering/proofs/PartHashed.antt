-- What was put behind a text of the rows of the first files.
use Rattle.std.proofs.Common.{◌≡◌, inr, ℕ, zero, suc, ◌+◌, ◌<◌, Bool, List, [], ◌∷◌, ◌++◌, length, take, slice_get, Option, Some, Result}
use Rattle.std.proofs.Common.{Err, refl, ap, sym, ◌∙◌, subst, append-nil, append_assoc, arith}
use Rattle.std.proofs.lemmas.List.{take_all}
use Rattle.std.proofs.lemmas.Option.{same_Some, slice_get_within}
use Rattle.benc.specs.Device.{SourceSeen}
use Rattle.benc.specs.declared.device.DeviceFault.{DeviceFault}
use Rattle.chains.specs.Chain.{Chain}
use Rattle.chains.proofs.Cases.{taken_more}
use Rattle.chains.proofs.Chains.{Chain-item}
use Rattle.folders.specs.Shelf.{ShelfContents}
use Rattle.folders.specs.declared.shelf.Shelf.{Ghosts}
use Rattle.gathering.specs.declared.kind.TorrentKind.{TorrentKind}
use Rattle.pieces.specs.Pieces.{IsPieceLength}
use Rattle.gathering.specs.Parts.{AreRows, IsRow, rows_text}
use Rattle.gathering.specs.PartRows.{row_text}
use Rattle.gathering.specs.PartSteps.{FaultsAtShare, PutsAll, PutsRow}
use Rattle.gathering.specs.PartVisits.{FailsAtShare, HashesAll, HashesPart, LacksMemoryAtShare, MissesShare, Share, StopsAtShare, StopsIn, VisitsShare}
use Rattle.gathering.specs.PartVisits.{part_shares, shares_of}
use Rattle.gathering.specs.declared.part_fault.PartFault.{PartFault}
use Rattle.gathering.specs.declared.part_fault.PartFault.TheVariants as fault
use Rattle.part_texts.specs.Divisions.{capped, hashed, span_of, total_after, total_of}
use Rattle.part_texts.specs.Listings.{Inventory, Listed}
use Rattle.part_texts.specs.Texts.{head_text, listing_text}
use Rattle.part_texts.specs.declared.division.Span.{Span}

-- ---- the shares

abbrev pub share : Listed → Span → Share
share f s = record { file = f; span = s }

total_more : (before : ℕ) (fs : List Listed) (f : Listed) → total_after before (fs ++ f ∷ []) ≡ capped (total_after before fs) (hashed f.bytes)
total_more before [] f = refl
total_more before (g ∷ fs) f = total_more (capped before (hashed g.bytes)) fs f

module _ (p total parts part : ℕ) where
  abbrev share_with : Listed → ℕ → Share
  share_with f before = share f (span_of p total parts before f.bytes part)

  share_at : (before : ℕ) (fs : List Listed) (n : ℕ) (f : Listed) → slice_get fs n ≡ Some f
      → slice_get (shares_of p total parts part before fs) n ≡ Some (share_with f (total_after before (take n fs)))
  share_at before [] n f is = let no : ⊥ = cc in absurd no
  share_at before (g ∷ fs) zero f is = ap (λ h. Some (share_with h before)) (same_Some g f is)
  share_at before (g ∷ fs) (suc n) f is = share_at (capped before (hashed g.bytes)) fs n f is

  -- there is a share of each file
  shares_count : (before : ℕ) (fs : List Listed) → length (shares_of p total parts part before fs) ≡ length fs
  shares_count before [] = refl
  shares_count before (g ∷ fs) = ap suc (shares_count (capped before (hashed g.bytes)) fs)

  pub share_within : (fs : List Listed) (place : ℕ) (x : Share) → slice_get (shares_of p total parts part 0 fs) place ≡ Some x → place < length fs
  share_within fs place x there = omega (arith, slice_get_within (shares_of p total parts part 0 fs) place x there, shares_count 0 fs)

-- ---- all files

module _ {S F : Type 0} (shelf : Ghosts S F) (opens_at : S → List (List ℕ) → ℕ → Result (Option F) DeviceFault → S → Type 0) (seen : F → SourceSeen)
    (p : ℕ) (hybrid : Bool) where
  -- a row was read of a share, which the shelf still holds, and what was hashed of it came behind a text
  pub record PutsNext (k : S × List ℕ) (x : Share) (row : List ℕ) (k' : S × List ℕ) : Type 0 where
    pub visits : VisitsShare shelf opens_at seen p k.0 x row k'.0
    pub is : IsRow (shelf.contents k.0).under p x.file x.span row
    pub text_is : k'.1 ≡ k.1 ++ row_text p hybrid x.file.bytes row
    pub stays : shelf.contents k'.0 ≡ shelf.contents k.0

  visited : (k : S × List ℕ) (xs : List Share) (rows : List (List ℕ)) (k' : S × List ℕ) → Chain PutsNext k xs rows k'
      → Chain (VisitsShare shelf opens_at seen p) k.0 xs rows k'.0 × (shelf.faults k'.0 ≡ shelf.faults k.0)
  visited k [] [] k' is = (ap (λ (x : S × List ℕ). x.0) is, ap (λ (x : S × List ℕ). shelf.faults x.0) is)
  visited k [] (r ∷ rows) k' run = absurd run
  visited k (x ∷ xs) [] k' run = absurd run
  visited k (x ∷ xs) (r ∷ rows) k' (mid, put, rest) =
      let later = visited mid xs rows k' rest in ((mid.0, put.visits, later.0), later.1 ∙ put.visits.quiet)

  module _ (total parts part : ℕ) where
    all_put : (before : ℕ) (fs : List Listed) (rows : List (List ℕ)) (k k' : S × List ℕ) → Chain PutsNext k (shares_of p total parts part before fs) rows k'
        → AreRows (shelf.contents k.0).under p total parts part before fs rows × (k'.1 ≡ k.1 ++ rows_text p hybrid fs rows)
    all_put before [] [] k k' is = (tt, ap (λ (x : S × List ℕ). x.1) is ∙ sym (append-nil k.1))
    all_put before [] (r ∷ rows) k k' run = absurd run
    all_put before (f ∷ fs) [] k k' run = absurd run
    all_put before (f ∷ fs) (r ∷ rows) k k' (mid, put, rest) =
        let next : ℕ = capped before (hashed f.bytes) in
        let later = all_put next fs rows mid k' rest in (
          (put.is, subst (λ (c : ShelfContents). AreRows c.under p total parts part next fs rows) put.stays later.0),
          later.1 ∙ ap (λ l. l ++ rows_text p hybrid fs rows) put.text_is
              ∙ append_assoc k.1 (row_text p hybrid f.bytes r) (rows_text p hybrid fs rows),
        )

    module _ (start : S) (first : List ℕ) (files : List Listed) where
      abbrev shares : List Share
      shares = shares_of p total parts part 0 files

      -- what was hashed of the shares of the first files came behind a text
      pub record SoFar (number before : ℕ) (now : List ℕ) (mid : S) : Type 0 where
        pub rows : List (List ℕ)
        pub run : Chain PutsNext (start, first) (take number shares) rows (mid, now)
        pub before_is : before ≡ total_after 0 (take number files)
        pub stays : shelf.contents mid ≡ shelf.contents start

      module _ (number before : ℕ) (now : List ℕ) (mid : S) (so_far : SoFar number before now mid) where
        pub all_so_far : length files ≡ number → PutsAll shelf opens_at seen p hybrid total parts part files start mid first now
        all_so_far end =
            let run = subst (λ xs. Chain PutsNext (start, first) xs so_far.rows (mid, now))
            (take_all number shares (omega (arith, end, shares_count p total parts part 0 files))) so_far.run in
            let put = all_put 0 files so_far.rows (start, first) (mid, now) run in
            let all = visited (start, first) shares so_far.rows (mid, now) run in
            record { rows = so_far.rows; are = put.0; text_is = put.1; visited = all.0; quiet = all.1 }

        -- the next file
        module _ (f : Listed) (s : Span) (there : slice_get files number ≡ Some f) (span_is : s ≡ span_of p total parts before f.bytes part) where
          is_next : slice_get shares number ≡ Some (share f s)
          is_next = share_at p total parts part 0 files number f there ∙ ap (λ b. Some (share_with p total parts part f b)) (sym so_far.before_is)
              ∙ ap (λ t. Some (share f t)) (sym span_is)

          pub more_so_far : (before' : ℕ) (next : List ℕ) (new : S) → before' ≡ capped before (hashed f.bytes)
              → PutsRow shelf opens_at seen p hybrid mid (share f s) new now next → shelf.contents new ≡ shelf.contents mid
              → SoFar (number + 1) before' next new
          more_so_far before' next new before_is put still = record {
            rows = so_far.rows ++ put.row ∷ [];
            run = Chain-item PutsNext (start, first) (mid, now) (new, next) shares number so_far.rows (share f s) put.row is_next so_far.run
                (record { visits = put.visits; is = put.is; text_is = put.text_is; stays = still });
            before_is = before_is ∙ ap (λ b. capped b (hashed f.bytes)) so_far.before_is ∙ sym (total_more 0 (take number files) f)
                ∙ ap (total_after 0) (sym (taken_more files number f there));
            stays = still ∙ so_far.stays;
          }

          stops : (new : S) (place : ℕ) (Why : S → Share → Type 0) → place ≡ number → Why mid (share f s)
              → StopsAtShare shelf opens_at seen p shares start place Why
          stops new place Why is why =
              let before = visited (start, first) (take number shares) so_far.rows (mid, now) so_far.run in
              subst (λ n. StopsAtShare shelf opens_at seen p shares start n Why) (sym is)
              (record { rows = so_far.rows; mid = mid; before = before.0; quiet = before.1; share = share f s; there = is_next; why = why })

          -- it stopped there
          pub stopped_at : (new : S) (e : PartFault) → FaultsAtShare shelf opens_at seen p hybrid number e mid (share f s) new
              → StopsIn shelf opens_at seen p shares start new e
          stopped_at new fault.PieceLength why = why
          stopped_at new (fault.Device place) why = stops new place (λ m x. FailsAtShare shelf opens_at seen p m x new) why.0 why.1
          stopped_at new (fault.Changed place) why = stops new place (λ m x. MissesShare shelf opens_at seen p m x new) why.0 why.1
          stopped_at new fault.NoMemory why = (number, stops new number (λ m x. LacksMemoryAtShare shelf opens_at seen p m x new) refl why)

    -- none yet
    pub so_far_begun : (start : S) (first : List ℕ) (files : List Listed) → SoFar start first files 0 0 first start
    so_far_begun start first [] = record { rows = []; run = refl; before_is = refl; stays = refl }
    so_far_begun start first (f ∷ fs) = record { rows = []; run = refl; before_is = refl; stays = refl }

-- ---- the part

module _ {S F : Type 0} (shelf : Ghosts S F) (opens_at : S → List (List ℕ) → ℕ → Result (Option F) DeviceFault → S → Type 0) (seen : F → SourceSeen)
    (l : Inventory) (part parts : ℕ) (old new : S) where
  -- all its rows were put behind its front
  pub part_hashed : (kind : TorrentKind) (files : List Listed) (front text : List ℕ) → IsPieceLength l.piece_length
      → kind ≡ record { piece_length = l.piece_length; hybrid = l.hybrid } → files ≡ l.files → front ≡ head_text part parts (listing_text l)
      → PutsAll shelf opens_at seen kind.piece_length kind.hybrid (total_of files) parts part files old new front text
      → HashesAll shelf opens_at seen l part parts old new text
  part_hashed kind files front text legal kind_is files_are front_is put =
      let with_kind = subst (λ (k : TorrentKind). PutsAll shelf opens_at seen k.piece_length k.hybrid (total_of files) parts part files old new front text)
      kind_is put in
      let all = subst (λ (fs : List Listed). PutsAll shelf opens_at seen l.piece_length l.hybrid (total_of fs) parts part fs old new front text) files_are
      with_kind in
      record {
        legal = legal;
        is = record {
          rows = all.rows;
          are = all.are;
          text_is = all.text_is ∙ ap (λ h. h ++ rows_text l.piece_length l.hybrid l.files all.rows) front_is;
        };
        visited = all.visited;
        quiet = all.quiet;
      }

  by_fault : (e : PartFault) → IsPieceLength l.piece_length → StopsIn shelf opens_at seen l.piece_length (part_shares l part parts) old new e
      → HashesPart shelf opens_at seen l part parts old new (Err e)
  by_fault fault.PieceLength legal stops = absurd stops
  by_fault (fault.Device place) legal stops = (legal, stops)
  by_fault (fault.Changed place) legal stops = (legal, stops)
  by_fault fault.NoMemory legal stops = (legal, inr stops)

  -- it stopped at a file
  pub part_stopped : (kind : TorrentKind) (files : List Listed) (e : PartFault) → IsPieceLength l.piece_length
      → kind ≡ record { piece_length = l.piece_length; hybrid = l.hybrid } → files ≡ l.files
      → StopsIn shelf opens_at seen kind.piece_length (shares_of kind.piece_length (total_of files) parts part 0 files) old new e
      → HashesPart shelf opens_at seen l part parts old new (Err e)
  part_stopped kind files e legal kind_is files_are stops =
      let with_kind = subst (λ (k : TorrentKind). StopsIn shelf opens_at seen k.piece_length
      (shares_of k.piece_length (total_of files) parts part 0 files) old new e) kind_is stops in
      by_fault e legal (subst (λ (fs : List Listed). StopsIn shelf opens_at seen l.piece_length
      (shares_of l.piece_length (total_of fs) parts part 0 fs) old new e) files_are with_kind)
