-- What reading a row of pieces found.
use Rattle.std.proofs.Common.{◌≡◌, ℕ, ◌+◌, ◌-◌, ◌*◌, ◌^◌, ◌<◌, ◌≤◌, inl, inr, is_some, List, [], ◌∷◌, ◌++◌, length, refl, ap₂}
use Rattle.std.proofs.Common.{slice_get, Option, Some, None, IfSome, IsTrue, false, true, replicate, ap, sym, subst, ◌∙◌, arith}
use Rattle.std.specs.Option.{option_map}
use Rattle.std.specs.Prelude.{◌↔◌}
use Rattle.std.proofs.lemmas.Option.{same_Some}
use Rattle.std.proofs.Math.Nat.{mul-le-mul_left}
use Rattle.std.proofs.lemmas.Bool.{cases_lt}
use Rattle.std.proofs.lemmas.List.{length-replicate}
use Rattle.chains.proofs.Cases.{some_of}
use Rattle.hashtree.specs.Judging.{IsJudgedRow}
use Rattle.hashtree.specs.Bits.{AreClear}
use Rattle.hashtree.specs.PieceCheck.{BeginsRow, chosen_layer, chosen_shape, given_hashes}
use Rattle.hashtree.specs.Tree.{block_count, first_pad, root_of}
use Rattle.benc.specs.Device.{SourceSeen}
use Rattle.opening.specs.Description.{Description, FileEntry, TreeEntry, Version1}
use Rattle.opening.specs.Sound.{IsSound}
use Rattle.pieces.specs.Cuts.{IsComparison, cut_digests}
use Rattle.pieces.specs.declared.v1_feed.V1Feed.{V1Feed}
use Rattle.folders.specs.CutFeeds.{AreCutsJudged, CutsStandAt, HasCutRoom}
use Rattle.folders.specs.Folder.{tree_entry_of}
use Rattle.folders.specs.RowFeeds.{IsFreshFeed, JudgesRow}
use Rattle.folders.specs.declared.row_feed.RowFeed.{RowFeed}
use Rattle.folders.specs.declared.row_feed.RowFound.{RowFound}
use Rattle.folders.proofs.Layers.{one_at_root, whole_layer}
use Rattle.folders.proofs.Places.{pieces_are_positive}
use Rattle.parts.specs.FilePieces.{AreJudgedFrom, IsBelow}
use Rattle.parts.specs.Parts.{piece_count}
use Rattle.parts.specs.RowChecks.{EndsInRow, IsRowCuts, IsRowHashes, IsRowLayer, IsRowOf, ReadsRow, row_bytes, stream_part}
use Rattle.parts.specs.declared.row.Found.{Found}
use Rattle.parts.specs.declared.places.Span.{Span}
use Rattle.parts.proofs.RowCuts.{AreCompared, part_fits, row_cuts, row_lengths}
use Rattle.parts.proofs.RowPieces.{IsRow, last_begins, range_length, row_fits, row_listed, row_places, within_rows}
use Rattle.parts.proofs.CutRows.{row_bits_cut}
use Rattle.parts.proofs.RowJudged.{other_within, row_bits, row_first}
use Rattle.parts.proofs.RowTells.{is_only}

-- these pieces of the file are there, and the tree over it
pub record HasRow (t : Description) (f : FileEntry) (s : Span) (e : TreeEntry) : Type 0 where
  pub number : ℕ
  pub sound : IsSound t
  pub there : slice_get t.files number ≡ Some f
  pub is : tree_entry_of t f ≡ Some e
  pub piece : s.from < s.to
  pub inside : s.to ≤ piece_count t f

-- the cuts have room for the row
pub row_room : {t : Description} {f : FileEntry} {s : Span} {e : TreeEntry} → HasRow t f s e → (feed : Option V1Feed) → is_some feed ≡ is_some t.v1
    → CutsStandAt feed 0 → ((v : Version1) → t.v1 ≡ Some v → IsRowCuts t f s v feed) → HasCutRoom feed (row_bytes t f s.from s.to)
row_room row None begins stands part = tt
row_room {t} {f} {s} row (Some g) begins stands part =
    let v = some_of t.v1 (sym begins) in
    omega (arith, stands, (part v.0 v.1).ends, (part_fits t v.0 row.number f s.from s.to row.sound row.there v.1 row.piece row.inside).1)

-- what was found of the cuts, if the torrent is a hybrid
pub cuts_compared : (t : Description) (f : FileEntry) (s : Span) (v : Version1) (feed : Option V1Feed) (own : List ℕ) (found : Option ℕ)
    → t.v1 ≡ Some v → is_some feed ≡ is_some t.v1 → IsRowCuts t f s v feed → AreCutsJudged feed own found → AreCompared t v f s.from s.to own found
cuts_compared t f s v None own found hybrid begins part judged = absurd (differ (begins ∙ ap is_some hybrid))
  where
    differ : false ≡ true → ⊥
    differ e = cc
cuts_compared t f s v (Some g) own found hybrid begins part judged =
    subst (λ total. IsComparison (cut_digests t.piece_length (own ++ replicate (total - length own) 0))
    (stream_part t.piece_length v (f.first_piece + s.from) (f.first_piece + s.to)).pieces found) part.ends
    (judged (stream_part t.piece_length v (f.first_piece + s.from) (f.first_piece + s.to)).pieces t.piece_length part.given)

-- the first bad version 1 piece is one of the row
pub cuts_within : (t : Description) (n : ℕ) (f : FileEntry) (s : Span) (feed : Option V1Feed) (own : List ℕ) (found : Option ℕ) → IsSound t
    → slice_get t.files n ≡ Some f → IsRow t f s.from s.to own → is_some feed ≡ is_some t.v1
    → ((v : Version1) → t.v1 ≡ Some v → IsRowCuts t f s v feed) → AreCutsJudged feed own found → IfSome found (λ p. p < s.to - s.from)
cuts_within t n f s None own found sound there row begins part judged = subst (λ o. IfSome o (λ p. p < s.to - s.from)) (sym judged) tt
cuts_within t n f s (Some g) own found sound there row begins part judged =
    let v = some_of t.v1 (sym begins) in
    let lens = row_lengths t v.0 n f s.from s.to own sound there v.1 row in
    within_rows _ _ found (s.to - s.from) lens.0 lens.1 (cuts_compared t f s v.0 (Some g) own found v.1 begins (part v.0 v.1) judged)

-- the pieces of a row are judged
pub row_judged : (t : Description) (n : ℕ) (f : FileEntry) (s : Span) (e : TreeEntry) (layer : ℕ) (hashes : List (List ℕ)) (feed : Option V1Feed)
    (own good : List ℕ) (other found : Option ℕ) → IsSound t → slice_get t.files n ≡ Some f → tree_entry_of t f ≡ Some e → IsRow t f s.from s.to own
    → IsRowOf t f e s.from s.to layer hashes → IsJudgedRow layer hashes own good other → is_some feed ≡ is_some t.v1
    → ((v : Version1) → t.v1 ≡ Some v → IsRowCuts t f s v feed) → AreCutsJudged feed own found
    → AreJudgedFrom t f s.from s.to own (option_map (λ j. s.from + j) other) (option_map (λ j. s.from + j) found)
row_judged t n f s e layer hashes feed own good other found sound there is row of judged begins part cuts =
    let pl : ℕ = t.piece_length in
    let last = last_begins t f s.from s.to (pieces_are_positive t sound) row.piece row.inside in
    let low : pl * s.from ≤ pl * (s.to - 1) = mul-le-mul_left pl (let a : s.from ≤ s.to - 1 = omega (arith, row.piece) in a) in
    let high : pl * (s.to - 1) ≤ pl * s.to = mul-le-mul_left pl (let a : s.to - 1 ≤ s.to = omega arith in a) in
    record {
      count = omega (arith, row.count, last, low, high);
      judged = λ bytes rest at end. (
        row_first t n f e s.from s.to layer hashes bytes own rest good other sound there is row of judged at end,
        λ v hybrid. row_cuts t v n f s.from s.to bytes own rest found sound there hybrid row
            (cuts_compared t f s v feed own found hybrid begins (part v hybrid) cuts) at end,
      );
    }

-- ---- the row of a file

-- a row that was given nothing, of these pieces
pub record BeginsRowOf (t : Description) (f : FileEntry) (s : Span) (e : TreeEntry) (feed : RowFeed) : Type 0 where
  pub shape : chosen_shape feed.check ≡ row_bytes t f s.from s.to
  pub row : IsRowOf t f e s.from s.to (chosen_layer feed.check) (given_hashes feed.check)
  pub begins : is_some feed.cuts.feed ≡ is_some t.v1
  pub part : (v : Version1) → t.v1 ≡ Some v → IsRowCuts t f s v feed.cuts.feed

pub begins_row : (t : Description) (f : FileEntry) (s : Span) (e : TreeEntry) (feed : RowFeed) (shape layer : ℕ) (hashes : List (List ℕ))
    → shape ≡ row_bytes t f s.from s.to → BeginsRow shape layer hashes feed.check → IsRowLayer t f layer → IsRowHashes t f e s.from s.to hashes
    → is_some feed.cuts.feed ≡ is_some t.v1 → ((v : Version1) → t.v1 ≡ Some v → IsRowCuts t f s v feed.cuts.feed) → BeginsRowOf t f s e feed
begins_row t f s e feed shape layer hashes size begun at of begins part = record {
  shape = begun.shape_is ∙ size;
  row = record {
    at_root = λ short. (begun.layer_is ∙ at.0 short, begun.hashes_are ∙ of.0 short);
    at_pieces = λ long. (begun.layer_is ∙ at.1 long, begun.hashes_are ∙ of.1 long);
  };
  begins = begins;
  part = part;
}

pub fresh_row : (feed : RowFeed) (shape layer : ℕ) (hashes : List (List ℕ)) → BeginsRow shape layer hashes feed.check → AreClear feed.bits.items
    → HasCutRoom feed.cuts.feed shape → IsFreshFeed feed
fresh_row feed shape layer hashes begun clear room = record {
  count = begun.count;
  room = subst (HasCutRoom feed.cuts.feed) (sym begun.shape_is) room;
  clear = clear;
  fed = begun.fed;
}

-- there is a hash for each piece
pub hashes_whole : {t : Description} {f : FileEntry} {s : Span} {e : TreeEntry} → HasRow t f s e → (layer shape : ℕ) (hashes : List (List ℕ))
    → IsRowLayer t f layer → IsRowHashes t f e s.from s.to hashes → shape ≡ row_bytes t f s.from s.to → length hashes ≡ first_pad (block_count shape) layer
hashes_whole {t} {f} {s} {e} row layer shape hashes at of size = elim (cases_lt t.piece_length f.length) [
  | inl long ↦
      let fits = row_fits t f s.from s.to (pieces_are_positive t row.sound) row.piece row.inside in
      let legal = row.sound.legal in
      let listed = row_listed t row.number f e s.from s.to row.sound row.there row.is long row.piece row.inside in
      ap length (of.1 long) ∙ range_length e.layer s.from s.to listed
      ∙ whole_layer (row_bytes t f s.from s.to) t.piece_length legal.0 layer (s.to - s.from) legal.1 legal.3 (at.1 long) (sym fits.2)
      ∙ ap (λ k. first_pad (block_count k) layer) (sym size)
  | inr short ↦
      let own : List ℕ = replicate (row_bytes t f s.from s.to) 0 in
      let count = length-replicate {A = ℕ} (row_bytes t f s.from s.to) 0 in
      let zeros : IsRow t f s.from s.to own = record { piece = row.piece; inside = row.inside; count = count } in
      let only = is_only t f s.from s.to own (pieces_are_positive t row.sound) short zeros in
      let all : shape ≡ f.length = size ∙ sym count ∙ only.count in
      let one : length (e.root ∷ []) ≡ 1 = refl in
      ap length (of.0 short) ∙ one ∙ sym (one_at_root f.length only.some) ∙ ap₂ (λ k l. first_pad (block_count k) l) (sym all) (sym (at.0 short))
]

module _ {t : Description} {f : FileEntry} {s : Span} {e : TreeEntry} (row : HasRow t f s e) (feed : RowFeed) (begun : BeginsRowOf t f s e feed)
    (old new : SourceSeen) (bits : List ℕ) where
  is_row : (own : List ℕ) → length own ≡ chosen_shape feed.check → IsRow t f s.from s.to own
  is_row own count = record { piece = row.piece; inside = row.inside; count = count ∙ begun.shape }

  -- what was found is within the row
  pub found_within : (found : RowFound) → JudgesRow feed old new bits (Some found)
      → IfSome found.other (λ p. p < s.to - s.from) × IfSome found.bad_cut (λ p. p < s.to - s.from)
  found_within found (own, count, gave, root, judged, cuts) = (
    other_within t row.number f e s.from s.to (chosen_layer feed.check) (given_hashes feed.check) own bits found.other row.sound row.there row.is
        (is_row own count) begun.row judged,
    cuts_within t row.number f s feed.cuts.feed own found.bad_cut row.sound row.there (is_row own count) begun.begins begun.part cuts,
  )

  -- the row was read whole
  pub reads_row : (found : RowFound) (own_found : Found) → JudgesRow feed old new bits (Some found)
      → (IsTrue own_found.root_is ↔ (found.root ≡ e.root)) → own_found.bad ≡ option_map (λ j. s.from + j) found.other
      → own_found.bad_cut ≡ option_map (λ j. s.from + j) found.bad_cut → ReadsRow t f s.from s.to old new bits own_found
  reads_row found own_found (own, count, gave, root, judged, cuts) root_is bad bad_cut =
      let own_row = is_row own count in
      let layer : ℕ = chosen_layer feed.check in
      let hashes : List (List ℕ) = given_hashes feed.check in
      record {
        own = own;
        gave = gave;
        judged = subst (λ o. AreJudgedFrom t f s.from s.to own o own_found.bad_cut) (sym bad)
            (subst (AreJudgedFrom t f s.from s.to own (option_map (λ j. s.from + j) found.other)) (sym bad_cut)
            (row_judged t row.number f s e layer hashes feed.cuts.feed own bits found.other found.bad_cut row.sound row.there row.is own_row begun.row judged
            begun.begins begun.part cuts));
        bits_of = λ bytes rest at. row_bits t row.number f e s.from s.to layer hashes bytes own rest bits found.other row.sound row.there row.is own_row
            begun.row judged at;
        root = λ some d at.
            let same : e ≡ d = same_Some e d (sym row.is ∙ at) in
            subst (λ (x : TreeEntry). IsTrue own_found.root_is ↔ (root_of own ≡ x.root)) same (
              λ on. sym root ∙ root_is.0 on,
              λ at_root. root_is.1 (root ∙ at_root),
            );
      }

  -- or the source ended within it
  pub ends_row : JudgesRow feed old new bits None → EndsInRow t f s.from s.to old new bits
  ends_row (own, short, gave, ended, marked) = record {
    own = own;
    short = omega (arith, short, begun.shape);
    gave = gave;
    ended = ended;
    bits_of = λ bytes at. row_bits_cut t row.number f e s.from s.to (chosen_layer feed.check) (given_hashes feed.check) bytes own bits row.sound row.there
        row.is row.inside begun.row
        (omega (arith, short, begun.shape)) at marked;
  }

-- ---- the numbers of pieces

pub if_below : (o : Option ℕ) (m x most : ℕ) → x + m ≤ most → IfSome o (λ p. p < m) → IfSome o (λ p. x + p < most)
if_below None m x most fits within = tt
if_below (Some p) m x most fits within = omega (arith, fits, within)

-- the number of a piece of the row, from its place, has 64 bits
pub numbers_fit : {t : Description} {f : FileEntry} {s : Span} {e : TreeEntry} → HasRow t f s e → (o : Option ℕ) → IfSome o (λ p. p < s.to - s.from)
    → IfSome o (λ p. s.from + p < 2 ^ 64)
numbers_fit {t} {f} {s} row o within =
    let low = (row_places t row.number f s.from s.to row.sound row.there row.piece row.inside).0 in
    if_below o (s.to - s.from) s.from _ (omega (arith, low, row.piece)) within

pub below_end : (o : Option ℕ) (from to : ℕ) → IfSome o (λ p. p < to - from) → IsBelow to (option_map (λ j. from + j) o)
below_end None from to within = tt
below_end (Some p) from to within = omega (arith, within)
