-- Which files may have a place in a part: those between the last that begins before the part and the first that begins behind it.
use Rattle.std.proofs.Common.{◌≡◌, ℕ, ◌-◌, ◌<◌, ◌≤◌, max, Bool, true, false, ◌&&◌, nat_le, nat_lt, List, length}
use Rattle.std.proofs.Common.{map, slice_get, get_or, option_map, Some}
use Rattle.std.proofs.Common.{refl, sym, ap, ◌∙◌, subst, arith}
use Rattle.std.specs.List.Sorted.{IsNonDecreasingBy, IsPartitionPoint}
use Rattle.std.proofs.lemmas.Bool.Decides.{nat_tests}
use Rattle.std.proofs.lemmas.List.{length-map}
use Rattle.std.proofs.lemmas.Option.{get_or_from_slice_get, slice_get-map, slice_get_within, same_Some}
use Rattle.chains.proofs.Cases.{item_at}
use Rattle.opening.specs.Description.{Description, FileEntry}
use Rattle.opening.specs.Seen.{file_entry}
use Rattle.opening.specs.Sound.{IsSound}
use Rattle.opening.specs.declared.torrent.File.{File}
use Rattle.opening.specs.Places.{AreLaidOut}
use Rattle.opening.proofs.Placing.{file_there, first_pieces_rise, sum_grows}
use Rattle.parts.specs.PartLines.{has_place}
use Rattle.parts.specs.Parts.{last_place}
use Rattle.parts.specs.declared.places.Places.{Places}
use Rattle.part_reports.specs.Lines.{AreOff}

ends_before : (t : Description) (r : Places) (f : FileEntry) → last_place t f < r.from → has_place t r f ≡ false
ends_before t r f lt =
    let test : nat_le (max r.from f.first_piece) (last_place t f) ≡ false = no_le r.from f.first_piece (last_place t f) lt in
    ap (λ b. b && nat_lt (max r.from f.first_piece) r.to) test
  where
    no_le : (a b c : ℕ) → c < a → nat_le (max a b) c ≡ false
    no_le a b c lt = grind (arith, nat_tests, lt)

begins_behind : (t : Description) (r : Places) (f : FileEntry) → r.to ≤ f.first_piece → has_place t r f ≡ false
begins_behind t r f le =
    let test : nat_lt (max r.from f.first_piece) r.to ≡ false = no_lt r.from f.first_piece r.to le in
    ap (λ b. nat_le (max r.from f.first_piece) (last_place t f) && b) test ∙ and_false (nat_le (max r.from f.first_piece) (last_place t f))
  where
    no_lt : (a b c : ℕ) → c ≤ b → nat_lt (max a b) c ≡ false
    no_lt a b c le = grind (arith, nat_tests, le)

    and_false : (b : Bool) → (b && false) ≡ false
    and_false true = refl
    and_false false = refl

-- a file as it lies in memory
in_memory : (t : Description) (xs : List File) (n : ℕ) (x : File) → map file_entry xs ≡ t.files → slice_get xs n ≡ Some x
    → slice_get t.files n ≡ Some (file_entry x)
in_memory t xs n x of at =
    subst (λ fs. slice_get fs n ≡ Some (file_entry x)) of (slice_get-map file_entry xs n ∙ ap (option_map file_entry) at)

pub seen_length : (t : Description) (xs : List File) → map file_entry xs ≡ t.files → length t.files ≡ length xs
seen_length t xs of = ap length (sym of) ∙ length-map xs file_entry

-- a file before some end, as it lies in memory
pub file_in : (t : Description) (xs : List File) (i end : ℕ) (file : File) → map file_entry xs ≡ t.files → i < end → end ≤ length t.files
    → file ≡ get_or xs i file → slice_get t.files i ≡ Some (file_entry file)
file_in t xs i end file of lt le at = file_there t xs i file of (omega (arith, lt, le, seen_length t xs of)) at

-- first pieces rise
pub risen : (t : Description) (xs : List File) → IsSound t → map file_entry xs ≡ t.files → IsNonDecreasingBy (λ (f : File). f.first_piece) xs
risen t xs sound of = first_pieces_rise t.piece_length xs (subst (AreLaidOut t.piece_length) (sym of) sound.laid_out)

pub off_before : (t : Description) (r : Places) (xs : List File) (a : ℕ) → IsSound t → map file_entry xs ≡ t.files
    → IsPartitionPoint (λ (f : File). f.first_piece < r.from) (λ (f : File). r.from ≤ f.first_piece) xs a → a ≤ length xs → AreOff t r (λ n. n < a - 1)
off_before t r xs a sound of point within n f lt there =
    let k : ℕ = a - 1 in
    let x = item_at xs k (omega (arith, lt, within)) in
    let begun : (get_or xs k x.0).first_piece < r.from = point.0 k x.0 (omega arith) (omega (arith, lt)) in
    let is = ap (λ (y : File). y.first_piece) (get_or_from_slice_get xs k x.0 x.0 x.1) in
    let grows = sum_grows t.piece_length n k t.files f there lt in
    let one = sound.laid_out.first_pieces n f there in
    let other = sound.laid_out.first_pieces k (file_entry x.0) (in_memory t xs k x.0 of x.1) in
    ends_before t r f (omega (arith, begun, is, grows, one, other))

pub off_behind : (t : Description) (r : Places) (xs : List File) (b : ℕ) → map file_entry xs ≡ t.files
    → IsPartitionPoint (λ (f : File). f.first_piece < r.to) (λ (f : File). r.to ≤ f.first_piece) xs b → AreOff t r (λ n. b ≤ n)
off_behind t r xs b of point n f le there =
    let inside : n < length xs = omega (arith, slice_get_within t.files n f there, seen_length t xs of) in
    let x = item_at xs n inside in
    let begun : r.to ≤ (get_or xs n x.0).first_piece = point.1 n x.0 le inside in
    let is = ap (λ (y : File). y.first_piece) (get_or_from_slice_get xs n x.0 x.0 x.1) in
    let same : f ≡ file_entry x.0 = same_Some f (file_entry x.0) (sym there ∙ in_memory t xs n x.0 of x.1) in
    begins_behind t r f (let first = ap (λ (g : FileEntry). g.first_piece) same in omega (arith, begun, is, first))
