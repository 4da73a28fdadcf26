-- The cuts of a file that stands in a buffer.
use Rattle.std.proofs.Common.{◌≡◌, ◌∙◌, ℕ, ◌+◌, ◌-◌, ◌*◌, ◌/◌, ◌%◌, ◌<◌, ◌≤◌, min, List, [], ◌++◌, length, take, drop, replicate, Some}
use Rattle.std.proofs.Common.{map, sym, ap, ap₂, subst, arith, take-take, inl, inr}
use Rattle.std.specs.Prelude.{slice_index_or}
use Rattle.std.proofs.Math.Nat.{mul-le-mul_left}
use Rattle.std.proofs.lemmas.Bool.{cases_lt}
use Rattle.std.specs.List.{range_with_len}
use Rattle.std.proofs.lemmas.Nat.{le-div}
use Rattle.std.proofs.lemmas.List.{drop-drop, drop-take, get_or-drop, get_or-take, length-drop, length-take, take_all}
use Rattle.std.proofs.lemmas.List.FromFn.{fill_by_all}
use Rattle.std.proofs.lemmas.Simd.{map-map}
use Rattle.std.proofs.lemmas.Option.{same_Some, slice_get-get_or}
use Rattle.sha1.specs.Sha1.{sha1}
use Rattle.sha1_lanes.specs.Batches.{filled_at}
use Rattle.pieces.specs.Cuts.{cut, cut_digests, filled_up}
use Rattle.pieces.specs.FileCuts.{IsV1File}
use Rattle.pieces.specs.Pieces.{pieces_of}
use Rattle.file_windows.specs.Windows.{AreCutsHashed, AreFileCutsListed, AreOwnHashed, HasCuts, IsCut, StandsIn, bytes_at}
use Rattle.pieces.proofs.Cutting.{cut_count_none}
use Rattle.pieces.specs.declared.v1_cuts.V1File.{V1File}
use Rattle.file_windows.specs.declared.cuts.window.CutWindow.{CutWindow}

-- a cut begins before the file's end
pub cut_begins : (p n j : ℕ) → 0 < p → j < pieces_of p n → p * j < n
cut_begins p n j some lt =
    let all : p * ((n + (p - 1)) / p) + (n + (p - 1)) % p ≡ n + (p - 1) = omega (arith, some) in
    let next : p * (j + 1) ≤ p * pieces_of p n = mul-le-mul_left p (let s : j + 1 ≤ pieces_of p n = omega (arith, lt) in s) in
    omega (arith, all, next, some)

-- a cut of a file that stands in a buffer stands there too
own_cut_there : (buffer : List ℕ) (start size p j : ℕ) → 0 < p → j < pieces_of p size
    → bytes_at buffer (start + p * j) (min (size - p * j) p) ≡ cut p (bytes_at buffer start size) j
own_cut_there buffer start size p j some lt =
    let n : ℕ = p * j in
    let m : ℕ = size - n in
    let begins : n < size = cut_begins p size j some lt in
    let split : n + m ≡ size = omega (arith, begins) in
    let own : List ℕ = drop (start + n) buffer in
    let rest : drop n (take size (drop start buffer)) ≡ take m own =
    ap (λ k. drop n (take k (drop start buffer))) (sym split) ∙ drop-take n m (drop start buffer) ∙ ap (take m) (drop-drop n start buffer) in
    let short : cut p (bytes_at buffer start size) j ≡ take (min m p) own =
    ap (take p) rest ∙ elim (cases_lt m p) [
      | inr whole ↦ take-take p m own whole ∙ ap (λ k. take k own) (let e : p ≡ min m p = omega (arith, whole) in e)
      | inl less ↦ take_all p (take m own) (omega (arith, length-take m own, less)) ∙ ap (λ k. take k own) (let e : m ≡ min m p = omega (arith, less) in e)
    ] in
    sym short

-- the same, filled up with zeros
cut_there : (buffer : List ℕ) (start size p j : ℕ) → 0 < p → j < pieces_of p size → start + size ≤ length buffer
    → filled_at buffer (start + p * j) (min (size - p * j) p) p ≡ filled_up p (cut p (bytes_at buffer start size) j)
cut_there buffer start size p j some lt inside =
    let own : List ℕ = drop (start + p * j) buffer in
    let count : ℕ = min (size - p * j) p in
    let same : take count own ≡ cut p (bytes_at buffer start size) j = own_cut_there buffer start size p j some lt in
    let long : length (cut p (bytes_at buffer start size) j) ≡ count =
    ap length (sym same) ∙ length-take count own ∙ omega (arith, length-drop (start + p * j) buffer, inside, cut_begins p size j some lt) in
    ap₂ (λ (b : List ℕ) k. b ++ replicate (p - k) 0) same (sym long)

-- the digest of a cut that is filled up with zeros is in the window
filled_digest : (w : CutWindow) (first : ℕ) (buffer : List ℕ) (start size k : ℕ) → HasCuts w first start size → AreCutsHashed w buffer
    → start + size ≤ length buffer → k < pieces_of w.piece_length size
    → slice_index_or w.digests (first + k) [] ≡ sha1 (filled_up w.piece_length (cut w.piece_length (bytes_at buffer start size) k))
filled_digest w first buffer start size k has hashed inside there =
    let place = has.cuts k there in
    hashed (first + k) (omega (arith, has.within, there))
    ∙ ap₂ (λ s z. sha1 (filled_at buffer s z w.piece_length)) place.start_is place.size_is
    ∙ ap sha1 (cut_there buffer start size w.piece_length k w.some there inside)

-- and so is that of its own bytes
own_digest : (w : CutWindow) (first : ℕ) (buffer : List ℕ) (start size k : ℕ) → HasCuts w first start size → AreOwnHashed w buffer
    → k < pieces_of w.piece_length size
    → slice_index_or w.own (first + k) [] ≡ sha1 (cut w.piece_length (bytes_at buffer start size) k)
own_digest w first buffer start size k has hashed there =
    let place = has.cuts k there in
    hashed (first + k) (omega (arith, has.within, there))
    ∙ ap₂ (λ s z. sha1 (bytes_at buffer s z)) place.start_is place.size_is
    ∙ ap sha1 (own_cut_there buffer start size w.piece_length k w.some there)

-- a file has the size that it is given
size_is : (buffer : List ℕ) (start size : ℕ) → start + size ≤ length buffer → length (bytes_at buffer start size) ≡ size
size_is buffer start size inside = length-take size (drop start buffer) ∙ omega (arith, inside, length-drop start buffer)

-- the digests of a file's cuts are those that are listed
pub listed_cuts : (w : CutWindow) (first : ℕ) (listed : List (List ℕ)) (buffer : List ℕ) (start size : ℕ)
    → ((i : ℕ) → i < length listed → slice_index_or w.digests (first + i) [] ≡ slice_index_or listed i [])
    → HasCuts w first start size → AreCutsHashed w buffer → start + size ≤ length buffer → AreFileCutsListed w.piece_length listed (bytes_at buffer start size)
listed_cuts w first listed buffer start size same has hashed inside k lt below =
    let there : k < pieces_of w.piece_length size = subst (λ n. k < pieces_of w.piece_length n) (size_is buffer start size inside) below in
    slice_get-get_or listed k [] lt ∙ ap (λ d. Some d) (sym (same k lt) ∙ filled_digest w first buffer start size k has hashed inside there)

-- a digest that is listed for a cut of a file is in the window
pub listed_there : (w : CutWindow) (first k : ℕ) (listed : List (List ℕ)) (buffer : List ℕ) (start size : ℕ) → HasCuts w first start size
    → AreCutsHashed w buffer → start + size ≤ length buffer → k < length listed → length listed ≤ pieces_of w.piece_length size
    → AreFileCutsListed w.piece_length listed (bytes_at buffer start size) → slice_index_or w.digests (first + k) [] ≡ slice_index_or listed k []
listed_there w first k listed buffer start size has hashed inside lt few are =
    let there : k < pieces_of w.piece_length size = omega (arith, lt, few) in
    let below : k < pieces_of w.piece_length (length (bytes_at buffer start size)) =
    subst (λ n. k < pieces_of w.piece_length n) (sym (size_is buffer start size inside)) there in
    filled_digest w first buffer start size k has hashed inside there ∙ sym (same_Some _ _ (sym (slice_get-get_or listed k [] lt) ∙ are k lt below))

-- an empty file has no digests
pub no_file : (p : ℕ) (f : V1File) (buffer : List ℕ) (start size : ℕ) → 0 < p → size ≡ 0 → f.cuts.items ≡ [] → IsV1File p (bytes_at buffer start size) f
no_file p f buffer start size some none cuts =
    let none_of : bytes_at buffer start size ≡ [] = ap (λ n. take n (drop start buffer)) none in
    record {
      cuts = cuts ∙ sym (ap (cut_digests p) none_of ∙ ap (λ n. map sha1 (map (cut p []) (range_with_len 0 n))) (cut_count_none p some));
      padded = λ more. absurd (omega (arith, ap length none_of, more));
    }

-- digests of own cuts in the window, and that of the last one filled up, are those of a version 1 file
pub file_there : (w : CutWindow) (first count last : ℕ) (f : V1File) (buffer : List ℕ) (start size : ℕ) → 0 < size → count ≡ pieces_of w.piece_length size
    → last ≡ first + count - 1 → f.cuts.items ≡ take count (drop first w.own) → f.padded ≡ slice_index_or w.digests last []
    → HasCuts w first start size → AreOwnHashed w buffer → AreCutsHashed w buffer → length w.own ≡ 64 → start + size ≤ length buffer
    → IsV1File w.piece_length (bytes_at buffer start size) f
file_there w first count last f buffer start size some count_is last_is cuts padded has own hashed whole inside =
    let p : ℕ = w.piece_length in
    let file : List ℕ = bytes_at buffer start size in
    let long : length file ≡ size = size_is buffer start size inside in
    let all : pieces_of p (length file) ≡ count = ap (pieces_of p) long ∙ sym count_is in
    let row : List (List ℕ) = take count (drop first w.own) in
    let positive : 0 < count = omega (arith, count_is, some_cut p size w.some some) in
    let width : length row ≡ count = length-take count (drop first w.own) ∙ omega (arith, length-drop first w.own, count_is, has.within, w.within, whole) in
    let end : last ≡ first + (count - 1) = omega (arith, positive, last_is) in
    record {
      cuts = cuts
          ∙ fill_by_all (λ k. sha1 (cut p file k)) row count [] width (λ k lt.
          get_or-take count (drop first w.own) k [] lt ∙ get_or-drop first w.own k []
          ∙ own_digest w first buffer start size k has own (omega (arith, lt, count_is)))
          ∙ ap (λ n. map (λ k. sha1 (cut p file k)) (range_with_len 0 n)) (sym all)
          ∙ sym (map-map sha1 (cut p file) (range_with_len 0 (pieces_of p (length file))));
      padded = λ _. padded ∙ ap (λ k. slice_index_or w.digests k []) end
          ∙ filled_digest w first buffer start size (count - 1) has hashed inside (omega (arith, positive, count_is))
          ∙ ap (λ n. sha1 (filled_up p (cut p file (n - 1)))) (sym all);
    }
  where
    some_cut : (p n : ℕ) → 0 < p → 0 < n → 0 < pieces_of p n
    some_cut p n positive more = le-div 1 (n + (p - 1)) p positive (omega (arith, positive, more))

-- a cut of a file stands within it
pub cut_inside : (w : CutWindow) (first start size j bytes : ℕ) → j < pieces_of w.piece_length size → start + size ≤ bytes → IsCut w first start size j
    → StandsIn w bytes (first + j)
cut_inside w first start size j bytes lt fits place = record {
  inside = omega (arith, cut_begins w.piece_length size j w.some lt, fits, place.start_is, place.size_is);
  fits = omega (arith, place.size_is);
}
