-- Files that are laid out one after the other: at an address there is one candidate.
use Rattle.std.proofs.Common.{◌≡◌, ℕ, zero, suc, ◌+◌, ◌-◌, ◌*◌, ◌/◌, ◌%◌, ◌^◌, ◌<◌, ◌≤◌, Bool, true, false, List, [], ◌∷◌, length, map, take, get_or, Option}
use Rattle.std.proofs.Common.{Some, None, option_map, refl, sym, ap, subst, ◌∙◌, arith, inl, inr}
use Rattle.std.specs.Prelude.{sum_by, slice_get, IfSome, nat_le, nat_lt, if◌then◌else◌, ◌&&◌, ◌==◌}
use Rattle.std.proofs.lemmas.Bool.Decides.{nat_tests}
use Rattle.std.proofs.lemmas.List.Sums.{sum_by-take-le, sum_by_more}
use Rattle.std.proofs.lemmas.List.{take-take, length-map}
use Rattle.std.proofs.lemmas.Option.{slice_get-map, slice_get_within, get_or_from_slice_get, slice_get-get_or, slice_get_read}
use Rattle.std.proofs.Math.Nat.{mul-le-mul_right}
use Rattle.std.proofs.lemmas.Nat.{le-div}
use Rattle.std.proofs.lemmas.Bool.{cases_lt}
use Rattle.hashtree.specs.Tree.{block_count}
use Rattle.filetree.proofs.Bytes.{false_or_true, true_or_false}
use Rattle.opening.specs.Description.{Description, FileEntry}
use Rattle.opening.specs.Places.{IsBlockPlace, AreLaidOut, begins_in, place_from, place_of}
use Rattle.opening.specs.Seen.{file_entry}
use Rattle.pieces.specs.Pieces.{pieces_of}
use Rattle.pieces.proofs.Cutting.{pieces_cover}
use Rattle.opening.specs.declared.torrent.File.{File}
use Rattle.std.specs.List.Sorted.{IsNonDecreasingBy}
use Rattle.std.specs.List.{AllWithin}

-- the block begins before the file's end
block_inside : (x n : ℕ) → x % 16384 ≡ 0 → x / 16384 < block_count n → x < n
block_inside x n e lt = omega (arith, e, lt)

-- the address lies in the file's pieces
abbrev pub IsInPieces : ℕ → ℕ → FileEntry → Type 0
IsInPieces p a f = (f.first_piece * p ≤ a) × (a < (f.first_piece + pieces_of p f.length) * p)

both_true : (x y z : Bool) → (x && y && z) ≡ true → (x ≡ true) × (y ≡ true) × (z ≡ true)
both_true true true true e = (refl, refl, refl)
both_true true true false e = cc
both_true true false z e = cc
both_true false y z e = cc

pub covers : (p a : ℕ) (f : FileEntry) → 0 < p → begins_in p a f ≡ true → IsInPieces p a f
covers p a f h e =
    let parts = both_true (nat_le (f.first_piece * p) a) (((a - f.first_piece * p) % 16384) == 0)
    (nat_lt ((a - f.first_piece * p) / 16384) (block_count f.length)) e in
    let from : f.first_piece * p ≤ a = grind (arith, nat_tests, parts.0) in
    let at_block : (a - f.first_piece * p) % 16384 ≡ 0 = grind (arith, nat_tests, parts.1) in
    let in_file : (a - f.first_piece * p) / 16384 < block_count f.length = grind (arith, nat_tests, parts.2) in
    let inside = block_inside (a - f.first_piece * p) f.length at_block in_file in
    let cover = pieces_cover p f.length h in (from, omega (arith, from, inside, cover))

-- a file ends where the next one begins, or before it
pub sum_grows : (p j i : ℕ) (fs : List FileEntry) (f : FileEntry) → slice_get fs j ≡ Some f → j < i
    → sum_by (λ g. pieces_of p g.length) (take j fs) + pieces_of p f.length ≤ sum_by (λ g. pieces_of p g.length) (take i fs)
sum_grows p j i fs f e lt =
    let F : FileEntry → ℕ = λ g. pieces_of p g.length in
    let inside = slice_get_within fs j f e in
    let here = get_or_from_slice_get fs j f f e in
    let next : sum_by F (take (j + 1) fs) ≡ sum_by F (take j fs) + F (get_or fs j f) = sum_by_more F fs j f inside in
    let less : sum_by F (take (j + 1) (take i fs)) ≤ sum_by F (take i fs) = sum_by-take-le F (take i fs) (j + 1) in
    let cut : take (j + 1) (take i fs) ≡ take (j + 1) fs = take-take (j + 1) i fs (omega arith) in
    let less_here : sum_by F (take (j + 1) fs) ≤ sum_by F (take i fs) = subst (λ ys. sum_by F ys ≤ sum_by F (take i fs)) cut less in
    let same : F (get_or fs j f) ≡ F f = ap F here in omega (arith, next, less_here, same)

pub place_none : (p a k : ℕ) (fs : List FileEntry) → ((j : ℕ) (f : FileEntry) → slice_get fs j ≡ Some f → begins_in p a f ≡ false) → place_from p a k fs ≡ None
place_none p a k [] h = refl
place_none p a k (f ∷ fs) h = rw (h 0 f refl) (place_none p a (suc k) fs (λ j g e. h (suc j) g e))

pub place_some : (p a k j : ℕ) (fs : List FileEntry) (f : FileEntry) → slice_get fs j ≡ Some f → begins_in p a f ≡ true
    → ((i : ℕ) (g : FileEntry) → i < j → slice_get fs i ≡ Some g → begins_in p a g ≡ false)
    → place_from p a k fs ≡ Some (k + j, (a - f.first_piece * p) / 16384)
place_some p a k j [] f e t h = cc
place_some p a k zero (g ∷ gs) f e t h =
    let same : g ≡ f = cc in
    let zero_more : k + 0 ≡ k = omega arith in
    rw (same, t, zero_more) refl
place_some p a k (suc j) (g ∷ gs) f e t h =
    let more : k + suc j ≡ suc k + j = omega arith in
    let not_here : begins_in p a g ≡ false = h 0 g (omega arith) refl in
    rw (not_here, more) (place_some p a (suc k) j gs f e t (λ i g' lt e'. h (suc i) g' (omega arith) e'))

quotient_from : (p a n : ℕ) → 0 < p → n * p ≤ a → n ≤ a / p
quotient_from p a n h le = le-div n a p h le

-- the only file that an address can lie in: the last that begins at its piece or before it
pub candidate : (p a c j : ℕ) (fs : List FileEntry) (f : FileEntry) → 0 < p → AreLaidOut p fs → c ≤ length fs
    → ((k : ℕ) (g : FileEntry) → k < c → slice_get fs k ≡ Some g → g.first_piece ≤ a / p)
    → ((k : ℕ) (g : FileEntry) → c ≤ k → slice_get fs k ≡ Some g → a / p < g.first_piece)
    → slice_get fs j ≡ Some f → begins_in p a f ≡ true → suc j ≡ c
candidate p a c j fs f h laid within low high e begins =
    let cover = covers p a f h begins in
    let all : p * (a / p) + a % p ≡ a = omega (arith, h) in
    let less : a % p < p = omega (arith, h) in
    let from : f.first_piece ≤ a / p = quotient_from p a f.first_piece h cover.0 in
    let inside = slice_get_within fs j f e in
    let below : j < c = elim (cases_lt j c) as (λ _. j < c) [
      | inl lt ↦ lt
      | inr le ↦ let above : a / p < f.first_piece = high j f le e in
          absurd (omega (arith, above, from))
    ] in
    elim (cases_lt (suc j) c) as (λ _. suc j ≡ c) [
      | inl lt ↦
          let last = get_or fs (c - 1) f in
          let there : slice_get fs (c - 1) ≡ Some last = slice_get-get_or fs (c - 1) f (omega (arith, lt, within)) in
          let last_low : last.first_piece ≤ a / p = low (c - 1) last (omega (arith, lt)) there in
          let grows = sum_grows p j (c - 1) fs f e (omega (arith, lt)) in
          let first = laid.first_pieces j f e in
          let last_first = laid.first_pieces (c - 1) last there in
          let ends : f.first_piece + pieces_of p f.length ≤ a / p = omega (arith, grows, first, last_first, last_low) in
          let product : (f.first_piece + pieces_of p f.length) * p ≤ a / p * p = mul-le-mul_right p ends in
          absurd (omega (arith, product, cover.1, all))
      | inr le ↦ omega (arith, below, le)
    ]

-- a block that begins at the address does so in the sense of the test
pub place_begins : (p a : ℕ) (f : FileEntry) (b : ℕ) → b < block_count f.length → a ≡ f.first_piece * p + 16384 * b
    → (begins_in p a f ≡ true) × ((a - f.first_piece * p) / 16384 ≡ b)
place_begins p a f b lt e =
    let off : a - f.first_piece * p ≡ 16384 * b = omega (arith, e) in
    let is_block : (a - f.first_piece * p) / 16384 ≡ b = omega (arith, off) in
    let exact : (a - f.first_piece * p) % 16384 ≡ 0 = omega (arith, off) in
    let low : f.first_piece * p ≤ a = omega (arith, e) in
    let in_file : (a - f.first_piece * p) / 16384 < block_count f.length = omega (arith, is_block, lt) in
    (grind (arith, nat_tests), is_block)

-- and the other way round
pub begins_place : (p a : ℕ) (f : FileEntry) → begins_in p a f ≡ true → ((a - f.first_piece * p) / 16384 < block_count f.length)
    × (a ≡ f.first_piece * p + 16384 * ((a - f.first_piece * p) / 16384))
begins_place p a f e =
    let parts = both_true (nat_le (f.first_piece * p) a) (((a - f.first_piece * p) % 16384) == 0)
    (nat_lt ((a - f.first_piece * p) / 16384) (block_count f.length)) e in
    let from : f.first_piece * p ≤ a = grind (arith, nat_tests, parts.0) in
    let at_block : (a - f.first_piece * p) % 16384 ≡ 0 = grind (arith, nat_tests, parts.1) in
    let in_file : (a - f.first_piece * p) / 16384 < block_count f.length = grind (arith, nat_tests, parts.2) in
    (in_file, omega (arith, from, at_block))

-- no two files cover an address
pub one_covers : (p a i j : ℕ) (fs : List FileEntry) (f g : FileEntry) → AreLaidOut p fs → slice_get fs i ≡ Some f → slice_get fs j ≡ Some g → i < j
    → IsInPieces p a f → IsInPieces p a g → ⊥
one_covers p a i j fs f g laid e e' lt cover cover' =
    let grows = sum_grows p i j fs f e lt in
    let ends : f.first_piece + pieces_of p f.length ≤ g.first_piece = omega (arith, grows, laid.first_pieces i f e, laid.first_pieces j g e') in
    let product : (f.first_piece + pieces_of p f.length) * p ≤ g.first_piece * p = mul-le-mul_right p ends in
    absurd (omega (arith, product, cover.1, cover'.0))

-- ---- what the search finds

pub place_at_none : (p a : ℕ) (fs : List FileEntry) → 0 < p → AreLaidOut p fs → ((k : ℕ) (g : FileEntry) → 0 ≤ k → slice_get fs k ≡ Some g
    → a / p < g.first_piece) → place_from p a 0 fs ≡ None
place_at_none p a fs h laid high =
    place_none p a 0 fs (λ j f e. false_or_true _ (λ begins. let none : suc j ≡ 0 = candidate p a 0 j fs f h laid (omega arith)
    (λ k g lt e'. absurd (omega arith)) high e begins in absurd (omega arith)))

pub place_at_some : (p a n : ℕ) (fs : List FileEntry) (f : FileEntry) → 0 < p → AreLaidOut p fs
    → ((k : ℕ) (g : FileEntry) → k < suc n → slice_get fs k ≡ Some g → g.first_piece ≤ a / p)
    → ((k : ℕ) (g : FileEntry) → suc n ≤ k → slice_get fs k ≡ Some g → a / p < g.first_piece)
    → slice_get fs n ≡ Some f → place_from p a 0 fs ≡ (if begins_in p a f then Some (n, (a - f.first_piece * p) / 16384) else None)
place_at_some p a n fs f h laid low high e =
    let inside = slice_get_within fs n f e in
    let only : (j : ℕ) (g : FileEntry) → slice_get fs j ≡ Some g → begins_in p a g ≡ true
    → suc j ≡ suc n = λ j g e' begins. candidate p a (suc n) j fs g h laid (omega (arith, inside)) low high e' begins in
    elim (true_or_false (begins_in p a f)) [
      | inl begun ↦ rw begun (let number : 0 + n ≡ n = omega arith in subst (λ x. place_from p a 0 fs ≡ Some (x, (a - f.first_piece * p) / 16384)) number
          (place_some p a 0 n fs f e begun (λ i g lt e'. false_or_true _ (λ begins. let same = only i g e' begins in absurd (omega (arith, same))))))
      | inr not ↦ rw not (place_none p a 0 fs (λ j g e'. false_or_true _ (λ begins.
          let same : j ≡ n = let s = only j g e' begins in omega (arith, s) in
          let here : slice_get fs n ≡ Some g = rw (← same) e' in
          let one : g ≡ f = cc in
          let begun : begins_in p a f ≡ true = rw (← one) begins in cc)))
    ]

-- ---- the function and the relation

abbrev pub numbered : ℕ → ℕ → Option (ℕ × ℕ)
numbered n x = Some (n, x)

some_pair : (x y : ℕ × ℕ) → Some x ≡ Some y → x ≡ y
some_pair x y e = cc

pub found_in : (p a k : ℕ) (fs : List FileEntry) (j b : ℕ) → place_from p a k fs ≡ Some (j, b) → (g : FileEntry) × (k ≤ j) × (slice_get fs (j - k) ≡ Some g)
    × (begins_in p a g ≡ true) × (b ≡ (a - g.first_piece * p) / 16384)
found_in p a k [] j b e = cc
found_in p a k (f ∷ fs) j b e =
    elim (true_or_false (begins_in p a f)) [
      | inl begun ↦
          let is : numbered k ((a - f.first_piece * p) / 16384) ≡ numbered j b = rw begun at e in
          let pairs = some_pair _ _ is in
          let same : k ≡ j = ap (λ (q : ℕ × ℕ). q.0) pairs in
          let block : (a - f.first_piece * p) / 16384 ≡ b = ap (λ (q : ℕ × ℕ). q.1) pairs in
          let zero_off : j - k ≡ 0 = omega (arith, same) in (f, omega (arith, same), rw zero_off refl, begun, sym block)
      | inr not ↦
          let is : place_from p a (suc k) fs ≡ numbered j b = rw not at e in
          let rest = found_in p a (suc k) fs j b is in
          let off : j - k ≡ suc (j - suc k) = omega (arith, rest.1) in (rest.0, omega (arith, rest.1), rw off rest.2, rest.3, rest.4)
    ]

pub place_is_found : (t : Description) (i b f n : ℕ) → place_of t i b ≡ Some (f, n) → IsBlockPlace t i b f n
place_is_found t i b f n e =
    let found = found_in t.piece_length (i * t.piece_length + b) 0 t.files f n e in
    let begins = begins_place t.piece_length (i * t.piece_length + b) found.0 found.3 in
    let all : f - 0 ≡ f = omega arith in
    record {
      entry = found.0;
      there = subst (λ x. slice_get t.files x ≡ Some found.0) all found.2;
      in_file = omega (arith, begins.0, found.4);
      address = omega (arith, begins.1, found.4);
    }

pub place_is_only : (t : Description) (i b f n : ℕ) → 0 < t.piece_length → AreLaidOut t.piece_length t.files → IsBlockPlace t i b f n
    → place_of t i b ≡ Some (f, n)
place_is_only t i b f n h laid place =
    let p = t.piece_length in
    let a = i * t.piece_length + b in
    let here = place_begins p a place.entry n place.in_file place.address in
    let some : place_from p a 0 t.files ≡ Some (0 + f, (a - place.entry.first_piece * p) / 16384)
    = place_some p a 0 f t.files place.entry place.there here.0
    (λ j g lt e. false_or_true _ (λ begins. one_covers p a j f t.files g place.entry laid e place.there lt (covers p a g h begins)
    (covers p a place.entry h here.0))) in
    let number : 0 + f ≡ f = omega arith in
    some ∙ rw (number, here.1) refl

-- ---- files as they lie in memory

seen_at : (xs : List File) (i : ℕ) (d : File) → i < length xs → slice_get (map file_entry xs) i ≡ Some (file_entry (get_or xs i d))
seen_at xs i d lt = slice_get-map file_entry xs i ∙ ap (option_map file_entry) (slice_get-get_or xs i d lt)

seen_back : (xs : List File) (i : ℕ) (d : File) (g : FileEntry) → slice_get (map file_entry xs) i ≡ Some g → (i < length xs) × (g ≡ file_entry (get_or xs i d))
seen_back xs i d g e =
    let inside = slice_get_within (map file_entry xs) i g e in
    let lt : i < length xs = omega (arith, inside, length-map xs file_entry) in
    let here = seen_at xs i d lt in (lt, cc)

pub first_pieces_rise : (p : ℕ) (xs : List File) → AreLaidOut p (map file_entry xs) → IsNonDecreasingBy (λ (f : File). f.first_piece) xs
first_pieces_rise p xs laid i j d le lt =
    let F : FileEntry → ℕ = λ g. pieces_of p g.length in
    let fs = map file_entry xs in
    let one = laid.first_pieces i (file_entry (get_or xs i d)) (seen_at xs i d (omega arith)) in
    let two = laid.first_pieces j (file_entry (get_or xs j d)) (seen_at xs j d lt) in
    let less : sum_by F (take i (take j fs)) ≤ sum_by F (take j fs) = sum_by-take-le F (take j fs) i in
    let cut : take i (take j fs) ≡ take i fs = take-take i j fs le in
    let less_here : sum_by F (take i fs) ≤ sum_by F (take j fs) = subst (λ ys. sum_by F ys ≤ sum_by F (take j fs)) cut less in
    omega (arith, one, two, less_here)

pub search_none : (p a : ℕ) (xs : List File) → 0 < p → AreLaidOut p (map file_entry xs) → AllWithin (λ (f : File). a / p < f.first_piece) xs 0 (length xs)
    → place_from p a 0 (map file_entry xs) ≡ None
search_none p a [] h laid high = refl
search_none p a (x ∷ xs) h laid high =
    place_at_none p a (map file_entry (x ∷ xs)) h laid
    (λ k g from e. let back = seen_back (x ∷ xs) k x g e in let at : a / p < (get_or (x ∷ xs) k x).first_piece = high k x from back.0 in let first =
    ap (λ (f : FileEntry). f.first_piece) back.1 in omega (arith, at, first))

pub search_some : (p a n : ℕ) (xs : List File) (x : File) → 0 < p → AreLaidOut p (map file_entry xs) → n < length xs → x ≡ get_or xs n x
    → AllWithin (λ (f : File). f.first_piece ≤ a / p) xs 0 (suc n) → AllWithin (λ (f : File). a / p < f.first_piece) xs (suc n) (length xs)
    → place_from p a 0 (map file_entry xs) ≡ (if begins_in p a (file_entry x) then Some (n, (a - x.first_piece * p) / 16384) else None)
search_some p a n xs x h laid lt is low high =
    place_at_some p a n (map file_entry xs) (file_entry x) h laid
    (λ k g less e. let back = seen_back xs k x g e in let at : (get_or xs k x).first_piece ≤ a / p = low k x (omega arith) less in let first =
    ap (λ (f : FileEntry). f.first_piece) back.1 in omega (arith, at, first))
    (λ k g from e. let back = seen_back xs k x g e in let at : a / p < (get_or xs k x).first_piece = high k x from back.0 in let first =
    ap (λ (f : FileEntry). f.first_piece) back.1 in omega (arith, at, first))
    (seen_at xs n x lt ∙ ap (λ f. Some (file_entry f)) (sym is))

-- what the file at hand says
pub some_place : (b : Bool) (x y n : ℕ) (r : Option (ℕ × ℕ)) → Some y ≡ (if b then Some x else None) → r ≡ (if b then numbered n x else None) → numbered n y ≡ r
some_place true x y n r e is = cc
some_place false x y n r e is = cc

pub no_place : (b : Bool) (x n : ℕ) (r : Option (ℕ × ℕ)) → None ≡ (if b then Some x else None) → r ≡ (if b then numbered n x else None) → None ≡ r
no_place true x n r e is = cc
no_place false x n r e is = sym is

-- an address of a file lies below 2 ^ 62
pub start_fits : (p : ℕ) (xs : List File) (n : ℕ) (x : File) → p ≤ 2 ^ 30 → AreLaidOut p (map file_entry xs) → n < length xs → x ≡ get_or xs n x
    → x.first_piece * p < 2 ^ 64
start_fits p xs n x le laid lt is =
    let F : FileEntry → ℕ = λ g. pieces_of p g.length in
    let first = laid.first_pieces n (file_entry x) (seen_at xs n x lt ∙ ap (λ f. Some (file_entry f)) (sym is)) in
    let less : sum_by F (take n (map file_entry xs)) ≤ sum_by F (map file_entry xs) = sum_by-take-le F (map file_entry xs) n in
    let small : x.first_piece ≤ 2 ^ 32 = omega (arith, first, less, laid.pieces) in
    let product : x.first_piece * p ≤ 2 ^ 32 * p = mul-le-mul_right p small in
    omega (arith, product, le)

pub place_found : (t : Description) (i b : ℕ) (r : Option (ℕ × ℕ)) → r ≡ place_of t i b → IfSome r (λ x. IsBlockPlace t i b x.0 x.1)
place_found t i b None e = tt
place_found t i b (Some x) e = place_is_found t i b x.0 x.1 (sym e)

-- the file at this place of the torrent's list
pub file_there : (t : Description) (files : List File) (i : ℕ) (file : File) → map file_entry files ≡ t.files → i < length files → file ≡ get_or files i file
    → slice_get t.files i ≡ Some (file_entry file)
file_there t files i file is lt at =
    ap (λ l. slice_get l i) (sym is) ∙ slice_get-map file_entry files i ∙ ap (option_map file_entry) (slice_get_read files (length files) i file refl lt at)

-- all files of the list were passed
pub all_passed : (t : Description) (n : ℕ) (files : List File) → map file_entry files ≡ t.files → length files ≤ n → n ≤ length files → n ≡ length t.files
all_passed t n files is le ge = omega (arith, length-map files file_entry, ap length is)
