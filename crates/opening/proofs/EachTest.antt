-- Each test of a torrent file holds or does not, so each value describes a torrent or is refused.
use Rattle.std.proofs.Common.{◌≡◌, ◌≢◌, ◌⊎◌, inl, inr, ℕ, zero, suc, ◌*◌, ◌<◌, ◌≤◌, ◌^◌, Bool, true, false, List, [], ◌∷◌, ◌++◌, length, map, take, Option}
use Rattle.std.proofs.Common.{Some, None, pos, negsuc, refl, ap, sym, ◌∙◌, subst, arith, slice_get, sum_by}
use Rattle.std.specs.List.{Contains}
use Rattle.std.specs.Str.{IsUtf8, is_utf8}
use Rattle.std.proofs.lemmas.Bool.{cases_eq}
use Rattle.std.proofs.lemmas.Bool.Decides.{Decides-eqb}
use Rattle.std.proofs.lemmas.Map.Made.{is_member-Decides}
use Rattle.std.proofs.lemmas.Option.{none-some, same_Some, slice_get_within}
use Rattle.std.proofs.lemmas.Slice.Eq.{bytes_eq-Decides}
use Rattle.std.proofs.lemmas.Str.{IsUtf8-from_is_utf8, is_utf8-from_IsUtf8}
use Rattle.benc.specs.Value.{Bencode, int, text, list, dict, Pairs, no_pairs, pair}
use Rattle.filetree.specs.Dictionary.{as_dict, as_int}
use Rattle.filetree.specs.FileTree.{HasBadPath, HasBadPathIn, IsBadComponent, Walk, is_nil}
use Rattle.filetree.specs.declared.files.ListedFile.{ListedFile}
use Rattle.filetree.specs.Tests.{First, NoneHolds, TestRow}
use Rattle.opening.specs.Refusals.{IsName, IsOther, count_rows, file_tree_in, files_of, hybrid_rows, info_in, kind_rows, layer_rows, layers_in, layers_rows}
use Rattle.opening.specs.Refusals.{name_in, piece_length_in, piece_length_rows, present_rows, table, top_rows, version_rows, walks_of}
use Rattle.pieces.specs.Pieces.{IsPieceLength}
use Rattle.filetree.specs.TreeTests.{file_rows, shape_rows}
use Rattle.opening.specs.Stream.{DiffersFromFiles, IsMisplaced, IsTooLong, Named, Part, cuts_in, files_in, is_hybrid, length_in, named, parts_in, stream_length}
use Rattle.opening.specs.Stream.{the_parts}
use Rattle.opening.specs.Trees.{IsIn, IsReused, pieces_in, roots_in}
use Rattle.opening.specs.declared.roots.Root.{Root}
use Rattle.pieces.specs.Pieces.{pieces_of}
use Rattle.filetree.specs.declared.refusal.Refusal.{Refusal}
use Rattle.opening.proofs.Deciding.{Decided, SomeBelow, below_decided, both_decided, by_test, either, is_at_most, is_below, is_bool, empty_decided, is_none}
use Rattle.opening.proofs.Deciding.{moved, neither, same_list}
use Rattle.filetree.proofs.Tables.{first_behind, first_front, none_both}

-- a test of the table holds, or none does
pub record Tested (rows : List TestRow) : Type 0 where
  pub which : ((r : Refusal) × First rows r) ⊎ NoneHolds rows

nothing : Tested []
nothing = record { which = inr tt }

row_which : (t : TestRow) (ts : List TestRow) → Decided t.holds → ((r : Refusal) × First ts r) ⊎ NoneHolds ts → ((r : Refusal) × First (t ∷ ts) r)
    ⊎ NoneHolds (t ∷ ts)
row_which t ts (inl holds) rest = inl (t.answer, inl (holds, refl))
row_which t ts (inr never) (inl later) = inl (later.0, inr (never, later.1))
row_which t ts (inr never) (inr none) = inr (never, none)

row : (t : TestRow) (ts : List TestRow) → Decided t.holds → Tested ts → Tested (t ∷ ts)
row t ts decided rest = record { which = row_which t ts decided rest.which }

both_which : (xs ys : List TestRow) → ((r : Refusal) × First xs r) ⊎ NoneHolds xs → ((r : Refusal) × First ys r) ⊎ NoneHolds ys
    → ((r : Refusal) × First (xs ++ ys) r) ⊎ NoneHolds (xs ++ ys)
both_which xs ys (inl first) rest = inl (first.0, first_front xs ys first.0 first.1)
both_which xs ys (inr none) (inl later) = inl (later.0, first_behind xs ys later.0 none later.1)
both_which xs ys (inr none) (inr rest) = inr (none_both xs ys none rest)

behind : (xs ys : List TestRow) → Tested xs → Tested ys → Tested (xs ++ ys)
behind xs ys one other = record { which = both_which xs ys one.which other.which }

bytes : (xs ys : List ℕ) → Decided (xs ≡ ys)
bytes xs ys = by_test _ (bytes_eq-Decides xs ys)

-- ---- keys

other_kind : {A : Type 0} (kind : Bencode → Option A) (o : Option Bencode) → Decided (IsOther kind o)
other_kind kind None = inr (λ never. never)
other_kind kind (Some w) = is_none (kind w)

utf8_tested : (s : List ℕ) (b : Bool) → is_utf8 s ≡ b → Decided (IsUtf8 s)
utf8_tested s true is = inl (IsUtf8-from_is_utf8 s is)
utf8_tested s false is = inr (λ u. let never : true ≡ false = sym (is_utf8-from_IsUtf8 s u) ∙ is in cc)

pub utf8 : (s : List ℕ) → Decided (IsUtf8 s)
utf8 s = utf8_tested s (is_utf8 s) refl

pub named_text : (o : Option Bencode) → Decided (IsName o)
named_text None = inr (λ never. never)
named_text (Some (int z)) = inr (λ never. never)
named_text (Some (text s)) = utf8 s
named_text (Some (list vs)) = inr (λ never. never)
named_text (Some (dict ps)) = inr (λ never. never)

pub two : (o : Option Bencode) → Decided (o ≡ Some (int (pos 2)))
two None = inr (λ is. cc)
two (Some (int (pos n))) = elim (cases_eq n 2) [
  | inl is ↦ inl (ap (λ m. Some (int (pos m))) is)
  | inr never ↦ inr (λ is. never (let same : n ≡ 2 = cc in same))
]
two (Some (int (negsuc n))) = inr (λ is. cc)
two (Some (text s)) = inr (λ is. cc)
two (Some (list vs)) = inr (λ is. cc)
two (Some (dict ps)) = inr (λ is. cc)

abbrev IsPower : ℕ → ℕ → Type 0
IsPower n k = (14 ≤ k) × (n ≡ 2 ^ k)

pub power : (n : ℕ) → Decided (IsPieceLength n)
power n = moved (SomeBelow (IsPower n) 31) (IsPieceLength n)
    (λ found. (found.0, found.2.0, omega (arith, found.1), found.2.1))
    (λ found. (found.0, omega (arith, found.2), (found.1, found.3)))
    (below_decided (IsPower n) (λ k. both_decided (is_at_most 14 k) (cases_eq n (2 ^ k))) 31)

top_tested : (v : Bencode) → Tested (top_rows v)
top_tested v = row _ _ (is_none (as_dict v)) (row _ _ (is_none _) (row _ _ (other_kind as_dict _) nothing))

version_tested : (info : Bencode) → Tested (version_rows info)
version_tested info = row _ _ (is_none _) (row _ _ (other_kind as_int _) (row _ _ (neither (two _)) nothing))

present_tested : (info : Bencode) → Tested (present_rows info)
present_tested info = row _ _ (is_none _) (row _ _ (is_none _) (row _ _ (is_none _) nothing))

kind_tested : (info : Bencode) → Tested (kind_rows info)
kind_tested info = row _ _ (other_kind as_dict _) (row _ _ (neither (named_text _)) (row _ _ (other_kind as_int _) nothing))

layers_tested : (v : Bencode) → Tested (layers_rows v)
layers_tested v = row _ _ (other_kind as_dict _) nothing

length_tested : (n : ℕ) → Tested (piece_length_rows n)
length_tested n = row _ _ (neither (power n)) nothing

-- ---- the file tree and its files

holds_byte : (k : List ℕ) (c : ℕ) → Decided (Contains k c)
holds_byte k c = by_test _ (is_member-Decides Decides-eqb k c)

component : (k : List ℕ) → Decided (IsBadComponent k)
component k = either (bytes k _) (either (bytes k _) (either (holds_byte k 47) (either (holds_byte k 0) (neither (utf8 k)))))

mutual
  bad_path : (ps : Pairs) → Decided (HasBadPath ps)
  bad_path no_pairs = inr (λ never. never)
  bad_path (pair k v ps) = either (both_decided (is_bool (is_nil k) false) (either (component k) (bad_path_in v))) (bad_path ps)

  bad_path_in : (v : Bencode) → Decided (HasBadPathIn v)
  bad_path_in (int z) = inr (λ never. never)
  bad_path_in (text s) = inr (λ never. never)
  bad_path_in (list vs) = inr (λ never. never)
  bad_path_in (dict ps) = bad_path ps

shape_tested : (tree : Pairs) → Tested (shape_rows tree)
shape_tested tree = row _ _ (is_bool _ false) (row _ _ (bad_path tree) nothing)

file_tested : (ws : List Walk) → Tested (file_rows ws)
file_tested ws = row _ _ (is_bool _ true) (row _ _ (is_bool _ true) (row _ _ (is_bool _ true) nothing))

-- ---- the files together

abbrev SomeFile : (ListedFile → Type 0) → List ListedFile → Type 0
SomeFile P fs = (f : ListedFile) × IsIn fs f × P f

later : (P : ListedFile → Type 0) (f : ListedFile) (fs : List ListedFile) → (P f → ⊥) → (g : ListedFile) (k : ℕ) → slice_get (f ∷ fs) k ≡ Some g → P g
    → SomeFile P fs
later P f fs never g zero at holds = absurd (never (subst P (sym (same_Some f g at)) holds))
later P f fs never g (suc k) at holds = (g, (k, at), holds)

some_file : (P : ListedFile → Type 0) → ((f : ListedFile) → Decided (P f)) → (fs : List ListedFile) → Decided (SomeFile P fs)
some_file P decided [] = inr (λ found. none-some found.0 found.1.1)
some_file P decided (f ∷ fs) = elim (decided f) [
  | inl here ↦ inl (f, (0, refl), here)
  | inr never ↦ moved (SomeFile P fs) (SomeFile P (f ∷ fs))
      (λ found. (found.0, (suc found.1.0, found.1.1), found.2))
      (λ found. later P f fs never found.0 found.1.0 found.1.1 found.2)
      (some_file P decided fs)
]

-- two files have one root
abbrev OneRoot : Option (List ℕ) → Option (List ℕ) → Type 0
OneRoot a b = (root : List ℕ) × (a ≡ Some root) × (b ≡ Some root)

one_root : (a b : Option (List ℕ)) → Decided (OneRoot a b)
one_root None b = inr (λ found. none-some found.0 found.1)
one_root (Some s) None = inr (λ found. none-some found.0 found.2)
one_root (Some s) (Some u) = elim (bytes u s) [
  | inl same ↦ inl (s, refl, ap Some same)
  | inr never ↦ inr (λ found. never (same_Some u found.0 found.2 ∙ sym (same_Some s found.0 found.1)))
]

abbrev Clash : ListedFile → ListedFile → Type 0
Clash f g = OneRoot f.root g.root × (f.length ≢ g.length)

clash : (f g : ListedFile) → Decided (Clash f g)
clash f g = both_decided (one_root f.root g.root) (neither (cases_eq f.length g.length))

reused : (fs : List ListedFile) → Decided (IsReused fs)
reused fs = moved
    (SomeFile (λ f. SomeFile (Clash f) fs) fs) (IsReused fs)
    (λ found. record {
      one = found.0;
      other = found.2.0;
      root = found.2.2.0.0;
      one_there = found.1;
      other_there = found.2.1;
      one_root = found.2.2.0.1;
      other_root = found.2.2.0.2;
      differ = found.2.2.1;
    })
    (λ h. (h.one, h.one_there, (h.other, h.other_there, ((h.root, h.one_root, h.other_root), h.differ))))
    (some_file (λ f. SomeFile (Clash f) fs) (λ f. some_file (Clash f) (clash f) fs) fs)

count_tested : (p : ℕ) (fs : List ListedFile) → Tested (count_rows p fs)
count_tested p fs = row _ _ (reused fs) (row _ _ (empty_decided fs) (row _ _ (is_at_most (2 ^ 32) (pieces_in p fs)) nothing))

layer_tested : (p : ℕ) (layers : Pairs) (ts : List Root) → Tested (layer_rows p layers ts)
layer_tested p layers ts = row _ _ (is_bool _ true) (row _ _ (is_bool _ true) (row _ _ (is_bool _ true) nothing))

-- ---- the version 1 part

pub same_named : (f g : Named) → Decided (f ≡ g)
same_named f g = moved ((f.path ≡ g.path) × (f.length ≡ g.length)) (f ≡ g)
    (λ same. ap (λ (p : List (List ℕ)). make p f.length) same.0 ∙ ap (λ (n : ℕ). make g.path n) same.1)
    (λ same. (ap (λ (h : Named). h.path) same, ap (λ (h : Named). h.length) same))
    (both_decided (same_list bytes f.path g.path) (cases_eq f.length g.length))
  where
    make : List (List ℕ) → ℕ → Named
    make p n = record { path = p; length = n }

differs : (fs : List ListedFile) (ps : Option (List Part)) → Decided (DiffersFromFiles fs ps)
differs fs None = inl tt
differs fs (Some ps) = either (is_bool _ true) (neither (same_list same_named (files_in ps) (map named fs)))

-- the part at a place of the list is a file that is not empty and starts elsewhere
abbrev IsMisplacedAt : ℕ → List Part → ℕ → Type 0
IsMisplacedAt p ps n = (part : Part) × (slice_get ps n ≡ Some part) × (part.is_pad ≡ false) × (0 < length_in part)
    × (stream_length (take n ps) ≢ sum_by (λ f. pieces_of p f.length) (files_in (take n ps)) * p)

part_misplaced : (p : ℕ) (ps : List Part) (n : ℕ) (o : Option Part) → slice_get ps n ≡ o → Decided (IsMisplacedAt p ps n)
part_misplaced p ps n None there = inr (λ found. none-some found.0 (sym there ∙ found.1))
part_misplaced p ps n (Some part) there = moved
    ((part.is_pad ≡ false) × ((0 < length_in part) × (stream_length (take n ps) ≢ sum_by (λ f. pieces_of p f.length) (files_in (take n ps)) * p)))
    (IsMisplacedAt p ps n)
    (λ holds. (part, there, holds.0, holds.1.0, holds.1.1))
    (λ found. let same : found.0 ≡ part = same_Some found.0 part (sym found.1 ∙ there) in
    (ap (λ (q : Part). q.is_pad) (sym same) ∙ found.2, (subst (λ (q : Part). 0 < length_in q) same found.3, found.4)))
    (both_decided (is_bool part.is_pad false) (both_decided (is_below 0 (length_in part)) (neither (cases_eq _ _))))

misplaced : (p : ℕ) (ps : List Part) → Decided (IsMisplaced p ps)
misplaced p ps = moved (SomeBelow (IsMisplacedAt p ps) (length ps)) (IsMisplaced p ps)
    (λ found. record { number = found.0; part = found.2.0; there = found.2.1; no_pad = found.2.2; some = found.2.3; elsewhere = found.2.4 })
    (λ h. (h.number, slice_get_within ps h.number h.part h.there, (h.part, h.there, h.no_pad, h.some, h.elsewhere)))
    (below_decided (IsMisplacedAt p ps) (λ n. part_misplaced p ps n (slice_get ps n) refl) (length ps))

too_long : (p : ℕ) (ps : List Part) → Decided (IsTooLong p ps)
too_long p ps = is_below (sum_by (λ f. pieces_of p f.length) (files_in ps) * p) (stream_length ps)

hybrid_tested : (p : ℕ) (info : Bencode) (name : List ℕ) (fs : List ListedFile) → Tested (hybrid_rows p info name fs)
hybrid_tested p info name fs =
    let parts = the_parts (parts_in info name) in
    let hybrid = is_bool (is_hybrid info) true in
    row _ _ (both_decided hybrid (differs fs (parts_in info name))) (row _ _ (both_decided hybrid (either (misplaced p parts) (too_long p parts)))
    (row _ _ (both_decided hybrid (is_none (cuts_in p parts info))) nothing))

-- ---- all of it

pub table_tested : (v : Bencode) → Tested (table v)
table_tested v =
    let info = info_in v in
    let p = piece_length_in v in
    behind (top_rows v) _ (top_tested v) (behind (version_rows info) _ (version_tested info) (behind (present_rows info) _ (present_tested info)
    (behind (kind_rows info) _ (kind_tested info) (behind (layers_rows v) _ (layers_tested v) (behind (piece_length_rows p) _ (length_tested p)
    (behind (shape_rows (file_tree_in v)) _ (shape_tested (file_tree_in v)) (behind (file_rows (walks_of v)) _ (file_tested (walks_of v))
    (behind (count_rows p (files_of v)) _ (count_tested p (files_of v))
    (behind (layer_rows p (layers_in v) (roots_in (files_of v))) _ (layer_tested p (layers_in v) (roots_in (files_of v)))
    (hybrid_tested p info (name_in v) (files_of v)))))))))))
