-- No test of keys and files holds for a draft's value.
use Rattle.std.proofs.Common.{◌≡◌, ◌≢◌, ℕ, zero, suc, ◌<◌, ◌≤◌, ◌^◌, Bool, true, false, ◌&&◌, if◌then◌else◌, List, [], ◌∷◌, length, map, Option, Some, None}
use Rattle.std.proofs.Common.{pos, slice_get, inl, inr, refl, sym, ap, ◌∙◌, arith}
use Rattle.std.specs.List.{list_any}
use Rattle.std.specs.Prelude.{codes, nat_lt, nat_le, ◌==◌, is_none, unwrap_or}
use Rattle.std.specs.Str.{IsUtf8, bytes_eq}
use Rattle.benc.specs.Value.{Bencode, int, text, list, Pairs, pair}
use Rattle.drafts.proofs.Building.{AreOutlineFiles}
use Rattle.drafts.specs.Outline.{Outline, OutlineFile, IsOutline, IsOutlineFile, listed_file}
use Rattle.drafts.specs.Written.{file_tree_of, file_value, walk_to_file, list_pair, last_pairs, pieces_pair, is_single, info_value, value_of, entries_value}
use Rattle.drafts.specs.Written.{first_length}
use Rattle.filetree.proofs.Bytes.{true_or_false}
use Rattle.filetree.specs.Dictionary.{get, under, as_int}
use Rattle.filetree.specs.FileTree.{Walk, is_symlink, length_at, length_of, lacks_root, root_at, stated_root, file_of_walk, is_directory, HasBadPath}
use Rattle.filetree.specs.Tests.{NoneHolds}
use Rattle.filetree.specs.TreeTests.{shape_rows, file_rows}
use Rattle.filetree.specs.declared.files.ListedFile.{ListedFile}
use Rattle.opening.proofs.Keys.{of_kind, name_there}
use Rattle.opening.specs.Refusals.{top_rows, version_rows, present_rows, kind_rows, layers_rows, piece_length_rows, count_rows}
use Rattle.opening.specs.Trees.{IsReused}
use Rattle.pieces.specs.Pieces.{IsPieceLength}

-- ---- look-ups in the info dictionary

under_either : (key : List ℕ) (b : Bool) (ps qs : Pairs) (x : Option Bencode) → under key ps ≡ x → under key qs ≡ x → under key (if b then ps else qs) ≡ x
under_either key true ps qs x e f = e
under_either key false ps qs x e f = f

-- what stands behind the list
pub behind_list : (d : Outline) (key : List ℕ) (x : Option Bencode) → bytes_eq (codes "file tree") key ≡ false → bytes_eq (codes "length") key ≡ false
    → bytes_eq (codes "files") key ≡ false
    → under key (last_pairs d) ≡ x → get key (info_value d) ≡ x
behind_list d key x tree length files e =
    rw tree (under_either key d.hybrid (list_pair d (last_pairs d)) (last_pairs d) x
    (under_either key (is_single d.name d.files) (pair (codes "length") (int (pos (first_length d.files))) (last_pairs d))
    (pair (codes "files") (list (entries_value d.piece_length d.files)) (last_pairs d)) x
    (rw length e) (rw files e)) e)

pub version_there : (d : Outline) → get (codes "meta version") (info_value d) ≡ Some (int (pos 2))
version_there d = behind_list d (codes "meta version") (Some (int (pos 2))) refl refl refl refl

pub name_is_there : (d : Outline) → get (codes "name") (info_value d) ≡ Some (text d.name)
name_is_there d = behind_list d (codes "name") (Some (text d.name)) refl refl refl refl

pub length_there : (d : Outline) → get (codes "piece length") (info_value d) ≡ Some (int (pos d.piece_length))
length_there d = behind_list d (codes "piece length") (Some (int (pos d.piece_length))) refl refl refl refl

pub pieces_there : (d : Outline) → get (codes "pieces") (info_value d) ≡ under (codes "pieces") (pieces_pair d)
pieces_there d = behind_list d (codes "pieces") (under (codes "pieces") (pieces_pair d)) refl refl refl refl

-- ---- tests of keys

there : (o : Option Bencode) (w : Bencode) → o ≡ Some w → o ≡ None → ⊥
there o w e none = cc

pub top_none : (d : Outline) → NoneHolds (top_rows (value_of d))
top_none d = ((λ none. cc), ((λ none. cc), ((λ none. cc), tt)))

pub version_none : (d : Outline) → NoneHolds (version_rows (info_value d))
version_none d = (
  there (get (codes "meta version") (info_value d)) (int (pos 2)) (version_there d),
  (of_kind as_int (get (codes "meta version") (info_value d)) (int (pos 2)) (pos 2) (version_there d) refl, ((λ differs. differs (version_there d)), tt)),
)

pub present_none : (d : Outline) → NoneHolds (present_rows (info_value d))
present_none d = (
  (λ none. cc),
  (
    there (get (codes "name") (info_value d)) (text d.name) (name_is_there d),
    (there (get (codes "piece length") (info_value d)) (int (pos d.piece_length)) (length_there d), tt),
  ),
)

pub kind_none : (d : Outline) → IsUtf8 d.name → NoneHolds (kind_rows (info_value d))
kind_none d utf8 = (
  (λ none. cc),
  (
    (λ no. no (name_there (get (codes "name") (info_value d)) (text d.name) d.name (name_is_there d) refl utf8)),
    (of_kind as_int (get (codes "piece length") (info_value d)) (int (pos d.piece_length)) (pos d.piece_length) (length_there d) refl, tt),
  ),
)

pub layers_none : (d : Outline) → NoneHolds (layers_rows (value_of d))
layers_none d = ((λ none. cc), tt)

pub piece_length_none : (p : ℕ) → IsPieceLength p → NoneHolds (piece_length_rows p)
piece_length_none p legal = ((λ no. no legal), tt)

-- ---- tests of files

pub shape_none : (p : ℕ) (fs : List OutlineFile) → (is_directory (file_tree_of fs) ≡ true) → (HasBadPath (file_tree_of fs) → ⊥)
    → NoneHolds (shape_rows (file_tree_of fs))
shape_none p fs directory good = ((λ none. let never : true ≡ false = sym directory ∙ none in cc), (good, tt))

-- what stands in a file's dictionary
pub length_is : (f : OutlineFile) → f.length ≤ 2 ^ 46 → length_at (file_value f) ≡ Some f.length
length_is f bound = let e : nat_le f.length (2 ^ 46) ≡ true = grind arith in rw e refl

pub size_is : (f : OutlineFile) → f.length ≤ 2 ^ 46 → length_of (file_value f) ≡ f.length
size_is f bound = ap (λ o. unwrap_or o 0) (length_is f bound)

pub no_link : (f : OutlineFile) → is_symlink (file_value f) ≡ false
no_link f = elim (true_or_false (nat_lt 0 f.length)) [ inl some ↦ rw some refl | inr none ↦ rw none refl ]

pub root_is : (f : OutlineFile) → nat_lt 0 f.length ≡ true → length f.root ≡ 32 → root_at (file_value f) ≡ Some f.root
root_is f some long = rw some (let e : length f.root == 32 ≡ true = grind arith in rw e refl)

root_same : (f : OutlineFile) → (0 < f.length → length f.root ≡ 32) → stated_root f.length (file_value f) ≡ (if nat_lt 0 f.length then Some f.root else None)
root_same f long =
    elim (true_or_false (nat_lt 0 f.length)) [
      | inl some ↦ root_is_in f some (long (let more : 0 < f.length = grind arith in more)) ∙ sym (ap (λ b. if b then Some f.root else None) some)
      | inr none ↦ rw none refl
    ]
  where
    root_is_in : (f : OutlineFile) → nat_lt 0 f.length ≡ true → length f.root ≡ 32 → (if nat_lt 0 f.length then root_at (file_value f) else None) ≡ Some f.root
    root_is_in f some long = ap (λ b. if b then root_at (file_value f) else None) some ∙ root_is f some long

pub listed_is : (p : ℕ) (f : OutlineFile) → IsOutlineFile f → file_of_walk (walk_to_file f) ≡ listed_file f
listed_is p f o =
    ap (λ n. record { path = f.path; length = n; root = stated_root n (file_value f) }) (size_is f o.bound)
    ∙ ap (λ (r : Option (List ℕ)). record { path = f.path; length = f.length; root = r }) (root_same f o.root_length)

pub all_listed : (p : ℕ) (fs : List OutlineFile) → AreOutlineFiles p fs → map file_of_walk (map walk_to_file fs) ≡ map listed_file fs
all_listed p [] files = refl
all_listed p (f ∷ fs) files =
    ap (λ (x : ListedFile). x ∷ map file_of_walk (map walk_to_file fs)) (listed_is p f (files 0 f refl))
    ∙ ap (λ xs. listed_file f ∷ xs) (all_listed p fs (λ n g e. files (suc n) g e))

no_any : (p : ℕ) (test : Walk → Bool) (fs : List OutlineFile) → AreOutlineFiles p fs → ((f : OutlineFile) → IsOutlineFile f → test (walk_to_file f) ≡ false)
    → list_any test (map walk_to_file fs) ≡ true → ⊥
no_any p test [] files none any = cc
no_any p test (f ∷ fs) files none any =
    let first : test (walk_to_file f) ≡ false = none f (files 0 f refl) in
    no_any p test fs (λ n g e. files (suc n) g e) none (rw first at any)

no_size : (p : ℕ) (f : OutlineFile) → IsOutlineFile f → is_none (length_at (file_value f)) ≡ false
no_size p f o = ap is_none (length_is f o.bound)

no_root : (p : ℕ) (f : OutlineFile) → IsOutlineFile f → lacks_root (file_value f) ≡ false
no_root p f o = ap (λ n. nat_lt 0 n && is_none (root_at (file_value f))) (size_is f o.bound) ∙
    elim (true_or_false (nat_lt 0 f.length)) [
      | inl some ↦ ap (λ r. nat_lt 0 f.length && is_none r) (root_is f some (o.root_length (let more : 0 < f.length = grind arith in more))) ∙ rw some refl
      | inr none ↦ rw none refl
    ]

pub file_none : (p : ℕ) (fs : List OutlineFile) → AreOutlineFiles p fs → NoneHolds (file_rows (map walk_to_file fs))
file_none p fs files = (
  no_any p (λ w. is_symlink w.file) fs files (λ f o. no_link f),
  (no_any p (λ w. is_none (length_at w.file)) fs files (λ f o. no_size p f o), (no_any p (λ w. lacks_root w.file) fs files (λ f o. no_root p f o), tt)),
)

-- ---- tests of the files together

pub listed_at : (fs : List OutlineFile) (n : ℕ) (g : ListedFile) → slice_get (map listed_file fs) n ≡ Some g → (f : OutlineFile) × (slice_get fs n ≡ Some f)
    × (listed_file f ≡ g)
listed_at [] n g e = cc
listed_at (f ∷ fs) zero g e = (f, refl, cc)
listed_at (f ∷ fs) (suc n) g e = listed_at fs n g e

-- a file with a root is not empty, and has that root
rooted : (f : OutlineFile) (s : List ℕ) → (if nat_lt 0 f.length then Some f.root else None) ≡ Some s → (0 < f.length) × (f.root ≡ s)
rooted f s e =
    elim (true_or_false (nat_lt 0 f.length)) [
      | inl some ↦ let is : Some f.root ≡ Some s = rw some at e in ((let more : 0 < f.length = grind arith in more), cc)
      | inr none ↦ let is : None ≡ Some s = rw none at e in cc
    ]

pub rooted_file : (f : OutlineFile) (g : ListedFile) (s : List ℕ) → listed_file f ≡ g → g.root ≡ Some s → (0 < f.length) × (f.root ≡ s)
rooted_file f g s same root = rooted f s (ap (λ (x : ListedFile). x.root) same ∙ root)

not_reused : (d : Outline) → IsOutline d → IsReused (map listed_file d.files) → ⊥
not_reused d o r =
    let one = listed_at d.files r.one_there.0 r.one r.one_there.1 in
    let other = listed_at d.files r.other_there.0 r.other r.other_there.1 in
    let a = rooted_file one.0 r.one r.root one.2 r.one_root in
    let b = rooted_file other.0 r.other r.root other.2 r.other_root in
    let same : one.0.length ≡ other.0.length = o.one_length r.one_there.0 r.other_there.0 one.0 other.0 one.1 other.1 a.0 b.0 (a.1 ∙ sym b.1) in
    r.differ (ap (λ (x : ListedFile). x.length) (sym one.2) ∙ same ∙ ap (λ (x : ListedFile). x.length) other.2)

some_listed : (fs : List OutlineFile) → fs ≢ [] → map listed_file fs ≡ [] → ⊥
some_listed [] some none = some refl
some_listed (f ∷ fs) some none = cc

pub count_none : (d : Outline) → IsOutline d → d.files ≢ [] → NoneHolds (count_rows d.piece_length (map listed_file d.files))
count_none d o some = (not_reused d o, (some_listed d.files some, ((λ many. let few = o.pieces in omega (arith, many, few)), tt)))
