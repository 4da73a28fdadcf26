-- The groups of tests one behind the other, and the torrent that is described where none holds.
use Rattle.std.proofs.Common.{◌≡◌, ℕ, ◌*◌, ◌^◌, ◌<◌, ◌≤◌, List, ◌++◌, map, sym, ap, subst, ◌∙◌, arith, sum_by}
use Rattle.std.specs.List.{list_any}
use Rattle.std.proofs.Math.Nat.{mul-le-mul_right}
use Rattle.sha1.specs.Sha1.{sha1}
use Rattle.sha2.specs.Sha256.{sha256}
use Rattle.benc.specs.Text.{spelling}
use Rattle.benc.specs.Value.{Bencode, Pairs}
use Rattle.filetree.proofs.Bytes.{false_or_true}
use Rattle.opening.specs.Describes.{IsDescribed}
use Rattle.opening.specs.Description.{Description, FileEntry}
use Rattle.filetree.specs.FileTree.{Walk, file_of_walk, lacks_root, walks}
use Rattle.filetree.specs.declared.files.ListedFile.{ListedFile}
use Rattle.opening.specs.Matching.{FitsStream, named_entry}
use Rattle.opening.specs.Opening.{content_rows}
use Rattle.opening.specs.Refusals.{all_key_rows}
use Rattle.filetree.specs.TreeTests.{tree_rows}
use Rattle.opening.specs.PieceLayers.{tree_at}
use Rattle.filetree.specs.Tests.{First, NoneHolds, TestRow}
use Rattle.opening.specs.Refusals.{files_of, file_tree_in, hybrid_rows, info_in, layers_in, name_in, piece_length_in, plain_rows, table}
use Rattle.opening.specs.Trees.{entries_from}
use Rattle.opening.specs.Stream.{IsVersion1, Named, named}
use Rattle.opening.specs.Trees.{IsIn, pieces_in, roots_in}
use Rattle.pieces.specs.Pieces.{IsPieceLength, pieces_of}
use Rattle.pieces.proofs.Legal.{legal_bounds}
use Rattle.filetree.specs.declared.refusal.Refusal.{Refusal}
use Rattle.opening.proofs.Growing.{plain_pass}
use Rattle.opening.proofs.InStream.{sum_named}
use Rattle.opening.proofs.Listing.{are_files, named_entries}
use Rattle.opening.proofs.SoundTrees.{IsSized}
use Rattle.opening.proofs.SoundTrees.{all_sized}
use Rattle.filetree.proofs.Tables.{first_behind, first_front, none_both}

-- what was read of a value up to its files
pub record IsReadFrom (v : Bencode) (k : ℕ) (info : Bencode) (name : List ℕ) (tree layers : Pairs) (fs : List ListedFile) : Type 0 where
  pub info_is : info ≡ info_in v
  pub name_is : name ≡ name_in v
  pub tree_is : tree ≡ file_tree_in v
  pub layers_is : layers ≡ layers_in v
  pub length_is : k ≡ piece_length_in v
  pub files_are : fs ≡ map file_of_walk (walks tree)
  pub keys : NoneHolds (all_key_rows v)
  pub trees : NoneHolds (tree_rows tree)

pub sizes_of : (tree : Pairs) (fs : List ListedFile) → NoneHolds (tree_rows tree) → fs ≡ map file_of_walk (walks tree) → (f : ListedFile) → IsIn fs f
    → IsSized f
sizes_of tree fs rows is f there = all_sized (walks tree) (false_or_true (list_any (λ (w : Walk). lacks_root w.file) (walks tree)) rows.1.1.1.1.0) f
    (subst (λ gs. IsIn gs f) is there)

-- the tests behind those of the file tree
abbrev content : Bencode → List TestRow
content v = content_rows (piece_length_in v) (layers_in v) (files_of v)

abbrev hybrid : Bencode → List TestRow
hybrid v = hybrid_rows (piece_length_in v) (info_in v) (name_in v) (files_of v)

pub keys_refused : (v : Bencode) (r : Refusal) → First (all_key_rows v) r → First (table v) r
keys_refused v r first = first_front (all_key_rows v) (tree_rows (file_tree_in v) ++ (content v ++ hybrid v)) r first

pub tree_refused : (v : Bencode) (tree : Pairs) (r : Refusal) → NoneHolds (all_key_rows v) → tree ≡ file_tree_in v → First (tree_rows tree) r
    → First (table v) r
tree_refused v tree r keys is first =
    first_behind (all_key_rows v) (tree_rows (file_tree_in v) ++ (content v ++ hybrid v)) r keys
    (first_front (tree_rows (file_tree_in v)) (content v ++ hybrid v) r (subst (λ t. First (tree_rows t) r) is first))

fits : (k : ℕ) (fs : List ListedFile) → k ≤ 2 ^ 30 → pieces_in k fs < 2 ^ 32 → sum_by (λ (f : Named). pieces_of k f.length) (map named fs) * k < 2 ^ 64
fits k fs small few = subst (λ n. n * k < 2 ^ 64) (sym (sum_named k fs)) (product (pieces_in k fs) k few small)
  where
    product : (a b : ℕ) → a < 2 ^ 32 → b ≤ 2 ^ 30 → a * b < 2 ^ 64
    product a b a_small b_small =
        let small : a ≤ 2 ^ 32 = omega arith in
        let most : a * b ≤ 2 ^ 32 * b = mul-le-mul_right b small in
        omega (arith, most, b_small)

names_are : (k : ℕ) (fs : List ListedFile) (es : List FileEntry) → es ≡ entries_from k (roots_in fs) 0 fs → map named_entry es ≡ map named fs
names_are k fs es is = ap (map named_entry) is ∙ named_entries k (roots_in fs) 0 fs

-- the files of the description are those of the file tree, and their addresses fit 64 bits
pub fits_stream : (k : ℕ) (fs : List ListedFile) (es : List FileEntry) → IsPieceLength k → pieces_in k fs < 2 ^ 32 → es ≡ entries_from k (roots_in fs) 0 fs
    → FitsStream k es fs
fits_stream k fs es legal few is =
    let bounds = legal_bounds k legal in
    record { some = omega (arith, bounds.0); names = names_are k fs es is; short = fits k fs bounds.1 few }

-- ---- where a value was read up to its files

module _ {v : Bencode} {k : ℕ} {info : Bencode} {name : List ℕ} {tree layers : Pairs} {fs : List ListedFile} (h : IsReadFrom v k info name tree layers fs)
  where
    -- what holds of what was read holds of the value
    of_value : (P : ℕ → Bencode → List ℕ → Pairs → List ListedFile → Type 0) → P k info name layers fs
        → P (piece_length_in v) (info_in v) (name_in v) (layers_in v) (files_of v)
    of_value P x =
        subst (λ n. P n (info_in v) (name_in v) (layers_in v) (files_of v)) h.length_is
        (subst (λ i. P k i (name_in v) (layers_in v) (files_of v)) h.info_is (subst (λ s. P k info s (layers_in v) (files_of v)) h.name_is
        (subst (λ ls. P k info name ls (files_of v)) h.layers_is
        (subst (P k info name layers) (h.files_are ∙ ap (λ t. map file_of_walk (walks t)) h.tree_is) x))))

    front_none : NoneHolds (plain_rows v)
    front_none = plain_pass v tree h.keys h.tree_is h.trees

    content_none : NoneHolds (content_rows k layers fs) → NoneHolds (plain_rows v ++ content v)
    content_none rows = none_both (plain_rows v) (content v) front_none (of_value (λ n i s ls gs. NoneHolds (content_rows n ls gs)) rows)

    pub files_refused : (r : Refusal) → First (content_rows k layers fs) r → First (table v) r
    files_refused r first =
        first_behind (plain_rows v) (content v ++ hybrid v) r front_none
        (first_front (content v) (hybrid v) r (of_value (λ n i s ls gs. First (content_rows n ls gs) r) first))

    pub hybrid_refused : (r : Refusal) → NoneHolds (content_rows k layers fs) → First (hybrid_rows k info name fs) r → First (table v) r
    hybrid_refused r rows first =
        first_behind (plain_rows v ++ content v) (hybrid v) r (content_none rows) (of_value (λ n i s ls gs. First (hybrid_rows n i s gs) r) first)

    pub none_holds : NoneHolds (content_rows k layers fs) → NoneHolds (hybrid_rows k info name fs) → NoneHolds (table v)
    none_holds rows last =
        none_both (plain_rows v ++ content v) (hybrid v) (content_none rows) (of_value (λ n i s ls gs. NoneHolds (hybrid_rows n i s gs)) last)

    pub is_described : (t : Description) → t.name ≡ name → t.piece_length ≡ k → t.files ≡ entries_from k (roots_in fs) 0 fs
        → t.trees ≡ map (tree_at k layers) (roots_in fs) → t.info_hash_v2 ≡ sha256 (spelling info) → t.info_hash_v1 ≡ sha1 (spelling info)
        → IsVersion1 k info name t.v1 → IsDescribed v t
    is_described t name_is length_is files trees two one version = record {
      name = name_is ∙ h.name_is;
      piece_length = length_is ∙ h.length_is;
      files = are_files (piece_length_in v) (files_of v) t.files (of_value (λ n i s ls gs. t.files ≡ entries_from n (roots_in gs) 0 gs) files);
      trees = of_value (λ n i s ls gs. t.trees ≡ map (tree_at n ls) (roots_in gs)) trees;
      info_hash_v2 = two ∙ ap (λ i. sha256 (spelling i)) h.info_is;
      info_hash_v1 = one ∙ ap (λ i. sha1 (spelling i)) h.info_is;
      v1 = of_value (λ n i s ls gs. IsVersion1 n i s t.v1) version;
    }
