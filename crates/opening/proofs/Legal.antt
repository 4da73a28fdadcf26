-- A torrent is legal exactly if none of the tests holds.
use Rattle.std.proofs.Common.{◌≡◌, inl, inr, ℕ, ◌<◌, ◌≤◌, ◌^◌, Bool, true, false, List, []}
use Rattle.std.proofs.Common.{◌∷◌, ◌++◌, map, Option, Some, None, pos, refl, sym, ◌∙◌, subst, arith}
use Rattle.std.specs.Prelude.{option_and_then}
use Rattle.std.specs.List.{list_any}
use Rattle.std.proofs.lemmas.Bool.{cases_eq, cases_lt}
use Rattle.std.proofs.lemmas.Option.{none-some}
use Rattle.benc.specs.Value.{Bencode, int, text, list, dict, Pairs, no_pairs, pair}
use Rattle.filetree.specs.Dictionary.{as_int, as_dict}
use Rattle.filetree.specs.FileTree.{HasBadPath, HasBadPathIn, IsBadComponent}
use Rattle.filetree.specs.Tests.{NoneHolds, TestRow}
use Rattle.filetree.specs.TreeTests.{file_rows, shape_rows}
use Rattle.filetree.proofs.Tables.{none_both}
use Rattle.filetree.specs.declared.files.ListedFile.{ListedFile}
use Rattle.opening.specs.Legal.{AreItsFiles, HasPlainPaths, HasPlainPathsIn, HaveOneLength, IsAligned, IsLegal, IsRightKind, IsPlainComponent}
use Rattle.opening.specs.Refusals.{IsName, IsOther, count_rows, file_tree_in, files_of, hybrid_rows, info_in, kind_rows, layer_rows, layers_in, layers_rows}
use Rattle.opening.specs.Refusals.{name_in, parts_of_torrent, piece_length_in, piece_length_rows, present_rows, table, top_rows, version_rows, walks_of}
use Rattle.opening.specs.Stream.{DiffersFromFiles, IsUnaligned, Part, files_in, is_broken, named, parts_in}
use Rattle.opening.specs.Trees.{IsReused, roots_in}
use Rattle.opening.proofs.Deciding.{Decided, same_list}
use Rattle.opening.proofs.EachTest.{named_text, power, same_named, two, utf8}

-- what is decided, and not false, holds
stable : {P : Type 0} → Decided P → ((P → ⊥) → ⊥) → P
stable (inl holds) not = holds
stable (inr never) not = absurd (not never)

is_false : (b : Bool) → (b ≡ true → ⊥) → b ≡ false
is_false true not = absurd (not refl)
is_false false not = refl

is_true : (b : Bool) → (b ≡ false → ⊥) → b ≡ true
is_true true not = refl
is_true false not = absurd (not refl)

not_true : (b : Bool) → b ≡ false → b ≡ true → ⊥
not_true b fails holds = let never : false ≡ true = sym fails ∙ holds in cc

there : {A : Type 0} (o : Option A) → (o ≡ None → ⊥) → (x : A) × (o ≡ Some x)
there None not = absurd (not refl)
there (Some x) not = (x, refl)

-- ---- keys

has : {A : Type 0} (kind : Bencode → Option A) (o : Option Bencode) → (o ≡ None → ⊥) → (IsOther kind o → ⊥) → (x : A) × (option_and_then kind o ≡ Some x)
has kind None some right = absurd (some refl)
has kind (Some w) some right = there (kind w) right

has_some : {A : Type 0} (kind : Bencode → Option A) (o : Option Bencode) (x : A) → option_and_then kind o ≡ Some x → o ≡ None → ⊥
has_some kind None x is none = none-some x is
has_some kind (Some w) x is none = none-some w (sym none)

has_right : {A : Type 0} (kind : Bencode → Option A) (o : Option Bencode) (x : A) → option_and_then kind o ≡ Some x → IsOther kind o → ⊥
has_right kind None x is other = other
has_right kind (Some w) x is other = none-some x (sym other ∙ is)

of_kind : {A : Type 0} (kind : Bencode → Option A) (o : Option Bencode) → (IsOther kind o → ⊥) → IsRightKind kind o
of_kind kind None right = tt
of_kind kind (Some w) right = there (kind w) right

right_kind : {A : Type 0} (kind : Bencode → Option A) (o : Option Bencode) → IsRightKind kind o → IsOther kind o → ⊥
right_kind kind None is other = other
right_kind kind (Some w) is other = none-some is.0 (sym other ∙ is.1)

name_there : (o : Option Bencode) → IsName o → o ≡ None → ⊥
name_there o is none = subst IsName none is

-- ---- paths

plain : (k : List ℕ) → (IsBadComponent k → ⊥) → IsPlainComponent k
plain k good = record {
  no_dot = λ is. good (inl is);
  no_dots = λ is. good (inr (inl is));
  no_slash = λ has. good (inr (inr (inl has)));
  no_zero = λ has. good (inr (inr (inr (inl has))));
  utf8 = stable (utf8 k) (λ never. good (inr (inr (inr (inr never)))));
}

not_bad : (k : List ℕ) → IsPlainComponent k → IsBadComponent k → ⊥
not_bad k good bad = elim bad [
  | inl dot ↦ good.no_dot dot
  | inr rest ↦ elim rest [
    | inl dots ↦ good.no_dots dots
    | inr more ↦ elim more [
      | inl slash ↦ good.no_slash slash
      | inr last ↦ elim last [ inl zero ↦ good.no_zero zero | inr never ↦ never good.utf8 ]
    ]
  ]
]

mutual
  plain_paths : (ps : Pairs) → (HasBadPath ps → ⊥) → HasPlainPaths ps
  plain_paths no_pairs good = tt
  plain_paths (pair k v ps) good = (
    λ some. (plain k (λ bad. good (inl (some, inl bad))), plain_paths_in v (λ bad. good (inl (some, inr bad)))),
    plain_paths ps (λ bad. good (inr bad)),
  )

  plain_paths_in : (v : Bencode) → (HasBadPathIn v → ⊥) → HasPlainPathsIn v
  plain_paths_in (int z) good = tt
  plain_paths_in (text s) good = tt
  plain_paths_in (list vs) good = tt
  plain_paths_in (dict ps) good = plain_paths ps good

mutual
  no_bad_path : (ps : Pairs) → HasPlainPaths ps → HasBadPath ps → ⊥
  no_bad_path no_pairs good bad = bad
  no_bad_path (pair k v ps) good bad = elim bad [
    | inl here ↦ elim here.1 [
      | inl component ↦ not_bad k (good.0 here.0).0 component
      | inr inner ↦ no_bad_path_in v (good.0 here.0).1 inner
    ]
    | inr rest ↦ no_bad_path ps good.1 rest
  ]

  no_bad_path_in : (v : Bencode) → HasPlainPathsIn v → HasBadPathIn v → ⊥
  no_bad_path_in (int z) good bad = bad
  no_bad_path_in (text s) good bad = bad
  no_bad_path_in (list vs) good bad = bad
  no_bad_path_in (dict ps) good bad = no_bad_path ps good bad

-- ---- the files together

one_length : (fs : List ListedFile) → (IsReused fs → ⊥) → HaveOneLength fs
one_length fs not = λ f g root f_there g_there f_root g_root. elim (cases_eq f.length g.length) [
  | inl same ↦ same
  | inr differ ↦ absurd (not (record {
    one = f;
    other = g;
    root = root;
    one_there = f_there;
    other_there = g_there;
    one_root = f_root;
    other_root = g_root;
    differ = differ;
  }))
]

pub not_reused : (fs : List ListedFile) → HaveOneLength fs → IsReused fs → ⊥
not_reused fs one r = r.differ (one r.one r.other r.root r.one_there r.other_there r.one_root r.other_root)

below : (m n : ℕ) → (n ≤ m → ⊥) → m < n
below m n not = elim (cases_lt m n) [ inl less ↦ less | inr more ↦ absurd (not more) ]

at_most : (m n : ℕ) → (n < m → ⊥) → m ≤ n
at_most m n not = elim (cases_lt n m) [ inl more ↦ absurd (not more) | inr less ↦ less ]

-- ---- the version 1 part

its_files : (fs : List ListedFile) (ps : Option (List Part)) → (DiffersFromFiles fs ps → ⊥) → AreItsFiles fs ps
its_files fs None same = same tt
its_files fs (Some ps) same = (
  is_false (list_any is_broken ps) (λ broken. same (inl broken)),
  stable (same_list same_named (files_in ps) (map named fs)) (λ never. same (inr never)),
)

not_different : (fs : List ListedFile) (ps : Option (List Part)) → AreItsFiles fs ps → DiffersFromFiles fs ps → ⊥
not_different fs None are other = are
not_different fs (Some ps) are other = elim other [ inl broken ↦ not_true (list_any is_broken ps) are.0 broken | inr differ ↦ differ are.1 ]

aligned : (p : ℕ) (ps : List Part) → (IsUnaligned p ps → ⊥) → IsAligned p ps
aligned p ps not = record {
  placed = λ number part there no_pad some. elim (cases_eq _ _) [
    | inl same ↦ same
    | inr elsewhere ↦ absurd (not (inl (record { number = number; part = part; there = there; no_pad = no_pad; some = some; elsewhere = elsewhere })))
  ];
  ends = at_most _ _ (λ long. not (inr long));
}

not_unaligned : (p : ℕ) (ps : List Part) → IsAligned p ps → IsUnaligned p ps → ⊥
not_unaligned p ps is other = elim other [
  | inl m ↦ m.elsewhere (is.placed m.number m.part m.there m.no_pad m.some)
  | inr long ↦ omega (arith, long, is.ends)
]

-- ---- all of it

pub legal_if_accepted : (v : Bencode) → NoneHolds (table v) → IsLegal v
legal_if_accepted v none =
    let (top, (info, (info_dict, versions))) = none in
    let (version, (version_int, (two_is, present))) = versions in
    let (tree, (name, (length, kinds))) = present in
    let (tree_dict, (name_text, (length_int, (layers_dict, (legal, shapes))))) = kinds in
    let (shape, (path, (links, (lengths, (roots, files))))) = shapes in
    let (reused, (empty, (many, layers))) = files in
    let (missing, (sizes, (leads, version1))) = layers in
    let (differ, (places, (cuts, end))) = version1 in
    record {
      top = there (as_dict v) top;
      info = has as_dict _ info info_dict;
      version = stable (two _) two_is;
      file_tree = has as_dict _ tree tree_dict;
      name = stable (named_text _) name_text;
      piece_length = has as_int _ length length_int;
      legal_length = stable (power (piece_length_in v)) legal;
      piece_layers = of_kind as_dict _ layers_dict;
      directory = is_true _ shape;
      paths = plain_paths _ path;
      no_symlinks = is_false _ links;
      lengths = is_false _ lengths;
      roots = is_false _ roots;
      one_length = one_length (files_of v) reused;
      some_files = empty;
      few_pieces = below _ (2 ^ 32) many;
      layers_there = is_false _ missing;
      layer_sizes = is_false _ sizes;
      layers_lead = is_false _ leads;
      hybrid = λ is. record {
        files = its_files (files_of v) (parts_in (info_in v) (name_in v)) (λ other. differ (is, other));
        aligned = aligned (piece_length_in v) (parts_of_torrent v) (λ other. places (is, other));
        pieces = there _ (λ lacks. cuts (is, lacks));
      };
    }

-- tables one after the other, none of whose tests holds
abbrev joined : List (List TestRow) → List TestRow
joined [] = []
joined (rows ∷ tables) = rows ++ joined tables

abbrev EachNone : List (List TestRow) → Type 0
EachNone [] = Unit {0}
EachNone (rows ∷ tables) = NoneHolds rows × EachNone tables

none_joined : (tables : List (List TestRow)) → EachNone tables → NoneHolds (joined tables)
none_joined [] each = each
none_joined (rows ∷ tables) each = none_both rows (joined tables) each.0 (none_joined tables each.1)

-- the tests of each kind make all of them
pub table_none : (v : Bencode) → NoneHolds (top_rows v) → NoneHolds (version_rows (info_in v)) → NoneHolds (present_rows (info_in v))
    → NoneHolds (kind_rows (info_in v)) → NoneHolds (layers_rows v)
    → NoneHolds (piece_length_rows (piece_length_in v)) → NoneHolds (shape_rows (file_tree_in v)) → NoneHolds (file_rows (walks_of v))
    → NoneHolds (count_rows (piece_length_in v) (files_of v))
    → NoneHolds (layer_rows (piece_length_in v) (layers_in v) (roots_in (files_of v)))
    → NoneHolds (hybrid_rows (piece_length_in v) (info_in v) (name_in v) (files_of v)) → NoneHolds (table v)
table_none v a b c d e f g h i j k = none_joined (
    top_rows v
    ∷ version_rows (info_in v)
    ∷ present_rows (info_in v)
    ∷ kind_rows (info_in v)
    ∷ layers_rows v
    ∷ piece_length_rows (piece_length_in v)
    ∷ shape_rows (file_tree_in v)
    ∷ file_rows (walks_of v)
    ∷ count_rows (piece_length_in v) (files_of v)
    ∷ layer_rows (piece_length_in v) (layers_in v) (roots_in (files_of v))
    ∷ hybrid_rows (piece_length_in v) (info_in v) (name_in v) (files_of v)
    ∷ []) (a, (b, (c, (d, (e, (f, (g, (h, (i, (j, (k, tt)))))))))))

version_accepted : (v : Bencode) → IsLegal v → NoneHolds (version_rows (info_in v))
version_accepted v is = (
  λ none. none-some (int (pos 2)) (sym none ∙ is.version),
  (λ other. none-some (pos 2) (sym (subst (IsOther as_int) is.version other)), (λ not. not is.version, tt)),
)

present_accepted : (v : Bencode) → IsLegal v → NoneHolds (present_rows (info_in v))
present_accepted v is =
    (has_some as_dict _ is.file_tree.0 is.file_tree.1, (name_there _ is.name, (has_some as_int _ is.piece_length.0 is.piece_length.1, tt)))

kinds_accepted : (v : Bencode) → IsLegal v → NoneHolds (kind_rows (info_in v))
kinds_accepted v is =
    (has_right as_dict _ is.file_tree.0 is.file_tree.1, (λ not. not is.name, (has_right as_int _ is.piece_length.0 is.piece_length.1, tt)))

top_accepted : (v : Bencode) → IsLegal v → NoneHolds (top_rows v)
top_accepted v is = (
  λ none. none-some is.top.0 (sym none ∙ is.top.1),
  (has_some as_dict _ is.info.0 is.info.1, (has_right as_dict _ is.info.0 is.info.1, tt)),
)

files_accepted : (v : Bencode) → IsLegal v → NoneHolds (count_rows (piece_length_in v) (files_of v))
files_accepted v is = (not_reused (files_of v) is.one_length, (is.some_files, (λ many. omega (arith, many, is.few_pieces), tt)))

version1_accepted : (v : Bencode) → IsLegal v → NoneHolds (hybrid_rows (piece_length_in v) (info_in v) (name_in v) (files_of v))
version1_accepted v is = (
  λ h. not_different (files_of v) (parts_in (info_in v) (name_in v)) (is.hybrid h.0).files h.1,
  (
    λ h. not_unaligned (piece_length_in v) (parts_of_torrent v) (is.hybrid h.0).aligned h.1,
    (λ h. none-some (is.hybrid h.0).pieces.0 (sym h.1 ∙ (is.hybrid h.0).pieces.1), tt),
  ),
)

pub accepted_if_legal : (v : Bencode) → IsLegal v → NoneHolds (table v)
accepted_if_legal v is =
    table_none v (top_accepted v is) (version_accepted v is) (present_accepted v is) (kinds_accepted v is)
    (right_kind as_dict _ is.piece_layers, tt) (λ not. not is.legal_length, tt)
    (λ other. not_true _ other is.directory, (no_bad_path _ is.paths, tt))
    (not_true _ is.no_symlinks, (not_true _ is.lengths, (not_true _ is.roots, tt)))
    (files_accepted v is)
    (not_true _ is.layers_there, (not_true _ is.layer_sizes, (not_true _ is.layers_lead, tt)))
    (version1_accepted v is)
