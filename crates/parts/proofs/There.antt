-- Each content of a listed file has a verdict.
use Rattle.std.proofs.Common.{◌≡◌, ◌≢◌, ◌⊎◌, inl, inr, ℕ, zero, suc, ◌+◌, ◌<◌, true, List, length, slice_get, Option, Some, None, refl, sym, ◌∙◌, ap, subst}
use Rattle.std.proofs.Common.{arith}
use Rattle.std.proofs.lemmas.Bool.{cases_eq, cases_lt}
use Rattle.std.proofs.lemmas.Option.{same_Some}
use Rattle.chains.proofs.Cases.{last_or_before, same_or_not, some_or_none}
use Rattle.hashtree.specs.Tree.{node, root_of}
use Rattle.opening.specs.Description.{Description, FileEntry, TreeEntry}
use Rattle.opening.specs.Sound.{IsSound, piece_layer}
use Rattle.folders.specs.Folder.{tree_entry_of}
use Rattle.folders.specs.Verdicts.{IsVerdict, is_whole}
use Rattle.folders.specs.declared.report.FileVerdict.{FileVerdict}
use Rattle.folders.specs.declared.report.FileVerdict.TheVariants as file
use Rattle.folders.proofs.Places.{pieces_are_positive}
use Rattle.parts.specs.FilePieces.{IsFirstBadNumber}
use Rattle.parts.specs.Parts.{IsPieceGood, piece_count}
use Rattle.parts.proofs.Files.{tree_of_file}
use Rattle.parts.proofs.Joined.{first_bad_piece, good_node, good_root, root_from_pieces}
use Rattle.parts.proofs.Streams.{in_pieces}
use Rattle.parts.proofs.WholeFiles.{good_by_root}

-- the first number at which something does not hold
record FoundFirst (IsGood : ℕ → Type 0) (n : ℕ) : Type 0 where
  bad : Option ℕ
  first : IsFirstBadNumber 0 n IsGood bad

one_further : (P : ℕ → Type 0) (n : ℕ) (bad : Option ℕ) → IsFirstBadNumber 0 n P bad → P n ⊎ (P n → ⊥) → FoundFirst P (suc n)
one_further P n (Some p) (low, lt, differs, before) here = record { bad = Some p; first = (low, omega (arith, lt), differs, before) }
one_further P n None all (inl good) = record {
  bad = None;
  first = λ k low lt. elim (last_or_before k n (omega (arith, lt))) [
    | inl before ↦ all k low before
    | inr last ↦ subst P (sym last) good
  ];
}
one_further P n None all (inr differs) = record { bad = Some n; first = (omega arith, omega arith, differs, all) }

find_first : (P : ℕ → Type 0) → ((k : ℕ) → P k ⊎ (P k → ⊥)) → (n : ℕ) → FoundFirst P n
find_first P test zero = record { bad = None; first = λ k low lt. absurd (omega (arith, lt)) }
find_first P test (suc n) = let so_far = find_first P test n in one_further P n so_far.bad so_far.first (test n)

listed_or_not : (o : Option (List ℕ)) (x : List ℕ) → (o ≡ Some x) ⊎ (o ≡ Some x → ⊥)
listed_or_not None x = inr (λ is. (let no : ⊥ = cc in no))
listed_or_not (Some y) x = elim (same_or_not y x) [
  | inl same ↦ inl (ap Some same)
  | inr other ↦ inr (λ is. other (same_Some y x is))
]

good_or_not : (t : Description) (f : FileEntry) (bytes : List ℕ) (k : ℕ) → IsPieceGood t f bytes k ⊎ (IsPieceGood t f bytes k → ⊥)
good_or_not t f bytes k = elim (some_or_none (tree_entry_of t f)) [
  | inr none ↦ inr (λ good. (let no : None ≡ Some good.tree = sym none ∙ good.tree_is in let never : ⊥ = cc in never))
  | inl some ↦
      let e : TreeEntry = some.0 in
      elim (cases_lt t.piece_length e.length) [
        | inr short ↦ elim (same_or_not (root_of bytes) e.root) [
          | inl same ↦ inl (record { tree = e; tree_is = some.1; only = λ _. same; listed = λ long. absurd (omega (arith, short, long)) })
          | inr other ↦ inr (λ good. other (good_root t f e bytes k some.1 good short))
        ]
        | inl long ↦ elim (listed_or_not (slice_get e.layer k) (node bytes (piece_layer t.piece_length) k)) [
          | inl here ↦ inl (record { tree = e; tree_is = some.1; only = λ short. absurd (omega (arith, short, long)); listed = λ _. here })
          | inr other ↦ inr (λ good. other (good_node t f e bytes k some.1 good long))
        ]
      ]
]

-- the verdict is on a content of the stated length, or says that it has another
abbrev pub IsByLength : FileEntry → List ℕ → FileVerdict → Type 0
IsByLength f bytes w = ((length bytes ≡ f.length) × (is_whole w ≡ true)) ⊎ ((length bytes ≢ f.length) × (w ≡ file.WrongLength))

pub record HasVerdict (t : Description) (f : FileEntry) (bytes : List ℕ) : Type 0 where
  pub verdict : FileVerdict
  pub is : IsVerdict t f (Some bytes) verdict
  pub by_length : IsByLength f bytes verdict

pub verdict_there : (t : Description) (n : ℕ) (f : FileEntry) (bytes : List ℕ) → IsSound t → slice_get t.files n ≡ Some f → HasVerdict t f bytes
verdict_there t n f bytes sound there = elim (cases_eq (length bytes) f.length) [
  | inr other ↦ record { verdict = file.WrongLength; is = (bytes, refl, other); by_length = inr (other, refl) }
  | inl len ↦
      let found = find_first (IsPieceGood t f bytes) (good_or_not t f bytes) (piece_count t f) in
      by_first len found.bad found.first
]
  where
    by_first : length bytes ≡ f.length → (bad : Option ℕ) → IsFirstBadNumber 0 (piece_count t f) (IsPieceGood t f bytes) bad → HasVerdict t f bytes
    by_first len None all = record {
      verdict = file.Good;
      is = (
        bytes,
        refl,
        good_by_root t n f bytes sound there len
            (λ e is. root_from_pieces t n f e bytes sound there is len (λ k lt. all k (omega arith) lt)),
      );
      by_length = inl (len, refl);
    }
    by_first len (Some k) first =
        let some : 0 < f.length = omega (arith, in_pieces t.piece_length k f.length (pieces_are_positive t sound) first.1) in
        let tree = tree_of_file t n f sound there some in
        elim (same_or_not (root_of bytes) tree.0.root) [
          | inl same ↦ record {
            verdict = file.Good;
            is = (
              bytes,
              refl,
              good_by_root t n f bytes sound there len
                  (λ e is. same ∙ ap (λ (d : TreeEntry). d.root) (same_Some tree.0 e (sym tree.1 ∙ is))),
            );
            by_length = inl (len, refl);
          }
          | inr other ↦ record {
            verdict = file.Bad (f.first_piece + k);
            is = (
              bytes,
              refl,
              record {
                tree = tree.0;
                tree_is = tree.1;
                length_is = len;
                root_differs = other;
                place = k;
                place_is = refl;
                first = first_bad_piece t n f tree.0 bytes k sound there tree.1 first.1 (λ j lt. first.3 j (omega arith) lt) first.2;
              },
            );
            by_length = inl (len, refl);
          }
        ]
