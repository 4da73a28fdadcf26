-- A draft of no files.
use Rattle.std.proofs.Common.{◌≡◌, Bool, refl, ap, ℕ, ◌<◌, ◌^◌, List, [], map, Some, slice_get, sym, subst, arith}
use Rattle.std.specs.Cmp.Lexicographic.{slice_cmp}
use Rattle.std.specs.List.Sorted.{IsStrictlySortedBy}
use Rattle.std.specs.Ordering.{nat_cmp}
use Rattle.std.specs.Str.{IsUtf8}
use Rattle.std.specs.Map.{keys_of}
use Rattle.drafts.specs.DraftSeen.{Entries, IsDraftKept, kept_at, outline, outline_file, outline_layers}
use Rattle.drafts.specs.declared.draft.DraftFile.{DraftFile}
use Rattle.drafts.specs.declared.draft.KeptRoot.{KeptRoot}
use Rattle.drafts.specs.Outline.{IsOutline, Outline, OutlineFile, OutlineLayer, listed_file}
use Rattle.filetree.specs.Paths.{AreInOrder}
use Rattle.opening.specs.Trees.{pieces_in}
use Rattle.pieces.specs.Pieces.{IsPieceLength}

nothing : {A : Type 0} (n : ℕ) (x : A) → slice_get [] n ≡ Some x → ⊥
nothing n x e = cc

none_at : {A : Type 0} (xs : List A) (n : ℕ) (x : A) → xs ≡ [] → slice_get xs n ≡ Some x → ⊥
none_at xs n x none at = nothing n x (subst (λ ys. slice_get ys n ≡ Some x) none at)

pub empty_is_outline : (d : Outline) → IsUtf8 d.name → IsPieceLength d.piece_length → d.files ≡ [] → d.layers ≡ [] → IsOutline d
unfolding IsStrictlySortedBy
empty_is_outline d name legal files layers = record {
  name = name;
  legal = legal;
  files = λ n f at. absurd (none_at d.files n f files at);
  cuts = λ n f at hybrid some. absurd (none_at d.files n f files at);
  in_order = subst (λ (fs : List OutlineFile). AreInOrder (map (λ (f : OutlineFile). f.path) fs)) (sym files) tt;
  one_length = λ m n f g at_f at_g some other root. absurd (none_at d.files m f files at_f);
  pieces = subst (λ (fs : List OutlineFile). pieces_in d.piece_length (map listed_file fs) < 2 ^ 32) (sym files) (omega arith);
  layers_ascend = subst (λ (es : List OutlineLayer). IsStrictlySortedBy (slice_cmp nat_cmp) (map (λ (e : OutlineLayer). e.root) es)) (sym layers) tt;
  layers_there = λ n f at long. absurd (none_at d.files n f files at);
  layers_used = λ n e at. absurd (none_at d.layers n e layers at);
}

pub empty_is_kept : (name : List ℕ) (p : ℕ) (hybrid : Bool) (fs : List DraftFile) (es : Entries) → IsUtf8 name → IsPieceLength p → fs ≡ [] → es ≡ []
    → IsDraftKept name p hybrid fs es 0
unfolding IsStrictlySortedBy
empty_is_kept name p hybrid fs es utf8 legal files entries = record {
  outline_is = empty_is_outline (outline name p hybrid fs es) utf8 legal (ap (map outline_file) files) (ap (outline_layers p) entries);
  roots = record {
    ordered = subst (λ (xs : Entries). IsStrictlySortedBy (slice_cmp nat_cmp) (keys_of xs)) (sym entries) tt;
    each = λ n f at some. absurd (none_at (map outline_file fs) n f (ap (map outline_file) files) at);
    used = λ root kept at. absurd (nothing_kept root kept (subst (λ (xs : Entries). kept_at root xs ≡ Some kept) entries at));
  };
  pieces_are = subst (λ (xs : List DraftFile). 0 ≡ pieces_in p (map listed_file (map outline_file xs))) (sym files) refl;
}
  where
    nothing_kept : (root : List ℕ) (kept : KeptRoot) → kept_at root [] ≡ Some kept → ⊥
    nothing_kept root kept e = cc
