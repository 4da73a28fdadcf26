-- The list of files: one entry for each, where its first piece is the number of pieces before it.
use Rattle.std.proofs.Common.{◌≡◌, ℕ, zero, suc, ◌+◌, ◌^◌, ◌<◌, List, [], ◌∷◌, length, take, map, Some, refl, sym, ap, subst, ◌∙◌, arith, slice_get, sum_by}
use Rattle.std.proofs.Common.{add-zero, zero-add}
use Rattle.std.specs.Prelude.{option_and_then}
use Rattle.std.proofs.lemmas.List.Sums.{sum_by-cons}
use Rattle.opening.specs.Description.{FileEntry}
use Rattle.filetree.specs.declared.files.ListedFile.{ListedFile}
use Rattle.opening.specs.Matching.{named_entry}
use Rattle.opening.specs.Places.{AreLaidOut}
use Rattle.opening.specs.Trees.{entries_from}
use Rattle.opening.specs.Stream.{named}
use Rattle.opening.specs.Trees.{AreFiles, place_in, pieces_in, roots_in}
use Rattle.opening.specs.declared.roots.Root.{Root}
use Rattle.pieces.specs.Pieces.{pieces_of}

entries_count : (p : ℕ) (ts : List Root) (first : ℕ) (fs : List ListedFile) → length (entries_from p ts first fs) ≡ length fs
entries_count p ts first [] = refl
entries_count p ts first (f ∷ fs) = ap suc (entries_count p ts (first + pieces_of p f.length) fs)

abbrev pub entry : List Root → ℕ → ListedFile → FileEntry
entry ts first f = record { path = f.path; length = f.length; tree = option_and_then (place_in ts) f.root; first_piece = first }

entries_at : (p : ℕ) (ts : List Root) (first : ℕ) (fs : List ListedFile) (k : ℕ) (f : ListedFile) → slice_get fs k ≡ Some f
    → slice_get (entries_from p ts first fs) k ≡ Some (entry ts (first + pieces_in p (take k fs)) f)
entries_at p ts first [] k f at = cc
entries_at p ts first (g ∷ fs) zero f at =
    let same : g ≡ f = cc in
    ap (λ (h : ListedFile). Some (entry ts first h)) same ∙ ap (λ n. Some (entry ts n f)) (sym (add-zero first))
entries_at p ts first (g ∷ fs) (suc k) f at =
    let later = entries_at p ts (first + pieces_of p g.length) fs k f at in
    let sum : (first + pieces_of p g.length) + pieces_in p (take k fs) ≡ first + pieces_in p (g ∷ take k fs) =
    omega (arith, sum_by-cons (λ (h : ListedFile). pieces_of p h.length) g (take k fs)) in
    later ∙ ap (λ n. Some (entry ts n f)) sum

pub are_files : (p : ℕ) (fs : List ListedFile) (es : List FileEntry) → es ≡ entries_from p (roots_in fs) 0 fs → AreFiles p fs es
are_files p fs es is = record {
  count = ap length is ∙ entries_count p (roots_in fs) 0 fs;
  each = λ k f at. ap (λ t. slice_get t k) is ∙ entries_at p (roots_in fs) 0 fs k f at
      ∙ ap (λ n. Some (entry (roots_in fs) n f)) (zero-add (pieces_in p (take k fs)));
}

pub named_entries : (p : ℕ) (ts : List Root) (first : ℕ) (fs : List ListedFile) → map named_entry (entries_from p ts first fs) ≡ map named fs
named_entries p ts first [] = refl
named_entries p ts first (f ∷ fs) = ap (λ t. named f ∷ t) (named_entries p ts (first + pieces_of p f.length) fs)

sum_entries : (p : ℕ) (ts : List Root) (first k : ℕ) (fs : List ListedFile)
    → sum_by (λ (g : FileEntry). pieces_of p g.length) (take k (entries_from p ts first fs)) ≡ pieces_in p (take k fs)
sum_entries p ts first zero fs = refl
sum_entries p ts first (suc k) [] = refl
sum_entries p ts first (suc k) (f ∷ fs) =
    sum_by-cons (λ (g : FileEntry). pieces_of p g.length) (entry ts first f) (take k (entries_from p ts (first + pieces_of p f.length) fs))
    ∙ ap (λ n. pieces_of p f.length + n) (sum_entries p ts (first + pieces_of p f.length) k fs)
    ∙ sym (sum_by-cons (λ (g : ListedFile). pieces_of p g.length) f (take k fs))

pub sum_all : (p : ℕ) (ts : List Root) (first : ℕ) (fs : List ListedFile)
    → sum_by (λ (g : FileEntry). pieces_of p g.length) (entries_from p ts first fs) ≡ pieces_in p fs
sum_all p ts first [] = refl
sum_all p ts first (f ∷ fs) =
    sum_by-cons (λ (g : FileEntry). pieces_of p g.length) (entry ts first f) (entries_from p ts (first + pieces_of p f.length) fs)
    ∙ ap (λ n. pieces_of p f.length + n) (sum_all p ts (first + pieces_of p f.length) fs)
    ∙ sym (sum_by-cons (λ (g : ListedFile). pieces_of p g.length) f fs)

entries_first : (p : ℕ) (ts : List Root) (first : ℕ) (fs : List ListedFile) (k : ℕ) (e : FileEntry) → slice_get (entries_from p ts first fs) k ≡ Some e
    → e.first_piece ≡ first + pieces_in p (take k fs)
entries_first p ts first [] k e at = cc
entries_first p ts first (f ∷ fs) zero e at =
    let same : entry ts first f ≡ e = cc in
    ap (λ (x : FileEntry). x.first_piece) (sym same) ∙ sym (add-zero first)
entries_first p ts first (f ∷ fs) (suc k) e at =
    let later = entries_first p ts (first + pieces_of p f.length) fs k e at in
    omega (arith, later, sum_by-cons (λ (h : ListedFile). pieces_of p h.length) f (take k fs))

pub entries_back : (p : ℕ) (ts : List Root) (first : ℕ) (fs : List ListedFile) (k : ℕ) (e : FileEntry) → slice_get (entries_from p ts first fs) k ≡ Some e
    → (f : ListedFile) × (n : ℕ) × (slice_get fs k ≡ Some f) × (entry ts n f ≡ e)
entries_back p ts first [] k e at = cc
entries_back p ts first (f ∷ fs) zero e at = let same : entry ts first f ≡ e = cc in (f, first, refl, same)
entries_back p ts first (f ∷ fs) (suc k) e at = entries_back p ts (first + pieces_of p f.length) fs k e at

pub laid_out : (p : ℕ) (ts : List Root) (fs : List ListedFile) → pieces_in p fs < 2 ^ 32 → AreLaidOut p (entries_from p ts 0 fs)
laid_out p ts fs few = record {
  first_pieces = λ k f at. entries_first p ts 0 fs k f at ∙ zero-add (pieces_in p (take k fs)) ∙ sym (sum_entries p ts 0 k fs);
  pieces = subst (λ n. n < 2 ^ 32) (sym (sum_all p ts 0 fs)) few;
}
