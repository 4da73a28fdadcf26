-- What a search of a draft's files by a path finds.
use Rattle.std.proofs.Common.{◌≡◌, ℕ, zero, suc, ◌<◌, ◌≤◌, List, [], ◌∷◌, length, map, take, drop, get_or, Some, Result, Ok, Err, slice_get, inl, inr, refl, ap}
use Rattle.std.proofs.Common.{subst, arith}
use Rattle.std.proofs.lemmas.Option.{get_or_from_slice_get, slice_get-get_or, slice_get_cases, slice_get_within}
use Rattle.std.specs.List.{AllByRecursion}
use Rattle.std.specs.List.Sorted.{IsBinarySearchResult, IsNonDecreasingBy, IsSearchInRange}
use Rattle.std.specs.Ordering.{ordering_index}
use Rattle.std.specs.Prelude.{MatchOption}
use Rattle.std.specs.Result.{result_err}
use Rattle.std.specs.String.{string_bytes}
use Rattle.std.specs.declared.cmp.Ordering.{Ordering}
use Rattle.std.specs.declared.cmp.Ordering.TheVariants.{Less, Equal, Greater}
use Rattle.drafts.proofs.Ordering.{le_apart, rises}
use Rattle.drafts.specs.DraftSeen.{outline_file}
use Rattle.drafts.specs.Orders.{IsPlaceOf, Ties}
use Rattle.drafts.specs.Outline.{OutlineFile}
use Rattle.filetree.proofs.PathOrder.{order_at}
use Rattle.filetree.specs.Paths.{AreInOrder, path_cmp}
use Rattle.drafts.specs.declared.draft.DraftFile.{DraftFile}

-- ---- what a search of files by a path finds

abbrev pub path_in : DraftFile → List (List ℕ)
path_in f = map string_bytes f.path.items

abbrev pub paths_in : List DraftFile → List (List (List ℕ))
paths_in fs = map (λ (f : OutlineFile). f.path) (map outline_file fs)

path_at : (fs : List DraftFile) (n : ℕ) (f : DraftFile) → slice_get fs n ≡ Some f → slice_get (paths_in fs) n ≡ Some (path_in f)
path_at [] n f at = cc
path_at (g ∷ fs) zero f at = let same : g ≡ f = cc in ap (λ (x : DraftFile). Some (path_in x)) same
path_at (g ∷ fs) (suc n) f at = path_at fs n f at

get_path : (fs : List DraftFile) (n : ℕ) (d : DraftFile) → n < length fs → slice_get (paths_in fs) n ≡ Some (path_in (get_or fs n d))
get_path fs n d within = path_at fs n (get_or fs n d) (slice_get-get_or fs n d within)

files_rise : (p : List (List ℕ)) (fs : List DraftFile) → AreInOrder (paths_in fs)
    → IsNonDecreasingBy (λ (f : DraftFile). ordering_index (path_cmp (path_in f) p)) fs
files_rise p fs order i j d le within =
    elim (le_apart i j le) [
      | inl same ↦ rw same (omega arith)
      | inr less ↦ rises p (path_in (get_or fs i d)) (path_in (get_or fs j d)) (order_at (paths_in fs) i j (path_in (get_or fs i d)) (path_in (get_or fs j d))
          order less (get_path fs i d (omega arith)) (get_path fs j d within))
    ]

all_below : (o : Ordering) (p : List (List ℕ)) (i : ℕ) (fs : List DraftFile) → ((k : ℕ) (f : DraftFile) → k < i → slice_get fs k ≡ Some f
    → path_cmp (path_in f) p ≡ o) → AllByRecursion (λ q. path_cmp q p ≡ o) (take i (paths_in fs))
all_below o p zero fs each = tt
all_below o p (suc i) [] each = tt
all_below o p (suc i) (f ∷ fs) each = (each 0 f (omega arith) refl, all_below o p i fs (λ k g less at. each (suc k) g (omega arith) at))

all_above : (o : Ordering) (p : List (List ℕ)) (i : ℕ) (fs : List DraftFile) → ((k : ℕ) (f : DraftFile) → i ≤ k → slice_get fs k ≡ Some f
    → path_cmp (path_in f) p ≡ o) → AllByRecursion (λ q. path_cmp q p ≡ o) (drop i (paths_in fs))
all_above o p zero [] each = tt
all_above o p zero (f ∷ fs) each = (each 0 f (omega arith) refl, all_above o p zero fs (λ k g le at. each (suc k) g (omega arith) at))
all_above o p (suc i) [] each = tt
all_above o p (suc i) (f ∷ fs) each = all_above o p i fs (λ k g le at. each (suc k) g (omega arith) at)

pub place_found : (p : List (List ℕ)) (fs : List DraftFile) (r : Result ℕ ℕ) → AreInOrder (paths_in fs) → IsSearchInRange r (length fs)
    → IsBinarySearchResult (λ (f : DraftFile). path_cmp (path_in f) p) fs r
    → MatchOption (result_err r) (Ties p (paths_in fs)) (λ i. IsPlaceOf p (paths_in fs) i)
place_found p fs (Ok k) order range found =
    elim ((slice_get_cases fs k).1) [
      | inl there ↦ record {
        number = k;
        other = path_in there.0;
        there = path_at fs k there.0 there.2;
        tie =
            subst (λ (f : DraftFile). path_cmp (path_in f) p ≡ Equal) there.3 (found there.0);
      }
      | inr past ↦ absurd (let le = past.0 in omega (arith, range, le))
    ]
place_found p fs (Err i) order range found =
    let parts = found (files_rise p fs order) in
    record {
      below = all_below Less p i fs (λ k f less at. subst (λ (x : DraftFile). path_cmp (path_in x) p ≡ Less) (get_or_from_slice_get fs k f f at)
          (parts.0 k f (omega arith) less));
      above = all_above Greater p i fs (λ k f le at. subst (λ (x : DraftFile). path_cmp (path_in x) p ≡ Greater) (get_or_from_slice_get fs k f f at)
          (parts.1 k f le (slice_get_within fs k f at)));
    }
