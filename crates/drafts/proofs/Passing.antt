-- The tests of a file that is added.
use Rattle.std.proofs.Common.{◌≡◌, inl, inr, Bool, true, false, ◌&&◌, length, ℕ, zero, suc, [], ◌∷◌, ◌+◌, ◌^◌, ◌<◌, ◌≤◌, List, map, Some, slice_get, refl, ap}
use Rattle.std.proofs.Common.{◌∙◌, arith}
use Rattle.std.proofs.lemmas.Option.{slice_get-map, same_Some}
use Rattle.std.specs.List.{All}
use Rattle.std.specs.Prelude.{if◌then◌else◌, nat_lt, option_map, Result, Ok, Err, IfErr, OnErr, OnOk}
use Rattle.filetree.specs.Paths.{IsFilePath, path_cmp}
use Rattle.filetree.specs.Tests.{First, NoneHolds}
use Rattle.filetree.specs.declared.refusal.Refusal.{Refusal}
use Rattle.filetree.specs.declared.refusal.Refusal.TheVariants as refusals
use Rattle.pieces.specs.Pieces.{pieces_of}
use Rattle.pieces.specs.declared.v1_cuts.V1File.{V1File}
use Rattle.drafts.specs.Adding.{Adds, Clashes, IsGiven, IsWith, MayAdd, ReusesRoot, given_file, add_rows, pieces_in_all}
use Rattle.drafts.specs.Orders.{IsPlaceOf, Ties}
use Rattle.drafts.specs.Outline.{AreOfLength, Outline, OutlineFile}
use Rattle.drafts.proofs.Ordering.{begins_tie, no_clash, tie_begins}

abbrev pub paths_in : Outline → List (List (List ℕ))
paths_in d = map (λ (f : OutlineFile). f.path) d.files

-- what the tests before that of the path's place leave
pub record Passed (d : Outline) (f : OutlineFile) : Type 0 where
  pub path : IsFilePath f.path
  pub bound : f.length ≤ 2 ^ 46
  pub root : ReusesRoot d f.length f.root → ⊥
  pub pieces : pieces_in_all d + pieces_of d.piece_length f.length < 2 ^ 32

pub none_holds : (d : Outline) (f : OutlineFile) (place : ℕ) → Passed d f → IsPlaceOf f.path (paths_in d) place → NoneHolds (add_rows d f)
none_holds d f place passed at = (
  λ no. no passed.path,
  (λ more. omega (arith, more, passed.bound), (passed.root, (λ many. omega (arith, many, passed.pieces), (λ clash. apart clash, tt)))),
)
  where
    apart : Clashes d f.path → ⊥
    apart clash = no_clash f.path place (paths_in d) at clash.number clash.other.path
        (slice_get-map (λ (g : OutlineFile). g.path) d.files clash.number ∙ ap (option_map (λ (g : OutlineFile). g.path)) clash.there)
        (begins_tie clash.other.path f.path clash.begins)

of_path : (fs : List OutlineFile) (n : ℕ) (path : List (List ℕ)) → slice_get (map (λ (g : OutlineFile). g.path) fs) n ≡ Some path
    → (g : OutlineFile) × (slice_get fs n ≡ Some g) × (g.path ≡ path)
of_path [] n path at = cc
of_path (f ∷ fs) zero path at = (f, refl, same_Some f.path path at)
of_path (f ∷ fs) (suc n) path at = of_path fs n path at

pub clash_first : (d : Outline) (f : OutlineFile) → Passed d f → Ties f.path (paths_in d) → First (add_rows d f) refusals.PathClash
clash_first d f passed tie =
    let found = of_path d.files tie.number tie.other tie.there in
    let clash : Clashes d f.path = record {
      number = tie.number;
      other = found.0;
      there = found.1;
      begins = tie_begins found.0.path f.path (ap (λ p. path_cmp p f.path) found.2 ∙ tie.tie);
    } in
    inr (
      λ no. no passed.path,
      inr (λ more. omega (arith, more, passed.bound), inr (passed.root, inr (λ many. omega (arith, many, passed.pieces), inl (clash, refl)))),
    )

-- what is given of a file fits, since digests have their lengths
pub lengths_are : (width : ℕ) (hs : List (List ℕ)) → All (λ h. length h ≡ width) hs → AreOfLength width hs
lengths_are width [] all = tt
lengths_are width (h ∷ hs) all = (all 0 h (omega arith), lengths_are width hs (λ i d low. all (suc i) d (omega arith)))

pub fits_given : (d : Outline) (path : List (List ℕ)) (n : ℕ) (root : List ℕ) (v1 : V1File) (layer : List (List ℕ)) → length root ≡ 32
    → All (λ h. length h ≡ 20) v1.cuts.items → length v1.padded ≡ 20
    → MayAdd d (given_file d path n root v1) layer → IsGiven d (given_file d path n root v1) layer
fits_given d path n root v1 layer root_length cut_lengths padded_length may = record {
  root_length = λ _. root_length;
  cut_lengths = chosen (d.hybrid && nat_lt 0 n);
  padded_length = padded_length;
  may = may;
}
  where
    chosen : (b : Bool) → AreOfLength 20 (if b then v1.cuts.items else [])
    chosen true = lengths_are 20 v1.cuts.items cut_lengths
    chosen false = tt

-- ---- what comes of adding it

pub answers : (d e : Outline) (f : OutlineFile) (layer : List (List ℕ)) (r : Result (Unit {0}) Refusal) → NoneHolds (add_rows d f) → OnOk r (IsWith d e f layer)
    → IfErr r (λ x. x ≡ refusals.NoMemory) → OnErr r (e ≡ d) → Adds d f layer e r
answers d e f layer (Ok x) none with_it memory same = record { added = (none, with_it); memory = tt; unchanged = tt }
answers d e f layer (Err x) none with_it memory same = record { added = λ other. absurd (other memory); memory = λ _. none; unchanged = same }

-- the answer of the first test that holds
pub refuses : (d : Outline) (f : OutlineFile) (layer : List (List ℕ)) (r x : Refusal) (result : Result (Unit {0}) Refusal) → result ≡ Err x → x ≡ r
    → (r ≡ refusals.NoMemory → ⊥) → First (add_rows d f) r → Adds d f layer d result
refuses d f layer r x result is same other first =
    rw (is, same) (record { added = λ _. first; memory = λ memory. absurd (other memory); unchanged = refl })

pub clashes : (d : Outline) (f : OutlineFile) (layer : List (List ℕ)) → Passed d f → Ties f.path (paths_in d) → Adds d f layer d (Err refusals.PathClash)
clashes d f layer passed tie = record { added = λ _. clash_first d f passed tie; memory = λ is. absurd cc; unchanged = refl }
