-- The files of a draft's torrent beside their contents.
use Rattle.std.proofs.Common.{◌≡◌, ℕ, zero, suc, ◌+◌, Bool, List, [], ◌∷◌, ◌++◌, length, map, Option, Some, None, slice_get, inl, inr, refl, sym, ap}
use Rattle.std.proofs.Common.{subst, ◌∙◌, arith}
use Rattle.std.specs.List.{fold}
use Rattle.std.specs.Prelude.{option_and_then}
use Rattle.chains.proofs.Cases.{some_or_none}
use Rattle.drafts.specs.Outline.{OutlineFile, listed_file}
use Rattle.filetree.specs.declared.files.ListedFile.{ListedFile}
use Rattle.opening.proofs.Rooting.{place_push_new, place_push_there, with_cases}
use Rattle.opening.specs.Description.{FileEntry}
use Rattle.opening.specs.Rooted.{entries_from}
use Rattle.opening.specs.Trees.{place_in, with_file, with_root}
use Rattle.opening.specs.declared.roots.Root.{Root}
use Rattle.pieces.specs.Pieces.{pieces_of}
use Rattle.round_trips.proofs.Made.{AreMade, Made, starts}

module _ (p : ℕ) (hybrid : Bool) (under : List (List ℕ) → Option (Option (List ℕ))) where
  -- a file of the torrent, the draft's file that it is, and the content of that
  pub record EntryOf (ts : List Root) (first : ℕ) (fs : List OutlineFile) (cs : List (List ℕ)) (n : ℕ) (e : FileEntry) : Type 0 where
    pub file : OutlineFile
    pub content : List ℕ
    pub file_there : slice_get fs n ≡ Some file
    pub there : slice_get cs n ≡ Some content
    pub made : Made p hybrid under file content
    pub path : e.path ≡ file.path
    pub length_is : e.length ≡ file.length
    pub tree : e.tree ≡ option_and_then (place_in ts) (listed_file file).root
    pub first_piece : e.first_piece ≡ first + starts p cs n

  pub entry_of : (ts : List Root) (first : ℕ) (fs : List OutlineFile) (cs : List (List ℕ)) (n : ℕ) (e : FileEntry) → AreMade p hybrid under fs cs
      → slice_get (entries_from p ts first (map listed_file fs)) n ≡ Some e → EntryOf ts first fs cs n e
  entry_of ts first [] cs n e all at = cc
  entry_of ts first (f ∷ fs) [] n e all at = absurd all
  entry_of ts first (f ∷ fs) (c ∷ cs) zero e all at =
      let x : FileEntry = record { path = f.path; length = f.length; tree = option_and_then (place_in ts) (listed_file f).root; first_piece = first } in
      let same : e ≡ x = cc in
      let bare : first ≡ first + 0 = omega arith in
      record {
        file = f;
        content = c;
        file_there = refl;
        there = refl;
        made = all.0;
        path = ap (λ (y : FileEntry). y.path) same;
        length_is = ap (λ (y : FileEntry). y.length) same;
        tree = ap (λ (y : FileEntry). y.tree) same;
        first_piece = ap (λ (y : FileEntry). y.first_piece) same ∙ bare;
      }
  entry_of ts first (f ∷ fs) (c ∷ cs) (suc n) e all at =
      let later = entry_of ts (first + pieces_of p f.length) fs cs n e all.1 at in
      let size = ap (pieces_of p) all.0.length_is in
      let from = later.first_piece in
      record {
        file = later.file;
        content = later.content;
        file_there = later.file_there;
        there = later.there;
        made = later.made;
        path = later.path;
        length_is = later.length_is;
        tree = later.tree;
        first_piece = omega (arith, from, size);
      }

  -- each content is one of a file of the torrent
  pub entry_there : (ts : List Root) (first : ℕ) (fs : List OutlineFile) (cs : List (List ℕ)) (n : ℕ) (c : List ℕ) → AreMade p hybrid under fs cs
      → slice_get cs n ≡ Some c
      → (e : FileEntry) × (slice_get (entries_from p ts first (map listed_file fs)) n ≡ Some e)
  entry_there ts first fs [] n c all at = cc
  entry_there ts first [] (x ∷ cs) n c all at = absurd all
  entry_there ts first (f ∷ fs) (x ∷ cs) zero c all at = (
    record {
      path = f.path;
      length = f.length;
      tree = option_and_then (place_in ts) (listed_file f).root;
      first_piece = first;
    },
    refl,
  )
  entry_there ts first (f ∷ fs) (x ∷ cs) (suc n) c all at = entry_there ts (first + pieces_of p f.length) fs cs n c all.1 at

-- ---- each root of a file is among the roots

abbrev IsRootPlaced : List Root → List ℕ → Type 0
IsRootPlaced ts s = (k : ℕ) × (place_in ts s ≡ Some k)

keeps_one : (ts : List Root) (n : ℕ) (o : Option (List ℕ)) (s : List ℕ) → IsRootPlaced ts s → IsRootPlaced (with_root ts n o) s
keeps_one ts n None s there = there
keeps_one ts n (Some r) s there =
    elim (with_cases ts n r) [
      | inl same ↦ subst (λ us. IsRootPlaced us s) (sym same) there
      | inr new ↦ subst (λ us. IsRootPlaced us s) (sym new.1) (there.0, place_push_there ts (record { root = r; length = n }) s there.0 there.1)
    ]

keeps_all : (ts : List Root) (fs : List ListedFile) (s : List ℕ) → IsRootPlaced ts s → IsRootPlaced (fold with_file ts fs) s
keeps_all ts [] s there = there
keeps_all ts (f ∷ fs) s there = keeps_all (with_file ts f) fs s (keeps_one ts f.length f.root s there)

placed_here : (ts : List Root) (n : ℕ) (s : List ℕ) → IsRootPlaced (with_root ts n (Some s)) s
placed_here ts n s =
    elim (some_or_none (place_in ts s)) [
      | inr none ↦
          let r : Root = record { root = s; length = n } in
          let new : with_root ts n (Some s) ≡ ts ++ r ∷ [] = rw none refl in
          subst (λ us. IsRootPlaced us s) (sym new) (length ts, place_push_new ts r s none refl)
      | inl there ↦ keeps_one ts n (Some s) s there
    ]

pub root_placed : (ts : List Root) (fs : List ListedFile) (n : ℕ) (f : ListedFile) (s : List ℕ) → slice_get fs n ≡ Some f → f.root ≡ Some s
    → IsRootPlaced (fold with_file ts fs) s
root_placed ts [] n f s at root = cc
root_placed ts (x ∷ fs) zero f s at root =
    let same : x ≡ f = cc in
    let own : x.root ≡ Some s = ap (λ (y : ListedFile). y.root) same ∙ root in
    keeps_all (with_file ts x) fs s (subst (λ o. IsRootPlaced (with_root ts x.length o) s) (sym own) (placed_here ts x.length s))
root_placed ts (x ∷ fs) (suc n) f s at root = root_placed (with_file ts x) fs n f s at root
