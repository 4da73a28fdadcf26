-- What a draft is given of a file of an opened torrent: the layer leads to the root.
use Rattle.std.proofs.Common.{◌≡◌, ℕ, suc, ◌<◌, List, [], ◌∷◌, length, map, get_or, Some, option_map, refl, sym, ◌∙◌, ap, subst}
use Rattle.std.specs.Prelude.{slice_get}
use Rattle.std.proofs.lemmas.Option.{slice_get-get_or, slice_get-map}
use Rattle.drafts.specs.Adding.{FitsLayer}
use Rattle.drafts.specs.Outline.{AreOfLength, Outline, OutlineFile}
use Rattle.opening.specs.Description.{Description, TreeEntry}
use Rattle.opening.specs.PieceLayers.{leads_to}
use Rattle.pieces.specs.Pieces.{pieces_of}
use Rattle.opening.specs.Seen.{tree_entry}
use Rattle.opening.specs.Sound.{IsSound, IsSoundTree}
use Rattle.opening.specs.declared.torrent.TreeInfo.{TreeInfo}

pub sound_at : (t : Description) (trees : List TreeInfo) (i : ℕ) (x : TreeInfo) → map tree_entry trees ≡ t.trees → IsSound t → i < length trees
    → IsSoundTree t.piece_length (tree_entry (get_or trees i x))
sound_at t trees i x are sound inside =
    sound.trees i (tree_entry (get_or trees i x))
    (ap (λ l. slice_get l i) (sym are) ∙ slice_get-map tree_entry trees i ∙ ap (option_map tree_entry) (slice_get-get_or trees i x inside))

lengths_are : (width : ℕ) (hs : List (List ℕ)) → ((i : ℕ) (h : List ℕ) → slice_get hs i ≡ Some h → length h ≡ width) → AreOfLength width hs
lengths_are width [] all = tt
lengths_are width (h ∷ hs) all = (all 0 h refl, lengths_are width hs (λ i d there. all (suc i) d there))

pub fits_layer : (d : Outline) (f : OutlineFile) (t : TreeEntry) (p : ℕ) → f.length ≡ t.length → f.root ≡ t.root → d.piece_length ≡ p
    → (p < t.length → IsSoundTree p t) → FitsLayer d f t.layer
fits_layer d f t p size root same sound longer =
    let over : d.piece_length < t.length = subst (λ n. d.piece_length < n) size longer in
    let s : IsSoundTree d.piece_length t = subst (λ k. IsSoundTree k t) (sym same) (sound (subst (λ k. k < t.length) same over)) in
    record {
      root = refl;
      count = s.layer_length over ∙ ap (pieces_of d.piece_length) (sym size);
      hash_lengths = lengths_are 32 t.layer s.hash_lengths;
      leads = ap (λ n. leads_to d.piece_length (record { root = f.root; length = n }) t.layer) size ∙ s.layer_root over ∙ sym root;
    }
