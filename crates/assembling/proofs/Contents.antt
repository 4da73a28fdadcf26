-- What a draft is given of a content that all parts say.
use Rattle.std.proofs.Common.{◌≡◌, ◌≢◌, inl, inr, ℕ, ◌<◌, ◌≤◌, ◌^◌, Bool, true, false, ◌&&◌, cond, List, [], length, slice_get, refl, sym, ◌∙◌, ap, subst}
use Rattle.std.proofs.Common.{arith}
use Rattle.std.specs.Prelude.{nat_lt, Result, Err}
use Rattle.std.proofs.lemmas.Bool.{cases_lt, ltb-true}
use Rattle.std.proofs.lemmas.Option.{same_Some}
use Rattle.drafts.specs.Adding.{IsWith, add_rows, given_file, with_layer}
use Rattle.drafts.specs.Outline.{Outline, OutlineFile}
use Rattle.filetree.specs.Tests.{First, NoneHolds}
use Rattle.filetree.specs.declared.refusal.Refusal.{Refusal}
use Rattle.filetree.specs.declared.refusal.Refusal.TheVariants as refusals
use Rattle.folders.proofs.Layers.{layer_is_low}
use Rattle.gathering.specs.Gathered.{DraftAdds, IsDraftFile, piece_hashes}
use Rattle.hashtree.proofs.Leading.{layers_lead_to_root}
use Rattle.hashtree.specs.Tree.{block_count, height, root_of, root_over}
use Rattle.opening.specs.PieceLayers.{piece_layer}
use Rattle.part_texts.specs.Listings.{Listed}
use Rattle.pieces.specs.Cuts.{cut_digests}
use Rattle.assembling.specs.Adding.{AddsContent, IsRefusal}
use Rattle.assembling.specs.Taking.{IsOfContent}
use Rattle.assembling.specs.declared.one_file.FileFault.{FileFault}
use Rattle.assembling.specs.Whole.{IsWhole}
use Rattle.assembling.specs.declared.rows.FileRows.{FileRows}

chosen : (h b : Bool) (xs ys : List (List ℕ)) → (h ≡ true → b ≡ true → xs ≡ ys) → cond (h && b) xs [] ≡ cond (h && b) ys []
chosen true true xs ys same = same refl refl
chosen true false xs ys same = refl
chosen false b xs ys same = refl

-- the root over what all parts say is the content's
pub root_is : (p n : ℕ) (hybrid : Bool) (c : List ℕ) (rows : FileRows) (root : List ℕ) → IsWhole p hybrid n rows root → IsOfContent p hybrid c rows
    → length c ≡ n
    → 0 < length c → root ≡ root_of c
root_is p n hybrid c rows root whole is size some = elim (cases_lt p n) [
  | inl over ↦
      let longer : p < length c = omega (arith, over, size) in
      whole.leads over
      ∙ ap (λ k. root_over (height (block_count k)) (piece_layer p) rows.nodes.items) (sym size)
      ∙ ap (root_over (height (block_count (length c))) (piece_layer p)) (is.many longer)
      ∙ layers_lead_to_root c (piece_layer p) (layer_is_low p (length c) (omega (arith, longer)))
  | inr within ↦
      same_Some root (root_of c)
      (sym (whole.only (omega (arith, some, size)) within) ∙ ap (λ ns. slice_get ns 0) (is.one some (omega (arith, within, size))))
]

-- what is given is the file of the content
pub content_given : (d : Outline) (path : List (List ℕ)) (n : ℕ) (c root : List ℕ) (rows : FileRows) → IsWhole d.piece_length d.hybrid n rows root
    → IsOfContent d.piece_length d.hybrid c rows → length c ≡ n → IsDraftFile d.piece_length d.hybrid path c (given_file d path n root rows.v1)
content_given d path n c root rows whole is size = record {
  path_is = refl;
  length_is = sym size;
  root_is = λ some. root_is d.piece_length n d.hybrid c rows root whole is size some;
  cuts_are = ap (λ k. cond (d.hybrid && nat_lt 0 k) rows.v1.cuts.items []) (sym size)
      ∙ chosen d.hybrid (nat_lt 0 (length c)) rows.v1.cuts.items (cut_digests d.piece_length c)
      (λ both some. (is.v1 both (ltb-true 0 (length c) some)).cuts);
  padded_is = λ both some. (is.v1 both some).padded some;
}

-- a layer is kept only of a file that is longer than a piece
pub with_layer_of : (d e : Outline) (f : OutlineFile) (xs ys : List (List ℕ)) → (d.piece_length < f.length → xs ≡ ys) → IsWith d e f xs → IsWith d e f ys
with_layer_of d e f xs ys same added = record {
  name = added.name;
  piece_length = added.piece_length;
  hybrid = added.hybrid;
  place = added.place;
  files = added.files;
  in_order = added.in_order;
  layers = added.layers ∙ either (nat_lt d.piece_length f.length) (λ longer. same (ltb-true d.piece_length f.length longer));
}
  where
    either : (b : Bool) → (b ≡ true → xs ≡ ys) → cond b (with_layer f.root xs d.layers) d.layers ≡ cond b (with_layer f.root ys d.layers) d.layers
    either true same = ap (λ zs. with_layer f.root zs d.layers) (same refl)
    either false same = refl

pub content_added : (d e : Outline) (path : List (List ℕ)) (n : ℕ) (c root : List ℕ) (rows : FileRows) (layer : List (List ℕ))
    → IsWhole d.piece_length d.hybrid n rows root
    → IsOfContent d.piece_length d.hybrid c rows → length c ≡ n → layer ≡ rows.nodes.items → NoneHolds (add_rows d (given_file d path n root rows.v1))
    → IsWith d e (given_file d path n root rows.v1) layer → DraftAdds d path c e
content_added d e path n c root rows layer whole is size same none added = record {
  file = given_file d path n root rows.v1;
  is = content_given d path n c root rows whole is size;
  passes = none;
  added = with_layer_of d e (given_file d path n root rows.v1) layer (piece_hashes d.piece_length c)
      (λ longer. same ∙ is.many (omega (arith, longer, size))) added;
}

-- what a draft refuses of it
pub content_refused : (d e : Outline) (f : Listed) (c : List ℕ) (file : OutlineFile) (r : Refusal) (x : FileFault) (result : Result (Unit {0}) FileFault)
    → result ≡ Err x → IsRefusal r x → f.bytes ≤ 2 ^ 46 → IsDraftFile d.piece_length d.hybrid f.path c file
    → (r ≢ refusals.NoMemory → First (add_rows d file) r) → AddsContent d f c e result
content_refused d e f c file r x result at said short is refused = subst (AddsContent d f c e) (sym at) (elim said [
  | inl lacks ↦ subst (λ y. AddsContent d f c e (Err y)) (sym lacks.1) tt
  | inr other ↦ subst (λ y. AddsContent d f c e (Err y)) (sym other.1) (inr (short, record { file = file; is = is; first = refused other.0 }))
])
