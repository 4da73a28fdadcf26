-- What a draft writes describes the draft's torrent.
use Rattle.std.proofs.Common.{◌≡◌, ◌≢◌, ◌≤◌, [], length, map, Option, Some, None, if◌then◌else◌, refl, sym, ap, subst, ◌∙◌, arith}
use Rattle.benc.specs.Laws.{CanonicalHasSpelling}
use Rattle.benc.specs.Text.{spelling}
use Rattle.benc.specs.Value.{Bencode, dict, no_pairs}
use Rattle.drafts.proofs.Accepted.{all_listed, count_none, file_none, kind_none, layers_none, length_there, name_is_there, piece_length_none, present_none}
use Rattle.drafts.proofs.Accepted.{shape_none, top_none, version_none}
use Rattle.drafts.proofs.Building.{built_tree_has_walks, file_tree_walks}
use Rattle.drafts.proofs.DraftLayers.{layer_none, trees_are}
use Rattle.drafts.proofs.DraftStream.{hybrid_none, v1_is}
use Rattle.drafts.proofs.Tidy.{value_canonical}
use Rattle.drafts.specs.Outline.{IsOutline, Outline, listed_file}
use Rattle.drafts.specs.Written.{info_value, torrent_of, value_of, walk_to_file, pairs_of_layers}
use Rattle.filetree.specs.FileTree.{file_of_walk}
use Rattle.filetree.specs.Tests.{NoneHolds}
use Rattle.filetree.specs.TreeTests.{file_rows}
use Rattle.opening.proofs.Legal.{legal_if_accepted, table_none}
use Rattle.opening.proofs.Listing.{are_files}
use Rattle.opening.specs.Describes.{Describes, IsDescribed}
use Rattle.opening.specs.PieceLayers.{tree_at}
use Rattle.opening.specs.Refusals.{count_rows, files_of, hybrid_rows, layer_rows, max_torrent, name_in, number_in, piece_length_in, piece_length_rows}
use Rattle.opening.specs.Refusals.{table, text_in, walks_of}
use Rattle.opening.specs.Stream.{is_hybrid, parts_in, the_parts, version1_of}
use Rattle.opening.specs.Trees.{AreFiles, roots_in}

-- ---- what the value says

abbrev or_empty : Option Bencode → Bencode
or_empty None = dict no_pairs
or_empty (Some w) = w

length_is : (d : Outline) → piece_length_in (value_of d) ≡ d.piece_length
length_is d = ap (λ o. number_in (or_empty o)) (length_there d)

name_is : (d : Outline) → name_in (value_of d) ≡ d.name
name_is d = ap (λ o. text_in (or_empty o)) (name_is_there d)

walks_are : (d : Outline) → IsOutline d → walks_of (value_of d) ≡ map walk_to_file d.files
walks_are d o = file_tree_walks d.piece_length d.files o.files

files_are : (d : Outline) → IsOutline d → files_of (value_of d) ≡ map listed_file d.files
files_are d o = ap (map file_of_walk) (walks_are d o) ∙ all_listed d.piece_length d.files o.files

-- ---- the tests

pub draft_accepted : (d : Outline) → IsOutline d → d.files ≢ [] → NoneHolds (table (value_of d))
draft_accepted d o some =
    let built = built_tree_has_walks d.piece_length d.files o.in_order o.files in
    let p : d.piece_length ≡ piece_length_in (value_of d) = sym (length_is d) in
    let fs : map listed_file d.files ≡ files_of (value_of d) = sym (files_are d o) in
    table_none (value_of d) (top_none d) (version_none d) (present_none d) (kind_none d o.name) (layers_none d)
    (subst (λ n. NoneHolds (piece_length_rows n)) p (piece_length_none d.piece_length o.legal))
    (shape_none d.piece_length d.files built.1 built.2)
    (subst (λ ws. NoneHolds (file_rows ws)) (sym (walks_are d o)) (file_none d.piece_length d.files o.files))
    (subst (λ n. NoneHolds (count_rows n (files_of (value_of d)))) p (subst (λ gs. NoneHolds (count_rows d.piece_length gs)) fs (count_none d o some)))
    (subst (λ n. NoneHolds (layer_rows n (pairs_of_layers d.layers) (roots_in (files_of (value_of d))))) p
    (subst (λ gs. NoneHolds (layer_rows d.piece_length (pairs_of_layers d.layers) (roots_in gs))) fs (layer_none d o)))
    (subst (λ n. NoneHolds (hybrid_rows n (info_value d) (name_in (value_of d)) (files_of (value_of d)))) p
    (subst (λ s. NoneHolds (hybrid_rows d.piece_length (info_value d) s (files_of (value_of d)))) (sym (name_is d))
    (subst (λ gs. NoneHolds (hybrid_rows d.piece_length (info_value d) d.name gs)) fs (hybrid_none d o))))

-- ---- what it describes

pub draft_described : (d : Outline) → IsOutline d → IsDescribed (value_of d) (torrent_of d)
draft_described d o =
    let p : d.piece_length ≡ piece_length_in (value_of d) = sym (length_is d) in
    let fs : map listed_file d.files ≡ files_of (value_of d) = sym (files_are d o) in
    record {
      name = sym (name_is d);
      piece_length = p;
      files = subst (λ n. AreFiles n (files_of (value_of d)) (torrent_of d).files) p
          (subst (λ gs. AreFiles d.piece_length gs (torrent_of d).files) fs (are_files d.piece_length (map listed_file d.files) (torrent_of d).files refl));
      trees = trees_are d o ∙ ap (λ gs. map (tree_at d.piece_length (pairs_of_layers d.layers)) (roots_in gs)) fs
          ∙ ap (λ n. map (tree_at n (pairs_of_layers d.layers)) (roots_in (files_of (value_of d)))) p;
      info_hash_v2 = refl;
      info_hash_v1 = refl;
      v1 = v1_is d o ∙ ap (λ n. if is_hybrid (info_value d) then Some (version1_of n (the_parts (parts_in (info_value d) d.name)) (info_value d)) else None) p
          ∙ ap (λ s. if is_hybrid (info_value d) then Some (version1_of (piece_length_in (value_of d)) (the_parts (parts_in (info_value d) s)) (info_value d))
          else None) (sym (name_is d));
    }

pub draft_describes : CanonicalHasSpelling → (d : Outline) → IsOutline d → d.files ≢ [] → length (spelling (value_of d)) ≤ max_torrent
    → Describes (spelling (value_of d)) (torrent_of d)
draft_describes spelled d o some small = record {
  small = small;
  value = value_of d;
  spelled = spelled (value_of d) (value_canonical d o (omega (arith, small)));
  legal = legal_if_accepted (value_of d) (draft_accepted d o some);
  described = draft_described d o;
}
