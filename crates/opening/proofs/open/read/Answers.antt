use Rattle.std.proofs.Common.{◌≡◌, Bool, true, false, map, refl, sym, ap, subst, ◌∙◌}
use Rattle.sha1.specs.Sha1.{sha1}
use Rattle.sha2.specs.Sha256.{sha256}
use Rattle.benc.specs.Text.{Fits}
use Rattle.benc.specs.Value.{dict}
use Rattle.benc.specs.View.{view, pairs_view}
use Rattle.std.specs.Prelude.{codes}
use Rattle.filetree.specs.Dictionary.{Ascends}
use Rattle.filetree.specs.FileTree.{is_directory}
use Rattle.filetree.specs.Tests.{NoneHolds}
use Rattle.filetree.proofs.Ascending.{part_ascends}
use Rattle.opening.specs.Describes.{IsDescribed}
use Rattle.opening.specs.Layered.{layer_pairs}
use Rattle.opening.specs.Matching.{FitsStream}
use Rattle.opening.specs.Refusals.{plain_rows}
use Rattle.opening.specs.Rooted.{AreNumbers}
use Rattle.opening.specs.Seen.{described, file_entry}
use Rattle.opening.specs.Trees.{root_of_tree, roots_in}
use Rattle.opening.proofs.Assembling.{IsReadFrom, files_refused, fits_stream, hybrid_refused, is_described, none_holds, sizes_of}
use Rattle.opening.proofs.Growing.{plain_pass}
use Rattle.benc.proofs.Handed.{handed_on}
use Rattle.opening.proofs.Rooting.{roots_back}
use Rattle.opening.proofs.Sounding.{sound, tree_paths}
use Rattle.opening.proofs.KeyTests.{tree_fits}
use Rattle.opening.proofs.open.read.Goals as goal
use Rattle.opening.proofs.open.read.Goals.{In_ok-keys, After-of-layers, After-deref}

-- what the keys and the file tree gave
is_read : (c : After-of-layers) → IsReadFrom (view c.args.top.now) c.in_ok-keys.field-0.piece_length (view c.in_ok-keys.field-0.keys.info.now)
    c.in_ok-keys.field-0.keys.name.now (pairs_view c.in_ok-keys.field-0.keys.tree.now) (layer_pairs c.of-layers.result) c.in_ok-keys.field-0.files.items
is_read c = let x = c.in_ok-keys.ensures.passes in record {
  info_is = x.1.info;
  name_is = x.1.name;
  tree_is = x.1.tree;
  layers_is = c.of-layers.ensures ∙ x.1.layers;
  length_is = x.2;
  files_are = x.5;
  keys = x.0;
  trees = x.4;
}

-- no test of the keys and of the file tree holds
plain : (c : In_ok-keys) → NoneHolds (plain_rows (view c.args.top.now))
plain c = let x = c.in_ok-keys.ensures.passes in plain_pass (view c.args.top.now) (pairs_view c.in_ok-keys.field-0.keys.tree.now) x.0 x.1.tree x.4

-- the files, as the version 1 part is to have them
in_stream : (c : After-deref) → FitsStream c.in_ok-keys.field-0.piece_length (map file_entry c.deref.result.now) c.in_ok-keys.field-0.files.items
in_stream c =
    let content = c.in_ok-contents.ensures.1 in
    fits_stream _ _ _ c.in_ok-keys.ensures.passes.3 content.pieces (ap (map file_entry) c.deref.ensures.value ∙ content.files)

not_false : (b : Bool) → (b ≡ false → ⊥) → b ≡ true
not_false true never = refl
not_false false never = absurd (never refl)

pub returns-in_err-keys-clause-passes : goal.returns-in_err-keys-clause-passes
returns-in_err-keys-clause-passes c = rw (handed_on c.from_residual.result _ c.from_residual.ensures.1) c.in_err-keys.ensures.passes

pub returns-in_err-keys-clause-memory : goal.returns-in_err-keys-clause-memory
returns-in_err-keys-clause-memory c = rw (handed_on c.from_residual.result _ c.from_residual.ensures.1) c.in_err-keys.ensures.memory

pub of-layers-requires : goal.of-layers-requires
of-layers-requires c =
    let v = view c.args.top.now in
    subst Ascends (sym c.in_ok-keys.ensures.passes.1.layers) (part_ascends 128 (codes "piece layers") v c.requires.canonical)

pub read_contents-requires : goal.read_contents-requires
read_contents-requires c = λ f there.
    let x = c.in_ok-keys.field-0 in
    (sizes_of (pairs_view x.keys.tree.now) x.files.items c.in_ok-keys.ensures.passes.4 c.in_ok-keys.ensures.passes.5 f there).bound

pub returns-in_err-contents-clause-passes : goal.returns-in_err-contents-clause-passes
returns-in_err-contents-clause-passes c =
    let h = is_read (goal.at.returns-in_err-contents-clause-passes c).After-of-layers in
    rw (handed_on c.from_residual-in_err-contents.result _ c.from_residual-in_err-contents.ensures.1)
    (λ memory. files_refused h c.in_err-contents.field-0.0 (c.in_err-contents.ensures memory))

pub returns-in_err-contents-clause-memory : goal.returns-in_err-contents-clause-memory
returns-in_err-contents-clause-memory c =
    let known = plain (goal.at.returns-in_err-contents-clause-memory c).In_ok-keys in
    rw (handed_on c.from_residual-in_err-contents.result _ c.from_residual-in_err-contents.ensures.1) (λ _. known)

pub returns-in_err-v1-clause-passes : goal.returns-in_err-v1-clause-passes
returns-in_err-v1-clause-passes c =
    let at = goal.at.returns-in_err-v1-clause-passes c in
    let known = c.in_err-v1.ensures _ (in_stream at.After-deref) in
    rw (handed_on c.from_residual-in_err-v1.result _ c.from_residual-in_err-v1.ensures.1)
    (λ _. hybrid_refused (is_read at.After-of-layers) c.in_err-v1.field-0.0 c.in_ok-contents.ensures.0 known)

pub returns-in_err-v1-clause-memory : goal.returns-in_err-v1-clause-memory
returns-in_err-v1-clause-memory c =
    let known = plain (goal.at.returns-in_err-v1-clause-memory c).In_ok-keys in
    rw (handed_on c.from_residual-in_err-v1.result _ c.from_residual-in_err-v1.ensures.1) (λ _. known)

pub new-requires-clause-numbers : goal.new-requires-clause-numbers
new-requires-clause-numbers c =
    let x = c.in_ok-keys.field-0 in
    let content = c.in_ok-contents.ensures.1 in
    subst (AreNumbers c.in_ok-contents.contents.numbers) (sym (ap (map root_of_tree) content.trees
    ∙ roots_back x.piece_length (layer_pairs c.of-layers.result) (roots_in x.files.items))) content.numbers

pub new-requires-clause-sound : goal.new-requires-clause-sound
new-requires-clause-sound c =
    let keys = c.in_ok-keys.field-0.keys in
    let k = c.in_ok-keys.field-0.piece_length in
    let fs = c.in_ok-keys.field-0.files.items in
    let passed = c.in_ok-keys.ensures.passes in
    let tree = pairs_view keys.tree.now in
    let content = c.in_ok-contents.ensures in
    let known = c.in_ok-v1.ensures fs (in_stream (goal.at.new-requires-clause-sound c).After-deref) in
    let fits : Fits 126 (dict tree) = subst (λ ps. Fits 126 (dict ps)) (sym passed.1.tree) (tree_fits (view c.args.top.now) c.requires.canonical) in
    sound k (view keys.info.now) keys.name.now (layer_pairs c.of-layers.result) fs
    (described keys.name.now k c.in_ok-contents.contents.files.items c.in_ok-contents.contents.trees.items c.info_hash_v2-hash_v2.result
    c.digest-hash_v1.result c.in_ok-v1.v1)
    passed.3 refl (tree_paths tree fs fits (not_false (is_directory tree) passed.4.0) passed.4.1.0 passed.5) content.0.1.0
    (sizes_of tree fs passed.4 passed.5) content.1.roots content.1.pieces content.1.files content.1.trees content.0.1.1.1 known.0 known.1

pub returns-clause-passes : goal.returns-clause-passes
returns-clause-passes c =
    let v = view c.args.top.now in
    let x = c.in_ok-keys.field-0 in
    let at = goal.at.returns-clause-passes c in
    let h = is_read at.After-of-layers in
    let content = c.in_ok-contents.ensures in
    let known = c.in_ok-v1.ensures _ (in_stream at.After-deref) in
    let t = described x.keys.name.now x.piece_length c.in_ok-contents.contents.files.items c.in_ok-contents.contents.trees.items
    c.info_hash_v2-hash_v2.result c.digest-hash_v1.result c.in_ok-v1.v1 in
    let bytes = c.requires.info (view x.keys.info.now) c.in_ok-keys.ensures.passes.1.found in (
      none_holds h content.0 known.0,
      subst (IsDescribed v) (sym c.new.ensures)
          (is_described h t refl refl content.1.files content.1.trees (c.info_hash_v2-hash_v2.ensures ∙ ap sha256 bytes)
          (c.digest-hash_v1.ensures ∙ ap sha1 bytes) known.1),
    )
