use Rattle.std.proofs.Common.{map, ap, ◌∙◌, ◌≡◌, ◌≤◌, ℕ, zero, suc, ◌<◌, List, [], ◌∷◌, ◌++◌, length, Some, Result, Ok, Err, refl, subst, arith, slice_get}
use Rattle.std.proofs.Common.{◌^◌, slice_index_or}
use Rattle.benc.specs.Value.{Pairs}
use Rattle.filetree.specs.Tests.{First, NoneHolds, PassesUnlessNoMemory}
use Rattle.filetree.specs.declared.files.ListedFile.{ListedFile}
use Rattle.filetree.specs.declared.refusal.Refusal.{Refusal}
use Rattle.filetree.proofs.Tables.{first_behind, first_front, none_both}
use Rattle.opening.specs.Layered.{layer_pairs}
use Rattle.opening.specs.Opening.{AreContents, AreFilledIn, content_rows}
use Rattle.opening.specs.PieceLayers.{tree_at}
use Rattle.opening.specs.Refusals.{count_rows, layer_rows}
use Rattle.opening.specs.Rooted.{AreNumbers, AreRoots, AreTrees}
use Rattle.opening.specs.Trees.{IsIn, entries_from, pieces_in, roots_in}
use Rattle.opening.specs.declared.torrent.Contents.{Contents}
use Rattle.opening.specs.declared.roots.Root.{Root}
use Rattle.benc.proofs.Handed.{handed_on}
use Rattle.opening.proofs.open.read_contents.Goals as goal

read_at : (xs : List Root) (k : ℕ) (d : Root) → k < length xs → slice_get xs k ≡ Some (slice_index_or xs k d)
read_at [] k d lt = absurd (omega arith)
read_at (x ∷ xs) zero d lt = refl
read_at (x ∷ xs) (suc k) d lt = read_at xs k d (omega arith)

pub returns-in_err-roots : goal.returns-in_err-roots
returns-in_err-roots c =
    let k = c.args.piece_length in
    let r = c.in_err-roots.field-0.0 in
    rw (handed_on c.from_residual.result _ c.from_residual.ensures.1)
    (λ memory. first_front (count_rows k c.args.listed.items) (layer_rows k (layer_pairs c.args.layers.now) (roots_in c.args.listed.items)) r
    (subst (λ fs. First (count_rows k fs) r) c.deref.ensures.value (c.in_err-roots.ensures.passes memory)))

pub with_layers-requires-clause-pieces : goal.with_layers-requires-clause-pieces
with_layers-requires-clause-pieces c =
    subst (λ fs. pieces_in c.args.piece_length fs < 2 ^ 32) c.deref.ensures.value c.in_ok-roots.ensures.passes.1.pieces

pub with_layers-requires-clause-bound : goal.with_layers-requires-clause-bound
with_layers-requires-clause-bound c = λ k d lt.
    let ts = c.in_ok-roots.roots in
    let t = slice_index_or ts k d in
    let used = c.in_ok-roots.ensures.passes.1.roots.used k t (read_at ts k d lt) in
    let file : IsIn c.args.listed.items used.0 = subst (λ fs. IsIn fs used.0) c.deref.ensures.value used.1 in
    subst (λ n. n ≤ 70368744177664) used.3 (c.requires used.0 file)

-- what stands over the roots that were found stands over the roots of the files
contents : (k : ℕ) (layers : Pairs) (fs gs : List ListedFile) (ts : List Root) (r : Result Contents Refusal) → gs ≡ fs → AreTrees k gs ts
    → NoneHolds (count_rows k gs)
    → PassesUnlessNoMemory (layer_rows k layers ts) (AreFilledIn k layers fs ts) r → PassesUnlessNoMemory (content_rows k layers fs) (AreContents k layers fs) r
contents k layers fs gs ts (Ok c) same trees counts (rows, made) =
    let are : AreTrees k fs ts = subst (λ hs. AreTrees k hs ts) same trees in
    let roots = are.roots.roots in (
      none_both (count_rows k fs) (layer_rows k layers (roots_in fs)) (subst (λ hs. NoneHolds (count_rows k hs)) same counts)
          (subst (λ us. NoneHolds (layer_rows k layers us)) roots rows),
      record {
        files = made.files ∙ ap (λ us. entries_from k us 0 fs) roots;
        trees = made.trees ∙ ap (map (tree_at k layers)) roots;
        numbers = subst (AreNumbers c.numbers) roots made.numbers;
        roots = subst (AreRoots fs) roots are.roots;
        pieces = are.pieces;
        room = made.room;
      },
    )
contents k layers fs gs ts (Err r) same trees counts passes = λ memory.
    let are : AreTrees k fs ts = subst (λ hs. AreTrees k hs ts) same trees in
    subst (λ us. First (count_rows k fs ++ layer_rows k layers us) r) are.roots.roots
    (first_behind (count_rows k fs) (layer_rows k layers ts) r (subst (λ hs. NoneHolds (count_rows k hs)) same counts) (passes memory))

pub returns : goal.returns
returns c =
    contents c.args.piece_length (layer_pairs c.args.layers.now) c.args.listed.items c.deref.result.now c.in_ok-roots.roots c.with_layers.result
    c.deref.ensures.value c.in_ok-roots.ensures.passes.1 c.in_ok-roots.ensures.passes.0 c.with_layers.ensures.passes
