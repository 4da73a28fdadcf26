use Rattle.std.proofs.Common.{◌≡◌, sym, subst, ◌∙◌, rules}
use Rattle.benc.specs.Text.{Fits}
use Rattle.benc.specs.Value.{dict, int}
use Rattle.benc.specs.View.{view, pairs_view}
use Rattle.filetree.specs.Tests.{First, NoneHolds}
use Rattle.filetree.specs.declared.refusal.Refusal.{Refusal}
use Rattle.filetree.proofs.Tables.{first_behind, first_front, none_both}
use Rattle.pieces.specs.Pieces.{IsPieceLength}
use Rattle.opening.specs.Refusals.{head_rows, all_key_rows, number_in, piece_length_in, piece_length_rows}
use Rattle.opening.proofs.Assembling.{keys_refused, tree_refused}
use Rattle.opening.proofs.Growing.{keys_take_none, plain_pass}
use Rattle.benc.proofs.Handed.{handed_on}
use Rattle.opening.proofs.KeyTests.{tree_fits}
use Rattle.opening.proofs.open.read_listed.Goals as goal
use Rattle.opening.proofs.open.read_listed.Goals.{In_err-keys, In_err-piece_length, In_ok-piece_length}

-- the first test that holds of a key, or of the piece length
first_key : (c : In_err-keys) → First (all_key_rows (view c.args.top.now)) c.in_err-keys.field-0.0
first_key c =
    let v = view c.args.top.now in first_front (head_rows v) (piece_length_rows (piece_length_in v)) c.in_err-keys.field-0.0 c.in_err-keys.ensures

first_length : (c : In_err-piece_length) → First (all_key_rows (view c.args.top.now)) c.in_err-piece_length.field-0.0
first_length c =
    let v = view c.args.top.now in
    let r : Refusal = c.in_err-piece_length.field-0.0 in
    let first : First (piece_length_rows (number_in (int c.in_ok-keys.keys.piece_length))) r = search rules in
    first_behind (head_rows v) (piece_length_rows (piece_length_in v)) r c.in_ok-keys.ensures.0
    (subst (λ m. First (piece_length_rows m) r) c.in_ok-keys.ensures.1.piece_length first)

-- none of these tests holds
passed : (c : In_ok-piece_length) → NoneHolds (all_key_rows (view c.args.top.now))
    × (c.in_ok-piece_length.piece_length ≡ piece_length_in (view c.args.top.now)) × IsPieceLength c.in_ok-piece_length.piece_length
passed c =
    let v = view c.args.top.now in
    let n = number_in (int c.in_ok-keys.keys.piece_length) in
    let k = c.in_ok-piece_length.piece_length in
    let known : NoneHolds (piece_length_rows n) × ((k ≡ n) × IsPieceLength k) = search rules in
    let same = c.in_ok-keys.ensures.1.piece_length in (
      none_both (head_rows v) (piece_length_rows (piece_length_in v)) c.in_ok-keys.ensures.0 (subst (λ m. NoneHolds (piece_length_rows m)) same known.0),
      known.1.0 ∙ same,
      known.1.1,
    )

pub read_tree-requires : goal.read_tree-requires
read_tree-requires c =
    let v = view c.args.top.now in
    subst (λ ps. Fits 126 (dict ps)) (sym c.in_ok-keys.ensures.1.tree) (tree_fits v c.requires)

pub returns-in_err-keys-clause-passes : goal.returns-in_err-keys-clause-passes
returns-in_err-keys-clause-passes c =
    let first = first_key (goal.at.returns-in_err-keys-clause-passes c).In_err-keys in
    rw (handed_on c.from_residual.result _ c.from_residual.ensures.1) (λ _. keys_refused (view c.args.top.now) c.in_err-keys.field-0.0 first)

pub returns-in_err-keys-clause-memory : goal.returns-in_err-keys-clause-memory
returns-in_err-keys-clause-memory c =
    let v = view c.args.top.now in
    let first = first_key (goal.at.returns-in_err-keys-clause-memory c).In_err-keys in
    rw (handed_on c.from_residual.result _ c.from_residual.ensures.1) (λ memory. absurd (keys_take_none v (subst (First (all_key_rows v)) memory first)))

pub returns-in_err-piece_length-clause-passes : goal.returns-in_err-piece_length-clause-passes
returns-in_err-piece_length-clause-passes c =
    let first = first_length (goal.at.returns-in_err-piece_length-clause-passes c).In_err-piece_length in
    rw (handed_on c.from_residual-in_err-piece_length.result _ c.from_residual-in_err-piece_length.ensures.1)
    (λ _. keys_refused (view c.args.top.now) c.in_err-piece_length.field-0.0 first)

pub returns-in_err-piece_length-clause-memory : goal.returns-in_err-piece_length-clause-memory
returns-in_err-piece_length-clause-memory c =
    let v = view c.args.top.now in
    let first = first_length (goal.at.returns-in_err-piece_length-clause-memory c).In_err-piece_length in
    rw (handed_on c.from_residual-in_err-piece_length.result _ c.from_residual-in_err-piece_length.ensures.1)
    (λ memory. absurd (keys_take_none v (subst (First (all_key_rows v)) memory first)))

pub returns-in_err-files-clause-passes : goal.returns-in_err-files-clause-passes
returns-in_err-files-clause-passes c =
    let keys = passed (goal.at.returns-in_err-files-clause-passes c).In_ok-piece_length in
    rw (handed_on c.from_residual-in_err-files.result _ c.from_residual-in_err-files.ensures.1)
    (λ memory. tree_refused (view c.args.top.now) (pairs_view c.in_ok-keys.keys.tree.now) c.in_err-files.field-0.0 keys.0 c.in_ok-keys.ensures.1.tree
    (c.in_err-files.ensures.passes memory))

pub returns-in_err-files-clause-memory : goal.returns-in_err-files-clause-memory
returns-in_err-files-clause-memory c =
    let keys = passed (goal.at.returns-in_err-files-clause-memory c).In_ok-piece_length in
    rw (handed_on c.from_residual-in_err-files.result _ c.from_residual-in_err-files.ensures.1)
    (λ memory. plain_pass (view c.args.top.now) (pairs_view c.in_ok-keys.keys.tree.now) keys.0 c.in_ok-keys.ensures.1.tree
    (c.in_err-files.ensures.memory memory))

pub returns-clause-passes : goal.returns-clause-passes
returns-clause-passes c =
    let keys = passed (goal.at.returns-clause-passes c).In_ok-piece_length in
    (keys.0, c.in_ok-keys.ensures.1, keys.1, keys.2, c.in_ok-files.ensures.passes.0, c.in_ok-files.ensures.passes.1)
