use Rattle.std.proofs.Common.{◌≡◌, inl, inr, arith, ◌≤◌, ◌^◌, ◌<◌}
use Rattle.filetree.specs.declared.refusal.Refusal.TheVariants as refusals
use Rattle.opening.specs.Trees.{pieces_in}
use Rattle.opening.proofs.Rooting.{none_reused, some_files}
use Rattle.benc.proofs.Handed.{handed_on}
use Rattle.opening.proofs.roots.roots_of.Goals as goal

no_files_is_other : refusals.NoFiles ≡ refusals.NoMemory → ⊥
no_files_is_other is = cc

pub returns-then-is_empty-clause-memory : goal.returns-then-is_empty-clause-memory
returns-then-is_empty-clause-memory c = λ is. absurd (no_files_is_other is)

pub returns-in_err-test_pieces-clause-passes : goal.returns-in_err-test_pieces-clause-passes
returns-in_err-test_pieces-clause-passes c =
    let many : 2 ^ 32 ≤ pieces_in c.args.piece_length c.args.files.now = grind (arith, c.in_err-test_pieces.ensures.1) in
    rw (handed_on c.from_residual-in_err-test_pieces.result _ c.from_residual-in_err-test_pieces.ensures.1)
    (λ _. inr (
      none_reused c.args.files.now c.in_ok-roots.roots c.in_ok-roots.ensures,
      inr (some_files c.args.files.now c.is_empty.result c.is_empty.ensures c.if-is_empty.false, inl (many, c.in_err-test_pieces.ensures.0)),
    ))

pub returns-clause-passes : goal.returns-clause-passes
returns-clause-passes c =
    let few : pieces_in c.args.piece_length c.args.files.now < 2 ^ 32 = grind (arith, c.in_ok-test_pieces.ensures) in (
      (
        none_reused c.args.files.now c.in_ok-roots.roots c.in_ok-roots.ensures,
        (some_files c.args.files.now c.is_empty.result c.is_empty.ensures c.if-is_empty.false, ((λ le. absurd (omega (arith, few, le))), tt)),
      ),
      record { roots = c.in_ok-roots.ensures; pieces = few },
    )
