use Rattle.std.proofs.Common.{◌≡◌, ℕ, ◌+◌, ◌/◌, ap, subst, arith}
use Rattle.std.specs.Prelude.{Some}
use Rattle.std.specs.Int.{div_ceil}
use Rattle.opening.specs.Blocks.{IsBlockRun}
use Rattle.opening.proofs.Blocks.{cut_is_run, run_is_cut, one_block_run, at_most_seventeen}
use Rattle.opening.proofs.place.run_in.Goals as goal
use Rattle.opening.proofs.place.run_in.Goals.{then-size-eq0-via-then-size-eq0, then-size-eq0-via-else-size-eq0+then-size-left}
use Rattle.opening.proofs.place.run_in.Goals.{then-size-eq0-via-else-size-eq0+else-size-left+then-size-gt-MOST_BYTES}
use Rattle.opening.proofs.place.run_in.Goals.{else-size-ne0-via-then-size-ne0+else-size-left-2, else-size-ne0-via-else-size-ne0}

pub returns-then-size-eq0-clause-only : goal.returns-then-size-eq0-clause-only
returns-then-size-eq0-clause-only c = λ k run.
    let cut = run_is_cut c.args.length c.args.block c.args.size k run in
    elim c.then-size-eq0.branch [
      | then-size-eq0-via-then-size-eq0 w ↦ absurd (omega (arith, cut.some))
      | then-size-eq0-via-else-size-eq0+then-size-left w ↦ absurd (omega (arith, cut.left))
      | then-size-eq0-via-else-size-eq0+else-size-left+then-size-gt-MOST_BYTES w ↦ absurd (omega (arith, cut.carried))
    ]

pub returns-then-size-left-2-clause-only : goal.returns-then-size-left-2-clause-only
returns-then-size-left-2-clause-only c = λ k run.
    let cut = run_is_cut c.args.length c.args.block c.args.size k run in
    absurd (omega (arith, cut.left, cut.ends c.if-size-ne0.true))

rounded : (size k : ℕ) → k ≡ div_ceil size 16384 → (size + 16383) / 16384 ≡ k
rounded size k is = omega arith

pub returns-clause-found : goal.returns-clause-found
returns-clause-found c =
    subst (IsBlockRun c.args.length c.args.block c.args.size) (rounded _ _ c.div_ceil.ensures)
    (cut_is_run c.args.length c.args.block c.args.size (record {
      some = omega arith;
      left = omega arith;
      carried = omega arith;
      ends = λ no. elim c.else-size-ne0.branch [
        | else-size-ne0-via-then-size-ne0+else-size-left-2 w ↦ omega arith
        | else-size-ne0-via-else-size-ne0 w ↦ absurd (no (omega arith))
      ];
    }))

pub returns-clause-only : goal.returns-clause-only
returns-clause-only c = λ k run.
    ap Some (one_block_run c.args.length c.args.block c.args.size c.div_ceil.result k (returns-clause-found c) run)

pub returns-clause-bound : goal.returns-clause-bound
returns-clause-bound c =
    at_most_seventeen c.args.length c.args.block c.args.size c.div_ceil.result (returns-clause-found c)
