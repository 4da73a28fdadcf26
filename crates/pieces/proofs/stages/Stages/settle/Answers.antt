use Rattle.std.proofs.Common.{◌≡◌, ℕ, ◌+◌, ◌-◌, ◌*◌, ◌<◌, ◌≤◌, [], drop, take, slice_index_or, slice_set, replicate, inl, inr, ap, sym, subst, ◌∙◌, arith}
use Rattle.std.proofs.Common.{rules}
use Rattle.std.proofs.lemmas.Bool.{cases_lt}
use Rattle.std.proofs.lemmas.List.{drop-drop, get_or-set_same, get_or-set_other, length-drop}
use Rattle.std.specs.Option.{unwrap_or}
use Rattle.chains.proofs.Cases.{some_or_none}
use Rattle.sha1.specs.Sha1.{sha1}
use Rattle.lanes.specs.declared.words.TheConstants.{LANES}
use Rattle.pieces.specs.Cuts.{cut}
use Rattle.pieces.specs.Cutting.{IsCutting}
use Rattle.pieces.specs.Running.{told}
use Rattle.pieces.specs.Staged.{told_before}
use Rattle.pieces.proofs.Running.{whole_staged}
use Rattle.pieces.proofs.stages.Stages.settle.Goals as goal

pub steps-preserved : goal.steps-preserved
steps-preserved c =
    let before = c.steps.invariant in
    let step : ℕ = c.steps.step in
    let piece : ℕ = c.drain.new.self.piece in
    let place : ℕ = step + 1 - piece in
    let digest = c.unwrap_or-digest.result in
    let fewer : told_before step < c.steps.self.piece = omega (arith, c.last_step-step-end.ensures.least step c.steps-test.true, before.piece) in
    let late : piece ≤ step = omega (arith, c.drain.ensures.piece, before.piece, c.steps.auto.step, c.steps-first.ensures) in
    record {
      long = search rules;
      store = c.drain.ensures.store ∙ before.store;
      piece = c.drain.ensures.piece ∙ before.piece;
      stretch = c.drain.ensures.stretch ∙ before.stretch;
      filled = c.drain.ensures.filled ∙ before.filled;
      drains = λ n content staged. c.drain.ensures.content n content (before.drains n content staged);
      known = λ n content staged t from below. elim (cases_lt t (told_before step)) [
        | inl less ↦
            get_or-set_other c.steps.digests place (LANES + t - piece) digest [] (omega (arith, less, late))
            ∙ ap (λ k. slice_index_or c.steps.digests (LANES + t - k) []) c.drain.ensures.piece ∙ before.known n content staged t from less
        | inr not_less ↦ elim (some_or_none c.drain.result) [
          | inr none ↦ absurd (omega (arith, c.drain.ensures.counts.none none, below, not_less))
          | inl there ↦
              let next = c.drain.ensures.counts.one there.0 there.1 in
              let at : t ≡ told_before step = omega (arith, next, below, not_less) in
              let here : LANES + t - piece ≡ place = omega (arith, next, at, late) in
              ap (λ k. slice_index_or (slice_set c.steps.digests place digest) k []) here
              ∙ get_or-set_same c.steps.digests place digest [] (omega (arith, before.long, fewer, c.drain.ensures.piece, late))
              ∙ c.unwrap_or-digest.ensures ∙ ap (λ o. unwrap_or o (replicate 20 0)) there.1
              ∙ c.drain.ensures.digest n content (before.drains n content staged) fewer there.0 there.1
              ∙ ap (λ k. sha1 (cut n content k)) (sym at)
        ]
      ];
    }

pub returns-clause-known : goal.returns-clause-known
returns-clause-known c = λ n content staged.
    let s = c.args.self in
    let known = c.steps.invariant in
    let left : ℕ = c.of.result.left in
    let all : left + told s ≡ s.piece = omega (arith, c.of.ensures.left, c.saturating_sub-told.ensures, c.steps-first.ensures, known.piece) in
    let times : n * s.piece ≡ n * told s + left * n = ap (λ k. n * k) (sym all) ∙ omega arith in
    record {
      whole = omega (
        arith,
        times,
        length-drop (n * told s) content,
        whole_staged s n s.piece staged.piece_length_is (omega arith),
        staged.stands.length_is,
      );
      are = λ i lt.
          let t : ℕ = told s + i in
          let place : LANES - left + i ≡ LANES + t - c.steps.self.piece = omega (arith, all, lt, known.piece) in
          let at : n * t ≡ n * told s + i * n = omega arith in
          ap (λ ds. slice_index_or ds (LANES - left + i) []) c.of.ensures.digests
          ∙ ap (λ k. slice_index_or c.steps.digests k []) place
          ∙ known.known n content staged t (omega arith) (omega (arith, all, lt, c.steps-test.false, c.last_step-step-end.ensures.told))
          ∙ ap (λ k. sha1 (take n (drop k content))) at ∙ ap (λ xs. sha1 (take n xs)) (sym (drop-drop (i * n) (n * told s) content));
    }

pub returns-clause-running : goal.returns-clause-running
returns-clause-running c = λ n content staged same cutting.
    subst (λ k. IsCutting c.give_rest.new.cutter (drop (n * k) content)) c.steps.invariant.piece
    (c.give_rest.ensures.running c.steps.step n content (c.steps.invariant.drains n content staged) same cutting)
