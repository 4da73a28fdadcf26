use Rattle.std.proofs.Common.{◌≡◌, ◌∙◌, ◌+◌, ◌-◌, ◌≤◌, ◌++◌, take, replicate, ap, sym, subst, arith, append-nil}
use Rattle.std.proofs.lemmas.List.{append_assoc}
use Rattle.sha1.specs.Sha1.{Holds, sha1}
use Rattle.pieces.proofs.Fed.{zeros_more}
use Rattle.file_windows.proofs.cuts.alone.filled_up.Goals as goal

pub zeros-init : goal.zeros-init
zeros-init c =
    let none : 0 ≡ c.args.size - c.args.size = omega arith in
    record {
      begun = omega arith;
      bound = omega arith;
      held = λ cut held. subst (Holds c.args.hasher) (sym (append-nil cut) ∙ ap (λ k. cut ++ replicate k 0) none) held;
    }

pub zeros-preserved : goal.zeros-preserved
zeros-preserved c =
    let before = c.zeros.filled - c.args.size in
    let bound : c.min-count.result ≤ 4096 = omega (arith, c.min-count.ensures) in
    let count : before + c.min-count.result ≡ c.zeros.filled + c.min-count.result - c.args.size = omega (arith, c.zeros.invariant.begun) in
    record {
      begun = omega (arith, c.zeros.invariant.begun);
      bound = omega (arith, c.zeros.invariant.bound, c.min-count.ensures);
      held = λ cut held. subst (Holds c.update.new.self)
          (append_assoc cut (replicate before 0) (take c.min-count.result (replicate 4096 0))
          ∙ ap (λ t. cut ++ t) (zeros_more before c.min-count.result 4096 bound)
          ∙ ap (λ n. cut ++ replicate n 0) count)
          (c.update.ensures (cut ++ replicate before 0) (c.zeros.invariant.held cut held));
    }

pub returns : goal.returns
returns c cut held =
    let all : c.zeros.filled ≡ c.args.piece_length = omega (arith, c.zeros-test.false, c.zeros.invariant.bound) in
    c.finalize.ensures _ (c.zeros.invariant.held cut held) ∙ ap (λ n. sha1 (cut ++ replicate (n - c.args.size) 0)) all
