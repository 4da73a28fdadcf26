use Rattle.std.proofs.Common.{◌≡◌, ℕ, ◌+◌, ◌-◌, ◌*◌, Some, [], drop, ap, sym, subst, ◌∙◌, arith}
use Rattle.std.proofs.lemmas.List.{drop-drop}
use Rattle.lanes.specs.declared.words.TheConstants.{LANES}
use Rattle.pieces.specs.Cutting.{IsCutting}
use Rattle.pieces.specs.CutStreams.{bytes_running}
use Rattle.pieces.specs.NextCuts.{AreOfCuts}
use Rattle.pieces.specs.Running.{HoldsUntold, IsRunning, bytes_untold, told}
use Rattle.pieces.specs.Staged.{bytes_staged}
use Rattle.pieces.proofs.CutStreams.{few_pieces}
use Rattle.pieces.proofs.Running.{size_is}
use Rattle.pieces.proofs.Settling.{few_left}
use Rattle.pieces.proofs.cut_stream.CutStream.settle.Goals as goal

pub settle-requires-clause-fits : goal.settle-requires-clause-fits
settle-requires-clause-fits c = few_pieces c.args.self.now.stages c.in-Some.stages (sym c.in-Some.ensures.value) c.requires.fits

pub returns-clause-left : goal.returns-clause-left
returns-clause-left c = λ n running runs.
    let f = c.args.self.now in
    let s = c.in-Some.stages in
    let left : ℕ = c.settle.result.left in
    let all : IsCutting f.cutter [] × HoldsUntold s n running = subst (λ o. IsRunning f.cutter o n running) (sym c.in-Some.ensures.value) runs.held in
    let held = all.1 in
    let at : n * told s + left * n ≡ n * s.piece = sym (ap (λ k. n * k) (sym c.settle.ensures.count) ∙ omega arith) in
    record {
      piece_length_is = c.settle.ensures.piece_length ∙ runs.piece_length_is;
      known = subst (AreOfCuts c.settle.result.digests left n) (sym held.running_is) (c.settle.ensures.known n held.content held.staged);
      behind = subst (IsCutting c.settle.new.cutter)
          (sym (ap (drop (left * n)) held.running_is ∙ drop-drop (left * n) (n * told s) held.content ∙ ap (λ m. drop m held.content) at))
          (c.settle.ensures.running n held.content held.staged runs.piece_length_is all.0);
    }

pub returns-clause-count : goal.returns-clause-count
returns-clause-count c =
    let f = c.args.self.now in
    let s = c.in-Some.stages in
    let is : f.stages ≡ Some s = sym c.in-Some.ensures.value in
    let p : ℕ = f.cutter.piece_length in
    let left : ℕ = c.settle.result.left in
    let running : bytes_running f ≡ f.cutter.filled + (bytes_staged s - p * told s) = ap (λ o. f.cutter.filled + bytes_untold o p) is in
    let times : p * left + p * told s ≡ p * s.piece = sym (ap (λ k. p * k) (sym c.settle.ensures.count) ∙ omega arith) in
    let size : p * s.piece ≡ s.store.size * (LANES * s.piece) = ap (λ k. k * s.piece) (size_is s p (f.same_length s is)) ∙ omega arith in
    let all : s.store.size * (LANES * s.piece + s.stretch) ≡ s.store.size * (LANES * s.piece) + s.store.size * s.stretch = omega arith in
    few_left p left c.settle.new.cutter.filled (bytes_running f) f.cutter.some (omega (arith, running, times, size, all, c.settle.ensures.filled))
