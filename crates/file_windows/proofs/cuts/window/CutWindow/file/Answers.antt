use Rattle.std.proofs.Common.{rules, ◌≡◌, ◌+◌, ◌-◌, ◌∙◌, ℕ, take, drop, ap, arith, refl}
use Rattle.file_windows.proofs.FileCuts.{file_there, no_file}
use Rattle.file_windows.proofs.cuts.window.CutWindow.file.Goals as goal

pub returns-then-size-eq0-clause-file : goal.returns-then-size-eq0-clause-file
returns-then-size-eq0-clause-file c buffer start has own hashed inside =
    no_file c.args.self.now.piece_length _ buffer start c.args.size c.args.self.now.some c.if-size-eq0.true c.new.ensures.items

pub returns-clause-file : goal.returns-clause-file
returns-clause-file c buffer start has own hashed inside =
    let w = c.args.self.now in
    let count : ℕ = c.cut_count-count.result in
    let width : c.args.first + count - c.args.first ≡ count = omega arith in
    file_there w c.args.first count (c.args.first + count - 1) _ buffer start c.args.size (omega (arith, c.if-size-eq0.false)) c.cut_count-count.ensures refl
    (c.in_ok-cuts.ensures.items ∙ ap (λ n. take n (drop c.args.first w.own)) width) refl has own hashed (search rules) inside
