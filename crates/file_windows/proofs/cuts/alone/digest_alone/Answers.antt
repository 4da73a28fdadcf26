use Rattle.std.proofs.Common.{◌≡◌, ◌∙◌, ◌+◌, ◌-◌, [], ◌++◌, take, drop, replicate, ap, arith}
use Rattle.sha1.specs.Sha1.{sha1}
use Rattle.file_windows.proofs.cuts.alone.digest_alone.Goals as goal

pub returns : goal.returns
returns c =
    let width : c.args.start + c.args.size - c.args.start ≡ c.args.size = omega arith in
    c.filled_up.ensures _ (c.update.ensures [] c.new-hasher.ensures)
    ∙ ap (λ k. sha1 (take k (drop c.args.start c.args.buffer.now) ++ replicate (c.args.piece_length - c.args.size) 0)) width
