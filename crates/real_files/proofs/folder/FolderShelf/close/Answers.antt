use Rattle.std.proofs.Common.{◌+◌, ◌%◌, ◌^◌, ◌<◌, ◌∙◌, ap, sym, arith}
use Rattle.folders.proofs.Counts.{more_is}
use Rattle.real_files.proofs.folder.FolderShelf.close.Goals as goal

pub returns-clause-counts : goal.returns-clause-counts
returns-clause-counts c =
    let fits : c.args.self.now.faults < 2 ^ 64 = omega arith in
    ap (λ n. (c.args.self.now.faults + n) % 2 ^ 64) c.failures-failures.ensures ∙ sym (more_is c.args.self.now.faults _ fits)
