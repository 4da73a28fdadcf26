use Rattle.std.proofs.Common.{◌+◌, ◌%◌, ◌^◌, ◌<◌, ◌∙◌, ap, sym, arith}
use Rattle.folders.proofs.Counts.{more_is}
use Rattle.folders.proofs.MemCalls.{same_faults}
use Rattle.folders.specs.MemShelfCalls.{seen_of}
use Rattle.folders.proofs.memory.shelf.MemShelfShelf.close.Goals as goal

pub returns-clause-counts : goal.returns-clause-counts
returns-clause-counts c =
    let fits : c.args.self.now.calls.faults < 2 ^ 64 = omega arith in
    ap (λ n. (c.args.self.now.calls.faults + n) % 2 ^ 64) c.failures.ensures
    ∙ sym (more_is c.args.self.now.calls.faults c.args.file.calls.faults fits)

pub returns-clause-closes : goal.returns-clause-closes
returns-clause-closes c = same_faults (seen_of c.args.self.now) _ _ (returns-clause-counts c)
