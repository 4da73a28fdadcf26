use Rattle.short_pushes.proofs.Roots.{passes}
use Rattle.short_pushes.proofs.file_root.FileRoot.pass.Goals as goal

pub returns : goal.returns
returns c =
    passes c.args.self.now _ c.args.bytes.now c.whole_groups.result.0.now c.whole_groups.result.1.now c.requires.none c.push.ensures c.keep.ensures
    c.whole_groups.ensures.all
