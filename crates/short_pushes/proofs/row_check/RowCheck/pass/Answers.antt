use Rattle.std.proofs.Common.{refl}
use Rattle.short_pushes.proofs.Rows.{passes}
use Rattle.short_pushes.proofs.row_check.RowCheck.pass.Goals as goal

pub returns : goal.returns
returns c =
    passes c.args.self.now _ c.args.bytes.now c.whole_groups.result.0.now c.whole_groups.result.1.now c.args.good.now c.push_marking.new.good refl refl refl
    c.requires.none c.push_marking.ensures c.keep.ensures c.whole_groups.ensures.all
