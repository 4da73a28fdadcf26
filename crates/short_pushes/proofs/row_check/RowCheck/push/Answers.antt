use Rattle.std.proofs.Common.{rules, ◌≡◌, length}
use Rattle.short_pushes.proofs.Rows.{pushed_marked, pushed_unmarked}
use Rattle.short_pushes.proofs.row_check.RowCheck.push.Goals as goal

pub returns-then-is_empty : goal.returns-then-is_empty
returns-then-is_empty c =
    let none : length c.args.good.now ≡ 0 = search rules in
    pushed_unmarked c.args.self.now c.take.new.self c.args.bytes.now c.args.good.now c.take.new.good none c.take.ensures

pub returns : goal.returns
returns c =
    pushed_marked c.args.self.now c.settle.new.self c.take-2.new.self c.settle-2.new.self c.args.bytes.now c.settle.new.good c.args.good.now
    c.take-2.new.good c.settle-2.new.good c.settle.ensures.content c.settle.ensures.settled c.take-2.ensures c.settle-2.ensures.content
    c.settle-2.ensures.settled
