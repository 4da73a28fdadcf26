use Rattle.std.proofs.Common.{◌≡◌, ◌<◌, length, arith}
use Rattle.std.proofs.lemmas.Grind.{common_steps}
use Rattle.std.proofs.lemmas.Result.{on_err_weaker, on_ok_weaker}
use Rattle.drafting.proofs.Given.{advanced, advanced_none, lacks}
use Rattle.drafting.specs.declared.stage.Stage.TheVariants as stage
use Rattle.drafting.proofs.stage.Stage.push.Goals as goal

pub returns-then-is_empty-clause-fed : goal.returns-then-is_empty-clause-fed
returns-then-is_empty-clause-fed c =
    let test = c.if-is_empty.true in
    let said = c.is_empty.ensures in
    let none : length c.args.bytes.now ≡ 0 = grind (arith, common_steps) in
    rw c.in-Coming.is (advanced_none (stage.Coming c.in-Coming.hashing) c.args.bytes.now none)

pub returns-else-is_empty-clause-fed : goal.returns-else-is_empty-clause-fed
returns-else-is_empty-clause-fed c =
    let x = c.in-Coming.hashing in
    let y = c.feed.new.hashing in
    rw c.in-Coming.is (on_ok_weaker c.feed.result (advanced x y c.args.bytes.now c.feed.ensures.hashed) c.feed.ensures.fed)

pub returns-else-is_empty-clause-memory : goal.returns-else-is_empty-clause-memory
returns-else-is_empty-clause-memory c =
    let test = c.if-is_empty.false in
    let said = c.is_empty.ensures in
    let some : 0 < length c.args.bytes.now = grind (arith, common_steps) in
    let x = c.in-Coming.hashing in
    let y = c.feed.new.hashing in
    rw c.in-Coming.is (on_err_weaker c.feed.result (lacks x y c.args.bytes.now some c.feed.ensures.hashed) c.feed.ensures.refused)
