use Rattle.std.proofs.Common.{◌≡◌, ◌++◌, ◌+◌, List, ℕ, Result, refl, subst}
use Rattle.benc.specs.Device.{SinkSeen, Sent, Broke, Wrote}
use Rattle.benc.proofs.Out.{Broke-front, Wrote-then}
use Rattle.lines.specs.Rows.{Row, Spelling}
use Rattle.lines.specs.Table.{dropped_row, held_row}
use Rattle.replays.proofs.said.write_held.Goals as goal

-- the line of the piece that gave way, and then that of the block
both : {A E : Type 0} (spelled : Spelling) (a b c : SinkSeen) (first next out_first out_next : Row) (r : Result A E) → out_first ≡ first → out_next ≡ next
    → Sent a b (spelled out_first) → Wrote b c r (spelled out_next) → Wrote a c r (spelled first ++ spelled next)
both spelled a b c first next out_first out_next r one two sent wrote =
    Wrote-then r a b c (spelled first) (spelled next) (spelled first ++ spelled next) refl (subst (λ x. Sent a b (spelled x)) one sent)
    (subst (λ x. Wrote b c r (spelled x)) two wrote)

-- the line of the piece that gave way broke off
early : (spelled : Spelling) (a b : SinkSeen) (first next out_first : Row) → out_first ≡ first → Broke a b (spelled out_first)
    → Broke a b (spelled first ++ spelled next)
early spelled a b first next out_first one broke = Broke-front a b (spelled first) (spelled next) (subst (λ x. Broke a b (spelled x)) one broke)

pub returns-in-Ok : goal.returns-in-Ok
returns-in-Ok g c =
    rw c.in-Some.is (both g.L.LineSink.spelled (g.L.LineSink.seen c.args.out.now) (g.L.LineSink.seen c.say-in-Some.new.out)
    (g.L.LineSink.seen c.say-in-Ok.new.out) (dropped_row c.args.number c.args.file c.in-Some.run'.first c.in-Some.run'.last)
    (held_row c.args.number c.args.blocks.now.file (c.args.blocks.now.first + c.args.entry)) _ _ c.say-in-Ok.result c.line_of_dropped.ensures
    c.line_of_held-in-Ok.ensures c.in-Ok.ensures c.say-in-Ok.ensures)

pub returns-in-Err : goal.returns-in-Err
returns-in-Err g c =
    rw c.in-Some.is (early g.L.LineSink.spelled (g.L.LineSink.seen c.args.out.now) (g.L.LineSink.seen c.say-in-Some.new.out)
    (dropped_row c.args.number c.args.file c.in-Some.run'.first c.in-Some.run'.last)
    (held_row c.args.number c.args.blocks.now.file (c.args.blocks.now.first + c.args.entry)) _ c.line_of_dropped.ensures c.in-Err.ensures)
