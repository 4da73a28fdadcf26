use Rattle.std.proofs.Common.{◌≡◌, ℕ, ◌-◌, ◌≤◌, length, take, drop, refl, sym, ◌∙◌, arith}
use Rattle.std.proofs.lemmas.Option.{none-some}
use Rattle.std.proofs.lemmas.List.{with_items_is}
use borrow.Rule.Slice.PartMut.{put_mid}
use Rattle.std.specs.Vec.{with_items}
use Rattle.std.specs.declared.alloc.AllocError.{AllocError}
use Rattle.holdings.specs.Cells.{Cells}
use Rattle.holdings.specs.Holdings.{PieceSeen}
use Rattle.holdings.specs.Tables.{seen_row}
use Rattle.holdings.proofs.Rows.{IsCut, none-there, row-cut, row-long, row-same, row-there, table-after}
use Rattle.holdings.proofs.SettledRows.{settles-row}
use Rattle.holdings.proofs.piece_table.PieceTable.settle_row.Given.{Over}
use Rattle.holdings.proofs.piece_table.PieceTable.settle_row.Goals as goal
use Rattle.holdings.proofs.piece_table.PieceTable.settle_row.Goals.{In-Some, After-deref_mut}

abbrev key : (g : Over) → In-Some g → ℕ × ℕ
key g c = (c.args.piece.tree, c.args.piece.first)

size : (g : Over) (c : In-Some g) → c.in-Some.ensures.some.size ≡ c.args.piece.size
size g c = let s = c.self.inside in row-same s.order s.cells.items s.newest.items s.width s.room c.args.self.now c.self.view_is (key g c) c.len.result _ _ _
    c.in-Some.ensures.some (omega arith) c.requires.held.0 c.requires.held.1 ∙ c.requires.held.2

-- its cells, as a slice
is-cut : (g : Over) (c : After-deref_mut g) → IsCut c.self.inside.cells.items c.deref_mut.result.now c.self.inside.width
    (c.in-Some.field-0-0, c.in-Some.ensures.some.size) c.in-Some.start (c.in-Some.end - c.in-Some.start)
is-cut g c = let s = c.self.inside in row-cut s.order s.cells.items s.newest.items s.width s.room c.args.self.now c.self.view_is
    (key g (goal.at.After-deref_mut g c).In-Some) c.len.result _ _ _ c.in-Some.ensures.some (omega arith) c.deref_mut.result.now c.deref_mut.ensures.value

pub unreachable-requires : goal.unreachable-requires
unreachable-requires g c =
    let s = c.self.inside in
    none-some c.requires.held.0 (sym (none-there s.order s.cells.items s.newest.items s.width s.room c.args.self.now c.self.view_is
    (c.args.piece.tree, c.args.piece.first) c.in_default.ensures.none) ∙ c.requires.held.1)

pub settle-requires-clause-size : goal.settle-requires-clause-size
settle-requires-clause-size g c =
    sym ((is-cut g (goal.at.settle-requires-clause-size g c).After-deref_mut).long ∙ size g (goal.at.settle-requires-clause-size g c).In-Some)

pub returns : goal.returns
returns g c =
    let r = (goal.at.returns g c).In-Some in
    let cut = is-cut g (goal.at.returns g c).After-deref_mut in
    let s = c.self.inside in
    let at = c.in-Some.ensures.some in
    let whole : c.len.result ≤ length s.cells.items = omega arith in
    let x : PieceSeen = seen_row s.cells.items s.newest.items s.width (c.in-Some.field-0-0, at.size) in
    let ys : Cells = c.settle.new.cells in
    let part : ℕ = c.in-Some.end - c.in-Some.start in
    let stays : length ys ≡ length (take part (drop c.in-Some.start c.deref_mut.result.now)) = c.settle.auto.cells in
    let there = row-there s.order s.cells.items s.newest.items s.width s.room c.args.self.now c.self.view_is (key g r) c.len.result _ _ _ at whole in
    let long = row-long s.order s.cells.items s.newest.items s.width s.room c.args.self.now c.self.view_is (key g r) c.len.result _ _ _ at whole in
    let after = table-after s.order s.rows s.cells.items s.newest.items s.width _ _ _ c.self.invariant (key g r) (c.in-Some.field-0-0, at.size) at.there ys
    s.newest.items x.newest part cut.part_is (stays ∙ cut.long) refl (λ i other. refl) c.deref_mut.result.now
    (with_items s.cells (put_mid c.in-Some.start part c.deref_mut.result.now ys)).items c.in-Some.start cut c.deref_mut.ensures.value
    (with_items_is s.cells _ (cut.put ys (stays ∙ cut.long) ∙ c.deref_mut.ensures.len)) c.args.self.now c.self.view_is in
    record {
      cells = (
        x,
        there,
        settles-row AllocError c.args.session.now c.settle.new.session (key g r) x c.args.piece.size _ ys c.args.self.now _ c.settle.result cut.cut
            (sym (size g r) ∙ sym long) there after
            c.settle.ensures.settled c.settle.ensures.unsettled c.settle.ensures.same_session c.settle.ensures.same_cells
            c.settle.ensures.complete c.settle.ensures.no_session c.settle.ensures.no_cells,
      );
    }
