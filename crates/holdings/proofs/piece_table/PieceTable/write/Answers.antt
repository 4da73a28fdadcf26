use Rattle.std.proofs.Common.{◌-◌, ◌<◌, ◌≤◌, set, Some, length, sym, ap, ◌∙◌, arith}
use Rattle.std.proofs.lemmas.Option.{none-some}
use Rattle.std.proofs.lemmas.List.{length-set, get_or-set_same, get_or-set_other, with_items_is}
use borrow.Rule.Slice.PartMut.{put_mid}
use Rattle.std.specs.Vec.{with_item}
use Rattle.holdings.specs.Holdings.{PieceSeen}
use Rattle.holdings.specs.Tables.{seen_row}
use Rattle.holdings.proofs.Rows.{IsCut, none-there, row-cut, row-long, row-same, row-there, table-after}
use Rattle.holdings.proofs.piece_table.PieceTable.write.Goals as goal
use Rattle.holdings.proofs.piece_table.PieceTable.write.Goals.{In-Some, After-deref_mut}

block : (c : In-Some) → c.args.block < c.in-Some.ensures.some.size
block c =
    let s = c.self.inside in
    let same = row-same s.order s.cells.items s.newest.items s.width s.room c.args.self.now c.self.view_is c.args.key c.len.result _ _ _ c.in-Some.ensures.some
    (omega arith) c.requires.0 c.requires.1 in
    let low = c.requires.2 in
    omega (arith, same, low)

-- its cells, as a slice
is-cut : (c : After-deref_mut) → IsCut c.self.inside.cells.items c.deref_mut.result.now c.self.inside.width (c.in-Some.row, c.in-Some.ensures.some.size)
    c.in-Some.start (c.in-Some.end - c.in-Some.start)
is-cut c = let s = c.self.inside in row-cut s.order s.cells.items s.newest.items s.width s.room c.args.self.now c.self.view_is c.args.key c.len.result _ _ _
    c.in-Some.ensures.some (omega arith) c.deref_mut.result.now c.deref_mut.ensures.value

pub unreachable-requires : goal.unreachable-requires
unreachable-requires c =
    let s = c.self.inside in
    none-some c.requires.0 (sym (none-there s.order s.cells.items s.newest.items s.width s.room c.args.self.now c.self.view_is c.args.key
    c.in_default.ensures.none) ∙ c.requires.1)

pub bounds-cells-block : goal.bounds-cells-block
bounds-cells-block c =
    let low = block (goal.at.bounds-cells-block c).In-Some in
    omega (arith, low, (is-cut (goal.at.bounds-cells-block c).After-deref_mut).long)

pub offset_bounds-cells-block : goal.offset_bounds-cells-block
offset_bounds-cells-block c =
    let low = block (goal.at.offset_bounds-cells-block c).In-Some in
    let at = c.in-Some.ensures.some in
    let bytes = c.deref_mut.type_inv.1 in
    omega (arith, low, at.low, at.inside, bytes)

pub returns : goal.returns
returns c =
    let r = (goal.at.returns c).In-Some in
    let cut = is-cut (goal.at.returns c).After-deref_mut in
    let s = c.self.inside in
    let at = c.in-Some.ensures.some in
    let whole : c.len.result ≤ length s.cells.items = omega arith in
    let x : PieceSeen = seen_row s.cells.items s.newest.items s.width (c.in-Some.row, at.size) in
    let size = row-long s.order s.cells.items s.newest.items s.width s.room c.args.self.now c.self.view_is c.args.key c.len.result _ _ _ at whole in
    record {
      seen = x;
      there = row-there s.order s.cells.items s.newest.items s.width s.room c.args.self.now c.self.view_is c.args.key c.len.result _ _ _ at whole;
      inside = let low = block r in omega (arith, size, low);
      after = table-after s.order s.rows s.cells.items s.newest.items s.width _ _ _ c.self.invariant c.args.key (c.in-Some.row, at.size) at.there
          (set x.cells c.args.block (Some c.args.digest)) (with_item s.newest c.in-Some.row c.args.now).items c.args.now _ cut.part_is
          (length-set _ c.args.block (Some c.args.digest) ∙ size)
          (get_or-set_same s.newest.items c.in-Some.row c.args.now 0 (c.self.invariant.timed c.args.key (c.in-Some.row, at.size) at.there))
          (λ i other. get_or-set_other s.newest.items c.in-Some.row i c.args.now 0 other)
          c.deref_mut.result.now _ c.in-Some.start cut c.deref_mut.ensures.value
          (with_items_is s.cells _ (cut.put _ (length-set _ c.args.block (Some c.args.digest) ∙ cut.long) ∙ c.deref_mut.ensures.len)
          ∙ ap (λ cs. put_mid c.in-Some.start (c.in-Some.end - c.in-Some.start) c.deref_mut.result.now (set cs c.args.block (Some c.args.digest))) cut.cut)
          c.args.self.now c.self.view_is;
    }
