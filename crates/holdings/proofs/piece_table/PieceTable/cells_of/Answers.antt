use Rattle.std.proofs.Common.{◌≤◌, length, sym, arith}
use Rattle.holdings.specs.Tables.{seen_row}
use Rattle.holdings.proofs.Rows.{none-if, none-there, row-cut, row-there}
use Rattle.holdings.proofs.piece_table.PieceTable.cells_of.Goals as goal

pub returns-in_err-start-clause-none : goal.returns-in_err-start-clause-none
returns-in_err-start-clause-none c =
    let s = c.self.inside in
    none-if c.from_residual.result
    (none-there s.order s.cells.items s.newest.items s.width s.room c.args.self.now c.self.view_is c.args.key c.in_err-start.ensures.none)

pub returns-clause-some : goal.returns-clause-some
returns-clause-some c =
    let s = c.self.inside in
    let at = c.in_ok-start.ensures.some in
    let whole : c.len.result ≤ length s.cells.items = omega arith in (
      seen_row s.cells.items s.newest.items s.width (c.in_ok-start.field-0-0, at.size),
      row-there s.order s.cells.items s.newest.items s.width s.room c.args.self.now c.self.view_is c.args.key c.len.result _ _ _ at whole,
      sym (row-cut s.order s.cells.items s.newest.items s.width s.room c.args.self.now c.self.view_is c.args.key c.len.result _ _ _ at whole
          c.deref.result.now c.deref.ensures.value).cut,
    )
