use Rattle.std.proofs.Common.{◌≡◌, ◌⊎◌, inl, inr, ℕ, suc, ◌+◌, ◌-◌, ◌*◌, ◌<◌, ◌≤◌, ◌++◌, List, take, drop, set, get_or, Option, Some, None, IfNone, length}
use Rattle.std.proofs.Common.{refl, sym, ap, ap₂, ◌∙◌, subst, arith}
use Rattle.std.specs.FinMap.{get, insert, remove, len}
use Rattle.std.proofs.lemmas.List.{get_or_default}
use Rattle.fixed_maps.specs.FixedMaps.{map_of}
use Rattle.holdings.specs.Cells.{Cells}
use Rattle.holdings.specs.Holdings.{PieceSeen, KeptPieces, seen_at, with_table_piece}
use Rattle.holdings.specs.Tables.{RowOf, seen_row, seen_rows}
use Rattle.holdings.proofs.Rows.{row-some, row-none, row-size, row-of, none-if, len-rows}
use Rattle.holdings.proofs.piece_table.PieceTable.newest_of.Goals as goal

pub returns-in_err-row-clause-none : goal.returns-in_err-row-clause-none
returns-in_err-row-clause-none c = none-if c.from_residual.result (subst (λ (m : KeptPieces). seen_at m c.args.key ≡ None) c.self.view_is
    (row-none c.self.inside.cells.items c.self.inside.newest.items c.self.inside.width (map_of c.self.inside.order) c.args.key
    (sym c.in_err-row.ensures)))

pub returns-clause-some : goal.returns-clause-some
returns-clause-some c =
    let cells = c.self.inside.cells.items in
    let newest = c.self.inside.newest.items in
    let w = c.self.inside.width in
    let m = map_of c.self.inside.order in
    let p : RowOf = (c.in_ok-row.row, c.in_ok-row.field-0-1) in
    let there : get m c.args.key ≡ Some p = sym c.in_ok-row.ensures in
    let inside = c.self.invariant.inside c.args.key p there in
    let low = c.self.invariant.low c.args.key p there in
    let whole = c.self.inside.cells.ok in
    let small = c.self.inside.cells.small in (
      seen_row cells newest w p,
      subst (λ (k : KeptPieces). seen_at k c.args.key ≡ Some (seen_row cells newest w p)) c.self.view_is (row-some cells newest w m c.args.key p there),
      sym (c.index.ensures ∙ get_or_default newest p.0 c.index.result.now 0 (c.self.invariant.timed c.args.key p there)),
    )
