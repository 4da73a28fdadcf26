use Rattle.std.proofs.Common.{◌≡◌, ℕ, true, false, Some, None, IfNone, IsSome, refl, sym, ap, ◌∙◌, subst}
use Rattle.std.specs.Ordering.{is_lt}
use Rattle.std.specs.FinMap.{get}
use Rattle.node_maps.specs.Known.{place_cmp}
use Rattle.fixed_maps.specs.FixedMaps.{map_of}
use Rattle.holdings.specs.Holdings.{KeptPieces, seen_at}
use Rattle.holdings.proofs.Rows.{row-some, row-none, none-if}
use Rattle.holdings.proofs.piece_table.PieceTable.at_least.Goals as goal

pub returns-in_err-found-clause-none : goal.returns-in_err-found-clause-none
returns-in_err-found-clause-none c = none-if c.from_residual.result (λ q late.
    subst (λ (k : KeptPieces). seen_at k q ≡ None) c.self.view_is
    (row-none c.self.inside.cells.items c.self.inside.newest.items c.self.inside.width (map_of c.self.inside.order) q (c.in_err-found.ensures.none q late)))

pub returns-clause-there : goal.returns-clause-there
returns-clause-there c = subst (λ (k : KeptPieces). IsSome (seen_at k c.in_ok-found.found)) c.self.view_is
    (subst IsSome (sym (row-some c.self.inside.cells.items c.self.inside.newest.items c.self.inside.width (map_of c.self.inside.order) c.in_ok-found.found _
    c.in_ok-found.ensures.there)) refl)

pub returns-clause-least : goal.returns-clause-least
returns-clause-least c = λ q late early. subst (λ (k : KeptPieces). seen_at k q ≡ None) c.self.view_is
    (row-none c.self.inside.cells.items c.self.inside.newest.items c.self.inside.width (map_of c.self.inside.order) q
    (c.in_ok-found.ensures.least q late early))
