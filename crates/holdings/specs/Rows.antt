-- How what is held of a piece is settled in its row.
use Rattle.std.specs.Prelude.{◌≡◌, ℕ, length, Option, Some, None, Result, Ok, Err}
use Rattle.std.specs.declared.result.Result.TheVariants.{Ok, Err}
use Rattle.session.specs.Session.{SessionSeen}
use Rattle.holdings.specs.declared.run.Settled.{Settled}
use Rattle.holdings.specs.Cells.{Cells, IsComplete, IsUnsettled}
use Rattle.holdings.specs.Settling.{Settles}
use Rattle.holdings.specs.Holdings.{PieceSeen, KeptPieces, with_table_piece}

-- something is settled, nothing can be, or memory is refused for a complete piece
abbrev pub SettlesRow : {E : Type 0} → SessionSeen → ℕ → ℕ → PieceSeen
    → Result (Option Settled) E → SessionSeen → KeptPieces → KeptPieces → Type 0
SettlesRow S n first x (Ok (Some e)) S' m m' = (cells : Cells)
    × Settles S n first (length x.cells) x.cells e S' cells
    × (m' ≡ with_table_piece m (n, first) (record { cells = cells; newest = x.newest }))
SettlesRow S n first x (Ok None) S' m m' =
    IsUnsettled S n first (length x.cells) x.cells × (S' ≡ S) × (m' ≡ m)
SettlesRow S n first x (Err e) S' m m' =
    IsComplete S n first (length x.cells) x.cells × (S' ≡ S) × (m' ≡ m)
