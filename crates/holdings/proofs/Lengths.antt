-- A settling leaves a piece as many cells.
use Rattle.std.proofs.Common.{◌≡◌, ℕ, zero, suc, ◌+◌, length, set, replicate, Option, None, inl, inr, ap, ◌∙◌}
use Rattle.std.proofs.lemmas.List.{length-set, length-replicate}
use Rattle.node_maps.specs.Digest.{Hash}
use Rattle.session.specs.Session.{SessionSeen}
use Rattle.holdings.specs.declared.run.Settled.{Settled}
use Rattle.holdings.specs.declared.run.Settled.TheVariants.{Proved, False}
use Rattle.holdings.specs.Cells.{Cells}
use Rattle.holdings.specs.Settling.{AreBlocksMarked, Settles}

pub marked-length : (S : SessionSeen) (n first : ℕ) (cells : Cells) (from k : ℕ) (S' : SessionSeen) (cells' : Cells)
    → AreBlocksMarked S n first cells from k S' cells' → length cells' ≡ length cells
marked-length S n first cells from zero S' cells' h = ap length h.1
marked-length S n first cells from (suc k) S' cells' (M, between, rest, last) =
    ap length last.rest ∙ length-set between (from + k) None ∙ marked-length S n first cells from k M between rest

pub settled-length : (S : SessionSeen) (n first size : ℕ) (cells : Cells) (e : Settled) (S' : SessionSeen) (cells' : Cells)
    → Settles S n first size cells e S' cells' → length cells' ≡ length cells
settled-length S n first size cells (Proved run) S' cells' (inl k) =
    marked-length S n first cells k.from (suc k.judged.more) S' cells' k.judged.marks
settled-length S n first size cells (Proved run) S' cells' (inr k) =
    marked-length k.joined n first cells k.from (suc k.marked.more) S' cells' k.marked.marks
settled-length S n first size cells (False run) S' cells' (inl k) = ap length k.judged.rest ∙ length-set cells k.from None
settled-length S n first size cells (False run) S' cells' (inr k) = ap length k.rest ∙ length-replicate {A = Option Hash} (length cells) None
