-- What a settling of a piece's cells is of all pieces.
use Rattle.std.proofs.Common.{◌≡◌, ℕ, length, Option, Some, None, Result, Ok, Err, IfOk, IfSome, IfNone, OnErr, sym, ap, ◌∙◌, subst}
use Rattle.session.specs.Session.{SessionSeen}
use Rattle.holdings.specs.declared.run.Settled.{Settled}
use Rattle.holdings.specs.Cells.{Cells, IsComplete, IsUnsettled}
use Rattle.holdings.specs.Settling.{Settles}
use Rattle.holdings.specs.Holdings.{PieceSeen, KeptPieces, seen_at, with_table_piece}
use Rattle.holdings.specs.Rows.{SettlesRow}
use Rattle.holdings.proofs.Rows.{insert-same}

module _ (E : Type 0) (S S' : SessionSeen) (q : ℕ × ℕ) (x : PieceSeen) (size : ℕ) (old new : Cells) (m m' : KeptPieces) (r : Result (Option Settled) E)
    (now : old ≡ x.cells) (long : size ≡ length x.cells) (there : seen_at m q ≡ Some x)
    (after : m' ≡ with_table_piece m q (record { cells = new; newest = x.newest })) where
  unwritten : new ≡ old → m' ≡ m
  unwritten same = after ∙ ap (λ (cs : Cells). with_table_piece m q (record { cells = cs; newest = x.newest })) (same ∙ now)
      ∙ ap (λ ps. record m { pieces = ps }) (insert-same m.pieces q x there)

  pub settles-row : IfOk r (λ o. IfSome o (λ e. Settles S q.0 q.1 size old e S' new)) → IfOk r (λ o. IfNone o (IsUnsettled S q.0 q.1 size old))
      → IfOk r (λ o. IfNone o (S' ≡ S)) → IfOk r (λ o. IfNone o (new ≡ old)) → OnErr r (IsComplete S q.0 q.1 size old)
      → OnErr r (S' ≡ S) → OnErr r (new ≡ old) → SettlesRow S q.0 q.1 x r S' m m'
  settles-row = by r
    where
      by : (r : Result (Option Settled) E) → IfOk r (λ o. IfSome o (λ e. Settles S q.0 q.1 size old e S' new))
          → IfOk r (λ o. IfNone o (IsUnsettled S q.0 q.1 size old)) → IfOk r (λ o. IfNone o (S' ≡ S)) → IfOk r (λ o. IfNone o (new ≡ old))
          → OnErr r (IsComplete S q.0 q.1 size old) → OnErr r (S' ≡ S) → OnErr r (new ≡ old) → SettlesRow S q.0 q.1 x r S' m m'
      by (Ok (Some e)) settled a b c d f h = (
        new,
        subst (λ n. Settles S q.0 q.1 n x.cells e S' new) long (subst (λ cs. Settles S q.0 q.1 size cs e S' new) now settled),
        after,
      )
      by (Ok None) a unsettled same stays d f h = (
        subst (λ n. IsUnsettled S q.0 q.1 n x.cells) long (subst (IsUnsettled S q.0 q.1 size) now unsettled),
        same,
        unwritten stays,
      )
      by (Err e) a b c d complete same stays = (
        subst (λ n. IsComplete S q.0 q.1 n x.cells) long (subst (IsComplete S q.0 q.1 size) now complete),
        same,
        unwritten stays,
      )
