-- The laws of what takes a file's bytes: the builder of a root, with `feeds_none` and
-- `feeds_both` of `hashtree`.
use Rattle.std.proofs.Common.{ℕ, ◌+◌, ◌≤◌, List, length, arith}
use Rattle.hashtree.specs.RootBuilder.{Feeds}
use Rattle.hashtree.specs.declared.RootBuilder.{RootBuilder}
use Rattle.folders.specs.Feeding.{CanBuild}

pub built_room : (a b : RootBuilder) (x : List ℕ) (n : ℕ)
    → Feeds a x b → CanBuild a (length x + n) → CanBuild b n
built_room a b x n one room = omega (arith, one.count, room)

pub built_less : (b : RootBuilder) (m n : ℕ) → CanBuild b n → m ≤ n → CanBuild b m
built_less b m n room le = omega (arith, room, le)
