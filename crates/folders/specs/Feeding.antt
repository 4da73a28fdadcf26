-- Room in the builder of a root.
use Rattle.std.specs.Prelude.{ℕ, ◌+◌, ◌^◌, ◌≤◌}
use Rattle.hashtree.specs.RootBuilder.{byte_count}
use Rattle.hashtree.specs.declared.RootBuilder.{RootBuilder}

-- a file of at most 2 ^ 46 bytes has room for this many more
abbrev pub CanBuild : RootBuilder → ℕ → Type 0
CanBuild b n = byte_count b + n ≤ 2 ^ 46
