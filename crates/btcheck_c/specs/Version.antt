-- A version as one number.
use Rattle.std.specs.Prelude.{ℕ, ◌+◌, ◌*◌}

-- a byte for each of its three numbers
abbrev pub version_number : ℕ → ℕ → ℕ → ℕ
version_number major minor patch = 65536 * major + 256 * minor + patch
