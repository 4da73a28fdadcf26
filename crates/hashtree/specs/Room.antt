-- How much room a list takes.
use Rattle.std.specs.Prelude.{ℕ, ◌*◌, ◌≤◌, List, vec_len}
use Rattle.std.specs.Vec.{vec_capacity}
use Rattle.std.specs.Global.{Vec}

-- there is room for at most twice as many digests
abbrev pub HasSmallRoom : Vec (List ℕ) → Type 0
HasSmallRoom digests = vec_capacity digests ≤ 2 * vec_len digests
