-- How much room a list takes.
use Rattle.std.specs.Prelude.{◌≡◌, vec_len}
use Rattle.std.specs.Vec.{vec_capacity}
use Rattle.std.specs.Global.{Vec}

-- there is room for what the list holds, and no more
abbrev pub HasExactRoom : {T : Type 0} → Vec T → Type 0
HasExactRoom items = vec_capacity items ≡ vec_len items
