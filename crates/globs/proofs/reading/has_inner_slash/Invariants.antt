use Rattle.std.proofs.Common.{◌≡◌, drop}
use Rattle.globs.specs.Texts.{has_inner_slash}
use Rattle.globs.proofs.reading.has_inner_slash.Given as goal

abbrev pub invariant-places : goal.invariant-places
invariant-places l = has_inner_slash (drop l.place l.text) ≡ has_inner_slash l.text
