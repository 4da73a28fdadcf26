use Rattle.std.proofs.Common.{◌≡◌, drop, map}
use Rattle.globs.specs.Globs.{whole_of}
use Rattle.globs.specs.Matching.{some_leaves_out_as}
use Rattle.globs.proofs.set.some_leaves_out.Given as goal

-- the globs that were tried do not leave it out
abbrev pub invariant-globs : goal.invariant-globs
invariant-globs l =
    some_leaves_out_as l.is_folder (map whole_of (drop l.glob-index l.globs)) l.path
    ≡ some_leaves_out_as l.is_folder (map whole_of l.globs) l.path
