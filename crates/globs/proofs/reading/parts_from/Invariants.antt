use Rattle.std.proofs.Common.{◌≡◌, ◌-◌, length, map, option_map, true}
use Rattle.globs.specs.Globs.{kind_of}
use Rattle.globs.specs.Reading.{put}
use Rattle.globs.specs.Texts.{parts_at}
use Rattle.globs.proofs.reading.parts_from.Given as goal

-- the parts so far and those of what is left are all
abbrev pub invariant-parts : goal.invariant-parts
invariant-parts l =
    option_map (put (map kind_of l.parts.items)) (parts_at (length l.text - l.done) l.starts l.rest)
    ≡ option_map (put (map kind_of l.fn.parts.items)) (parts_at (length l.text) true l.text)
