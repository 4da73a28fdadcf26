use Rattle.std.proofs.Common.{take}
use Rattle.globs.specs.Texts.{AreRead}
use Rattle.globs.proofs.set.read_globs.Given as goal

-- the globs of the first texts
abbrev pub invariant-texts : goal.invariant-texts
invariant-texts l = AreRead (take l.number l.texts) l.globs.items
