use Rattle.lines.proofs.shown.say_shown.Goals as goal

pub returns-in-InfoHashV2 : goal.returns-in-InfoHashV2
returns-in-InfoHashV2 g c = rw c.in-InfoHashV2.is c.row-in-InfoHashV2.ensures

pub returns-in-InfoHashV1 : goal.returns-in-InfoHashV1
returns-in-InfoHashV1 g c = rw c.in-InfoHashV1.is c.row-in-InfoHashV1.ensures
