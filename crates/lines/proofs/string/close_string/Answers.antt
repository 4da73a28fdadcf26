use Rattle.std.proofs.Common.{codes, refl}
use Rattle.benc.proofs.Out.{Broke-front, Wrote-then}
use Rattle.lines.proofs.string.close_string.Goals as goal

pub returns-in-Ok : goal.returns-in-Ok
returns-in-Ok g c = λ start text wrote. Wrote-then _ start _ _ text (codes "\"") _ refl (rw c.in-Ok.is at wrote) c.write_all.ensures

pub returns-in-Err : goal.returns-in-Err
returns-in-Err g c = λ start text wrote. Broke-front start _ text (codes "\"") (rw c.in-Err.is at wrote)
