use Rattle.passes.proofs.HeldPlaces.{file_there, nothing_there}
use Rattle.passes.proofs.rows.Rows.place.Goals as goal

pub returns-clause-nothing : goal.returns-clause-nothing
returns-clause-nothing c = nothing_there c.args.self.now c.args.number _ c.requires.sound c.requires.there

pub returns-clause-file : goal.returns-clause-file
returns-clause-file c = file_there c.args.self.now c.args.number _ c.requires.sound c.requires.there
