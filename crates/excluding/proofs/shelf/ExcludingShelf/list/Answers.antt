use Rattle.std.proofs.Common.{map}
use Rattle.globs.specs.Globs.{whole_of}
use Rattle.excluding.proofs.Without.{kept_listing}
use Rattle.excluding.proofs.shelf.ExcludingShelf.list.Goals as goal

pub returns-clause-listed : goal.returns-clause-listed
returns-clause-listed g c =
    kept_listing (map whole_of c.args.self.now.globs.now) (g.S.Shelf.contents c.args.self.now.shelf).listing c.in_ok-paths.paths c.in_ok-kept.field-0
    c.in_ok-paths.ensures.listed c.in_ok-kept.ensures
