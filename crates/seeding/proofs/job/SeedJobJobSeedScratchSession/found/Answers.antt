use Rattle.std.proofs.Common.{◌∙◌, Some, ap}
use Rattle.chains.proofs.Cases.{item_at}
use Rattle.seeding.proofs.job.SeedJobJobSeedScratchSession.found.Goals as goal

pub find_held-requires-clause-whole : goal.find_held-requires-clause-whole
find_held-requires-clause-whole g c =
    let it = item_at c.args.held.now.answers c.args.place c.requires.place in
    let whole = c.in-None-Some.ensures it.0 it.1 in
    (whole.0, it.1 ∙ ap Some whole.1)
