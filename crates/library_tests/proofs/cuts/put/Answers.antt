use Rattle.std.proofs.Common.{rules, ◌+◌, ◌≤◌, length}
use Rattle.library_tests.proofs.cuts.put.Goals as goal

pub returns-clause-within : goal.returns-clause-within
returns-clause-within c =
    let fits : c.args.place.start + c.args.place.size ≤ length c.args.buffer.now = search rules in
    c.push.ensures.within (length c.args.buffer.now) c.requires fits
