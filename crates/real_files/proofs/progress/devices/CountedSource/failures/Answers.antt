use Rattle.std.proofs.Common.{rules}
use Rattle.real_files.proofs.progress.devices.CountedSource.failures.Goals as goal

pub returns : goal.returns
returns g c = search rules
