use Rattle.std.proofs.Common.{rules}
use Rattle.real_files.proofs.folder.FolderShelf.open.Goals as goal

pub returns-in-Err-clause-counts : goal.returns-in-Err-clause-counts
returns-in-Err-clause-counts c = search rules
