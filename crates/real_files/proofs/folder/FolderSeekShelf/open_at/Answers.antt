use Rattle.std.proofs.Common.{rules}
use Rattle.real_files.proofs.folder.FolderSeekShelf.open_at.Goals as goal

pub returns-in_default-clause-counts : goal.returns-in_default-clause-counts
returns-in_default-clause-counts c = search rules
