use Rattle.file_windows.proofs.Lengths.{whole_blocks}
use Rattle.passes.proofs.rows.Rows.new.Goals as goal

pub new-requires-2-clause-whole_blocks : goal.new-requires-2-clause-whole_blocks
new-requires-2-clause-whole_blocks c = whole_blocks _ c.bytes.ensures.legal
