use Rattle.std.proofs.Common.{rules}
use Rattle.c_layouts.proofs.path_text.write_path.Goals as goal

pub write_text-requires : goal.write_text-requires
write_text-requires c = search rules
