use Rattle.std.proofs.Common.{drop}
use Rattle.filetree.proofs.Texts.{texts}
use Rattle.c_layouts.specs.Paths.{joined_path_text}
use Rattle.c_layouts.proofs.Joining.{tail_text, IsWritten}
use Rattle.c_layouts.proofs.path_text.write_text.Given as goal

-- some first components were written
abbrev pub invariant-parts : goal.invariant-parts
invariant-parts l =
    IsWritten (joined_path_text (texts l.fn.parts)) l.fn.room l.room l.end (tail_text (texts (drop l.part-index l.others)))
