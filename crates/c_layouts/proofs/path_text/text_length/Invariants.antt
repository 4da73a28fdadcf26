use Rattle.std.proofs.Common.{drop}
use Rattle.filetree.proofs.Texts.{texts}
use Rattle.c_layouts.specs.Paths.{joined_path_text}
use Rattle.c_layouts.proofs.Joining.{tail_text, IsCounted}
use Rattle.c_layouts.proofs.path_text.text_length.Given as goal

-- some first components were counted
abbrev pub invariant-parts : goal.invariant-parts
invariant-parts l = IsCounted (joined_path_text (texts l.fn.parts)) l.count (tail_text (texts (drop l.part-index l.others)))
