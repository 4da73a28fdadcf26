use Rattle.std.proofs.Common.{◌≡◌, map, take, string_bytes}
use Rattle.real_files.specs.SystemPaths.{system_path_below}
use Rattle.real_files.proofs.paths.path_below.Given as goal

-- the components so far stand behind the folder
abbrev pub invariant-parts : goal.invariant-parts
invariant-parts g l = string_bytes l.text ≡ system_path_below l.dir (map g.S.AsStr.text (take l.part-index l.path))
