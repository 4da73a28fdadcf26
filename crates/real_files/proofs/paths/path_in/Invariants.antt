use Rattle.std.proofs.Common.{◌≡◌, map, take, string_bytes}
use Rattle.real_files.proofs.paths.path_in.Given as goal

-- the components so far
abbrev pub invariant-parts : goal.invariant-parts
invariant-parts l = map string_bytes l.path.items ≡ map string_bytes (take l.part-index l.folder)
