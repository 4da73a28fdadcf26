use Rattle.std.proofs.Common.{◌≡◌, ◌≤◌, drop, length, map, take}
use Rattle.std.specs.List.{filter}
use Rattle.std.specs.Prelude.{vec_len}
use Rattle.std.specs.Vec.{vec_capacity}
use Rattle.globs.specs.Globs.{whole_of}
use Rattle.folders.specs.Shelf.{path_bytes}
use Rattle.excluding.specs.Excluding.{is_kept}
use Rattle.excluding.proofs.shelf.kept.Given as goal

-- the first paths without those that are left out; the others still stand where they stood
abbrev pub invariant-paths : goal.invariant-paths
invariant-paths l = record {
  kept : map path_bytes l.kept.items ≡ filter (is_kept (map whole_of l.globs)) (map path_bytes (take l.number l.fn.paths.items));
  rest : drop l.number l.paths.items ≡ drop l.number l.fn.paths.items;
  len : length l.paths.items ≡ length l.fn.paths.items;
  count : vec_len l.kept ≤ l.number;
  room : vec_capacity l.kept ≡ length l.fn.paths.items;
}
