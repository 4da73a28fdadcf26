use Rattle.std.proofs.Common.{◌≡◌, map, drop}
use Rattle.std.specs.String.{string_bytes}
use Rattle.filetree.specs.Paths.{path_cmp}
use Rattle.drafts.proofs.path_order.path_cmp.Given as goal

-- the paths compare as what is left of them
abbrev pub invariant-parts : goal.invariant-parts
invariant-parts l =
    path_cmp (map string_bytes l.own) (map (λ s. s.now) l.path) ≡ path_cmp (drop l.i (map string_bytes l.own)) (drop l.i (map (λ s. s.now) l.path))
