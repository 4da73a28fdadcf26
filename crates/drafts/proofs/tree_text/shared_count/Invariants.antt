use Rattle.std.proofs.Common.{◌≡◌, ◌+◌, drop, map}
use Rattle.std.specs.String.{string_bytes}
use Rattle.drafts.specs.TreeText.{shared}
use Rattle.drafts.proofs.tree_text.shared_count.Given as goal

abbrev pub invariant-parts : goal.invariant-parts
invariant-parts l = shared (map string_bytes l.one) (map string_bytes l.other) ≡ l.i + shared (drop l.i (map string_bytes l.one))
    (drop l.i (map string_bytes l.other))
