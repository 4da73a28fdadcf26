use Rattle.std.proofs.Common.{◌≡◌, ℕ, ◌+◌, ◌*◌, ◌++◌, List, drop, length, take}
use Rattle.drafts.specs.Outline.{AreOfLength}
use Rattle.gathering.specs.PartRows.{joined_hashes}
use Rattle.assembling.proofs.rows.read_each.Given as goal

abbrev pub invariant-digests : goal.invariant-digests
invariant-digests g l = record {
  count : length l.digests.items ≡ length l.fn.digests.items + l._number;
  size : length l.rest + g.row.N * l._number ≡ length l.fn.text;
  said : (given : List (List ℕ)) (more : List ℕ) → length given ≡ l.count → AreOfLength g.row.N given → l.fn.text ≡ joined_hashes given ++ more
      → (l.rest ≡ joined_hashes (drop l._number given) ++ more) × (l.digests.items ≡ l.fn.digests.items ++ take l._number given);
}
