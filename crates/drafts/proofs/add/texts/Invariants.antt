use Rattle.std.proofs.Common.{◌≡◌, length, vec_len, map, take}
use Rattle.std.specs.String.{string_bytes}
use Rattle.std.specs.Vec.{vec_capacity}
use Rattle.drafts.proofs.add.texts.Given as goal

abbrev pub invariant-parts : goal.invariant-parts
invariant-parts l = record {
  texts : map string_bytes l.texts.items ≡ map (λ s. s.now) (take l.part-index l.parts);
  count : vec_len l.texts ≡ l.part-index;
  room : vec_capacity l.texts ≡ length l.parts;
}
