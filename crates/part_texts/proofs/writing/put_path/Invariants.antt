use Rattle.std.proofs.Common.{◌≡◌, ◌<◌, ◌++◌, ℕ, [], get_or, map, take, length}
use Rattle.std.specs.List.{flat_map}
use Rattle.std.specs.String.{string_bytes}
use Rattle.part_texts.specs.Readings.{IsText}
use Rattle.part_texts.specs.Texts.{number_text, sized}
use Rattle.part_texts.proofs.writing.put_path.Given as goal

abbrev pub invariant-parts : goal.invariant-parts
invariant-parts l = record {
  put : l.text.items ≡ (l.fn.text.items ++ number_text (length l.path)) ++ flat_map sized (map string_bytes (take l.part-index l.path));
  texts : (i : ℕ) → i < l.part-index → IsText (get_or (map string_bytes l.path) i []);
}
