use Rattle.std.proofs.Common.{◌≡◌, ◌<◌, ◌++◌, ℕ, get_or, map, take}
use Rattle.std.specs.List.{flat_map}
use Rattle.part_texts.specs.Listings.{Listed, listed}
use Rattle.part_texts.specs.Readings.{IsFile}
use Rattle.part_texts.specs.Texts.{file_text}
use Rattle.part_texts.proofs.writing.put_files.Given as goal

abbrev pub invariant-files : goal.invariant-files
invariant-files l = record {
  put : l.text.items ≡ l.fn.text.items ++ flat_map file_text (map listed (take l.file-index l.files));
  each : (i : ℕ) (d : Listed) → i < l.file-index → IsFile (get_or (map listed l.files) i d);
}
