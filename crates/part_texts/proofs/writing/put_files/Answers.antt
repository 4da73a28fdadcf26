use Rattle.std.proofs.Common.{◌∙◌, ◌<◌, ap, arith, get_or, length, map, rules, subst, sym}
use Rattle.std.proofs.lemmas.Grind.{common_steps}
use Rattle.std.proofs.lemmas.List.{get_or-map}
use Rattle.std.specs.String.{string_bytes}
use borrow.Author.Count.{below_more}
use Rattle.part_texts.specs.Listings.{Listed, listed}
use Rattle.part_texts.specs.Readings.{ArePath, IsFile}
use Rattle.part_texts.proofs.writing.put_files.Goals as goal

pub files-preserved : goal.files-preserved
files-preserved c =
    let files = c.args.files.now in
    let file = c.file-item.result in
    let lt : c.files.file-index < length files = omega arith in
    let put : ArePath (map string_bytes c.deref.result.now) = first_of (search rules, grind (arith, common_steps)) in
    let path : ArePath (map string_bytes file.path.items) = subst (λ items. ArePath (map string_bytes items)) c.deref.ensures.value put in
    let is : IsFile (listed file) = record { small = search rules; path = path } in
    record {
      put = grind (arith, common_steps);
      each = λ i d. below_more (λ k. IsFile (get_or (map listed files) k d)) _ (λ k low. c.files.invariant.each k d low)
          (subst IsFile (ap listed c.file-item.is ∙ sym (get_or-map listed files c.files.file-index file d lt)) is) i;
    }
