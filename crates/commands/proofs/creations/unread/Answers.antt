use Rattle.std.proofs.Common.{◌≡◌, ◌∷◌, List, [], Some, ap, inr, map, refl, string_bytes, sym, ◌∙◌}
use Rattle.std.specs.Prelude.{String}
use Rattle.std.specs.Global.{Global}
use Rattle.std.specs.List.{AllZip}
use Rattle.part_texts.specs.Listings.{listed}
use Rattle.part_texts.specs.declared.listing.ListedFile.{ListedFile}
use Rattle.assembling.proofs.Fronts.{item_of}
use Rattle.commands.proofs.creations.unread.Goals as goal

same_texts : (xs ys : List (String Global)) → AllZip (λ s t. string_bytes t ≡ string_bytes s) xs ys → map string_bytes ys ≡ map string_bytes xs
same_texts [] [] same = refl
same_texts [] (y ∷ ys) same = absurd same
same_texts (x ∷ xs) [] same = absurd same
same_texts (x ∷ xs) (y ∷ ys) same = ap (λ b. b ∷ map string_bytes ys) same.0 ∙ ap (λ l. string_bytes x ∷ l) (same_texts xs ys same.1)

pub returns-in-Ok : goal.returns-in-Ok
returns-in-Ok c =
    let cases = c.in-Ok.ensures.cases in
    let file = c.index-files-place.result in
    inr (
      listed file,
      c.in-Ok.path,
      item_of listed c.args.files.now c.args.place file c.requires ∙ ap (λ (x : ListedFile). Some (listed x)) (sym c.index-files-place.is),
      same_texts file.path.items c.in-Ok.path.items cases.0,
      refl,
    )
