-- A draft to which one listed file after the other is added.
use Rattle.std.proofs.Common.{◌≡◌, ℕ, ◌+◌, ◌<◌, ◌++◌, ◌∷◌, List, [], get_or, length, map, take, refl, subst, sym}
use Rattle.std.proofs.lemmas.List.{map_more}
use Rattle.drafts.specs.Adding.{IsWith, given_file}
use Rattle.drafts.specs.Outline.{Outline}
use Rattle.part_texts.specs.Listings.{Listed, listed}
use Rattle.part_texts.specs.declared.listing.ListedFile.{ListedFile}
use Rattle.assembling.specs.Added.{HasAdded, IsWithListed}
use Rattle.assembling.specs.Whole.{IsWhole}
use Rattle.assembling.specs.declared.rows.FileRows.{FileRows}

-- one more was added
pub one_more_added : (d m e : Outline) (fs : List Listed) (f : Listed) → HasAdded d fs m → IsWithListed m e f → HasAdded d (fs ++ f ∷ []) e
one_more_added d m e [] f same with_f = (e, subst (λ x. IsWithListed x e f) same with_f, refl)
one_more_added d m e (g ∷ fs) f all with_f = (all.0, all.1, one_more_added all.0 m e fs f all.2 with_f)

-- the next file was added
pub next_added : (d m e : Outline) (files : List ListedFile) (i : ℕ) (x : ListedFile) → i < length files → HasAdded d (map listed (take i files)) m
    → IsWithListed m e (listed (get_or files i x)) → HasAdded d (map listed (take (i + 1) files)) e
next_added d m e files i x lt all with_f =
    subst (λ fs. HasAdded d fs e) (sym (map_more listed files i x lt)) (one_more_added d m e (map listed (take i files)) (listed (get_or files i x)) all with_f)

-- what a draft was given of a file
pub added_as : (d e : Outline) (path : List (List ℕ)) (n : ℕ) (root : List ℕ) (rows : FileRows) (layer : List (List ℕ)) (f : Listed)
    → IsWith d e (given_file d path n root rows.v1) layer → layer ≡ rows.nodes.items → path ≡ f.path → n ≡ f.bytes
    → IsWhole d.piece_length d.hybrid n rows root → IsWithListed d e f
added_as d e path n root rows layer f added same path_is n_is whole = record {
  given = given_file d path n root rows.v1;
  rows = rows;
  added = subst (λ l. IsWith d e (given_file d path n root rows.v1) l) same added;
  path = path_is;
  bytes = n_is;
  whole = subst (λ b. IsWhole d.piece_length d.hybrid b rows root) n_is whole;
}
