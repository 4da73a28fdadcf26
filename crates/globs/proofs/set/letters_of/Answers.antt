use Rattle.std.proofs.Common.{◌≡◌, ◌∙◌, List, Ok, append-nil, ap, codes, map, refl, string_bytes, ℕ, [], ◌∷◌, ◌++◌}
use Rattle.std.specs.List.{join_by, join_with_byte}
use Rattle.std.specs.Str.{chars}
use Rattle.std.proofs.lemmas.Iterator.{YieldsList-from_chars, items_from_collect}
use Rattle.globs.specs.Globs.{slash}
use Rattle.globs.proofs.set.letters_of.Goals as goal

-- joining texts is joining their bytes
joined_same : {S : Type 0} (f : S → List ℕ) (parts : List S) → join_by f (codes "/") parts ≡ join_with_byte slash (map f parts)
joined_same f [] = refl
joined_same f (x ∷ []) = append-nil (f x)
joined_same f (x ∷ y ∷ parts) = ap (λ t. f x ++ (slash ∷ t)) (joined_same f (y ∷ parts))

pub returns : goal.returns
returns c =
    let letters : c.in_ok-collect.field-0.items ≡ chars c.as_str.result.now =
    items_from_collect {E = ℕ} (Ok c.in_ok-collect.field-0) c.in_ok-collect.ensures.ran
    (YieldsList-from_chars c.as_str.result.now c.as_str.utf8 c.chars.ensures.rest) in
    let text : c.as_str.result.now ≡ join_with_byte slash (map string_bytes c.args.path.now) =
    c.as_str.ensures.value ∙ c.in_ok-text.ensures.ok ∙ joined_same string_bytes c.args.path.now in
    letters ∙ ap chars text
