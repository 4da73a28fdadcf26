use Rattle.std.proofs.Common.{arith, ◌≡◌, ℕ, ◌+◌, ◌<◌, List, [], ◌∷◌, ◌++◌, length, get_or, map, take, Bor, sym, ap, ◌∙◌}
use Rattle.std.specs.String.{string_bytes}
use Rattle.std.proofs.lemmas.List.{map-append, take_all, take_more}
use Rattle.drafts.proofs.add.texts.Goals as goal

-- one more of each list reads alike
read_more : {X Y Z : Type 0} (f : X → Z) (g : Y → Z) (xs : List X) (x : X) (ys : List Y) (i : ℕ) (d : Y) → i < length ys → f x ≡ g (get_or ys i d)
    → map f xs ≡ map g (take i ys) → map f (xs ++ x ∷ []) ≡ map g (take (i + 1) ys)
read_more f g xs x ys i d low here before =
    map-append f xs (x ∷ []) ∙ ap (λ l. l ++ f x ∷ []) before ∙ ap (λ z. map g (take i ys) ++ z ∷ []) here
    ∙ sym (map-append g (take i ys) (get_or ys i d ∷ [])) ∙ ap (map g) (sym (take_more ys i d low))

pub parts-preserved : goal.parts-preserved
parts-preserved c = record {
  texts = ap (map string_bytes) c.push_reserved.ensures.items
      ∙ read_more string_bytes (λ (s : Bor (List ℕ)). s.now) c.parts.texts.items c.in_ok-from_str.field-0 c.args.parts.now c.parts.part-index _
      c.parts-test.true c.in_ok-from_str.ensures.ok c.parts.invariant.texts;
  count = omega (arith, c.push_reserved.ensures.len, c.parts.invariant.count);
  room = c.push_reserved.ensures.capacity ∙ c.parts.invariant.room;
}

pub returns-clause-texts : goal.returns-clause-texts
returns-clause-texts c =
    c.parts.invariant.texts ∙ ap (map (λ (s : Bor (List ℕ)). s.now)) (take_all c.parts.part-index c.args.parts.now c.parts-test.false)
