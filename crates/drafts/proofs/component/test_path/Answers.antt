use Rattle.std.proofs.Common.{◌≡◌, ◌==◌, true, ℕ, ◌+◌, ◌<◌, List, [], ◌∷◌, length, get_or, inl, inr, refl, sym, ap, subst, ◌∙◌, arith}
use Rattle.std.proofs.lemmas.Bool.{false≢true}
use Rattle.std.specs.Borrow.{Bor}
use Rattle.std.specs.Prelude.{Some, option_map, slice_get}
use Rattle.std.proofs.lemmas.List.{length-map}
use Rattle.std.proofs.lemmas.Option.{same_Some, slice_get-map, slice_get-get_or, slice_get_within}
use Rattle.chains.proofs.Cases.{last_or_before}
use Rattle.filetree.specs.Paths.{IsComponent}
use Rattle.filetree.proofs.Texts.{texts}
use Rattle.drafts.proofs.component.test_path.Goals as goal

at : (xs : List (Bor (List ℕ))) (i : ℕ) (d : Bor (List ℕ)) → i < length xs → slice_get (texts xs) i ≡ Some (get_or xs i d).now
at xs i d low = slice_get-map (λ (s : Bor (List ℕ)). s.now) xs i ∙ ap (option_map (λ (s : Bor (List ℕ)). s.now)) (slice_get-get_or xs i d low)

more : (xs : List (Bor (List ℕ))) (i : ℕ) (d : Bor (List ℕ)) → i < length xs → IsComponent (get_or xs i d).now
    → ((k : ℕ) (x : List ℕ) → k < i → slice_get (texts xs) k ≡ Some x → IsComponent x)
    → (k : ℕ) (x : List ℕ) → k < i + 1 → slice_get (texts xs) k ≡ Some x → IsComponent x
more xs i d low good before k x less there = elim (last_or_before k i less) [
  | inl old ↦ before k x old there
  | inr same ↦ subst IsComponent (same_Some _ _ (sym (at xs i d low) ∙ ap (slice_get (texts xs)) (sym same) ∙ there)) good
]

not_empty : (xs : List (Bor (List ℕ))) → (length xs ≡ 0 → ⊥) → texts xs ≡ [] → ⊥
not_empty [] some none = some refl
not_empty (x ∷ xs) some none = cc

pub returns-then-not-is_component : goal.returns-then-not-is_component
returns-then-not-is_component c = (
  refl,
  λ path.
      let index = c.components.component-index in
      let good = c.is_component.ensures.1 (path.components index _ (at c.args.path.now index _ c.components-test.true)) in
      false≢true (sym c.if-not-is_component.true ∙ good),
)

pub components-preserved : goal.components-preserved
components-preserved c =
    more c.args.path.now c.components.component-index _ c.components-test.true (c.is_component.ensures.0 c.if-not-is_component.false) c.components.invariant

pub returns : goal.returns
returns c = record {
  some = not_empty c.args.path.now (λ none.
      let e : (length c.args.path.now == 0) ≡ true = rw none refl in
      false≢true (sym (sym c.is_empty.ensures ∙ c.if-is_empty.false) ∙ e));
  short = omega (arith, length-map c.args.path.now (λ (s : Bor (List ℕ)). s.now), c.if-path-gt-MAX_COMPONENTS.false);
  components = λ k x there. c.components.invariant k x
      (let low = slice_get_within (texts c.args.path.now) k x there in omega (
        arith,
        low,
        length-map c.args.path.now (λ (s : Bor (List ℕ)). s.now),
        c.components-test.false,
      )) there;
}
