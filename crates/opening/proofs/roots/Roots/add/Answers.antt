use Rattle.std.proofs.Common.{◌≡◌, ◌<◌, List, [], ◌∷◌, ◌++◌, length, Some, None, cond, refl, sym, ap, subst, ◌∙◌, inl, arith, rules}
use Rattle.std.specs.Prelude.{slice_get}
use Rattle.std.specs.BTreeMap as tree
use Rattle.std.specs.Cmp.Lexicographic.{slice_cmp}
use Rattle.std.specs.Ordering.{nat_cmp, is_eq}
use Rattle.std.proofs.lemmas.Option.{slice_get_read}
use Rattle.chains.proofs.Cases.{pushed_last}
use Rattle.opening.specs.Rooted.{IsRootAt}
use Rattle.opening.specs.Trees.{place_in}
use Rattle.opening.specs.declared.roots.Root.{Root}
use Rattle.opening.proofs.Rooting.{place_within, root_is_at, place_push_new, numbered_push}
use Rattle.opening.proofs.roots.Roots.add.Goals as goal
use Rattle.opening.proofs.roots.Roots.add.Goals.{In-Some, After-index, In-None, In_ok-push-in-None}

-- the number that is kept of the root is its place in the list
placed : (c : In-Some) → place_in c.self.inside.list.items c.args.root ≡ Some c.in-Some.number.now
placed c = sym (c.self.invariant c.args.root) ∙ sym c.in-Some.ensures.value

below : (c : In-Some) → c.in-Some.number.now < length c.self.inside.list.items
below c = place_within c.self.inside.list.items c.args.root c.in-Some.number.now (placed c)

there : (c : After-index) → slice_get c.self.inside.list.items c.in-Some.number.now ≡ Some c.index.result.now
there c = slice_get_read _ (length c.self.inside.list.items) c.in-Some.number.now _ refl (below (goal.at.After-index c).In-Some) c.index.ensures

-- the root is not there, and it is added at the end
absent : (c : In-None) → place_in c.self.inside.list.items c.args.root ≡ None
absent c = sym (c.self.invariant c.args.root) ∙ sym c.in-None.ensures.value

pushed : (c : In_ok-push-in-None)
    → c.push.new.self.items ≡ c.self.inside.list.items ++ record { root = c.args.root; length = c.args.length } ∷ []
pushed c = c.in_ok-push-in-None.ensures.items
    ∙ ap (λ (xs : List Root). xs ++ record { root = c.args.root; length = c.args.length } ∷ []) c.in_ok-reserve-in-None.ensures.items

pub index-requires : goal.index-requires
index-requires c =
    let low = below (goal.at.index-requires c).In-Some in
    omega (arith, low, c.self.inside.list.ok.0)

pub returns-then-index-length-clause-there : goal.returns-then-index-length-clause-there
returns-then-index-length-clause-there c =
    let at = goal.at.returns-then-index-length-clause-there c in
    let n = c.in-Some.number.now in
    inl (
      refl,
      record {
        number = n;
        at = c.index.result.now;
        place = subst (λ ts. place_in ts c.args.root ≡ Some n) c.self.view_is (placed at.In-Some);
        there = subst (λ ts. slice_get ts n ≡ Some c.index.result.now) c.self.view_is (there at.After-index);
        differs = c.if-index-length.true;
      },
    )

pub returns-else-index-length-clause-there : goal.returns-else-index-length-clause-there
returns-else-index-length-clause-there c =
    let at = goal.at.returns-else-index-length-clause-there c in
    subst (λ ts. IsRootAt ts c.args.root c.args.length) c.self.view_is (root_is_at c.self.inside.list.items c.args.root c.in-Some.number.now c.args.length
    c.index.result.now (placed at.In-Some) (there at.After-index) c.if-index-length.false)

pub invariant_of-self-in-None : goal.invariant_of-self-in-None
invariant_of-self-in-None c =
    let items = c.self.inside.list.items in
    let one : Root = record { root = c.args.root; length = c.args.length } in
    let at = goal.at.invariant_of-self-in-None c in
    let count : c.len.result ≡ length items = omega (arith, c.len.ensures, c.in_ok-reserve-in-None.ensures.len, c.self.inside.list.ok.0) in
    λ s. numbered_push (tree.get (slice_cmp nat_cmp) c.self.inside.numbers) (tree.get (slice_cmp nat_cmp) c.insert.new.self) items one (absent at.In-None)
    c.self.invariant
    (λ q. c.in_ok-insert-in-None.ensures.updates.0 q
    ∙ ap (λ n. cond (is_eq (slice_cmp nat_cmp c.args.root q)) (Some n) (tree.get (slice_cmp nat_cmp) c.self.inside.numbers q)) count) s
    ∙ ap (λ ts. place_in ts s) (sym (pushed at.In_ok-push-in-None))

pub returns-in_ok-push-in-None-clause-there : goal.returns-in_ok-push-in-None-clause-there
returns-in_ok-push-in-None-clause-there c =
    let items = c.self.inside.list.items in
    let one : Root = record { root = c.args.root; length = c.args.length } in
    let at = goal.at.returns-in_ok-push-in-None-clause-there c in
    subst (λ ts. IsRootAt ts c.args.root c.args.length) (sym (pushed at.In_ok-push-in-None))
    (root_is_at (items ++ one ∷ []) c.args.root (length items) c.args.length one (place_push_new items one c.args.root (absent at.In-None) refl)
    (pushed_last items one (length items) refl) refl)

pub invariant_of-self : goal.invariant_of-self
invariant_of-self c = search rules

pub returns-in_err-reserve-in-None-clause-added : goal.returns-in_err-reserve-in-None-clause-added
returns-in_err-reserve-in-None-clause-added c = search rules

pub returns-in_err-reserve-in-None-clause-there : goal.returns-in_err-reserve-in-None-clause-there
returns-in_err-reserve-in-None-clause-there c = search rules

pub invariant_of-self-in_err-insert-in-None : goal.invariant_of-self-in_err-insert-in-None
invariant_of-self-in_err-insert-in-None c = search rules

pub returns-in_err-insert-in-None-clause-added : goal.returns-in_err-insert-in-None-clause-added
returns-in_err-insert-in-None-clause-added c = search rules

pub returns-in_err-insert-in-None-clause-there : goal.returns-in_err-insert-in-None-clause-there
returns-in_err-insert-in-None-clause-there c = search rules

pub invariant_of-self-in_err-push-in-None : goal.invariant_of-self-in_err-push-in-None
invariant_of-self-in_err-push-in-None c = search rules

pub returns-in_err-push-in-None-clause-added : goal.returns-in_err-push-in-None-clause-added
returns-in_err-push-in-None-clause-added c = search rules

pub returns-in_err-push-in-None-clause-there : goal.returns-in_err-push-in-None-clause-there
returns-in_err-push-in-None-clause-there c = search rules

pub returns-else-index-length-clause-added : goal.returns-else-index-length-clause-added
returns-else-index-length-clause-added c = search rules

pub returns-in_ok-push-in-None-clause-added : goal.returns-in_ok-push-in-None-clause-added
returns-in_ok-push-in-None-clause-added c = search rules
