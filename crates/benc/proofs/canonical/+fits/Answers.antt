use Rattle.std.proofs.Common.{◌≡◌, ◌+◌, ◌∷◌, ℕ, List, Option, Some, None, true, drop, refl, sym, ap, ◌∙◌, subst, arith}
use Rattle.std.proofs.lemmas.List.{drop_more}
use Rattle.std.specs.Option.{option_copied}
use Rattle.benc.specs.Spelling.{is_above, IsAbove}
use Rattle.benc.specs.Text.{ItemsFit, PairsFit}
use Rattle.benc.specs.Value.{item, pair}
use Rattle.benc.specs.View.{Seen, view, items_view, pairs_view}
use Rattle.benc.proofs.Values.{view-Pair}
use Rattle.benc.proofs.canonical.+fits.Goals as goal

above : (k : List ℕ) (before : Option (List ℕ)) → true ≡ is_above k before → IsAbove k before
above k None is = tt
above k (Some last) is = sym is

pub items_fit-items-preserved : goal.items_fit-items-preserved
items_fit-items-preserved t c =
    let xs = c.deref-item-items.result.now in
    let i = c.items.item-index in
    let x = c.item-item.result in
    let room = c.args.room in
    let next : items_view (drop i xs) ≡ item (view x) (items_view (drop (i + 1) xs)) =
    ap items_view (drop_more xs i x (omega arith) ∙ ap (λ y. y ∷ drop (i + 1) xs) (sym c.item-item.is)) in
    record {
      down = λ all. (subst (ItemsFit room) next (c.items.invariant.down all)).1;
      up = λ rest. c.items.invariant.up (subst (ItemsFit room) (sym next) (c.if-not-fits.ensures.0 refl, rest));
    }

pub pairs_fit-pairs-preserved : goal.pairs_fit-pairs-preserved
pairs_fit-pairs-preserved t c =
    let xs = c.deref-pair-items.result.now in
    let i = c.pairs.pair-index in
    let x = c.pair-item.result in
    let room = c.args.room in
    let before = option_copied c.pairs.before in
    let rest = pairs_view (drop (i + 1) xs) in
    let next : pairs_view (drop i xs) ≡ pair x.key.now (view x.value) rest =
    ap pairs_view (drop_more xs i x (omega arith) ∙ ap (λ y. y ∷ drop (i + 1) xs) (sym c.pair-item.is))
    ∙ ap (λ (p : Seen). pair p.0 p.1 rest) (view-Pair x.key x.value) in
    record {
      down = λ all. (subst (PairsFit room before) next (c.pairs.invariant.down all)).3;
      up = λ fits. c.pairs.invariant.up (subst (PairsFit room before) (sym next)
          (c.if-not-is_short.ensures.0 refl, above x.key.now before c.if-not-is_above.ensures, c.if-not-fits.ensures.0 refl, fits));
    }
