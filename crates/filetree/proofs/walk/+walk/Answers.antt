use Rattle.std.proofs.Common.{◌≡◌, ◌∷◌, [], ◌++◌, ◌+◌, map, drop, ℕ, List, true, false, ap, subst, sym, ◌∙◌, rules, arith}
use Rattle.benc.specs.Value.{dict, pair, no_pairs}
use Rattle.benc.specs.View.{view, pairs_view, pair_view, Seen}
use Rattle.filetree.specs.FileTree.{is_file, is_nil}
use Rattle.filetree.specs.Walked.{walk_of, IsOnWay, IsNodeBelow, AddsBehind, walks_at}
use Rattle.std.proofs.lemmas.List.{map-append}
use Rattle.benc.proofs.Values.{view-Pair, view-Dict}
use Rattle.filetree.proofs.Views.{pairs_next}
use Rattle.filetree.proofs.Rooms.{all_left, folder_at, left_behind, node_at}
use Rattle.benc.specs.declared.value.Value.{the_lemmas}
use Rattle.filetree.proofs.Walking.{dict_pairs, file_node, walked_below, walked_file, walked_on}
use Rattle.std.proofs.lemmas.Grind.{common_steps}
use Rattle.std.proofs.lemmas.Result.{on_ok_weaker}
use Rattle.filetree.proofs.walk.+walk.Goals as goal

pub walk-pairs-preserved : goal.walk-pairs-preserved
walk-pairs-preserved t c =
    let x = c.pair-item.result in
    let xs = c.args.pairs.now in
    let path = c.args.folder.now in
    let before = map walk_of c.args.files.now.items in
    let found = map walk_of c.pairs.files.items in
    let way = subst (λ ps. IsOnWay path (pairs_view xs) ps before found) (pairs_next xs c.pairs.pair-index x (omega arith) c.pair-item.is) c.pairs.invariant.0
    in (
      walked_on path (pairs_view xs) (pairs_view (drop (c.pairs.pair-index + 1) xs)) (pair_view x) before found (map walk_of c.walk_pair.new.files.items) way
          c.in_ok-walk_pair.ensures,
      left_behind path xs c.pairs.pair-index x (omega arith) c.pair-item.is c.pairs.invariant.1,
    )

pub walk-pairs-init : goal.walk-pairs-init
walk-pairs-init t c = (search rules, all_left c.args.folder.now (pairs_view c.args.pairs.now) c.requires)

pub walk_pair-returns : goal.walk_pair-returns
walk_pair-returns t c =
    let path = c.args.folder.now in
    let farther : c.in_ok-below.below ≡ path ++ c.args.pair.now.key.now ∷ [] = c.in_ok-below.ensures
    ∙ ap (λ n. path ++ n ∷ []) c.component-name.ensures in
    let inner = dict_pairs c.args.pair.now.value _ c.deref-2.result.now _ c.in-Dict.is (view-Dict c.in-Dict.inner) c.deref-2.ensures.value in
    on_ok_weaker c.walk.result (walked_below path c.in_ok-below.below c.args.pair.now _ (map walk_of c.args.files.now.items)
    (map walk_of c.walk.new.files.items) c.requires.named farther inner) c.walk.ensures

pub walk_pair-returns-then-is_file : goal.walk_pair-returns-then-is_file
walk_pair-returns-then-is_file t c =
    let x = c.args.pair.now in
    let y = c.index.result.now in
    let path = c.args.folder.now in
    let old = map walk_of c.args.files.now.items in
    let new = map walk_of c.push.new.self.items in
    let some : is_nil x.key.now ≡ false = subst (λ (p : Seen). is_nil p.0 ≡ false) (view-Pair x.key x.value) c.requires.named in
    let file : is_file (pairs_view c.in-Dict.inner.items) ≡ true = subst (λ ps. is_file (pairs_view ps) ≡ true) c.deref.ensures.value (sym c.is_file.ensures
    ∙ c.if-is_file.true) in
    let node = file_node c.in-Dict.inner.items y file c.index.ensures in
    let whole : view x.value ≡ dict (pair y.key.now (view y.value) no_pairs) = ap view c.in-Dict.is ∙ view-Dict c.in-Dict.inner
    ∙ ap dict (node.0 ∙ ap (λ (p : Seen). pair p.0 p.1 no_pairs) (view-Pair y.key y.value)) in
    let nil : is_nil y.key.now ≡ true = subst (λ (p : Seen). is_nil p.0 ≡ true) (view-Pair y.key y.value) node.1 in
    let name = c.component-name.result.now in
    let there : c.new-path.result ≡ path ++ x.key.now ∷ [] = c.new-path.ensures ∙ ap (λ f. f ++ name ∷ []) c.in_ok-share.ensures
    ∙ ap (λ n. path ++ n ∷ []) c.component-name.ensures in
    let added : new ≡ old ++ record { path = path ++ x.key.now ∷ []; file = view y.value } ∷ [] = ap (map walk_of) c.in_ok-push.ensures.items
    ∙ map-append walk_of c.args.files.now.items _
    ∙ ap (λ (p : List (List ℕ)). old ++ record { path = p; file = view y.value } ∷ []) there in
    subst (λ (p : Seen). AddsBehind path (walks_at p) old new) (sym (view-Pair x.key x.value)) (walked_file path x.key.now y.key.now (view x.value)
    (view y.value) old new some whole nil added)

pub walk-walk_pair-requires : goal.walk-walk_pair-requires
walk-walk_pair-requires t c = (
  search (rules, the_lemmas),
  node_at c.args.folder.now c.args.pairs.now c.pairs.pair-index c.pair-item.result (omega arith)
      c.pair-item.is c.pairs.invariant.1,
)

pub walk_pair-walk-requires : goal.walk_pair-walk-requires
walk_pair-walk-requires t c = (
  grind (arith, common_steps, the_lemmas),
  (let x = c.args.pair.now in
      let path = c.args.folder.now in
      let inner = dict_pairs x.value _ c.deref-2.result.now _ c.in-Dict.is (view-Dict c.in-Dict.inner) c.deref-2.ensures.value in
      let farther : c.in_ok-below.below ≡ path ++ x.key.now ∷ [] = c.in_ok-below.ensures ∙ ap (λ n. path ++ n ∷ []) c.component-name.ensures in
      let other : is_file (pairs_view c.deref-2.result.now) ≡ false = ap (λ ps. is_file (pairs_view ps)) (c.deref-2.ensures.value ∙ sym c.deref.ensures.value)
      ∙ sym c.is_file.ensures ∙ c.if-is_file.false in
      folder_at path c.in_ok-below.below x.key.now (view x.value) (pairs_view c.deref-2.result.now) farther inner other
      (subst (IsNodeBelow path) (view-Pair x.key x.value) c.requires)),
)
