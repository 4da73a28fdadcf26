-- A draft with a file more is a draft.
use Rattle.std.proofs.Common.{◌≡◌, ◌≢◌, ℕ, ◌+◌, ◌^◌, ◌<◌, ◌≤◌, true, if◌then◌else◌, List, ◌∷◌, ◌++◌, length, map, take, drop, Some, slice_get}
use Rattle.std.proofs.Common.{inl, inr, sym, ap, subst, ◌∙◌, arith, ◌⊎◌}
use Rattle.std.proofs.lemmas.Bool.{cases_lt}
use Rattle.std.specs.Cmp.Lexicographic.{slice_cmp}
use Rattle.std.specs.List.Sorted.{IsStrictlySortedBy}
use Rattle.std.specs.Ordering.{nat_cmp}
use Rattle.std.specs.Prelude.{nat_lt}
use Rattle.drafts.specs.Adding.{IsGiven, IsWith, add_rows, with_layer}
use Rattle.drafts.specs.Outline.{HasLayer, IsLayerOf, IsOutline, IsOutlineFile, Outline, OutlineFile, OutlineLayer, listed_file}
use Rattle.filetree.proofs.Bytes.{true_or_false}
use Rattle.filetree.specs.Paths.{IsFilePath, AreInOrder}
use Rattle.filetree.specs.Tests.{NoneHolds}
use Rattle.opening.specs.PieceLayers.{leads_to}
use Rattle.opening.specs.Trees.{pieces_in}
use Rattle.pieces.specs.Pieces.{pieces_of}
use Rattle.drafts.proofs.OneMore.{In, put_back, put_kept, put_here, pieces_put, new, layer_back, layer_kept, layer_has, roots_of, layer_order}

-- ---- the draft with the file

moved_layer : (p : ℕ) (x : OutlineLayer) (f g : OutlineFile) → f.root ≡ g.root → f.length ≡ g.length → IsLayerOf p x f → IsLayerOf p x g
moved_layer p x f g root size is = record {
  root = is.root ∙ root;
  count = is.count ∙ ap (pieces_of p) size;
  hash_lengths = is.hash_lengths;
  leads = subst (λ n. leads_to p (record { root = g.root; length = n }) x.hashes ≡ g.root) size
      (subst (λ r. leads_to p (record { root = r; length = f.length }) x.hashes ≡ r) root is.leads);
}

record Tests (d : Outline) (f : OutlineFile) : Type 0 where
  path : IsFilePath f.path
  bound : f.length ≤ 2 ^ 46
  one_length : (n : ℕ) (g : OutlineFile) → slice_get d.files n ≡ Some g → 0 < f.length → 0 < g.length → g.root ≡ f.root → g.length ≡ f.length
  pieces : pieces_in d.piece_length (map listed_file d.files) + pieces_of d.piece_length f.length < 2 ^ 32

pub equal_or_not : (m n : ℕ) → (m ≡ n) ⊎ (m ≢ n)
equal_or_not m n = elim (cases_lt m n) [
  | inl less ↦ inr (λ e. omega arith)
  | inr least ↦ elim (cases_lt n m)
      [ inl less ↦ inr (λ e. omega arith) | inr most ↦ inl (omega arith) ]
]

tests : (d : Outline) (f : OutlineFile) → IsFilePath f.path → NoneHolds (add_rows d f) → Tests d f
tests d f path none = record {
  path = path;
  bound = elim (cases_lt (2 ^ 46) f.length) [ inl more ↦ absurd (none.1.0 more) | inr least ↦ least ];
  one_length = λ n g at some other same. elim (equal_or_not g.length f.length) [
    | inl equal ↦ equal
    | inr differ ↦ absurd (none.1.1.0 (record { number = n; other = g; there = at; some = some; other_some = other; same = same; differ = differ }))
  ];
  pieces = elim (cases_lt (pieces_in d.piece_length (map listed_file d.files) + pieces_of d.piece_length f.length) (2 ^ 32))
      [ inl few ↦ few | inr many ↦ absurd (none.1.1.1.0 many) ];
}

abbrev layers_with : Outline → OutlineFile → List (List ℕ) → List OutlineLayer
layers_with d f layer = if nat_lt d.piece_length f.length then with_layer f.root layer d.layers else d.layers

abbrev made : Outline → OutlineFile → List (List ℕ) → ℕ → Outline
made d f layer place = record {
  name = d.name;
  piece_length = d.piece_length;
  hybrid = d.hybrid;
  files = take place d.files ++ f ∷ drop place d.files;
  layers = layers_with d f layer;
}

kept : (d : Outline) (f : OutlineFile) (layer : List (List ℕ)) (n : ℕ) (x : OutlineLayer) → slice_get d.layers n ≡ Some x → In (layers_with d f layer) x
kept d f layer n x at =
    elim (true_or_false (nat_lt d.piece_length f.length)) [
      | inl long ↦ rw long (layer_kept f.root layer d.layers n x at)
      | inr short ↦ rw short (n, at)
    ]

-- a layer is the file's, which is longer than a piece, or an old one
back : (d : Outline) (f : OutlineFile) (layer : List (List ℕ)) (n : ℕ) (x : OutlineLayer) → slice_get (layers_with d f layer) n ≡ Some x
    → ((d.piece_length < f.length) × (new f.root layer ≡ x)) ⊎ In d.layers x
back d f layer n x at =
    elim (true_or_false (nat_lt d.piece_length f.length)) [
      | inl long ↦ elim (layer_back f.root layer d.layers n x (rw long at at))
          [ inl same ↦ inl ((let more : d.piece_length < f.length = grind (arith, long) in more), same) | inr old ↦ inr old ]
      | inr short ↦ inr (n, rw short at at)
    ]

ordered : (d : Outline) (f : OutlineFile) (layer : List (List ℕ)) → IsStrictlySortedBy (slice_cmp nat_cmp) (roots_of d.layers)
    → IsStrictlySortedBy (slice_cmp nat_cmp) (roots_of (layers_with d f layer))
ordered d f layer order =
    elim (true_or_false (nat_lt d.piece_length f.length)) [
      | inl long ↦ rw long (layer_order f.root layer d.layers order)
      | inr short ↦ rw short order
    ]

old_layer : (d : Outline) (f g : OutlineFile) (layer : List (List ℕ)) (place : ℕ) → HasLayer d g → HasLayer (made d f layer place) g
old_layer d f g layer place has =
    let there = kept d f layer has.number has.layer has.there in record { number = there.0; layer = has.layer; there = there.1; is = has.is }

-- the file's own layer: the one given, or the one of an older file with its root, which has its length
own_layer : (d : Outline) (f : OutlineFile) (layer : List (List ℕ)) (place : ℕ) → IsOutline d → Tests d f → IsGiven d f layer → d.piece_length < f.length
    → HasLayer (made d f layer place) f
own_layer d f layer place o t given long =
    let e : nat_lt d.piece_length f.length ≡ true = grind (arith, long) in
    let has = layer_has f.root layer d.layers in
    let number : In (layers_with d f layer) has.0 = rw e has.1 in
    record {
      number = number.0;
      layer = has.0;
      there = number.1;
      is = elim has.3 [
        | inl same ↦ subst (λ x. IsLayerOf d.piece_length x f) same (given.may.fits long)
        | inr old ↦
            let used = o.layers_used old.0 has.0 old.1 in
            let root : used.1.root ≡ f.root = sym used.4.root ∙ has.2 in
            let other : d.piece_length < used.1.length = used.3 in
            moved_layer d.piece_length has.0 used.1 f root (t.one_length used.0 used.1 used.2 (omega (arith, long)) (omega (arith, other)) root) used.4
      ];
    }

made_outline : (d : Outline) (f : OutlineFile) (layer : List (List ℕ)) (place : ℕ) → IsOutline d → Tests d f → IsGiven d f layer
    → AreInOrder (map (λ (g : OutlineFile). g.path) (take place d.files ++ f ∷ drop place d.files)) → IsOutline (made d f layer place)
made_outline d f layer place o t given order = record {
  name = o.name;
  legal = o.legal;
  files = λ n g at. elim (put_back place f d.files n g at) [
    | inl same ↦ subst IsOutlineFile same (record {
      path = t.path;
      bound = t.bound;
      root_length = given.root_length;
      cut_lengths = given.cut_lengths;
      padded_length = given.padded_length;
    })
    | inr old ↦ o.files old.0 g old.1
  ];
  cuts = λ n g at hybrid some. elim (put_back place f d.files n g at) [
    | inl same ↦ subst (λ (x : OutlineFile). length x.cuts ≡ pieces_of d.piece_length x.length) same
        (given.may.cuts hybrid (subst (λ (x : OutlineFile). 0 < x.length) (sym same) some))
    | inr old ↦ o.cuts old.0 g old.1 hybrid some
  ];
  in_order = order;
  one_length = λ m n g h at_g at_h some_g some_h root. elim (put_back place f d.files m g at_g) [
    | inl one ↦ elim (put_back place f d.files n h at_h) [
      | inl other ↦ ap (λ (x : OutlineFile). x.length) (sym one ∙ other)
      | inr old ↦
          let length_is : h.length ≡ f.length = t.one_length old.0 h old.1 (subst (λ (x : OutlineFile). 0 < x.length) (sym one) some_g) some_h (sym root
          ∙ ap (λ (x : OutlineFile). x.root) (sym one)) in
          ap (λ (x : OutlineFile). x.length) (sym one) ∙ sym length_is
    ]
    | inr past ↦ elim (put_back place f d.files n h at_h) [
      | inl other ↦
          let length_is : g.length ≡ f.length = t.one_length past.0 g past.1 (subst (λ (x : OutlineFile). 0 < x.length) (sym other) some_h) some_g (root
          ∙ ap (λ (x : OutlineFile). x.root) (sym other)) in
          length_is ∙ ap (λ (x : OutlineFile). x.length) other
      | inr old ↦ o.one_length past.0 old.0 g h past.1 old.1 some_g some_h root
    ]
  ];
  pieces = subst (λ n. n < 2 ^ 32) (sym (pieces_put d.piece_length place f d.files)) t.pieces;
  layers_ascend = ordered d f layer o.layers_ascend;
  layers_there = λ n g at long. elim (put_back place f d.files n g at) [
    | inl same ↦ subst (HasLayer (made d f layer place)) same
        (own_layer d f layer place o t given (subst (λ (x : OutlineFile). d.piece_length < x.length) (sym same) long))
    | inr old ↦ old_layer d f g layer place (o.layers_there old.0 g old.1 long)
  ];
  layers_used = λ n x at. elim (back d f layer n x at) [
    | inl own ↦ let here = put_here place f d.files in (here.0, f, here.1, own.0, subst (λ y. IsLayerOf d.piece_length y f) own.1 (given.may.fits own.0))
    | inr old ↦
        let used = o.layers_used old.0 x old.1 in
        let there = put_kept place f d.files used.0 used.1 used.2 in (there.0, used.1, there.1, used.3, used.4)
  ];
}

outline_is : (d e : Outline) (f : OutlineFile) (layer : List (List ℕ)) (w : IsWith d e f layer) → e ≡ made d f layer w.place
outline_is d e f layer w =
    ap (λ s. record { name = s; piece_length = e.piece_length; hybrid = e.hybrid; files = e.files; layers = e.layers }) w.name
    ∙ ap (λ n. record { name = d.name; piece_length = n; hybrid = e.hybrid; files = e.files; layers = e.layers }) w.piece_length
    ∙ ap (λ b. record { name = d.name; piece_length = d.piece_length; hybrid = b; files = e.files; layers = e.layers }) w.hybrid
    ∙ ap (λ (fs : List OutlineFile). record { name = d.name; piece_length = d.piece_length; hybrid = d.hybrid; files = fs; layers = e.layers }) w.files
    ∙ ap (λ (ls : List OutlineLayer). record {
      name = d.name;
      piece_length = d.piece_length;
      hybrid = d.hybrid;
      files = take w.place d.files
          ++ f ∷ drop w.place d.files;
      layers = ls;
    }) w.layers

pub add_keeps : (d e : Outline) (f : OutlineFile) (layer : List (List ℕ)) → IsOutline d → IsFilePath f.path → NoneHolds (add_rows d f) → IsGiven d f layer
    → IsWith d e f layer → IsOutline e
add_keeps d e f layer o path none given w =
    subst IsOutline (sym (outline_is d e f layer w))
    (made_outline d f layer w.place o (tests d f path none) given (subst (λ (fs : List OutlineFile). AreInOrder (map (λ (g : OutlineFile). g.path) fs)) w.files
    w.in_order))
