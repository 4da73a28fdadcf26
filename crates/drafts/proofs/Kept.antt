-- What a draft keeps of its roots.
use Rattle.std.proofs.Common.{◌≡◌, ◌≢◌, inl, inr, ℕ, zero, suc, ◌+◌, ◌<◌, Bool, true, false, cond, List, [], ◌∷◌, ◌++◌, map, take, drop, None, Some, refl, sym}
use Rattle.std.proofs.Common.{ap, subst, ◌∙◌, arith}
use Rattle.filetree.proofs.ComparedKeys.{is_equal}
use Rattle.std.specs.Prelude.{nat_lt}
use Rattle.std.specs.BTreeMap.{insert_entry, is_at}
use Rattle.std.specs.Cmp.Lexicographic.{slice_cmp}
use Rattle.std.specs.List.{AllByRecursion, insert}
use Rattle.std.specs.List.Sorted.{IsStrictlySortedBy}
use Rattle.std.specs.Map.{keys_of}
use Rattle.std.specs.Ordering.{is_eq, nat_cmp}
use Rattle.std.specs.declared.cmp.Ordering.TheVariants.{Less, Equal, Greater}
use Rattle.std.proofs.lemmas.Cmp.{nat_list_cmp_total, tied_itself}
use Rattle.std.proofs.lemmas.Map.Keys.{sorted_head, sorted_tail}
use Rattle.std.proofs.lemmas.Map.Lookups.{exact_bytes}
use Rattle.std.proofs.lemmas.Option.{same_Some, none-some}
use Rattle.filetree.proofs.Ascending.{lower}
use Rattle.filetree.proofs.Bytes.{true_or_false}
use Rattle.filetree.specs.Paths.{AreInOrder, IsFilePath}
use Rattle.filetree.specs.Tests.{NoneHolds}
use Rattle.pieces.specs.Pieces.{pieces_of}
use Rattle.opening.specs.Trees.{pieces_in}
use Rattle.drafts.specs.Adding.{IsGiven, IsWith, ReusesRoot, add_rows, with_layer}
use Rattle.drafts.specs.DraftSeen.{AreRootsOf, Entries, HasRoot, IsDraftKept, KeepsRoot, kept_at, outline, outline_file, outline_layers}
use Rattle.drafts.specs.Orders.{IsPlaceOf}
use Rattle.drafts.specs.Outline.{Outline, OutlineFile, OutlineLayer, listed_file}
use Rattle.drafts.specs.declared.draft.DraftFile.{DraftFile}
use Rattle.drafts.specs.declared.draft.KeptRoot.{KeptRoot}
use Rattle.drafts.proofs.Adding.{add_keeps, equal_or_not}
use Rattle.drafts.proofs.OneMore.{new, pieces_put, put_back, put_here, put_kept, three}
use Rattle.drafts.proofs.Ordering.{put_in_order}

-- ---- layers

abbrev IsBelow : List ℕ → Entries → Type 0
IsBelow r es = AllByRecursion (λ k. slice_cmp nat_cmp r k ≡ Less) (keys_of es)

abbrev pub Ascend : Entries → Type 0
Ascend es = IsStrictlySortedBy (slice_cmp nat_cmp) (keys_of es)

-- a root below all others is not kept
below_none : (r : List ℕ) (es : Entries) → IsBelow r es → kept_at r es ≡ None
below_none r [] below = refl
below_none r (e ∷ es) below = rw below.0 (below_none r es below.1)

front : (p : ℕ) (r : List ℕ) (hs : List (List ℕ)) (es : Entries) → IsBelow r es → with_layer r hs (outline_layers p es) ≡ new r hs ∷ outline_layers p es
front p r hs [] below = refl
front p r hs (e ∷ es) below =
    elim (true_or_false (nat_lt p e.1.length)) [
      | inl long ↦ rw long (rw below.0 refl)
      | inr short ↦ rw short (front p r hs es below.1)
    ]

below_more : (r : List ℕ) (e : List ℕ × KeptRoot) (es : Entries) → Ascend (e ∷ es) → slice_cmp nat_cmp r e.0 ≡ Less → IsBelow r (e ∷ es)
below_more r e es order less = (less, lower r e.0 (keys_of es) less (sorted_head (slice_cmp nat_cmp) e.0 (keys_of es) order))

-- what goes behind a layer, if there is one, whose root is less
behind : (r : List ℕ) (hs : List (List ℕ)) (tall long : Bool) (x : OutlineLayer) (xs ys : List OutlineLayer) → slice_cmp nat_cmp r x.root ≡ Greater
    → ys ≡ cond long (with_layer r hs xs) xs → cond tall (x ∷ ys) ys ≡ cond long (with_layer r hs (cond tall (x ∷ xs) xs)) (cond tall (x ∷ xs) xs)
behind r hs true true x xs ys greater is = rw greater (ap (λ zs. x ∷ zs) is)
behind r hs true false x xs ys greater is = ap (λ zs. x ∷ zs) is
behind r hs false long x xs ys greater is = is

-- a new root adds its layer, if it has one
pub layers_inserted : (p : ℕ) (r : List ℕ) (k : KeptRoot) (es : Entries) → Ascend es → kept_at r es ≡ None
    → outline_layers p (insert_entry (slice_cmp nat_cmp) es r k) ≡ cond (nat_lt p k.length) (with_layer r k.layer.items (outline_layers p es))
    (outline_layers p es)
layers_inserted p r k [] order none = refl
layers_inserted p r k (e ∷ es) order none =
    elim (three (slice_cmp nat_cmp r e.0)) [
      | inl less ↦ elim (true_or_false (nat_lt p k.length)) [
        | inl long ↦ rw less (rw long (sym (front p r k.layer.items (e ∷ es) (below_more r e es order less))))
        | inr short ↦ rw less (rw short refl)
      ]
      | inr more ↦ elim more [
        | inl same ↦ absurd (none-some e.1 (sym none ∙ found same))
        | inr greater ↦ rw greater (behind r k.layer.items (nat_lt p e.1.length) (nat_lt p k.length) (new e.0 e.1.layer.items) (outline_layers p es)
            (outline_layers p (insert_entry (slice_cmp nat_cmp) es r k)) greater
            (layers_inserted p r k es (sorted_tail (slice_cmp nat_cmp) e.0 (keys_of es) order) (sym (passed greater) ∙ none)))
      ]
    ]
  where
    found : slice_cmp nat_cmp r e.0 ≡ Equal → kept_at r (e ∷ es) ≡ Some e.1
    found same = rw same refl

    passed : slice_cmp nat_cmp r e.0 ≡ Greater → kept_at r (e ∷ es) ≡ kept_at r es
    passed greater = rw greater refl

-- a root that has a layer keeps it
pub layers_kept : (p : ℕ) (r : List ℕ) (hs : List (List ℕ)) (k : KeptRoot) (es : Entries) → Ascend es → kept_at r es ≡ Some k → nat_lt p k.length ≡ true
    → with_layer r hs (outline_layers p es) ≡ outline_layers p es
layers_kept p r hs k [] order at long = cc
layers_kept p r hs k (e ∷ es) order at long =
    elim (three (slice_cmp nat_cmp r e.0)) [
      | inl less ↦ absurd (none-some k (sym (below_none r (e ∷ es) (below_more r e es order less)) ∙ at))
      | inr more ↦ elim more [
        | inl same ↦
            let one : e.1 ≡ k = same_Some e.1 k (rw same at at) in
            let tall : nat_lt p e.1.length ≡ true = ap (λ (x : KeptRoot). nat_lt p x.length) one ∙ long in
            rw tall (rw same refl)
        | inr greater ↦
            sym (behind r hs (nat_lt p e.1.length) true (new e.0 e.1.layer.items) (outline_layers p es) (outline_layers p es) greater
            (sym (layers_kept p r hs k es (sorted_tail (slice_cmp nat_cmp) e.0 (keys_of es) order) (rw greater at at) long)))
      ]
    ]

-- ---- roots

-- a root is found with another length
pub reuses : (d : Outline) (es : Entries) (n : ℕ) (root : List ℕ) (k : KeptRoot) → AreRootsOf d.files es → kept_at root es ≡ Some k → 0 < n → k.length ≢ n
    → ReusesRoot d n root
reuses d es n root k roots at some differ =
    let used = roots.used root k at in
    record {
      number = used.number;
      other = used.file;
      there = used.there;
      some = some;
      other_some = used.some;
      same = used.root_is;
      differ = λ same. differ (sym used.length_is ∙ same);
    }

-- the file's root is kept with its length
pub root_there : (d : Outline) (es : Entries) (f : OutlineFile) (k : KeptRoot) → AreRootsOf d.files es → 0 < f.length → (ReusesRoot d f.length f.root → ⊥)
    → kept_at f.root es ≡ Some k → HasRoot es f
root_there d es f k roots some not at = record {
  kept = k;
  there = at;
  length_is = elim (equal_or_not k.length f.length) [ inl same ↦ same | inr differ ↦ absurd (not (reuses d es f.length f.root k roots at some differ)) ];
}

pub roots_kept : (fs : List OutlineFile) (es : Entries) (i : ℕ) (f : OutlineFile) → AreRootsOf fs es → (0 < f.length → HasRoot es f)
    → AreRootsOf (take i fs ++ f ∷ drop i fs) es
roots_kept fs es i f roots has = record {
  ordered = roots.ordered;
  each = λ n g at some. elim (put_back i f fs n g at) [
    | inl same ↦ subst (HasRoot es) same (has (subst (λ (x : OutlineFile). 0 < x.length) (sym same) some))
    | inr old ↦ roots.each old.0 g old.1 some
  ];
  used = λ root k at.
      let used = roots.used root k at in
      let there = put_kept i f fs used.number used.file used.there in
      record { number = there.0; file = used.file; there = there.1; some = used.some; root_is = used.root_is; length_is = used.length_is };
}

abbrev pub Updates : Entries → Entries → List ℕ → KeptRoot → Type 0
Updates es xs root k = (q : List ℕ) → kept_at q xs ≡ cond (is_at (slice_cmp nat_cmp root) q) (Some k) (kept_at q es)

pub roots_inserted : (fs : List OutlineFile) (es xs : Entries) (i : ℕ) (f : OutlineFile) (k : KeptRoot) → AreRootsOf fs es → 0 < f.length
    → kept_at f.root es ≡ None → k.length ≡ f.length
    → Ascend xs → Updates es xs f.root k → AreRootsOf (take i fs ++ f ∷ drop i fs) xs
roots_inserted fs es xs i f k roots some none length_is order updates = record {
  ordered = order;
  each = λ n g at full. elim (put_back i f fs n g at) [
    | inl same ↦ subst (HasRoot xs) same (record { kept = k; there = updates f.root ∙ own; length_is = length_is })
    | inr old ↦ let has = roots.each old.0 g old.1 full in record {
      kept = has.kept;
      there = updates g.root ∙ elim (true_or_false (is_eq (slice_cmp nat_cmp f.root g.root))) [
        | inl same ↦ absurd (none-some has.kept (sym none ∙ ap (λ s. kept_at s es) (exact_bytes f.root g.root (is_equal (slice_cmp nat_cmp f.root g.root) same))
            ∙ has.there))
        | inr other ↦ rw other has.there
      ];
      length_is = has.length_is;
    }
  ];
  used = λ root l at. elim (true_or_false (is_eq (slice_cmp nat_cmp f.root root))) [
    | inl same ↦
        let here = put_here i f fs in
        let one : k ≡ l = same_Some k l (sym (rw same at (updates root)) ∙ at) in
        record {
          number = here.0;
          file = f;
          there = here.1;
          some = some;
          root_is = exact_bytes f.root root (is_equal (slice_cmp nat_cmp f.root root) same);
          length_is = sym length_is ∙ ap (λ (x : KeptRoot). x.length) one;
        }
    | inr other ↦
        let used = roots.used root l (sym (rw other at (updates root)) ∙ at) in
        let there = put_kept i f fs used.number used.file used.there in
        record { number = there.0; file = used.file; there = there.1; some = used.some; root_is = used.root_is; length_is = used.length_is }
  ];
}
  where
    own : cond (is_at (slice_cmp nat_cmp f.root) f.root) (Some k) (kept_at f.root es) ≡ Some k
    own = rw (tied_itself nat_list_cmp_total f.root) refl

-- ---- a root more

nothing_longer : (p n : ℕ) → n ≡ 0 → nat_lt p n ≡ false
nothing_longer p n none = grind (arith, none)

pub keeps_empty : (d : Outline) (p : ℕ) (f : OutlineFile) (layer : List (List ℕ)) (es : Entries) → f.length ≡ 0 → AreRootsOf d.files es
    → KeepsRoot p d.files f layer es es
keeps_empty d p f layer es none roots = record {
  layers = let short = nothing_longer p f.length none in rw short refl;
  roots = λ i. roots_kept d.files es i f roots (λ some. absurd (omega (arith, some, none)));
}

pub keeps_there : (d : Outline) (p : ℕ) (f : OutlineFile) (layer : List (List ℕ)) (es : Entries) (k : KeptRoot) → kept_at f.root es ≡ Some k
    → AreRootsOf d.files es
    → (ReusesRoot d f.length f.root → ⊥) → KeepsRoot p d.files f layer es es
keeps_there d p f layer es k at roots not = record {
  layers = elim (true_or_false (nat_lt p f.length)) [
    | inl long ↦
        let some : 0 < f.length = grind (arith, long) in
        let has = root_there d es f k roots some not at in
        let tall : nat_lt p has.kept.length ≡ true = ap (nat_lt p) has.length_is ∙ long in
        rw long (sym (layers_kept p f.root layer has.kept es roots.ordered has.there tall))
    | inr short ↦ rw short refl
  ];
  roots = λ i. roots_kept d.files es i f roots (λ some. root_there d es f k roots some not at);
}

pub keeps_new : (d : Outline) (p : ℕ) (f : OutlineFile) (layer : List (List ℕ)) (es xs : Entries) (k : KeptRoot) → 0 < f.length → kept_at f.root es ≡ None
    → k.length ≡ f.length
    → (p < f.length → k.layer.items ≡ layer) → xs ≡ insert_entry (slice_cmp nat_cmp) es f.root k → Updates es xs f.root k → Ascend xs → AreRootsOf d.files es
    → KeepsRoot p d.files f layer es xs
keeps_new d p f layer es xs k some none length_is layer_is entries updates order roots = record {
  layers = ap (outline_layers p) entries ∙ layers_inserted p f.root k es roots.ordered none ∙ elim (true_or_false (nat_lt p f.length)) [
    | inl long ↦
        let tall : nat_lt p k.length ≡ true = ap (nat_lt p) length_is ∙ long in
        let same : k.layer.items ≡ layer = layer_is (grind (arith, long)) in
        rw long (rw tall (ap (λ hs. with_layer f.root hs (outline_layers p es)) same))
    | inr short ↦ let small : nat_lt p k.length ≡ false = ap (nat_lt p) length_is ∙ short in rw short (rw small refl)
  ];
  roots = λ i. roots_inserted d.files es xs i f k roots some none length_is order updates;
}

-- ---- a file more

map_put : {A B : Type 0} (f : A → B) (i : ℕ) (x : A) (xs : List A) → map f (take i xs ++ x ∷ drop i xs) ≡ take i (map f xs) ++ f x ∷ drop i (map f xs)
map_put f zero x xs = refl
map_put f (suc i) x [] = refl
map_put f (suc i) x (y ∷ ys) = ap (λ zs. f y ∷ zs) (map_put f i x ys)

abbrev pub paths_of : List DraftFile → List (List (List ℕ))
paths_of fs = map (λ (f : OutlineFile). f.path) (map outline_file fs)

pub made_with : (name : List ℕ) (p : ℕ) (hybrid : Bool) (fs gs : List DraftFile) (es xs : Entries) (place : ℕ) (f : DraftFile) (layer : List (List ℕ))
    → AreInOrder (paths_of fs) → IsPlaceOf (outline_file f).path (paths_of fs) place → gs ≡ insert fs place f
    → outline_layers p xs ≡ cond (nat_lt p f.length) (with_layer f.root layer (outline_layers p es)) (outline_layers p es)
    → IsWith (outline name p hybrid fs es) (outline name p hybrid gs xs) (outline_file f) layer
made_with name p hybrid fs gs es xs place f layer order at is layers = record {
  name = refl;
  piece_length = refl;
  hybrid = refl;
  place = place;
  files = ap (map outline_file) is ∙ map_put outline_file place f fs;
  in_order = subst AreInOrder (sym (ap paths_of is ∙ ap (map (λ (g : OutlineFile). g.path)) (map_put outline_file place f fs)
      ∙ map_put (λ (g : OutlineFile). g.path) place (outline_file f) (map outline_file fs)))
      (put_in_order (outline_file f).path place (paths_of fs) order at);
  layers = layers;
}

pub made_kept : (name : List ℕ) (p : ℕ) (hybrid : Bool) (fs gs : List DraftFile) (es xs : Entries) (pieces more : ℕ) (place : ℕ) (f : DraftFile)
    (layer : List (List ℕ))
    → IsDraftKept name p hybrid fs es pieces → NoneHolds (add_rows (outline name p hybrid fs es) (outline_file f)) → IsFilePath (outline_file f).path
    → IsGiven (outline name p hybrid fs es) (outline_file f) layer
    → gs ≡ insert fs place f → more ≡ pieces + pieces_of p f.length
    → AreRootsOf (take place (map outline_file fs) ++ outline_file f ∷ drop place (map outline_file fs)) xs
    → IsWith (outline name p hybrid fs es) (outline name p hybrid gs xs) (outline_file f) layer
    → IsDraftKept name p hybrid gs xs more
made_kept name p hybrid fs gs es xs pieces more place f layer kept none path given is count roots w =
    let files : map outline_file gs ≡ take place (map outline_file fs) ++ outline_file f ∷ drop place (map outline_file fs) = ap (map outline_file) is
    ∙ map_put outline_file place f fs in
    record {
      outline_is = add_keeps (outline name p hybrid fs es) (outline name p hybrid gs xs) (outline_file f) layer kept.outline_is path none given w;
      roots = subst (λ (os : List OutlineFile). AreRootsOf os xs) (sym files) roots;
      pieces_are = count ∙ ap (λ n. n + pieces_of p f.length) kept.pieces_are
          ∙ sym (pieces_put p place (outline_file f) (map outline_file fs))
          ∙ ap (λ (os : List OutlineFile). pieces_in p (map listed_file os)) (sym files);
    }

-- a file is put at its place, and its root is kept
pub put_file : (name : List ℕ) (p : ℕ) (hybrid : Bool) (fs gs : List DraftFile) (es xs : Entries) (pieces more : ℕ) (place : ℕ) (f : DraftFile)
    (layer : List (List ℕ)) (q : ℕ)
    → IsDraftKept name p hybrid fs es pieces → NoneHolds (add_rows (outline name p hybrid fs es) (outline_file f)) → IsFilePath (outline_file f).path
    → IsGiven (outline name p hybrid fs es) (outline_file f) layer → IsPlaceOf (outline_file f).path (paths_of fs) place
    → gs ≡ insert fs place f → more ≡ pieces + pieces_of p f.length
    → ((d : Outline) → AreRootsOf d.files es → (ReusesRoot d f.length f.root → ⊥) → KeepsRoot q d.files (outline_file f) layer es xs) → q ≡ p
    → IsWith (outline name p hybrid fs es) (outline name p hybrid gs xs) (outline_file f) layer × IsDraftKept name p hybrid gs xs more
put_file name p hybrid fs gs es xs pieces more place f layer q kept none path given at is count keeps same =
    let d : Outline = outline name p hybrid fs es in
    let k : KeepsRoot p d.files (outline_file f) layer es xs = subst (λ n. KeepsRoot n d.files (outline_file f) layer es xs) same
    (keeps d kept.roots none.1.1.0) in
    let w : IsWith d (outline name p hybrid gs xs) (outline_file f) layer = made_with name p hybrid fs gs es xs place f layer kept.outline_is.in_order at is
    k.layers in
    (w, made_kept name p hybrid fs gs es xs pieces more place f layer kept none path given is count (k.roots place) w)
