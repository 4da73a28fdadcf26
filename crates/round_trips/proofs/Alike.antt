-- Drafts of the same files are written alike.
use Rattle.std.proofs.Common.{◌≡◌, ℕ, zero, suc, ◌+◌, ◌-◌, ◌<◌, Bool, true, false, ◌&&◌, ◌||◌, cond, List, [], ◌∷◌, ◌++◌, length, map, take, drop, refl, sym}
use Rattle.std.proofs.Common.{ap, ◌∙◌, subst}
use Rattle.std.proofs.Common.{if◌then◌else◌, arith, inl, inr}
use Rattle.std.specs.Prelude.{nat_lt}
use Rattle.std.specs.List.{AllByRecursion, concat, list_any}
use Rattle.std.specs.List.Sorted.{IsStrictlySortedBy}
use Rattle.std.specs.declared.cmp.Ordering.TheVariants.{Less, Greater}
use Rattle.std.proofs.lemmas.Bool.{ltb-true}
use Rattle.benc.specs.Value.{Bencode, Items, Pairs, dict, int, item, list, no_items, no_pairs, pair, text}
use Rattle.chains.specs.Chain.{Chain}
use Rattle.chains.proofs.Chains.{Chain-each}
use Rattle.drafts.proofs.Ordering.{less_greater}
use Rattle.drafts.specs.Adding.{IsWith, with_layer}
use Rattle.drafts.specs.Outline.{Outline, OutlineFile, OutlineLayer, empty_outline}
use Rattle.drafts.specs.Written.{digests_in, digests_of, entries_value, entry_value, file_tree_of, file_value, filled_cuts, first_length, gap, has_content}
use Rattle.drafts.specs.Written.{info_value, is_single, last_pairs, list_pair, needs_pad, pairs_of_layers, pieces_pair, tree_of_walks, value_of, walk_to_file}
use Rattle.filetree.proofs.Bytes.{true_or_false}
use Rattle.filetree.specs.FileTree.{Walk}
use Rattle.filetree.specs.Paths.{AreInOrder, path_cmp}
use Rattle.gathering.specs.Gathered.{DraftAdds, IsDraftFile, piece_hashes}

-- ---- files that are written alike

record IsAlike (hybrid : Bool) (f g : OutlineFile) : Type 0 where
  pub path : f.path ≡ g.path
  pub length_is : f.length ≡ g.length
  pub root : 0 < f.length → f.root ≡ g.root
  pub cuts : f.cuts ≡ g.cuts
  pub padded : hybrid ≡ true → 0 < f.length → f.padded ≡ g.padded

abbrev AreAlike : Bool → List OutlineFile → List OutlineFile → Type 0
AreAlike hybrid [] [] = Unit {0}
AreAlike hybrid [] (g ∷ gs) = ⊥
AreAlike hybrid (f ∷ fs) [] = ⊥
AreAlike hybrid (f ∷ fs) (g ∷ gs) = IsAlike hybrid f g × AreAlike hybrid fs gs

file_alike : (hybrid : Bool) (f g : OutlineFile) → IsAlike hybrid f g → file_value f ≡ file_value g
file_alike hybrid f g same = elim (true_or_false (nat_lt 0 f.length)) [
  | inl some ↦
      let more : nat_lt 0 g.length ≡ true = sym (ap (nat_lt 0) same.length_is) ∙ some in
      rw (some, more, same.length_is, same.root (ltb-true 0 f.length some)) refl
  | inr none ↦
      let no_more : nat_lt 0 g.length ≡ false = sym (ap (nat_lt 0) same.length_is) ∙ none in
      rw (none, no_more, same.length_is) refl
]

walks_alike : (hybrid : Bool) (fs gs : List OutlineFile) → AreAlike hybrid fs gs → map walk_to_file fs ≡ map walk_to_file gs
walks_alike hybrid [] [] all = refl
walks_alike hybrid [] (g ∷ gs) all = absurd all
walks_alike hybrid (f ∷ fs) [] all = absurd all
walks_alike hybrid (f ∷ fs) (g ∷ gs) all =
    let one : walk_to_file f ≡ walk_to_file g =
    ap (λ p. record { path = p; file = file_value f }) all.0.path ∙ ap (λ v. record { path = g.path; file = v }) (file_alike hybrid f g all.0) in
    ap (λ w. w ∷ map walk_to_file fs) one ∙ ap (λ ws. walk_to_file g ∷ ws) (walks_alike hybrid fs gs all.1)

content_alike : (hybrid : Bool) (fs gs : List OutlineFile) → AreAlike hybrid fs gs → has_content fs ≡ has_content gs
content_alike hybrid [] [] all = refl
content_alike hybrid [] (g ∷ gs) all = absurd all
content_alike hybrid (f ∷ fs) [] all = absurd all
content_alike hybrid (f ∷ fs) (g ∷ gs) all =
    ap (λ n. nat_lt 0 n || has_content fs) all.0.length_is ∙ ap (λ b. nat_lt 0 g.length || b) (content_alike hybrid fs gs all.1)

filled_alike : (f g : OutlineFile) → f.cuts ≡ g.cuts → f.padded ≡ g.padded → filled_cuts f ≡ filled_cuts g
filled_alike f g cuts padded = ap (λ cs. take (length cs - 1) cs ++ f.padded ∷ []) cuts ∙ ap (λ x. take (length g.cuts - 1) g.cuts ++ x ∷ []) padded

digests_alike : (fs gs : List OutlineFile) → AreAlike true fs gs → digests_of fs ≡ digests_of gs
digests_alike [] [] all = refl
digests_alike [] (g ∷ gs) all = absurd all
digests_alike (f ∷ fs) [] all = absurd all
digests_alike (f ∷ fs) (g ∷ gs) all =
    ap (λ ds. ds ++ digests_of fs) one ∙ ap (λ ds. digests_in g gs ++ ds) (digests_alike fs gs all.1)
  where
    one : digests_in f fs ≡ digests_in g gs
    one = elim (true_or_false (nat_lt 0 f.length)) [
      | inl some ↦
          let more : nat_lt 0 g.length ≡ true = sym (ap (nat_lt 0) all.0.length_is) ∙ some in
          let later = content_alike true fs gs all.1 in
          rw (some, more)
          (ap (λ b. (if b then filled_cuts f else f.cuts)) later
          ∙ ap (λ x. (if has_content gs then x else f.cuts)) (filled_alike f g all.0.cuts (all.0.padded refl (ltb-true 0 f.length some)))
          ∙ ap (λ x. (if has_content gs then filled_cuts g else x)) all.0.cuts)
      | inr none ↦
          let no_more : nat_lt 0 g.length ≡ false = sym (ap (nat_lt 0) all.0.length_is) ∙ none in
          rw (none, no_more) refl
    ]

entry_alike : (hybrid : Bool) (f g : OutlineFile) → IsAlike hybrid f g → entry_value f ≡ entry_value g
entry_alike hybrid f g same = rw (same.length_is, same.path) refl

pad_alike : (hybrid : Bool) (p : ℕ) (f g : OutlineFile) (fs gs : List OutlineFile) → IsAlike hybrid f g → AreAlike hybrid fs gs
    → needs_pad p f fs ≡ needs_pad p g gs
pad_alike hybrid p f g fs gs same all =
    ap (λ n. nat_lt 0 (gap p n) && has_content fs) same.length_is ∙ ap (λ b. nat_lt 0 (gap p g.length) && b) (content_alike hybrid fs gs all)

entries_alike : (hybrid : Bool) (p : ℕ) (fs gs : List OutlineFile) → AreAlike hybrid fs gs → entries_value p fs ≡ entries_value p gs
entries_alike hybrid p [] [] all = refl
entries_alike hybrid p [] (g ∷ gs) all = absurd all
entries_alike hybrid p (f ∷ fs) [] all = absurd all
entries_alike hybrid p (f ∷ fs) (g ∷ gs) all =
    rw (entry_alike hybrid f g all.0, pad_alike hybrid p f g fs gs all.0 all.1, all.0.length_is, entries_alike hybrid p fs gs all.1) refl

single_alike : (hybrid : Bool) (name : List ℕ) (fs gs : List OutlineFile) → AreAlike hybrid fs gs → is_single name fs ≡ is_single name gs
single_alike hybrid name [] [] all = refl
single_alike hybrid name [] (g ∷ gs) all = absurd all
single_alike hybrid name (f ∷ fs) [] all = absurd all
single_alike hybrid name (f ∷ []) (g ∷ []) all = rw (all.0.path) refl
single_alike hybrid name (f ∷ []) (g ∷ (h ∷ gs)) all = absurd all.1
single_alike hybrid name (f ∷ (x ∷ fs)) (g ∷ []) all = absurd all.1
single_alike hybrid name (f ∷ (x ∷ fs)) (g ∷ (h ∷ gs)) all = refl

first_alike : (hybrid : Bool) (fs gs : List OutlineFile) → AreAlike hybrid fs gs → first_length fs ≡ first_length gs
first_alike hybrid [] [] all = refl
first_alike hybrid [] (g ∷ gs) all = absurd all
first_alike hybrid (f ∷ fs) [] all = absurd all
first_alike hybrid (f ∷ fs) (g ∷ gs) all = all.0.length_is

-- ---- drafts

record AreSame (d e : Outline) : Type 0 where
  pub name : d.name ≡ e.name
  pub piece_length : d.piece_length ≡ e.piece_length
  pub hybrid : d.hybrid ≡ e.hybrid
  pub files : AreAlike d.hybrid d.files e.files
  pub layers : d.layers ≡ e.layers

written_alike : (name : List ℕ) (p : ℕ) (hybrid : Bool) (fs gs : List OutlineFile) (layers : List OutlineLayer) → AreAlike hybrid fs gs
    → value_of (record { name = name; piece_length = p; hybrid = hybrid; files = fs; layers = layers })
    ≡ value_of (record { name = name; piece_length = p; hybrid = hybrid; files = gs; layers = layers })
written_alike name p true fs gs layers all =
    rw (walks_alike true fs gs all, single_alike true name fs gs all, first_alike true fs gs all, entries_alike true p fs gs all, digests_alike fs gs all) refl
written_alike name p false fs gs layers all = rw (walks_alike false fs gs all) refl

same_written : (d e : Outline) → AreSame d e → value_of d ≡ value_of e
same_written d e same =
    ap (λ n. value_of (record { name = n; piece_length = d.piece_length; hybrid = d.hybrid; files = d.files; layers = d.layers })) same.name
    ∙ ap (λ p. value_of (record { name = e.name; piece_length = p; hybrid = d.hybrid; files = d.files; layers = d.layers })) same.piece_length
    ∙ ap (λ ls. value_of (record { name = e.name; piece_length = e.piece_length; hybrid = d.hybrid; files = d.files; layers = ls })) same.layers
    ∙ written_alike e.name e.piece_length d.hybrid d.files e.files e.layers same.files
    ∙ ap (λ h. value_of (record { name = e.name; piece_length = e.piece_length; hybrid = h; files = e.files; layers = e.layers })) same.hybrid

-- ---- one file more

file_of : (p : ℕ) (hybrid : Bool) (path : List (List ℕ)) (c : List ℕ) (f g : OutlineFile) → IsDraftFile p hybrid path c f → IsDraftFile p hybrid path c g
    → IsAlike hybrid f g
file_of p hybrid path c f g one other = record {
  path = one.path_is ∙ sym other.path_is;
  length_is = one.length_is ∙ sym other.length_is;
  root = λ some. let more : 0 < length c = subst (λ n. 0 < n) one.length_is some in one.root_is more ∙ sym (other.root_is more);
  cuts = one.cuts_are ∙ sym other.cuts_are;
  padded = λ is some. let more : 0 < length c = subst (λ n. 0 < n) one.length_is some in one.padded_is is more ∙ sym (other.padded_is is more);
}

abbrev paths : List OutlineFile → List (List (List ℕ))
paths fs = map (λ (f : OutlineFile). f.path) fs

there : (P : List (List ℕ) → Type 0) (i : ℕ) (f : OutlineFile) (fs : List OutlineFile) → AllByRecursion P (paths (take i fs ++ f ∷ drop i fs)) → P f.path
there P zero f fs all = all.0
there P (suc i) f [] all = all.0
there P (suc i) f (x ∷ fs) all = there P i f fs all.1

both_less : (p q : List (List ℕ)) → path_cmp p q ≡ Less → path_cmp q p ≡ Less → ⊥
both_less p q one other = let bad : Less ≡ Greater = sym one ∙ less_greater q p other in cc

placed : (hybrid : Bool) (i j : ℕ) (f g : OutlineFile) (fs gs : List OutlineFile) → AreAlike hybrid fs gs → IsAlike hybrid f g
    → AreInOrder (paths (take i fs ++ f ∷ drop i fs)) → AreInOrder (paths (take j gs ++ g ∷ drop j gs))
    → AreAlike hybrid (take i fs ++ f ∷ drop i fs) (take j gs ++ g ∷ drop j gs)
unfolding IsStrictlySortedBy
placed hybrid zero zero f g fs gs all same one other = (same, all)
placed hybrid zero (suc j) f g [] [] all same one other = (same, tt)
placed hybrid (suc i) zero f g [] [] all same one other = (same, tt)
placed hybrid (suc i) (suc j) f g [] [] all same one other = (same, tt)
placed hybrid i j f g [] (y ∷ gs) all same one other = absurd all
placed hybrid i j f g (x ∷ fs) [] all same one other = absurd all
placed hybrid zero (suc j) f g (x ∷ fs) (y ∷ gs) all same one other =
    let before : path_cmp f.path x.path ≡ Less = one.0.0 in
    let behind : path_cmp y.path g.path ≡ Less = there (λ q. path_cmp y.path q ≡ Less) j g gs other.0 in
    absurd (both_less f.path x.path before (ap (λ p. path_cmp p f.path) all.0.path ∙ ap (path_cmp y.path) same.path ∙ behind))
placed hybrid (suc i) zero f g (x ∷ fs) (y ∷ gs) all same one other =
    let before : path_cmp g.path y.path ≡ Less = other.0.0 in
    let behind : path_cmp x.path f.path ≡ Less = there (λ q. path_cmp x.path q ≡ Less) i f fs one.0 in
    absurd (both_less f.path x.path (ap (λ p. path_cmp p x.path) same.path ∙ ap (path_cmp g.path) all.0.path ∙ before) behind)
placed hybrid (suc i) (suc j) f g (x ∷ fs) (y ∷ gs) all same one other = (all.0, placed hybrid i j f g fs gs all.1 same one.1 other.1)

layers_with : (p : ℕ) (f g : OutlineFile) (hashes : List (List ℕ)) (ls : List OutlineLayer) → f.length ≡ g.length → (0 < f.length → f.root ≡ g.root)
    → (if nat_lt p f.length then with_layer f.root hashes ls else ls) ≡ (if nat_lt p g.length then with_layer g.root hashes ls else ls)
layers_with p f g hashes ls length_is root = elim (true_or_false (nat_lt p f.length)) [
  | inl over ↦
      let longer = ltb-true p f.length over in
      let more : nat_lt p g.length ≡ true = sym (ap (nat_lt p) length_is) ∙ over in
      rw (over, more, root (omega (arith, longer))) refl
  | inr within ↦ let no_more : nat_lt p g.length ≡ false = sym (ap (nat_lt p) length_is) ∙ within in rw (within, no_more) refl
]

same_more : (path : List (List ℕ)) (c : List ℕ) (d e d' e' : Outline) → DraftAdds d path c d' → DraftAdds e path c e' → AreSame d e → AreSame d' e'
same_more path c d e d' e' one other same =
    let own : IsDraftFile d.piece_length d.hybrid path c other.file =
    subst (λ h. IsDraftFile d.piece_length h path c other.file) (sym same.hybrid)
    (subst (λ p. IsDraftFile p e.hybrid path c other.file) (sym same.piece_length) other.is) in
    let file = file_of d.piece_length d.hybrid path c one.file other.file one.is own in
    let files : AreAlike d.hybrid d'.files e'.files =
    subst (λ fs. AreAlike d.hybrid fs e'.files) (sym one.added.files)
    (subst (λ gs. AreAlike d.hybrid (take one.added.place d.files ++ one.file ∷ drop one.added.place d.files) gs) (sym other.added.files)
    (placed d.hybrid one.added.place other.added.place one.file other.file d.files e.files same.files file
    (subst (λ fs. AreInOrder (paths fs)) one.added.files one.added.in_order) (subst (λ fs. AreInOrder (paths fs)) other.added.files other.added.in_order))) in
    record {
      name = one.added.name ∙ same.name ∙ sym other.added.name;
      piece_length = one.added.piece_length ∙ same.piece_length ∙ sym other.added.piece_length;
      hybrid = one.added.hybrid ∙ same.hybrid ∙ sym other.added.hybrid;
      files = subst (λ h. AreAlike h d'.files e'.files) (sym one.added.hybrid) files;
      layers = one.added.layers
          ∙ layers_with d.piece_length one.file other.file (piece_hashes d.piece_length c) d.layers file.length_is file.root
          ∙ ap (λ ls. (if nat_lt d.piece_length other.file.length then with_layer other.file.root (piece_hashes d.piece_length c) ls else ls)) same.layers
          ∙ ap (λ p. (if nat_lt p other.file.length then with_layer other.file.root (piece_hashes p c) e.layers else e.layers)) same.piece_length
          ∙ sym other.added.layers;
    }

same_all : (d e d' e' : Outline) (ps : List (List (List ℕ))) (cs : List (List ℕ)) → Chain DraftAdds d ps cs d' → Chain DraftAdds e ps cs e' → AreSame d e
    → AreSame d' e'
same_all d e d' e' ps cs one = Chain-each DraftAdds (λ a ps cs b. (g : Outline) → Chain DraftAdds g ps cs e' → AreSame a g → AreSame b e')
    (λ a g other. subst (λ h. AreSame a h) (sym other))
    (λ a p c mid ps cs b step rest later g other same. later other.0 other.2 (same_more p c a g mid other.0 step other.1 same)) d ps cs d' one e

pub alike_write_alike : (name : List ℕ) (p : ℕ) (hybrid : Bool) (ps : List (List (List ℕ))) (cs : List (List ℕ)) (d e : Outline)
    → Chain DraftAdds (empty_outline name p hybrid) ps cs d → Chain DraftAdds (empty_outline name p hybrid) ps cs e → value_of d ≡ value_of e
alike_write_alike name p hybrid ps cs d e one other =
    same_written d e (same_all (empty_outline name p hybrid) (empty_outline name p hybrid) d e ps cs one other
    (record { name = refl; piece_length = refl; hybrid = refl; files = tt; layers = refl }))
