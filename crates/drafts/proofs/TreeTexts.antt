-- The text of a file tree is put file by file.
use Rattle.std.proofs.Common.{◌≡◌, ℕ, suc, ◌+◌, ◌-◌, Bool, List, [], ◌∷◌, ◌++◌, length, drop, replicate, if◌then◌else◌, inl, inr, refl, sym, ap, subst, ◌∙◌}
use Rattle.std.proofs.Common.{append_assoc, arith, get_or, ◌<◌, ◌≤◌, ◌⊎◌}
use Rattle.drafts.proofs.Building.{rest_in_order}
use Rattle.std.proofs.Math.ListN.{drop_of_length-le}
use Rattle.std.proofs.lemmas.List.{drop_more, replicate_more}
use Rattle.std.specs.Prelude.{codes}
use Rattle.std.specs.Cmp.Lexicographic.{slice_cmp}
use Rattle.std.specs.List.Sorted.{IsStrictlySortedBy}
use Rattle.std.specs.Ordering.{nat_cmp}
use Rattle.std.specs.Str.{bytes_eq}
use Rattle.std.specs.declared.cmp.Ordering.TheVariants.{Less, Equal}
use Rattle.benc.specs.Spelling.{string}
use Rattle.benc.specs.Text.{pairs_spelling, spelling}
use Rattle.benc.specs.Value.{Bencode, dict, Pairs, no_pairs, pair}
use Rattle.drafts.specs.TreeText.{closed, opened, shared}
use Rattle.drafts.specs.Written.{tree_of_walks, with_first}
use Rattle.filetree.proofs.Bytes.{true_or_false, same_bytes}
use Rattle.filetree.proofs.Paths.{paths_of}
use Rattle.filetree.proofs.ComparedKeys.{cmp_same}
use Rattle.filetree.specs.Dictionary.{pairs_in}
use Rattle.filetree.specs.FileTree.{Walk}
use Rattle.filetree.specs.Paths.{AreInOrder, path_cmp}

-- a file, below its last component
abbrev pub leaf_text : Bencode → List ℕ
leaf_text v = pairs_spelling (pair (codes "") v no_pairs)

-- what follows the file at this path in front of a tree
abbrev pub text_behind : List (List ℕ) → Pairs → List ℕ
text_behind [] t = pairs_spelling t
text_behind (k ∷ ks) no_pairs = text_behind ks no_pairs ++ 101 ∷ []
text_behind (k ∷ ks) (pair l v ps) =
    if bytes_eq k l
    then text_behind ks (pairs_in v) ++ 101 ∷ pairs_spelling ps
    else text_behind ks no_pairs ++ 101 ∷ pairs_spelling (pair l v ps)

-- what is put for files, where the directories of a path are open
abbrev pub rest_text : List (List ℕ) → List Walk → List ℕ
rest_text p [] = closed (length p)
rest_text p (w ∷ ws) =
    closed (length p - shared p w.path) ++ (opened (drop (shared p w.path) w.path) ++ (leaf_text w.file ++ rest_text w.path ws))

ends : (p : List (List ℕ)) → text_behind p no_pairs ≡ closed (length p)
ends [] = refl
ends (k ∷ ks) =
    let more : length ks + 1 ≡ suc (length ks) = omega arith in
    ap (λ t. t ++ 101 ∷ []) (ends ks) ∙ replicate_more (length ks) 101 ∙ ap (λ n. replicate n 101) more

-- a file in front of others: the directory that it comes into, and what stands behind that
record Node (l : List ℕ) (ls : List (List ℕ)) (v : Bencode) (t : Pairs) : Type 0 where
  pub deeper : Pairs
  pub later : Pairs
  pub tree_is : with_first (l ∷ ls) v t ≡ pair l (dict (with_first ls v deeper)) later
  pub behind_is : text_behind (l ∷ ls) t ≡ text_behind ls deeper ++ 101 ∷ pairs_spelling later

node : (l : List ℕ) (ls : List (List ℕ)) (v : Bencode) (t : Pairs) → Node l ls v t
node l ls v no_pairs = record { deeper = no_pairs; later = no_pairs; tree_is = refl; behind_is = refl }
node l ls v (pair m w qs) =
    elim (true_or_false (bytes_eq l m)) [
      | inl same ↦ record {
        deeper = pairs_in w;
        later = qs;
        tree_is = rw same (ap (λ x. pair x (dict (with_first ls v (pairs_in w))) qs) (sym (same_bytes l m same)));
        behind_is = rw same refl;
      }
      | inr other ↦ record { deeper = no_pairs; later = pair m w qs; tree_is = rw other refl; behind_is = rw other refl }
    ]

-- a directory, by what is inside
around : (a inner o leaf b later : List ℕ) → inner ≡ (o ++ leaf) ++ b → a ++ ((100 ∷ (inner ++ 101 ∷ [])) ++ later) ≡ ((a ++ 100 ∷ o) ++ leaf)
    ++ (b ++ 101 ∷ later)
around a inner o leaf b later e = ap (λ t. a ++ ((100 ∷ (t ++ 101 ∷ [])) ++ later)) e ∙ simp append_assoc

alone : (a b t : List ℕ) → a ++ (b ++ t) ≡ ([] ++ (a ++ (b ++ []))) ++ t
alone a b t = simp append_assoc

first_text : (p : List (List ℕ)) (v : Bencode) (t : Pairs) → pairs_spelling (with_first p v t) ≡ (opened p ++ leaf_text v) ++ text_behind p t
first_text [] v t = alone (string []) (spelling v) (pairs_spelling t)
first_text (k ∷ ks) v t =
    let n = node k ks v t in
    ap pairs_spelling n.tree_is
    ∙ around (string k) (pairs_spelling (with_first ks v n.deeper)) (opened ks) (leaf_text v) (text_behind ks n.deeper) (pairs_spelling n.later)
    (first_text ks v n.deeper)
    ∙ ap (λ b. (opened (k ∷ ks) ++ leaf_text v) ++ b) (sym n.behind_is)

below_same : (k l : List ℕ) (ks ls : List (List ℕ)) → path_cmp (k ∷ ks) (l ∷ ls) ≡ Less → k ≡ l → path_cmp ks ls ≡ Less
below_same k l ks ls less same =
    let key : slice_cmp nat_cmp k l ≡ Equal = subst (λ x. slice_cmp nat_cmp k x ≡ Equal) same (cmp_same k) in
    rw key at less

-- the part of a text inside a directory, and what follows it
inside : (c o leaf b later : List ℕ) → (c ++ (o ++ (leaf ++ b))) ++ 101 ∷ later ≡ c ++ (o ++ (leaf ++ (b ++ 101 ∷ later)))
inside c o leaf b later = simp append_assoc

outside : (c e o leaf b t : List ℕ) → c ++ 101 ∷ [] ≡ e → t ≡ (o ++ leaf) ++ b → c ++ 101 ∷ t ≡ e ++ (o ++ (leaf ++ b))
outside c e o leaf b t f g = sym (append_assoc c (101 ∷ []) t) ∙ ap (λ x. x ++ t) f ∙ ap (λ x. e ++ x) (g ∙ append_assoc o leaf b)

behind_text : (p q : List (List ℕ)) (v : Bencode) (t : Pairs) → path_cmp p q ≡ Less
    → text_behind p (with_first q v t) ≡ closed (length p - shared p q) ++ (opened (drop (shared p q) q) ++ (leaf_text v ++ text_behind q t))
behind_text [] q v t less = cc
behind_text (k ∷ ks) [] v t less = cc
behind_text (k ∷ ks) (l ∷ ls) v t less =
    let n = node l ls v t in
    let whole = pair l (dict (with_first ls v n.deeper)) n.later in
    let here = ap (text_behind (k ∷ ks)) n.tree_is in
    elim (true_or_false (bytes_eq k l)) [
      | inl same ↦
          let ih = behind_text ks ls v n.deeper (below_same k l ks ls less (same_bytes k l same)) in
          let count : suc (length ks) - suc (shared ks ls) ≡ length ks - shared ks ls = omega arith in
          here ∙ rw same (ap (λ x. x ++ 101 ∷ pairs_spelling n.later) ih
          ∙ inside (closed (length ks - shared ks ls)) (opened (drop (shared ks ls) ls)) (leaf_text v) (text_behind ls n.deeper) (pairs_spelling n.later)
          ∙ ap (λ b. closed (length ks - shared ks ls) ++ (opened (drop (shared ks ls) ls) ++ (leaf_text v ++ b))) (sym n.behind_is)
          ∙ ap (λ m. closed m ++ (opened (drop (shared ks ls) ls) ++ (leaf_text v ++ text_behind (l ∷ ls) t))) (sym count))
      | inr other ↦
          let count : suc (length ks) ≡ suc (length ks) - 0 = omega arith in
          here ∙ rw other (outside (text_behind ks no_pairs) (closed (suc (length ks) - 0)) (opened (l ∷ ls)) (leaf_text v) (text_behind (l ∷ ls) t)
          (pairs_spelling whole)
          (ends (k ∷ ks) ∙ ap closed count) (sym (ap pairs_spelling n.tree_is) ∙ first_text (l ∷ ls) v t))
    ]

next_less : (w : Walk) (vs : List Walk) → AreInOrder (paths_of (w ∷ vs)) → (x : Walk) (us : List Walk) → vs ≡ x ∷ us → path_cmp w.path x.path ≡ Less
unfolding IsStrictlySortedBy
next_less w [] a x us e = cc
next_less w (y ∷ vs) a x us e = let same : y ≡ x = cc in subst (λ (z : Walk). path_cmp w.path z.path ≡ Less) same a.0.0

rest_is : (p : List (List ℕ)) (ws : List Walk) → ((w : Walk) (vs : List Walk) → ws ≡ w ∷ vs → path_cmp p w.path ≡ Less) → AreInOrder (paths_of ws)
    → text_behind p (tree_of_walks ws) ≡ rest_text p ws
rest_is p [] first order = ends p
rest_is p (w ∷ ws) first order =
    behind_text p w.path w.file (tree_of_walks ws) (first w ws refl)
    ∙ ap (λ b. closed (length p - shared p w.path) ++ (opened (drop (shared p w.path) w.path) ++ (leaf_text w.file ++ b)))
    (rest_is w.path ws (next_less w ws order) (rest_in_order w ws order))

-- the text of a tree, from its first file on
pub tree_text : (ws : List Walk) → AreInOrder (paths_of ws) → pairs_spelling (tree_of_walks ws) ≡ rest_text [] ws
tree_text [] order = refl
tree_text (w ∷ ws) order =
    first_text w.path w.file (tree_of_walks ws)
    ∙ ap (λ b. (opened w.path ++ leaf_text w.file) ++ b) (rest_is w.path ws (next_less w ws order) (rest_in_order w ws order))
    ∙ append_assoc (opened w.path) (leaf_text w.file) (rest_text w.path ws)

-- ---- how many first components two paths share, one by one

shared_step : (p q : List (List ℕ)) (i : ℕ) → i < length p → i < length q
    → shared (drop i p) (drop i q) ≡ (if bytes_eq (get_or p i []) (get_or q i []) then suc (shared (drop (i + 1) p) (drop (i + 1) q)) else 0)
shared_step p q i one two = ap (λ x. shared x (drop i q)) (drop_more p i [] one) ∙ ap (λ y. shared (get_or p i [] ∷ drop (i + 1) p) y) (drop_more q i [] two)

pub shared_here : (p q : List (List ℕ)) (i : ℕ) (k l : List ℕ) (b : Bool) → i < length p → i < length q → get_or p i [] ≡ k → get_or q i [] ≡ l
    → bytes_eq k l ≡ b
    → shared (drop i p) (drop i q) ≡ (if b then suc (shared (drop (i + 1) p) (drop (i + 1) q)) else 0)
shared_here p q i k l b one two first second same =
    shared_step p q i one two ∙ ap (λ t. if t then suc (shared (drop (i + 1) p) (drop (i + 1) q)) else 0) (ap (λ x. bytes_eq x (get_or q i [])) first
    ∙ ap (bytes_eq k) second ∙ same)

pub shared_none : (p q : List (List ℕ)) (i : ℕ) → (length p ≤ i) ⊎ (length q ≤ i) → shared (drop i p) (drop i q) ≡ 0
shared_none p q i end =
    elim end [
      | inl one ↦ ap (λ x. shared x (drop i q)) (drop_of_length-le p one)
      | inr two ↦ ap (λ y. shared (drop i p) y) (drop_of_length-le q two) ∙ none (drop i p)
    ]
  where
    none : (x : List (List ℕ)) → shared x [] ≡ 0
    none [] = refl
    none (k ∷ ks) = refl
