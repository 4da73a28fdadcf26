-- The walks of a file tree are all that lead to a file, in order.
use Rattle.std.proofs.Common.{◌≡◌, ℕ, zero, suc, ◌-◌, true, false, not, ◌&&◌, if◌then◌else◌, List, [], ◌∷◌, ◌++◌, map, Option, Some, None}
use Rattle.std.proofs.Common.{slice_get, inl, inr, refl, sym, ap, subst, ◌∙◌, ◌⊎◌}
use Rattle.std.specs.Cmp.Lexicographic.{slice_cmp}
use Rattle.std.specs.List.{AllByRecursion}
use Rattle.std.specs.List.Sorted.{IsStrictlySortedBy}
use Rattle.std.specs.Ordering.{nat_cmp, ordering_then}
use Rattle.std.specs.Str.{bytes_eq}
use Rattle.std.specs.declared.cmp.Ordering.TheVariants.{Less, Equal}
use Rattle.std.proofs.lemmas.Bool.{not-true}
use Rattle.benc.specs.Value.{Bencode, int, text, list, dict, Pairs, no_pairs, pair}
use Rattle.benc.specs.Text.{Fits, PairsFit}
use Rattle.filetree.specs.Dictionary.{under}
use Rattle.filetree.specs.FileTree.{Walk, walks, walks_in, below, is_nil, is_file, is_directory, is_node, is_dict}
use Rattle.filetree.specs.Paths.{path_cmp, AreInOrder, LeadsToFile, AreAllWalks}
use Rattle.filetree.specs.Dictionary.{keys_in}
use Rattle.filetree.proofs.Ascending.{AllAbove, above_all}
use Rattle.filetree.proofs.Bytes.{equal_bytes, same_bytes, true_or_false}
use Rattle.filetree.proofs.ComparedKeys.{cmp_same, nil_is, above_some, and_both, or_one}

abbrev pub paths_of : List Walk → List (List (List ℕ))
paths_of ws = map (λ (w : Walk). w.path) ws

-- ---- order

over_append : (P : List (List ℕ) → Type 0) (xs ys : List Walk) → AllByRecursion P (paths_of xs) → AllByRecursion P (paths_of ys)
    → AllByRecursion P (paths_of (xs ++ ys))
over_append P [] ys a b = b
over_append P (x ∷ xs) ys a b = (a.0, over_append P xs ys a.1 b)

order_append : (xs ys : List Walk) → AreInOrder (paths_of xs) → AreInOrder (paths_of ys)
    → AllByRecursion (λ p. AllByRecursion (λ q. path_cmp p q ≡ Less) (paths_of ys)) (paths_of xs) → AreInOrder (paths_of (xs ++ ys))
unfolding IsStrictlySortedBy
order_append [] ys a b cross = b
order_append (x ∷ xs) ys a b cross = (over_append (λ q. path_cmp x.path q ≡ Less) xs ys a.0 cross.0, order_append xs ys a.1 b cross.1)

below_less : (k : List ℕ) (p q : List (List ℕ)) → path_cmp p q ≡ Less → path_cmp (k ∷ p) (k ∷ q) ≡ Less
below_less k p q less = ap (λ o. ordering_then o (path_cmp p q)) (cmp_same k) ∙ less

over_below : (k : List ℕ) (p : List (List ℕ)) (ws : List Walk) → AllByRecursion (λ q. path_cmp p q ≡ Less) (paths_of ws)
    → AllByRecursion (λ q. path_cmp (k ∷ p) q ≡ Less) (paths_of (map (below k) ws))
over_below k p [] a = tt
over_below k p (w ∷ ws) a = (below_less k p w.path a.0, over_below k p ws a.1)

order_below : (k : List ℕ) (ws : List Walk) → AreInOrder (paths_of ws) → AreInOrder (paths_of (map (below k) ws))
unfolding IsStrictlySortedBy
order_below k [] a = tt
order_below k (w ∷ ws) a = (over_below k w.path ws a.0, order_below k ws a.1)

-- the first component of a path is above this key
abbrev HeadAbove : List ℕ → List (List ℕ) → Type 0
HeadAbove k [] = ⊥
HeadAbove k (l ∷ ls) = slice_cmp nat_cmp k l ≡ Less

heads_below : (k l : List ℕ) (ws : List Walk) → slice_cmp nat_cmp k l ≡ Less → AllByRecursion (HeadAbove k) (paths_of (map (below l) ws))
heads_below k l [] less = tt
heads_below k l (w ∷ ws) less = (less, heads_below k l ws less)

heads : (k : List ℕ) (ps : Pairs) → AllAbove k (keys_in ps) → AllByRecursion (HeadAbove k) (paths_of (walks ps))
heads k no_pairs above = tt
heads k (pair l v ps) above =
    rw (above_some k l above.0) (over_append (HeadAbove k) (map (below l) (walks_in v)) (walks ps) (heads_below k l (walks_in v) above.0) (heads k ps above.1))

head_less : (k : List ℕ) (p q : List (List ℕ)) → HeadAbove k q → path_cmp (k ∷ p) q ≡ Less
head_less k p [] h = absurd h
head_less k p (l ∷ ls) h = ap (λ o. ordering_then o (path_cmp p ls)) h

over_heads : (k : List ℕ) (p : List (List ℕ)) (ws : List Walk) → AllByRecursion (HeadAbove k) (paths_of ws)
    → AllByRecursion (λ q. path_cmp (k ∷ p) q ≡ Less) (paths_of ws)
over_heads k p [] h = tt
over_heads k p (w ∷ ws) h = (head_less k p w.path h.0, over_heads k p ws h.1)

cross : (k : List ℕ) (ws us : List Walk) → AllByRecursion (HeadAbove k) (paths_of us)
    → AllByRecursion (λ p. AllByRecursion (λ q. path_cmp p q ≡ Less) (paths_of us)) (paths_of (map (below k) ws))
cross k [] us h = tt
cross k (w ∷ ws) us h = (over_heads k w.path us h, cross k ws us h)

file_order : (ps : Pairs) → is_file ps ≡ true → AreInOrder (paths_of (walks ps))
unfolding IsStrictlySortedBy
file_order no_pairs e = cc
file_order (pair k v no_pairs) e = rw ((and_both (is_nil k) (is_dict v) e).0) (tt, tt)
file_order (pair k v (pair l w ps)) e = cc

mutual
  unfolding IsStrictlySortedBy

  pub pairs_order : (room : ℕ) (before : Option (List ℕ)) (ps : Pairs) → PairsFit room before ps → is_directory ps ≡ true → AreInOrder (paths_of (walks ps))
  pairs_order room before no_pairs fits d = tt
  pairs_order room before (pair k v ps) fits d =
      let parts : (not (is_nil k) && is_node v ≡ true) × (is_directory ps ≡ true) = and_both (not (is_nil k) && is_node v) (is_directory ps) d in
      let inner : (not (is_nil k) ≡ true) × (is_node v ≡ true) = and_both (not (is_nil k)) (is_node v) parts.0 in
      let some : is_nil k ≡ false = not-true (is_nil k) inner.0 in
      rw some (order_append (map (below k) (walks_in v)) (walks ps) (order_below k (walks_in v) (value_order room v fits.2 inner.1))
      (pairs_order room (Some k) ps fits.3 parts.1)
      (cross k (walks_in v) (walks ps) (heads k ps (above_all room k ps fits.3))))

  value_order : (room : ℕ) (v : Bencode) → Fits room v → is_node v ≡ true → AreInOrder (paths_of (walks_in v))
  value_order room (int z) fits node = cc
  value_order room (text s) fits node = cc
  value_order room (list vs) fits node = cc
  value_order room (dict ps) fits node =
      elim (or_one (is_file ps) (is_directory ps) node) [
        | inl file ↦ file_order ps file
        | inr d ↦ pairs_order (room - 1) None ps fits.1 d
      ]

-- ---- membership

abbrev pub Has : List Walk → Walk → Type 0
Has [] w = ⊥
Has (x ∷ xs) w = (x ≡ w) ⊎ Has xs w

pub has_at : (ws : List Walk) (n : ℕ) (w : Walk) → slice_get ws n ≡ Some w → Has ws w
has_at [] n w e = cc
has_at (x ∷ ws) zero w e = inl cc
has_at (x ∷ ws) (suc n) w e = inr (has_at ws n w e)

pub at_has : (ws : List Walk) (w : Walk) → Has ws w → (n : ℕ) × (slice_get ws n ≡ Some w)
at_has [] w h = absurd h
at_has (x ∷ ws) w h = elim h [ inl e ↦ (0, ap Some e) | inr later ↦ let rest = at_has ws w later in (suc rest.0, rest.1) ]

pub has_split : (xs ys : List Walk) (w : Walk) → Has (xs ++ ys) w → Has xs w ⊎ Has ys w
has_split [] ys w h = inr h
has_split (x ∷ xs) ys w h = elim h [ inl e ↦ inl (inl e) | inr later ↦ elim (has_split xs ys w later) [ inl a ↦ inl (inr a) | inr b ↦ inr b ] ]

has_left : (xs ys : List Walk) (w : Walk) → Has xs w → Has (xs ++ ys) w
has_left [] ys w h = absurd h
has_left (x ∷ xs) ys w h = elim h [ inl e ↦ inl e | inr later ↦ inr (has_left xs ys w later) ]

has_right : (xs ys : List Walk) (w : Walk) → Has ys w → Has (xs ++ ys) w
has_right [] ys w h = h
has_right (x ∷ xs) ys w h = inr (has_right xs ys w h)

pub has_below : (k : List ℕ) (ws : List Walk) (w : Walk) → Has (map (below k) ws) w → (u : Walk) × Has ws u × (below k u ≡ w)
has_below k [] w h = absurd h
has_below k (x ∷ ws) w h = elim h [ inl e ↦ (x, inl refl, e) | inr later ↦ let rest = has_below k ws w later in (rest.0, inr rest.1, rest.2) ]

below_has : (k : List ℕ) (ws : List Walk) (u : Walk) → Has ws u → Has (map (below k) ws) (below k u)
below_has k [] u h = absurd h
below_has k (x ∷ ws) u h = elim h [ inl e ↦ inl (ap (below k) e) | inr later ↦ inr (below_has k ws u later) ]

-- ---- each walk leads to a file

under_none : (k : List ℕ) (ps : Pairs) → AllAbove k (keys_in ps) → under k ps ≡ None
under_none k no_pairs above = refl
under_none k (pair l v ps) above =
    let other : bytes_eq l k ≡ false = not_same_back k l above.0 in rw other (under_none k ps above.1)
  where
    not_same_back : (k l : List ℕ) → slice_cmp nat_cmp k l ≡ Less → bytes_eq l k ≡ false
    not_same_back k l less =
        elim (true_or_false (bytes_eq l k)) [
          | inl same ↦ let e : slice_cmp nat_cmp k l ≡ Equal = subst (λ x. slice_cmp nat_cmp k x ≡ Equal) (sym (same_bytes l k same)) (cmp_same k) in cc
          | inr other ↦ other
        ]

under_later : (k : List ℕ) (v : Bencode) (ps : Pairs) (l : List ℕ) (x : Bencode) → AllAbove k (keys_in ps) → under l ps ≡ Some x
    → under l (pair k v ps) ≡ Some x
under_later k v ps l x above is =
    elim (true_or_false (bytes_eq k l)) [
      | inl same ↦ let none : under l ps ≡ None = subst (λ y. under y ps ≡ None) (same_bytes k l same) (under_none k ps above) in
          absurd (let e : Some x ≡ None = sym is ∙ none in cc)
      | inr other ↦ rw other is
    ]

leads_later : (k : List ℕ) (v : Bencode) (ps : Pairs) (path : List (List ℕ)) (file : Bencode) → AllAbove k (keys_in ps) → LeadsToFile ps path file
    → LeadsToFile (pair k v ps) path file
leads_later k v ps [] file above leads = under_later k v ps [] file above leads
leads_later k v ps (l ∷ ls) file above leads = (leads.0, leads.1, under_later k v ps l (dict leads.0) above leads.2, leads.3)

under_first : (k : List ℕ) (v : Bencode) (ps : Pairs) → under k (pair k v ps) ≡ Some v
under_first k v ps = rw (equal_bytes k k refl) refl

moved : (ps : Pairs) (u w : Walk) → u ≡ w → LeadsToFile ps u.path u.file → LeadsToFile ps w.path w.file
moved ps u w e leads = subst (λ (x : Walk). LeadsToFile ps x.path x.file) e leads

mutual
  pub each_leads : (room : ℕ) (before : Option (List ℕ)) (ps : Pairs) (w : Walk) → PairsFit room before ps → Has (walks ps) w → LeadsToFile ps w.path w.file
  each_leads room before no_pairs w fits h = absurd h
  each_leads room before (pair k v ps) w fits h =
      elim (true_or_false (is_nil k)) [
        | inl nil ↦
            let here : Has (record { path = []; file = v } ∷ [] ++ walks ps) w = rw nil at h in
            elim (has_split (record { path = []; file = v } ∷ []) (walks ps) w here) [
              | inl front ↦ elim front [
                | inl e ↦ moved (pair k v ps) (record { path = []; file = v }) w e (subst (λ x. under x (pair k v ps) ≡ Some v) (nil_is k nil)
                    (under_first k v ps))
                | inr none ↦ absurd none
              ]
              | inr later ↦ leads_later k v ps w.path w.file (above_all room k ps fits.3) (each_leads room (Some k) ps w fits.3 later)
            ]
        | inr some ↦
            let here : Has (map (below k) (walks_in v) ++ walks ps) w = rw some at h in
            elim (has_split (map (below k) (walks_in v)) (walks ps) w here) [
              | inl front ↦
                  let inner = has_below k (walks_in v) w front in
                  let deeper = value_leads room v inner.0 fits.2 inner.1 in
                  moved (pair k v ps) (below k inner.0) w inner.2 (deeper.0, some, under_first k v ps ∙ ap Some deeper.1, deeper.2)
              | inr later ↦ leads_later k v ps w.path w.file (above_all room k ps fits.3) (each_leads room (Some k) ps w fits.3 later)
            ]
      ]

  value_leads : (room : ℕ) (v : Bencode) (w : Walk) → Fits room v → Has (walks_in v) w → (inner : Pairs) × (v ≡ dict inner) × LeadsToFile inner w.path w.file
  value_leads room (int z) w fits h = absurd h
  value_leads room (text s) w fits h = absurd h
  value_leads room (list vs) w fits h = absurd h
  value_leads room (dict ps) w fits h = (ps, refl, each_leads (room - 1) None ps w fits.1 h)

-- ---- and all that leads to a file is a walk

mutual
  pub leads_has : (ps : Pairs) (path : List (List ℕ)) (file : Bencode) → LeadsToFile ps path file → Has (walks ps) (record { path = path; file = file })
  leads_has no_pairs [] file leads = cc
  leads_has no_pairs (l ∷ ls) file leads = let none : None ≡ Some (dict leads.0) = leads.2 in cc
  leads_has (pair k v ps) [] file leads =
      elim (true_or_false (bytes_eq k [])) [
        | inl same ↦
            let is : Some v ≡ Some file = rw same at leads in
            let one : v ≡ file = cc in
            let nil : is_nil k ≡ true = subst (λ x. is_nil x ≡ true) (sym (same_bytes k [] same)) refl in
            rw nil (inl (ap (λ (x : Bencode). record { path = []; file = x }) one))
        | inr other ↦
            let is : under [] ps ≡ Some file = rw other at leads in
            has_right (if is_nil k then record { path = []; file = v } ∷ [] else map (below k) (walks_in v)) (walks ps) (record { path = []; file = file })
            (leads_has ps [] file is)
      ]
  leads_has (pair k v ps) (l ∷ ls) file leads =
      let found : (if bytes_eq k l then Some v else under l ps) ≡ Some (dict leads.0) = leads.2 in
      elim (true_or_false (bytes_eq k l)) [
        | inl same ↦
            let is : Some v ≡ Some (dict leads.0) = rw same at found in
            let one : v ≡ dict leads.0 = cc in
            let key : k ≡ l = same_bytes k l same in
            let some : is_nil k ≡ false = subst (λ x. is_nil x ≡ false) (sym key) leads.1 in
            let here : Has (map (below k) (walks_in v)) (below k (record { path = ls; file = file })) =
            below_has k (walks_in v) (record { path = ls; file = file }) (value_has v leads.0 ls file one leads.3) in
            let named : Has (map (below k) (walks_in v)) (record { path = l ∷ ls; file = file }) =
            subst (λ x. Has (map (below k) (walks_in v)) (record { path = x ∷ ls; file = file })) key here in
            rw some (has_left (map (below k) (walks_in v)) (walks ps) (record { path = l ∷ ls; file = file }) named)
        | inr other ↦
            let is : under l ps ≡ Some (dict leads.0) = rw other at found in
            has_right (if is_nil k then record { path = []; file = v } ∷ [] else map (below k) (walks_in v)) (walks ps) (record { path = l ∷ ls; file = file })
            (leads_has ps (l ∷ ls) file (leads.0, leads.1, is, leads.3))
      ]

  value_has : (v : Bencode) (inner : Pairs) (path : List (List ℕ)) (file : Bencode) → v ≡ dict inner → LeadsToFile inner path file
      → Has (walks_in v) (record { path = path; file = file })
  value_has (int z) inner path file e leads = cc
  value_has (text s) inner path file e leads = cc
  value_has (list vs) inner path file e leads = cc
  value_has (dict ps) inner path file e leads = let same : ps ≡ inner = cc in leads_has ps path file (subst (λ qs. LeadsToFile qs path file) (sym same) leads)

pub walks_are_all : (room : ℕ) (ps : Pairs) → Fits room (dict ps) → is_directory ps ≡ true → AreAllWalks ps (walks ps)
walks_are_all room ps fits d = record {
  each = λ n w at. each_leads (room - 1) None ps w fits.1 (has_at (walks ps) n w at);
  all = λ path file leads. at_has (walks ps) (record { path = path; file = file }) (leads_has ps path file leads);
  in_order = pairs_order (room - 1) None ps fits.1 d;
}
