-- The test of the components in the words of the standard.
use Rattle.std.proofs.Common.{◌≡◌, ℕ, false, List, [], ◌∷◌, inl, inr, refl, sym, subst}
use Rattle.benc.specs.Value.{Bencode, int, text, list, dict, Pairs, no_pairs, pair}
use Rattle.filetree.specs.FileTree.{HasBadPath, HasBadPathIn, IsBadComponent, is_nil}
use Rattle.filetree.specs.Shape.{HasBadComponent, HoldsPair, LeadsToDirectory}
use Rattle.filetree.specs.TreeLaws.{BadPathIsBadComponent}

abbrev Within : Pairs → Pairs → Type 0
Within ps all = (k : List ℕ) (v : Bencode) → HoldsPair ps k v → HoldsPair all k v

mutual
  bad_pairs : (all ps : Pairs) → Within ps all → HasBadPath ps → HasBadComponent all
  bad_pairs all no_pairs within bad = absurd bad
  bad_pairs all (pair k v ps) within bad = elim bad [
    | inl here ↦ elim here.1 [
      | inl one ↦ record { path = []; dir = all; reached = refl; component = k; value = v; some = here.0; there = within k v (inl (refl, refl)); bad = one }
      | inr deeper ↦ bad_value all k v here.0 (within k v (inl (refl, refl))) deeper
    ]
    | inr later ↦ bad_pairs all ps (λ l w h. within l w (inr h)) later
  ]

  bad_value : (all : Pairs) (k : List ℕ) (v : Bencode) → is_nil k ≡ false → HoldsPair all k v → HasBadPathIn v → HasBadComponent all
  bad_value all k (int z) some there bad = absurd bad
  bad_value all k (text s) some there bad = absurd bad
  bad_value all k (list vs) some there bad = absurd bad
  bad_value all k (dict ps) some there bad =
      let found = bad_pairs ps ps (λ l w h. h) bad in record {
        path = k ∷ found.path;
        dir = found.dir;
        reached = (ps, some, there, found.reached);
        component = found.component;
        value = found.value;
        some = found.some;
        there = found.there;
        bad = found.bad;
      }

-- a bad component in this directory
bad_here : (ps : Pairs) (k : List ℕ) (v : Bencode) → is_nil k ≡ false → HoldsPair ps k v → IsBadComponent k → HasBadPath ps
bad_here no_pairs k v some there bad = absurd there
bad_here (pair l w ps) k v some there bad = elim there [
  | inl here ↦ inl (subst (λ x. is_nil x ≡ false) (sym here.0) some, inl (subst IsBadComponent (sym here.0) bad))
  | inr later ↦ inr (bad_here ps k v some later bad)
]

-- a bad component in a directory of this one
bad_below : (ps inner : Pairs) (k : List ℕ) → is_nil k ≡ false → HoldsPair ps k (dict inner) → HasBadPath inner → HasBadPath ps
bad_below no_pairs inner k some there bad = absurd there
bad_below (pair l w ps) inner k some there bad = elim there [
  | inl here ↦ inl (subst (λ x. is_nil x ≡ false) (sym here.0) some, inr (subst HasBadPathIn (sym here.1) bad))
  | inr later ↦ inr (bad_below ps inner k some later bad)
]

bad_on_way : (path : List (List ℕ)) (ps dir : Pairs) → LeadsToDirectory ps path dir → HasBadPath dir → HasBadPath ps
bad_on_way [] ps dir reached bad = subst HasBadPath (sym reached) bad
bad_on_way (k ∷ ks) ps dir reached bad = bad_below ps reached.0 k reached.1 reached.2 (bad_on_way ks reached.0 dir reached.3 bad)

pub bad_path_is : BadPathIsBadComponent
bad_path_is ps = (
  bad_pairs ps ps (λ l w h. h),
  λ h. bad_on_way h.path ps h.dir h.reached (bad_here h.dir h.component h.value h.some h.there h.bad),
)
