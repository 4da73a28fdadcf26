-- The test of the shape in the words of the standard.
use Rattle.std.proofs.Common.{◌≡◌, ◌⊎◌, ℕ, true, false, not, ◌&&◌, List, [], ◌∷◌, length, inl, inr, refl, sym, subst, arith}
use Rattle.std.proofs.lemmas.Bool.{or_parts, not-true, both_ways}
use Rattle.benc.specs.Value.{Bencode, int, text, list, dict, Pairs, no_pairs, pair}
use Rattle.filetree.specs.Dictionary.{keys_in}
use Rattle.filetree.specs.FileTree.{is_dict, is_directory, is_file, is_nil, is_node}
use Rattle.filetree.specs.Shape.{HasFault, HasZeroLengthKey, HasOddComponent, HasOddFile, HoldsPair, HasSibling, IsMisshapen, LeadsToDirectory}
use Rattle.filetree.proofs.Bytes.{true_or_false}
use Rattle.filetree.proofs.ComparedKeys.{and_both, or_one}

abbrev Within : Pairs → Pairs → Type 0
Within ps all = (k : List ℕ) (v : Bencode) → HoldsPair ps k v → HoldsPair all k v

-- ---- what is no directory has a fault

-- the zero-length key in a node that is no file
file_fault : (dir : Pairs) (file : Bencode) → HasZeroLengthKey dir file → is_file dir ≡ false → HasSibling dir ⊎ HasOddFile dir
file_fault no_pairs file has none_is = absurd has.there
file_fault (pair k v no_pairs) file has none_is = elim has.there [
  | inl here ↦
      let nil : is_nil k ≡ true = subst (λ x. is_nil x ≡ true) (sym here.0) has.zero_length in
      let odd : is_dict v ≡ false = rw nil at none_is in
      inr (record { file = file; has = has; odd = subst (λ x. is_dict x ≡ false) here.1 odd })
  | inr none ↦ absurd none
]
file_fault (pair k v (pair l w ps)) file has none_is = inl (record { file = file; has = has; several = grind arith })

mutual
  bad_pairs : (all ps : Pairs) → Within ps all → is_directory ps ≡ false → IsMisshapen all
  bad_pairs all no_pairs within bad = cc
  bad_pairs all (pair k v ps) within bad = elim (true_or_false (is_nil k)) [
    | inl nil ↦ inl (v, record { key = k; zero_length = nil; there = within k v (inl (refl, refl)) })
    | inr some ↦ elim (true_or_false (is_node v)) [
      | inl node ↦
          let rest : is_directory ps ≡ false = rw (some, node) at bad in
          bad_pairs all ps (λ l w h. within l w (inr h)) rest
      | inr odd ↦ inr (bad_node all k v some (within k v (inl (refl, refl))) odd)
    ]
  ]

  bad_node : (all : Pairs) (k : List ℕ) (v : Bencode) → is_nil k ≡ false → HoldsPair all k v → is_node v ≡ false → HasFault all
  bad_node all k (int z) some there odd = record {
    path = [];
    dir = all;
    reached = refl;
    fault =
        inl (record { component = k; value = int z; some = some; there = there; odd = refl });
  }
  bad_node all k (text s) some there odd = record {
    path = [];
    dir = all;
    reached = refl;
    fault =
        inl (record { component = k; value = text s; some = some; there = there; odd = refl });
  }
  bad_node all k (list vs) some there odd = record {
    path = [];
    dir = all;
    reached = refl;
    fault =
        inl (record { component = k; value = list vs; some = some; there = there; odd = refl });
  }
  bad_node all k (dict ps) some there odd =
      let both = or_parts (is_file ps) (is_directory ps) odd in
      elim (bad_pairs ps ps (λ l w h. h) both.1) [
        | inl file ↦ record { path = k ∷ []; dir = ps; reached = (ps, some, there, refl); fault = inr (file_fault ps file.0 file.1 both.0) }
        | inr deeper ↦ record { path = k ∷ deeper.path; dir = deeper.dir; reached = (ps, some, there, deeper.reached); fault = deeper.fault }
      ]

-- ---- a directory has none

has_node : (ps : Pairs) (k : List ℕ) (v : Bencode) → is_directory ps ≡ true → HoldsPair ps k v → (is_nil k ≡ false) × (is_node v ≡ true)
has_node no_pairs k v d h = absurd h
has_node (pair l w ps) k v d h =
    let parts : (not (is_nil l) && is_node w ≡ true) × (is_directory ps ≡ true) = and_both (not (is_nil l) && is_node w) (is_directory ps) d in
    let inner : (not (is_nil l) ≡ true) × (is_node w ≡ true) = and_both (not (is_nil l)) (is_node w) parts.0 in
    elim h [
      | inl here ↦ (subst (λ x. is_nil x ≡ false) here.0 (not-true (is_nil l) inner.0), subst (λ x. is_node x ≡ true) here.1 inner.1)
      | inr later ↦ has_node ps k v parts.1 later
    ]

node_dict : (v : Bencode) → is_node v ≡ true → is_dict v ≡ true
node_dict (int z) node = cc
node_dict (text s) node = cc
node_dict (list vs) node = cc
node_dict (dict ps) node = refl

no_file : (ps : Pairs) (file : Bencode) → is_directory ps ≡ true → HasZeroLengthKey ps file → ⊥
no_file ps file d has = both_ways (is_nil has.key) (has_node ps has.key file d has.there).0 has.zero_length

-- a file's node has one pair, of the zero-length key and a dictionary
file_pair : (ps : Pairs) (k : List ℕ) (v : Bencode) → is_file ps ≡ true → HoldsPair ps k v → (is_nil k ≡ true) × (is_dict v ≡ true) × (length (keys_in ps) ≡ 1)
file_pair no_pairs k v is h = absurd h
file_pair (pair l w no_pairs) k v is h =
    let both : (is_nil l ≡ true) × (is_dict w ≡ true) = and_both (is_nil l) (is_dict w) is in
    elim h [
      | inl here ↦ (subst (λ x. is_nil x ≡ true) here.0 both.0, subst (λ x. is_dict x ≡ true) here.1 both.1, refl)
      | inr none ↦ absurd none
    ]
file_pair (pair l w (pair m x ps)) k v is h = cc

no_fault_here : (ps : Pairs) → is_directory ps ≡ true → HasOddComponent ps ⊎ HasSibling ps ⊎ HasOddFile ps → ⊥
no_fault_here ps d (inl one) = both_ways (is_dict one.value) one.odd (node_dict one.value (has_node ps one.component one.value d one.there).1)
no_fault_here ps d (inr (inl two)) = no_file ps two.file d two.has
no_fault_here ps d (inr (inr three)) = no_file ps three.file d three.has

no_fault_file : (ps : Pairs) → is_file ps ≡ true → HasOddComponent ps ⊎ HasSibling ps ⊎ HasOddFile ps → ⊥
no_fault_file ps is (inl one) = both_ways (is_nil one.component) one.some (file_pair ps one.component one.value is one.there).0
no_fault_file ps is (inr (inl two)) = let one = (file_pair ps two.has.key two.file is two.has.there).2 in let bad : ⊥ = omega (arith, one, two.several) in bad
no_fault_file ps is (inr (inr three)) = both_ways (is_dict three.file) three.odd (file_pair ps three.has.key three.file is three.has.there).1

no_fault : (path : List (List ℕ)) (ps dir : Pairs) → is_directory ps ≡ true → LeadsToDirectory ps path dir → HasOddComponent dir ⊎ HasSibling dir
    ⊎ HasOddFile dir → ⊥
no_fault [] ps dir d reached fault = no_fault_here dir (subst (λ x. is_directory x ≡ true) reached d) fault
no_fault (k ∷ ks) ps dir d reached fault =
    elim (or_one (is_file reached.0) (is_directory reached.0) (has_node ps k (dict reached.0) d reached.2).1) [
      | inl file ↦ behind_file ks reached.0 dir file reached.3 fault
      | inr deeper ↦ no_fault ks reached.0 dir deeper reached.3 fault
    ]
  where
    behind_file : (ks : List (List ℕ)) (ps dir : Pairs) → is_file ps ≡ true → LeadsToDirectory ps ks dir → HasOddComponent dir ⊎ HasSibling dir ⊎ HasOddFile dir
        → ⊥
    behind_file [] ps dir is reached fault = no_fault_file dir (subst (λ x. is_file x ≡ true) reached is) fault
    behind_file (k ∷ ks) ps dir is reached fault = both_ways (is_nil k) reached.1 (file_pair ps k (dict reached.0) is reached.2).0

pub shape_is_standard : (ps : Pairs) → (is_directory ps ≡ false → IsMisshapen ps) × (IsMisshapen ps → is_directory ps ≡ false)
shape_is_standard ps = (
  (λ bad. bad_pairs ps ps (λ k v h. h) bad),
  (λ odd. elim (true_or_false (is_directory ps)) [
    | inl d ↦ absurd (elim odd [ inl file ↦ no_file ps file.0 d file.1 | inr fault ↦ no_fault fault.path ps fault.dir d fault.reached fault.fault ])
    | inr bad ↦ bad
  ]),
)
