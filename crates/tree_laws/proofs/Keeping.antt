-- The calls of one tree keep it good.
use Rattle.std.proofs.Common.{◌≡◌, true, Some, inl, inr, Result, Ok, Err, IfOk, IfErr, ℕ, List, sym, ap, ◌∙◌, subst}
use Rattle.std.specs.Ordering.{nat_cmp, eq_by_cmp}
use Rattle.std.specs.Cmp.{nat_cmp_total}
use Rattle.std.proofs.lemmas.Bool.{or_cases, eqb-true}
use Rattle.node_maps.proofs.Known.{nat_equal}
use Rattle.std.specs.FinSet as set
use Rattle.sha2.specs.Sha256.{sha256}
use Rattle.wire.specs.declared.message.Ask.{Ask}
use Rattle.node_maps.specs.Digest.{Hash}
use Rattle.node_maps.specs.Places.{IsKnown}
use Rattle.partial_tree.specs.declared.refusal.HashRefusal.{HashRefusal}
use Rattle.partial_tree.specs.declared.refusal.BlockRefusal.{BlockRefusal}
use Rattle.partial_tree.specs.Claims.{AreHashes, claims}
use Rattle.node_maps.specs.Known.{look}
use Rattle.partial_tree.specs.Kept.{TreeState, KeptTree, info_of, IsGoodTree, TreeTakesHashes, TreeRefusesHashes, TreeTakesLayer, TreeRefusesLayer}
use Rattle.partial_tree.specs.Kept.{TreeMarks, TreeRefusesBlock}
use Rattle.partial_tree.proofs.Joining.{joined-closed}
use Rattle.partial_tree.proofs.Keeping.{good_joined, good_filled}

pub marked-known : (s : TreeState) (b i : ℕ) (leaf : Hash) → look s.known 0 b ≡ Some leaf → (set.contains s.marked i ≡ true → IsKnown (look s.known) 0 i)
    → set.contains (set.insert s.marked b) i ≡ true → IsKnown (look s.known) 0 i
marked-known s b i leaf known old e =
    elim (or_cases (eq_by_cmp nat_cmp i b) (set.contains s.marked i) (sym (set.contains-insert nat_cmp_total s.marked b i) ∙ e)) [
      | inl here ↦ let same : i ≡ b = eqb-true i b (sym (nat_equal i b) ∙ here) in (leaf, ap (look s.known 0) same ∙ known)
      | inr before ↦ old before
    ]

pub good_taken : (a b : KeptTree) (ask : Ask) (hashes : List Hash) (c : ℕ) → IsGoodTree a
    → AreHashes hashes → TreeTakesHashes a ask hashes c b → IsGoodTree b
good_taken a b ask hashes c good sizes ((ok, joins), rest) =
    good_joined a b (claims ask hashes) c good
    (joined-closed (info_of a) (look a.state.known) ask hashes good.closed sizes ok)
    (joins, rest)

pub good_marked : (a b : KeptTree) (i : ℕ) (bytes : List ℕ) → IsGoodTree a → TreeMarks a i bytes b
    → IsGoodTree b
good_marked a b i bytes good ok = subst IsGoodTree (sym ok.marks) (record {
  closed = good.closed;
  marks = λ j e. marked-known a.state i j (sha256 bytes) ok.leaf_known (good.marks j) e;
})

-- ---- after a call, whether it took what it was given or refused it

-- a good tree of the same root and length
abbrev pub StaysGood : KeptTree → KeptTree → Type 0
StaysGood a b = (info_of b ≡ info_of a) × IsGoodTree b

same-stays_good : (a b : KeptTree) → IsGoodTree a → b ≡ a → StaysGood a b
same-stays_good a b good same = (ap info_of same, subst IsGoodTree (sym same) good)

pub good_after_take : (a b : KeptTree) (ask : Ask) (hashes : List Hash) (r : Result ℕ HashRefusal) → IsGoodTree a → AreHashes hashes
    → IfOk r (λ c. TreeTakesHashes a ask hashes c b)
    → IfErr r (λ x. TreeRefusesHashes a ask hashes x × (b ≡ a)) → StaysGood a b
good_after_take a b ask hashes (Ok c) good sizes taken refused =
    (ap info_of taken.1, good_taken a b ask hashes c good sizes taken)
good_after_take a b ask hashes (Err x) good sizes taken refused = same-stays_good a b good refused.1

pub good_after_fill : (a b : KeptTree) (layer : ℕ) (hashes : List Hash) (r : Result ℕ HashRefusal) → IsGoodTree a → AreHashes hashes
    → IfOk r (λ c. TreeTakesLayer a layer hashes c b)
    → IfErr r (λ x. TreeRefusesLayer a layer hashes x × (b ≡ a)) → StaysGood a b
good_after_fill a b layer hashes (Ok c) good sizes filled refused =
    (ap info_of filled.1, good_filled a b layer hashes c good sizes filled)
good_after_fill a b layer hashes (Err x) good sizes filled refused = same-stays_good a b good
    refused.1

pub stays_good_adopted : (a b : KeptTree) (leaves : List Hash) (r : Result ℕ HashRefusal)
    → IfOk r (λ c. TreeTakesLayer a 0 leaves c b)
    → IfErr r (λ x. TreeRefusesLayer a 0 leaves x × (b ≡ a)) → IsGoodTree b → StaysGood a b
stays_good_adopted a b leaves (Ok c) adopted refused good = (ap info_of adopted.1, good)
stays_good_adopted a b leaves (Err x) adopted refused good = (ap info_of refused.1, good)

pub good_after_block : {X : Type 0} (a b : KeptTree) (i : ℕ) (bytes : List ℕ)
    (r : Result X BlockRefusal) → IsGoodTree a
    → IfOk r (λ _. TreeMarks a i bytes b) → IfErr r (λ x. TreeRefusesBlock a i bytes x × (b ≡ a))
    → StaysGood a b
good_after_block a b i bytes (Ok x) good taken refused =
    (ap info_of taken.marks, good_marked a b i bytes good taken)
good_after_block a b i bytes (Err x) good taken refused = same-stays_good a b good refused.1
