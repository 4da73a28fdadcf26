-- The pads that leaves bring with them, if they reach the file's end.
use Rattle.std.proofs.Common.{◌≡◌, ℕ, ◌+◌, ◌*◌, ◌%◌, ◌^◌, ◌<◌, ◌≤◌, Bool, true, false, leb, Some, None, Result, Ok, Err, IfOk, IfErr, refl, sym, ap}
use Rattle.std.proofs.Common.{◌∙◌, subst, arith}
use Rattle.std.specs.Bool.{OnTrue}
use Rattle.std.specs.Option.{option_or}
use Rattle.std.proofs.lemmas.Bool.{le-leb, lt-leb, leb-true, cond-true, cond-false, cases_Bool}
use Rattle.std.proofs.lemmas.Nat.{one_shl}
use Rattle.std.proofs.lemmas.Option.{none-some}
use Rattle.hashtree.specs.Tree.{block_count}
use Rattle.node_maps.specs.Digest.{Hash}
use Rattle.node_maps.specs.Known.{Known}
use Rattle.node_maps.specs.Nodes.{Nodes}
use Rattle.node_maps.specs.Places.{PartialTree, IsKnown}
use Rattle.node_maps.proofs.Known.{or_none}
use Rattle.partial_tree.specs.Claims.{joined, IsAgreed}
use Rattle.partial_tree.specs.EndPads.{end_pads, AreEndPadsKnown}
use Rattle.partial_tree.specs.Evidence.{StoreFault, EndFault}
use Rattle.partial_tree.specs.Joins.{Joins}
use Rattle.partial_tree.specs.LeafRows.{row_pads, AreRowPadsKnown}
use Rattle.partial_tree.specs.declared.refusal.HashRefusal.{HashRefusal}
use Rattle.partial_tree.specs.declared.refusal.HashRefusal.TheVariants.{UnknownRoot, BadRange, BadCount, BadPad, Unanchored, Mismatch, NoMemory, Unasked}
use Rattle.partial_tree.specs.TreeRoot.{TreeRoot}
use Rattle.partial_tree.specs.Closed.{IsClosed}
use Rattle.partial_tree.proofs.ClaimValues.{guarded}
use Rattle.partial_tree.proofs.EndPads.{pads-agree}
use Rattle.partial_tree.proofs.PadRows.{new-first}

module _ (len first k : ℕ) where
  -- leaves that reach the end bring the pads beside it
  pub pads-come : block_count len ≤ first + 2 ^ k → row_pads len first k ≡ end_pads len
  pads-come reach = λ i l j. come l j i
    where
      come : (l i : ℕ) → row_pads len first k l i ≡ end_pads len l i
      come l i = cond-true _ _ _ (le-leb (block_count len) (first + 2 ^ k) reach)

  -- other leaves bring none
  pub pads-stay : first + 2 ^ k < block_count len → (l i : ℕ) → row_pads len first k l i ≡ None
  pads-stay short l i = cond-false _ _ _ (lt-leb (block_count len) (first + 2 ^ k) short)

  pub nothing-more : first + 2 ^ k < block_count len → (C : PartialTree) → joined C (row_pads len first k) ≡ C
  nothing-more short C = λ i l j. same l j i
    where
      same : (l i : ℕ) → joined C (row_pads len first k) l i ≡ C l i
      same l i = or_none (C l i) (row_pads len first k l i) (pads-stay short l i)

  pub none-known : first + 2 ^ k < block_count len → (K : PartialTree) → AreRowPadsKnown len K first k
  none-known short K l i v is = absurd (none-some v (sym (pads-stay short l i) ∙ is))

-- where all pads beside the end are known, so are these
pub row_pads-known : (len first k : ℕ) (K : PartialTree) (b : Bool) → OnTrue b (AreEndPadsKnown len K) → OnTrue b (AreRowPadsKnown len K first k)
row_pads-known len first k K false known = tt
row_pads-known len first k K true known = λ l i v is. known l i v (guarded (leb (block_count len) (first + 2 ^ k)) (end_pads len l i) v is).1

-- they differ nowhere from what is known in a closed tree
pub row_pads-agree : (t : TreeRoot) (K : PartialTree) → IsClosed t K → (first k : ℕ) → IsAgreed K (row_pads t.length first k)
row_pads-agree t K closed first k l i u v known pad =
    pads-agree t K closed l i u v known (guarded (leb (block_count t.length) (first + 2 ^ k)) (end_pads t.length l i) v pad).1

fault-first : (K C P : PartialTree) (r : HashRefusal) → StoreFault K C r → EndFault K C P r
fault-first K C P Mismatch f = f
fault-first K C P NoMemory f = (f.0, new-first K C P f.1)
fault-first K C P UnknownRoot f = f
fault-first K C P BadRange f = f
fault-first K C P BadCount f = f
fault-first K C P BadPad f = f
fault-first K C P Unanchored f = f
fault-first K C P Unasked f = f

pub faults-first : (K C P : PartialTree) (r : Result ℕ HashRefusal) (a b : Nodes) → IfErr r (λ x. StoreFault K C x × (a ≡ b))
    → IfErr r (λ x. EndFault K C P x × (a ≡ b))
faults-first K C P (Ok c) a b f = tt
faults-first K C P (Err x) a b f = (fault-first K C P x f.0, f.1)
