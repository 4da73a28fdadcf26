-- What is exported of a session: ranges of known leaves, each with the proof up to its root, in the
-- order of trees and blocks (BEP 52, "hashes").
use Rattle.std.specs.Prelude.{◌≡◌, ◌⊎◌, ℕ, ◌+◌, ◌-◌, ◌*◌, ◌/◌, ◌^◌, ◌<◌, ◌≤◌, List, [], ◌∷◌, slice_get, Some}
use Rattle.hashtree.specs.Tree.{block_count}
use Rattle.node_maps.specs.Digest.{Hash}
use Rattle.node_maps.specs.Known.{look}
use Rattle.node_maps.specs.Places.{tree_height, IsKnown}
use Rattle.partial_tree.specs.TreeRoot.{TreeRoot}
use Rattle.partial_tree.specs.Claims.{CanAnswer}
use Rattle.session.specs.Layouts.{roots}
use Rattle.session.specs.Session.{SessionSeen, TreeState, IsTree, IsAsked, IsAnswered}
use Rattle.wire.specs.declared.message.Ask.{Ask}
use Rattle.session_exports.specs.declared.next.Point.{Point}
use Rattle.session_exports.specs.declared.next.Export.{Export}

-- the leaf of block b of tree n is known, and is not the root itself, which every session knows
pub record HasLeaf (S : SessionSeen) (n b : ℕ) : Type 0 where
  pub tree : TreeRoot
  pub state : TreeState
  pub is_tree : IsTree S n tree state
  pub many : 1 < block_count tree.length
  pub inside : b < block_count tree.length
  pub known : IsKnown (look state.known) 0 b

-- of tree n, no leaf from block a up to block b is known
abbrev pub AreLeavesUnknown : SessionSeen → ℕ → ℕ → ℕ → Type 0
AreLeavesUnknown S n a b = (k : ℕ) → a ≤ k → k < b → HasLeaf S n k → ⊥

-- no leaf of tree n is known from block a on
abbrev pub NoneFrom : SessionSeen → ℕ → ℕ → Type 0
NoneFrom S n a = (k : ℕ) → a ≤ k → HasLeaf S n k → ⊥

-- the files of tree n have this many blocks
abbrev pub HasBlocks : SessionSeen → ℕ → ℕ → Type 0
HasBlocks S n count =
    (t : TreeRoot) × (slice_get (roots S) n ≡ Some t) × (count ≡ block_count t.length)

-- the ask for the aligned range of 2 ^ k leaves that holds block b, with proof up to the root
abbrev pub leaves_ask : Hash → ℕ → ℕ → ℕ → Ask
leaves_ask root h b k = record {
  root = root;
  base = 0;
  index = b / 2 ^ k * 2 ^ k;
  length = 2 ^ k;
  proof = h - 1;
}

-- the ask is for leaves of tree n, block b among them, with the proof up to the root, as `want`
-- asks for them; all of them are known, and not all of a wider range of at most 512 with the block
pub record IsRange (S : SessionSeen) (n b : ℕ) (ask : Ask) : Type 0 where
  pub asked : IsAsked S ask
  pub number_is : asked.number ≡ n
  pub can : CanAnswer (tree_height asked.tree.length) (look asked.state.known) ask
  pub proof_is : ask.proof ≡ tree_height asked.tree.length - 1
  pub leaves : ask.base ≡ 0
  pub most : ask.length ≤ 512
  pub starts : ask.index ≤ b
  pub ends : b < ask.index + ask.length
  pub widest : (k : ℕ) → ask.length < 2 ^ k → 2 ^ k ≤ 512
      → ¬ IsAnswered S (leaves_ask ask.root (tree_height asked.tree.length) b k)

-- ---- the order of an export

-- block b of tree n is the point's, or a later one
abbrev pub IsFrom : Point → ℕ → ℕ → Type 0
IsFrom p n b = (p.tree < n) ⊎ ((p.tree ≡ n) × (p.block ≤ b))

-- block b of tree n comes before the leaves of an ask for tree m
abbrev pub IsBefore : ℕ → Ask → ℕ → ℕ → Type 0
IsBefore m ask n b = (n < m) ⊎ ((n ≡ m) × (b < ask.index))

-- the point behind the leaves
abbrev pub point_after : Export → Point
point_after e = record { tree = e.tree; block = e.ask.index + e.ask.length }

-- these leaves are exported next: they end behind the point, and between the point and them no leaf
-- is known
pub record IsExport (S : SessionSeen) (p : Point) (e : Export) : Type 0 where
  pub block : ℕ
  pub range : IsRange S e.tree block e.ask
  pub later : IsFrom p e.tree block
  pub skipped : (n b : ℕ) → HasLeaf S n b → IsFrom p n b → IsBefore e.tree e.ask n b → ⊥

-- no leaf is known from the point on
abbrev pub NothingFrom : SessionSeen → Point → Type 0
NothingFrom S p = (n b : ℕ) → HasLeaf S n b → IsFrom p n b → ⊥

-- ---- a whole export

-- one export after the other, from a point on, until no leaf is known
abbrev pub AreExports : SessionSeen → Point → List Export → Type 0
AreExports S p [] = NothingFrom S p
AreExports S p (e ∷ es) = IsExport S p e × AreExports S (point_after e) es

-- block b of tree n is among the leaves of one of these
pub record IsExported (es : List Export) (n b : ℕ) : Type 0 where
  pub place : ℕ
  pub export : Export
  pub there : slice_get es place ≡ Some export
  pub tree_is : export.tree ≡ n
  pub starts : export.ask.index ≤ b
  pub ends : b < export.ask.index + export.ask.length

-- each known leaf is exported
abbrev pub ExportsAllLeaves : Type 0
ExportsAllLeaves = (S : SessionSeen) (p : Point) (es : List Export) → AreExports S p es
    → (n b : ℕ) → HasLeaf S n b → IsFrom p n b → IsExported es n b
