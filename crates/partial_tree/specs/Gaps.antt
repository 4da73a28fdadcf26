-- What is still to be asked for: aligned ranges of leaves, as a client asks for them.
use Rattle.std.specs.Prelude.{ℕ, zero, suc, ◌+◌, ◌-◌, ◌*◌, ◌/◌, ◌^◌, min, Bool, true, false, nat_lt, ◌&&◌, ◌||◌, is_none, if◌then◌else◌, Option, Some, None}
use Rattle.wire.specs.declared.message.Ask.{Ask}
use Rattle.partial_tree.specs.TreeRoot.{TreeRoot}
use Rattle.node_maps.specs.Places.{tree_height, PartialTree}
use Rattle.hashtree.specs.Tree.{block_count}

-- 1 for a test that passes
abbrev pub one_if : Bool → ℕ
one_if true = 1
one_if false = 0

-- how many numbers below n pass a test
abbrev pub count_below : (ℕ → Bool) → ℕ → ℕ
count_below p zero = 0
count_below p (suc n) = count_below p n + one_if (p n)

-- whether a number below n passes a test
abbrev pub some_below : (ℕ → Bool) → ℕ → Bool
some_below p zero = false
some_below p (suc n) = some_below p n || p n

-- the most leaves that are asked for at once
abbrev pub most_wanted : ℕ
most_wanted = 512

-- how many leaves are asked for at once: the most, or all if there are fewer
abbrev pub window : ℕ → ℕ
window len = min most_wanted (2 ^ tree_height len)

-- block i of the file has no known leaf
abbrev pub is_missing : ℕ → PartialTree → ℕ → Bool
is_missing len K i = nat_lt i (block_count len) && is_none (K 0 i)

-- range r of the leaves, from r * w on, has a block with no known leaf
abbrev pub is_gap : ℕ → PartialTree → ℕ → Bool
is_gap len K r = some_below (λ j. is_missing len K (r * window len + j)) (window len)

-- how many of the ranges have one
unfoldable pub gaps : ℕ → PartialTree → ℕ
gaps len K = count_below (is_gap len K) (2 ^ tree_height len / window len)

-- the ask for the range that holds a block, up to the root
abbrev pub want_ask : TreeRoot → ℕ → Ask
want_ask t b = record {
  root = t.root;
  base = 0;
  index = b / window t.length * window t.length;
  length = window t.length;
  proof = tree_height t.length - 1;
}

-- what to ask for to learn the leaf of block b: nothing exactly if it is known
abbrev pub want_of : TreeRoot → PartialTree → ℕ → Option Ask
want_of tree K b = (if is_none (K 0 b) then Some (want_ask tree b) else None)
