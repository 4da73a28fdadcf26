-- The inputs in use: what the blocks of a run's messages, the trees of its last state and a file
-- give to SHA-256, as one finite list. One who trusts that no two different ones of these have one
-- digest needs to state no more.
use Rattle.std.specs.Prelude.{ℕ, ◌+◌, ◌-◌, ◌*◌, ◌/◌, ◌%◌, ◌^◌, Bool, List, [], ◌∷◌, ◌++◌, length, map, Option, Some, None, nat_eq, if◌then◌else◌}
use Rattle.std.specs.FinMap.{entries}
use Rattle.std.specs.List.{All, flat_map, list_any, range_with_len}
use Rattle.std.specs.Cmp.Lexicographic.{pointwise}
use Rattle.wire.specs.declared.message.Message.{Message as Sent}
use Rattle.wire.specs.declared.message.Message.TheVariants as message
use Rattle.session.specs.declared.verdict.Verdict.{Verdict as Said}
use Rattle.hashtree.specs.Tree.{block, block_count, node}
use Rattle.node_maps.specs.Digest.{Hash}
use Rattle.node_maps.specs.Known.{Known, look}
use Rattle.node_maps.specs.Places.{tree_height}
use Rattle.partial_tree.specs.Trust.{PassesTest, HasNoCollision, AreInputsOf}
use Rattle.chains.specs.Chain.{Chain}
use Rattle.session.specs.Session.{SessionSeen, TreeState}
use Rattle.session.specs.SafeStep.{IsSafeStep}
use Rattle.session.specs.Trusted.{AreJoinsOfTrees, HasBlocksOf, IsTrustedStep}

-- the blocks of some bytes
abbrev pub blocks_of : List ℕ → List (List ℕ)
blocks_of bytes = map (block bytes) (range_with_len 0 (block_count (length bytes)))

-- the blocks of a message
abbrev pub blocks_of_message : Sent → List (List ℕ)
blocks_of_message (message.Piece index begin bytes) = blocks_of bytes.now
blocks_of_message m = []

-- a hash joined with the one after it, if there is one
abbrev pub joined_with : Hash → Option Hash → List (List ℕ)
joined_with left None = []
joined_with left (Some right) = (left ++ right) ∷ []

-- a known node that is a left child, joined with its sibling, if that is known
abbrev pub join_from : Known → (ℕ × ℕ) × Hash → List (List ℕ)
join_from K ((l, i), left) =
    if nat_eq (i % 2) 0 then joined_with left (look K l (i + 1)) else []

-- each two known siblings, joined
abbrev pub joins_of : Known → List (List ℕ)
joins_of K = flat_map (join_from K) (entries K)

-- each two siblings of a layer of a file's tree, joined
abbrev pub joins_of_layer : List ℕ → ℕ → List (List ℕ)
joins_of_layer f l = map (λ j. node f l (2 * j) ++ node f l (2 * j + 1))
    (range_with_len 0 (2 ^ (tree_height (length f) - l) / 2))

-- each two siblings of a file's tree, joined
abbrev pub joins_of_file : List ℕ → List (List ℕ)
joins_of_file f =
    flat_map (joins_of_layer f) (range_with_len 0 (tree_height (length f) + 1))

-- the inputs in use
abbrev pub inputs_of : List Sent → SessionSeen → List ℕ → List (List ℕ)
inputs_of ms S f = flat_map blocks_of_message ms
    ++ (flat_map (λ (s : TreeState). joins_of s.known) S.trees ++ (blocks_of f ++ joins_of_file f))

-- whether an input is one of these
abbrev pub is_input_among : List (List ℕ) → List ℕ → Bool
is_input_among inputs input = list_any (pointwise nat_eq input) inputs

-- an input is in use
abbrev pub IsInUse : List Sent → SessionSeen → List ℕ → List ℕ → Type 0
IsInUse ms S f = PassesTest (is_input_among (inputs_of ms S f))

-- the blocks of the messages are in use
abbrev pub MessagesAreInUse : Type 0
MessagesAreInUse = (ms : List Sent) (S : SessionSeen) (f : List ℕ)
    → All (HasBlocksOf (IsInUse ms S f)) ms

-- so are the joined siblings of what is known
abbrev pub TreesAreInUse : Type 0
TreesAreInUse = (ms : List Sent) (S : SessionSeen) (f : List ℕ)
    → AreJoinsOfTrees (IsInUse ms S f) S

-- so are the blocks and the joined siblings of the file
abbrev pub FileIsInUse : Type 0
FileIsInUse = (ms : List Sent) (S : SessionSeen) (f : List ℕ) → AreInputsOf (IsInUse ms S f) f

-- so if no two different inputs in use have one digest, no collision is left at any step of the run
abbrev pub TrustedRunsOfInputs : Type 0
TrustedRunsOfInputs = (S : SessionSeen) (ms : List Sent) (vs : List Said) (S' : SessionSeen)
    (f : List ℕ) → Chain IsSafeStep S ms vs S' → HasNoCollision (IsInUse ms S' f)
    → Chain (IsTrustedStep (IsInUse ms S' f)) S ms vs S' × AreInputsOf (IsInUse ms S' f) f
