-- The lines of messages that a session refuses.
use Rattle.std.specs.Prelude.{◌<◌, ◌^◌, ℕ, [], codes}
use Rattle.lines.specs.Table.{block_items, refused_row}
use Rattle.line_laws.specs.Said.{IsSaidRow}
use Rattle.partial_tree.specs.Names.{block_refusal_name, block_refusal_number, hash_refusal_name, hash_refusal_number}
use Rattle.partial_tree.specs.declared.refusal.BlockRefusal.{BlockRefusal}
use Rattle.partial_tree.specs.declared.refusal.HashRefusal.{HashRefusal}

-- the line of each refusal of hashes is as it is said
abbrev pub HashRefusalsAreSaid : Type 0
HashRefusalsAreSaid =
    (n : ℕ) (r : HashRefusal) → n < 2 ^ 64
    → IsSaidRow (refused_row n (codes "H") (hash_refusal_number r) (hash_refusal_name r) [])

-- and that of each refusal of a block, with its place and without
abbrev pub BlockRefusalsAreSaid : Type 0
BlockRefusalsAreSaid =
    (n : ℕ) (r : BlockRefusal) → n < 2 ^ 64
    → IsSaidRow (refused_row n (codes "P") (block_refusal_number r) (block_refusal_name r) [])
    × ((file block : ℕ) → file < 2 ^ 64 → block < 2 ^ 64
    → IsSaidRow (refused_row n (codes "P") (block_refusal_number r) (block_refusal_name r)
    (block_items file block)))
