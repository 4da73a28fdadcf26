-- The lines of messages that a session refuses are as they are said.
use Rattle.std.proofs.Common.{◌<◌, ◌^◌, codes, refl, arith}
use Rattle.line_laws.specs.Refused.{BlockRefusalsAreSaid, HashRefusalsAreSaid}
use Rattle.line_laws.specs.Said.{AreSaid, IsWord}
use Rattle.line_laws.proofs.SaidLines.{a_name}
use Rattle.partial_tree.specs.Names.{block_refusal_name, block_refusal_number, hash_refusal_name, hash_refusal_number}
use Rattle.partial_tree.specs.declared.refusal.BlockRefusal.{BlockRefusal}
use Rattle.partial_tree.specs.declared.refusal.BlockRefusal.TheVariants as block
use Rattle.partial_tree.specs.declared.refusal.HashRefusal.{HashRefusal}
use Rattle.partial_tree.specs.declared.refusal.HashRefusal.TheVariants as hash

hash_word : (r : HashRefusal) → IsWord (hash_refusal_name r)
hash_word hash.UnknownRoot = refl
hash_word r = refl

hash_fits : (r : HashRefusal) → hash_refusal_number r < 2 ^ 64
hash_fits hash.UnknownRoot = omega arith
hash_fits r = omega arith

block_word : (r : BlockRefusal) → IsWord (block_refusal_name r)
block_word block.BadPlace = refl
block_word r = refl

block_fits : (r : BlockRefusal) → block_refusal_number r < 2 ^ 64
block_fits block.BadPlace = omega arith
block_fits r = omega arith

pub hash_refusals_said : HashRefusalsAreSaid
unfolding AreSaid
hash_refusals_said n r small =
    (small, (tt, ((refl, hash_fits r), (a_name (codes "name") (hash_refusal_name r) refl (hash_word r), tt))))

pub block_refusals_said : BlockRefusalsAreSaid
unfolding AreSaid
block_refusals_said n r small =
    let called = a_name (codes "name") (block_refusal_name r) refl (block_word r) in (
      (small, (tt, ((refl, block_fits r), (called, tt)))),
      λ file block small_file small_block. (small, (tt, ((refl, block_fits r), (called, (small_file, (small_block, tt)))))),
    )
