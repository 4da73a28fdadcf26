-- What is laid out of the blocks of a piece message (BEP 3, "piece").
use Rattle.std.specs.Prelude.{◌≡◌, ℕ, ◌+◌, ◌-◌, ◌<◌, ◌++◌, length, map, replicate, Option, Some, None, Result, Ok, Err}
use Rattle.partial_tree.specs.Names.{block_refusal_number}
use Rattle.partial_tree.specs.declared.refusal.BlockRefusal.{BlockRefusal}
use Rattle.session.specs.Blocks.{BlocksSeen}
use Rattle.c_layouts.specs.declared.blocks_info.BlocksInfo.{BlocksInfo}

-- the status of one block: 0 if it is verified, else the number of its refusal
abbrev pub entry_status : Option BlockRefusal → ℕ
entry_status None = 0
entry_status (Some r) = 300 + block_refusal_number r

-- the same entries, as C has them; past them there is no such block
pub record AreBlocksLaidOut (v : BlocksSeen) (out : BlocksInfo) : Type 0 where
  pub count_is : out.count ≡ length v.refusals
  pub statuses_are : out.statuses
      ≡ map entry_status v.refusals ++ replicate (17 - length v.refusals) 5
  pub place_is : 0 < length v.refusals → (out.file ≡ v.file) × (out.first ≡ v.first)

-- 0 and what is made of each block, or the number of the refusal of the whole message
abbrev pub HasBlocksStatus : Result BlocksSeen BlockRefusal → ℕ → BlocksInfo → Type 0
HasBlocksStatus (Ok v) status out = (status ≡ 0) × AreBlocksLaidOut v out
HasBlocksStatus (Err r) status out = status ≡ 300 + block_refusal_number r
