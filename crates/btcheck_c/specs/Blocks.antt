-- What the calls on the blocks of a piece message answer (BEP 3, "piece").
use Rattle.std.specs.Prelude.{◌≡◌, ℕ, List, Result}
use Rattle.partial_tree.specs.declared.refusal.BlockRefusal.{BlockRefusal}
use Rattle.session.specs.Blocks.{BlocksSeen}
use Rattle.session.specs.Session.{SessionSeen}
use Rattle.c_layouts.specs.Blocks.{HasBlocksStatus}
use Rattle.c_layouts.specs.declared.blocks_info.BlocksInfo.{BlocksInfo}
use Rattle.btcheck_c.specs.Taken.{BlocksTaken}
use Rattle.btcheck_c.specs.Holds.{IsWrongKind}
use Rattle.btcheck_c.specs.declared.thing.Kind.{Kind}
use Rattle.btcheck_c.specs.declared.thing.Kind.TheVariants as kind

-- the session takes the blocks of a piece message; status and entries are its answer
abbrev pub TakesBlocks : ℕ → ℕ → List ℕ → BlocksInfo → Kind → ℕ → Kind → Type 0
TakesBlocks index begin bytes out (kind.Session S) status k' =
    (answer : Result BlocksSeen BlockRefusal) × HasBlocksStatus answer status out
    × ((S' : SessionSeen) × (k' ≡ kind.Session S') × BlocksTaken S index begin bytes answer S')
TakesBlocks index begin bytes out k status k' =
    IsWrongKind k status k'
