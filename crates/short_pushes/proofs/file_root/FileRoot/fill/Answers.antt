use Rattle.std.proofs.Common.{refl}
use Rattle.short_pushes.proofs.Roots.{front_handed_on}
use Rattle.short_pushes.proofs.file_root.FileRoot.fill.Goals as goal

pub returns-then-is_full-clause-front : goal.returns-then-is_full-clause-front
returns-then-is_full-clause-front c =
    front_handed_on c.args.self.now _ c.hand_on.new.self c.args.bytes.now c.top_up-rest.result.now refl c.top_up-rest.ensures.front c.hand_on.ensures.same
