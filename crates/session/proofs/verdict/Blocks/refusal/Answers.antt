use Rattle.std.proofs.Common.{◌≡◌, ◌<◌, List, length, take, get_or, Option, Some, None, sym, subst}
use Rattle.std.specs.Prelude.{slice_get}
use Rattle.std.proofs.lemmas.Option.{slice_get-get_or}
use Rattle.partial_tree.specs.declared.refusal.BlockRefusal.{BlockRefusal}
use Rattle.session.specs.Blocks.{BlocksSeen}
use Rattle.session.proofs.verdict.Blocks.refusal.Goals as goal

pub returns : goal.returns
returns c =
    let stated : List (Option BlockRefusal) = take c.self.inside.count c.self.inside.refusals in
    subst (λ (v : BlocksSeen). slice_get v.refusals c.args.entry ≡ Some (get_or stated c.args.entry None)) c.self.view_is
    (slice_get-get_or stated c.args.entry None (subst (λ (v : BlocksSeen). c.args.entry < length v.refusals) (sym c.self.view_is) c.requires))
