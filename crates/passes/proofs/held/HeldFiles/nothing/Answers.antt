use Rattle.std.proofs.Common.{◌∙◌, slice_get, ap}
use Rattle.passes.specs.Held.{HeldSeen}
use Rattle.passes.proofs.held.HeldFiles.nothing.Goals as goal

pub returns : goal.returns
returns c a there = c.place.ensures.nothing a (ap (λ (h : HeldSeen). slice_get h.answers c.args.place) c.self.view_is ∙ there)
