use Rattle.std.proofs.Common.{Some, ap, sym, ◌∙◌}
use Rattle.benc.specs.View.{view, pairs_view}
use Rattle.benc.proofs.Values.{view-Dict}
use Rattle.filetree.specs.Dictionary.{as_dict}
use Rattle.opening.proofs.info.dictionary.Goals as goal

pub returns-in-Dict : goal.returns-in-Dict
returns-in-Dict c =
    ap as_dict (ap view c.in-Dict.is ∙ view-Dict c.in-Dict.pairs) ∙ ap (λ ps. Some (pairs_view ps)) (sym c.deref.ensures.value)
