use Rattle.std.proofs.Common.{◌∙◌, ap₂}
use Rattle.std.specs.Option.{unwrap_or}
use Rattle.hashtree.proofs.Zeros.{zero_hash-zero}
use Rattle.partial_tree.proofs.answering.known_or_pad.Goals as goal

pub returns : goal.returns
returns g c = c.unwrap_or.ensures ∙ ap₂ unwrap_or c.get.ensures (c.zero.ensures ∙ zero_hash-zero)
