-- What a tree answers to a hash request (BEP 52, "hash request").
use Rattle.std.specs.Prelude.{◌≡◌, ℕ}
use Rattle.wire.specs.declared.message.Ask.{Ask}
use Rattle.node_maps.specs.Places.{PartialTree}
use Rattle.partial_tree.specs.declared.answer.Answer.{Answer}
use Rattle.partial_tree.specs.declared.answer.Answer.TheVariants as answer
use Rattle.partial_tree.specs.Claims.{CanAnswer, answer_of}

-- for a tree of this height: the hashes of a good and known range and its uncles, else a reject
abbrev pub IsTreeAnswer : ℕ → PartialTree → Ask → Answer → Type 0
IsTreeAnswer h K ask (answer.Hashes hashes) = CanAnswer h K ask × (hashes.items ≡ answer_of h K ask)
IsTreeAnswer h K ask answer.Reject = ¬ CanAnswer h K ask
