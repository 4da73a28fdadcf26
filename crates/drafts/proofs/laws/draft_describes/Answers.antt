use Rattle.drafts.proofs.Drafting.{draft_describes}
use Rattle.drafts.proofs.laws.draft_describes.Goals as goal

pub returns : goal.returns
returns c = draft_describes c.canonical_has_spelling.ensures
