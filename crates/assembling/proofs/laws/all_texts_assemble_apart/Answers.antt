use Rattle.assembling.proofs.Apart.{all_apart}
use Rattle.assembling.proofs.laws.all_texts_assemble_apart.Goals as goal

pub returns : goal.returns
returns c = all_apart
