use Rattle.assembling.proofs.AllTexts.{all_assembled}
use Rattle.assembling.proofs.laws.all_texts_assemble.Goals as goal

pub returns : goal.returns
returns c = all_assembled
