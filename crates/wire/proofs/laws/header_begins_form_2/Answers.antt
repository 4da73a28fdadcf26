use Rattle.std.proofs.Common.{refl}
use Rattle.wire.proofs.laws.header_begins_form_2.Goals as goal

pub returns : goal.returns
returns c = refl
