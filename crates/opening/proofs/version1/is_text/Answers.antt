use Rattle.std.proofs.Common.{ap, ◌∙◌, refl}
use Rattle.benc.specs.View.{view}
use Rattle.benc.proofs.Values.{view-Bytes}
use Rattle.opening.proofs.version1.is_text.Goals as goal

pub returns-in-Bytes : goal.returns-in-Bytes
returns-in-Bytes c = rw (c.eq.ensures, c.as_bytes.ensures.value, ap view c.in-Bytes.is ∙ view-Bytes c.in-Bytes.bytes) refl
