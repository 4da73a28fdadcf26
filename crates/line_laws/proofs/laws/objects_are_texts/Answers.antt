use Rattle.line_laws.proofs.ObjectTexts.{objects_are_texts}
use Rattle.line_laws.proofs.PlainLines.{line_objects_are_texts, plain}
use Rattle.line_laws.proofs.ReadBack.{line_objects_read_back}
use Rattle.line_laws.proofs.laws.objects_are_texts.Goals as goal

pub returns : goal.returns
returns c = record { rows = objects_are_texts; plain = plain; lines = line_objects_are_texts; read = line_objects_read_back }
