use Rattle.line_laws.proofs.PlainLines.{line_texts_tell}
use Rattle.line_laws.proofs.RefusedLines.{block_refusals_said, hash_refusals_said}
use Rattle.line_laws.proofs.Reports.{reports_tell}
use Rattle.line_laws.proofs.SaidLines.{said}
use Rattle.line_laws.proofs.Telling.{texts_tell}
use Rattle.line_laws.proofs.laws.texts_tell.Goals as goal

pub returns : goal.returns
returns c = record {
  rows = texts_tell;
  said = said;
  hashes = hash_refusals_said;
  blocks = block_refusals_said;
  lines = line_texts_tell;
  reports = reports_tell;
}
