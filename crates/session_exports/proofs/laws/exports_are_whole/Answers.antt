use Rattle.session_exports.proofs.Order.{exports-all}
use Rattle.session_exports.proofs.laws.exports_are_whole.Goals as goal

pub returns : goal.returns
returns c = exports-all
