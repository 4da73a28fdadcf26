use Rattle.partial_tree.specs.Trust.{PassesTest}
use Rattle.tree_laws.proofs.Trusted.{no_collision, no_block_collision, joins-are_bytes, whole-are_bytes, inputs-are_bytes}
use Rattle.tree_laws.proofs.laws.trusted_digests_name_no_collision.Goals as goal

pub returns-clause-trees : goal.returns-clause-trees
returns-clause-trees c = λ test. no_collision (PassesTest test)

pub returns-clause-block : goal.returns-clause-block
returns-clause-block c = λ test. no_block_collision (PassesTest test)

pub returns-clause-closed : goal.returns-clause-closed
returns-clause-closed c = joins-are_bytes

pub returns-clause-whole : goal.returns-clause-whole
returns-clause-whole c = whole-are_bytes

pub returns-clause-files : goal.returns-clause-files
returns-clause-files c = inputs-are_bytes
