use Rattle.partial_tree.specs.Trust.{PassesTest}
use Rattle.session_laws.proofs.Trusting.{trusted-block, trusted-hashes, trusted-answers, trusted-gap, trusted-taken, trusted-rounds, trusted-runs}
use Rattle.session_laws.proofs.Trusting.{trusted-noted_runs}
use Rattle.session_laws.proofs.laws.trusting_sha256.Goals as goal

pub returns-clause-block : goal.returns-clause-block
returns-clause-block c = λ test none S file b bytes is given joins. trusted-block (PassesTest test) none S joins file b bytes is given

pub returns-clause-hashes : goal.returns-clause-hashes
returns-clause-hashes c = λ test none S ask hashes r stores joins. trusted-hashes (PassesTest test) none S joins ask hashes r stores

pub returns-clause-answers : goal.returns-clause-answers
returns-clause-answers c = λ test none S ask hashes r stores joins. trusted-answers (PassesTest test) none S joins ask hashes r stores

pub returns-clause-gap : goal.returns-clause-gap
returns-clause-gap c = λ test none S ask hashes r S' closes joins. trusted-gap (PassesTest test) none S joins ask hashes r S' closes

pub returns-clause-taken : goal.returns-clause-taken
returns-clause-taken c = λ test none S file b bytes r takes joins. trusted-taken (PassesTest test) none S joins file b bytes r takes

pub returns-clause-rounds : goal.returns-clause-rounds
returns-clause-rounds c = λ test none S joins. trusted-rounds (PassesTest test) none S joins

pub returns-clause-runs : goal.returns-clause-runs
returns-clause-runs c = λ test none. trusted-runs (PassesTest test) none

pub returns-clause-noted_runs : goal.returns-clause-noted_runs
returns-clause-noted_runs c = λ test none. trusted-noted_runs (PassesTest test) none
