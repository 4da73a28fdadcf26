use Rattle.session.proofs.EndLaws.{served-answered, served-wanted, serving-stays}
use Rattle.session_laws.proofs.laws.all_blocks_are_served.Goals as goal

pub returns-clause-asks : goal.returns-clause-asks
returns-clause-asks c = served-answered

pub returns-clause-wants : goal.returns-clause-wants
returns-clause-wants c = served-wanted

pub returns-clause-stays : goal.returns-clause-stays
returns-clause-stays c = serving-stays
