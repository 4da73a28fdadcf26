use Rattle.std.proofs.Common.{[]}
use Rattle.drafting.proofs.Coming.{found_in, took_memory}
use Rattle.drafting.proofs.coming_file.ComingFile.take_found.Goals as goal

pub returns-clause-found : goal.returns-clause-found
returns-clause-found c =
    found_in c.args.self.now c.replace-stage.result c.found.result c.replace-stage.ensures.value c.found.ensures.found c.found.ensures.works

pub returns-clause-memory : goal.returns-clause-memory
returns-clause-memory c = took_memory c.args.self.now c.replace-stage.result [] c.found.result c.replace-stage.ensures.value c.found.ensures.memory
