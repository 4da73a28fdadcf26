use Rattle.std.proofs.Common.{◌∙◌}
use Rattle.std.specs.Str.{bytes_eq}
use Rattle.folders.proofs.Shelves.{pointwise_map}
use Rattle.folders.proofs.memory.file.MemFile.has_path.Goals as goal

pub returns : goal.returns
returns c = c.eq.ensures ∙ pointwise_map bytes_eq (λ s. s.now) (λ s. s.now) c.args.path.now c.args.self.now.path.now
