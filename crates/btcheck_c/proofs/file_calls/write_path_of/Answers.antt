use Rattle.std.proofs.Common.{◌∙◌, subst, inl}
use Rattle.opening.specs.Seen.{file_entry}
use Rattle.opening.proofs.Placing.{file_there}
use Rattle.c_layouts.specs.Paths.{joined_path_text, HasPath}
use Rattle.btcheck_c.proofs.file_calls.write_path_of.Goals as goal

pub returns-in-Some-clause-done : goal.returns-in-Some-clause-done
returns-in-Some-clause-done c = inl (
  file_entry c.in-Some.file.now,
  file_there c.args.torrent.now c.files.result.now c.args.number c.in-Some.file.now c.files.ensures c.in-Some.ensures.lookup.3.0
      (c.in-Some.ensures.lookup.3.1 c.in-Some.file.now),
  subst (λ p. HasPath (joined_path_text p) c.write_path.result c.args.room.now c.write_path.new.room c.write_path.new.length)
      (c.deref.ensures ∙ c.parts.ensures) c.write_path.ensures.done,
)
