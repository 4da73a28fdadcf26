use Rattle.std.proofs.Common.{refl}
use Rattle.btcheck_c.proofs.ask_calls.note.Goals as goal

pub returns : goal.returns
returns c = (c.note_ask.result, c.status_of_note.ensures, (c.note_ask.new.session, refl, c.note_ask.ensures))
