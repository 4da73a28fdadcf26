use Rattle.std.proofs.Common.{refl, subst}
use Rattle.opening.specs.Sound.{IsSound}
use Rattle.btcheck_c.proofs.Exporting.{answer-fits}
use Rattle.btcheck_c.proofs.writing_calls.answer_frame.Goals as goal

pub write_answer_frame-requires : goal.write_answer_frame-requires
write_answer_frame-requires c =
    answer-fits c.args.session.now c.args.ask.now c.answer_to.result (subst IsSound c.torrent.ensures c.recall_sound.ensures) c.answer_to.ensures

pub returns-clause-done : goal.returns-clause-done
returns-clause-done c = (refl, (c.answer_to.result, c.write_answer_frame.ensures.done, c.answer_to.ensures))
