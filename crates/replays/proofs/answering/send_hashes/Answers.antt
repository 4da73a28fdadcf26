use Rattle.std.proofs.Common.{rules, subst}
use Rattle.opening.specs.Sound.{IsSound}
use Rattle.replays.proofs.Replies.{few_hashes}
use Rattle.replays.proofs.answering.send_hashes.Goals as goal

pub returns-in_default : goal.returns-in_default
returns-in_default g c = search rules

pub write_answer-requires : goal.write_answer-requires
write_answer-requires g c =
    few_hashes c.args.session.now c.args.ask c.in-Ok.answer (subst IsSound c.torrent.ensures c.recall_sound.ensures) c.in-Ok.ensures.answer
