use Rattle.opening.proofs.Answering.{answers_first, opens_only}
use Rattle.opening.proofs.torrent.Torrent.open.Goals as goal

pub returns-clause-only : goal.returns-clause-only
returns-clause-only c = λ t. opens_only c.torrent_is_one.ensures c.torrent_is_not_refused.ensures c.args.input.now t c.open_bytes.result
    c.open_bytes.ensures.described c.open_bytes.ensures.refused

pub returns-clause-first : goal.returns-clause-first
returns-clause-first c = λ r. answers_first c.torrent_is_not_refused.ensures c.refusal_is_one.ensures c.args.input.now r c.open_bytes.result
    c.open_bytes.ensures.described c.open_bytes.ensures.refused
