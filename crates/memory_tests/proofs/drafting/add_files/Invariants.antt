use Rattle.std.proofs.Common.{◌≡◌}
use Rattle.memory_tests.proofs.drafting.add_files.Given as goal

-- the draft keeps the torrent's piece length
abbrev pub invariant-files : goal.invariant-files
invariant-files l = l.draft.piece_length ≡ l.torrent.piece_length
