use Rattle.std.proofs.Common.{◌≡◌, length}
use Rattle.chains.specs.Chain.{Chain}
use Rattle.session.specs.Blocks.{cuts}
use Rattle.partial_tree.specs.BlockDigests.{AreDigests}
use Rattle.session.specs.Session.{BlockStep}
use Rattle.session.proofs.session.SessionOf.mark_run.Given as goal

-- the entries so far are those of the first blocks
abbrev pub invariant-numbers : goal.invariant-numbers
invariant-numbers g l = record {
  file : l.blocks.file ≡ l.file;
  first : l.blocks.first ≡ l.first;
  count : length l.blocks.refusals ≡ l.number;
  digests : AreDigests l.digests l.bytes;
  each : Chain (BlockStep l.file) l.fn.self (cuts l.first l.bytes l.number) l.blocks.refusals l.self;
}
