use Rattle.std.proofs.Common.{length-set, ◌∙◌, arith}
use Rattle.c_layouts.proofs.Entries.{rest_next, statuses_next}
use Rattle.c_layouts.proofs.blocks_info.lay_out_blocks.Goals as goal

pub entries-preserved : goal.entries-preserved
entries-preserved c = (
  length-set c.entries.statuses c.entries.entry c.status_of.result ∙ c.entries.invariant.0,
  statuses_next c.args.blocks.now.refusals c.entries.statuses c.entries.entry c.status_of.result _ c.refusal.ensures c.status_of.ensures
      (omega (arith, c.entries.invariant.0, c.len-entry-end.ensures.few, c.entries-test.true)) c.entries.invariant.1,
  rest_next c.entries.statuses c.entries.entry c.status_of.result c.entries.invariant.2,
)
