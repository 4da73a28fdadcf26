use Rattle.std.proofs.Common.{◌≡◌, ◌-◌, ◌++◌, suc, refl, length, slice_index, ◌∙◌, arith, length-append}
use Rattle.lanes.specs.declared.words.TheConstants.{LANES}
use Rattle.sha1.specs.Sha1.{hash_after}
use Rattle.lanes.specs.Lanes.{bytes_at}
use Rattle.sha1_lanes.proofs.Zeros.{length-bytes_at}
use Rattle.sha1_lanes.proofs.relay.Relay.step.Goals as goal

pub returns-clause-passes : goal.returns-clause-passes
returns-clause-passes c j lt m held =
    let start = slice_index c.args.starts.now j in
    let more = bytes_at c.args.buffer.now start c.args.size in
    let len : length more ≡ c.args.size = length-bytes_at c.args.buffer.now start c.args.size (c.requires.inside j (omega arith)) in
    record {
      whole = omega (arith, length-append m more, len, held.whole, c.requires.whole_blocks);
      value_is =
          c.of-self.ensures (suc j) lt
          ∙ c.passed_on.ensures.passes j lt
          ∙ c.take_blocks.ensures j (omega arith) m held.whole (c.state-state.ensures j (omega arith) ∙ held.value_is);
    }

pub returns-clause-begins : goal.returns-clause-begins
unfolding hash_after
returns-clause-begins c = record { whole = refl; value_is = c.of-self.ensures 0 (omega arith) ∙ c.passed_on.ensures.begins }

pub returns-clause-digest : goal.returns-clause-digest
returns-clause-digest c m held long =
    let start = slice_index c.args.starts.now (LANES - 1) in
    let more = bytes_at c.args.buffer.now start c.args.size in
    let len : length more ≡ c.args.size = length-bytes_at c.args.buffer.now start c.args.size (c.requires.inside (LANES - 1) (omega arith)) in
    c.last_digest.ensures (m ++ more)
    (omega (arith, length-append m more, len, held.whole, c.requires.whole_blocks))
    (omega (arith, length-append m more, len, long))
    (c.take_blocks.ensures (LANES - 1) (omega arith) m held.whole (c.state-state.ensures (LANES - 1) (omega arith) ∙ held.value_is))
