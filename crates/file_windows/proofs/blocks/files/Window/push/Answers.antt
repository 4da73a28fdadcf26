use Rattle.std.proofs.Common.{◌≡◌, ◌+◌, ◌-◌, inl, inr, arith}
use Rattle.std.proofs.lemmas.Bool.{cases_lt}
use Rattle.file_windows.proofs.FileBlocks.{block_inside}
use Rattle.file_windows.proofs.blocks.files.Window.push.Goals as goal

pub returns-clause-within : goal.returns-clause-within
returns-clause-within c bytes inside fits b lt = elim (cases_lt b c.args.self.now.count) [
  | inl before ↦ omega (arith, inside b before, c.parts.invariant.starts b before, c.parts.invariant.sizes b before)
  | inr now ↦
      let spot : c.args.self.now.count + (b - c.args.self.now.count) ≡ b = omega (arith, now) in
      let block = c.parts.invariant.new (b - c.args.self.now.count) (omega (arith, lt, now, c.parts-test.false, c.parts.auto.j-end)) in
      rw spot at (block_inside c.parts.self c.args.self.now.count c.args.start c.args.size (b - c.args.self.now.count) bytes
      (omega (arith, lt, now, c.div_ceil-blocks.ensures)) fits block)
]
