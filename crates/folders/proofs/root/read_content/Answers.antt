use Rattle.std.proofs.Common.{arith, ◌∙◌}
use Rattle.folders.proofs.RootLines.{empty_read, root_read, too_long_file}
use Rattle.folders.proofs.root.read_content.Goals as goal

pub returns-in-None-clause-content : goal.returns-in-None-clause-content
returns-in-None-clause-content g c =
    too_long_file (g.R.Source.seen c.args.source.now) (g.R.Source.seen c.take_all.new.source)
    (rw c.in-None.is at c.in_ok-take_all.ensures.read)

pub returns-in-Some-clause-content : goal.returns-in-Some-clause-content
returns-in-Some-clause-content g c =
    root_read (g.R.Source.seen c.args.source.now) (g.R.Source.seen c.take_all.new.source) _ _ _ _ _
    (rw c.in-Some.is at c.in_ok-take_all.ensures.read)
    (λ none. c.in-Some.field-0-test.1 (c.in-Some.field-0-is ∙ none)) c.new-builder.ensures.count
    c.new-builder.ensures.content c.finish-length.ensures.length c.finish-length.ensures.tree

pub returns-in-Some-eq0-clause-content : goal.returns-in-Some-eq0-clause-content
returns-in-Some-eq0-clause-content g c =
    empty_read (g.R.Source.seen c.args.source.now) (g.R.Source.seen c.take_all.new.source) _ _ _
    (rw c.in-Some-eq0.is at c.in_ok-take_all.ensures.read) (omega arith)
