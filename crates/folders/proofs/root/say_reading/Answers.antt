use Rattle.std.proofs.Common.{ap, subst, sym}
use Rattle.benc.specs.Device.{WroteAndFlushed}
use Rattle.folders.specs.Reading.{IsReadingOf}
use Rattle.folders.proofs.RootLines.{row_empty, row_root, row_too_long}
use Rattle.folders.proofs.root.say_reading.Goals as goal

pub returns-in-Empty : goal.returns-in-Empty
returns-in-Empty g c = λ file is.
    subst (WroteAndFlushed _ _ _) (ap g.L.LineSink.spelled (sym (row_empty file (subst (IsReadingOf file) c.in-Empty.is is))))
    c.say_last.ensures

pub returns-in-Root : goal.returns-in-Root
returns-in-Root g c = λ file is.
    subst (WroteAndFlushed _ _ _)
    (ap g.L.LineSink.spelled (sym (row_root file c.in-Root.length c.in-Root.root (subst (IsReadingOf file) c.in-Root.is is))))
    c.say_last-in-Root.ensures

pub returns-in-TooLong : goal.returns-in-TooLong
returns-in-TooLong g c = λ file is.
    subst (WroteAndFlushed _ _ _) (ap g.L.LineSink.spelled (sym (row_too_long file (subst (IsReadingOf file) c.in-TooLong.is is))))
    c.say_last-in-TooLong.ensures
