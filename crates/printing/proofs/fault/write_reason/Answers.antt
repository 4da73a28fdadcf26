use Rattle.printing.proofs.fault.write_reason.Goals as goal

pub returns-in-Read : goal.returns-in-Read
returns-in-Read g c = rw c.in-Read.is c.write_about.ensures

pub returns-in-ReadBelow : goal.returns-in-ReadBelow
returns-in-ReadBelow g c = rw (c.in-ReadBelow.is, ← c.deref.ensures.value) c.write_about_file.ensures

pub returns-in-Truncated : goal.returns-in-Truncated
returns-in-Truncated g c = rw c.in-Truncated.is c.write_about-in-Truncated.ensures

pub returns-in-NotUtf8 : goal.returns-in-NotUtf8
returns-in-NotUtf8 g c = rw c.in-NotUtf8.is c.write_all.ensures

pub returns-in-Special : goal.returns-in-Special
returns-in-Special g c = rw (c.in-Special.is, ← c.deref-in-Special.ensures.value) c.write_about_file-in-Special.ensures
