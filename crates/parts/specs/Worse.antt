-- The worse of two verdicts.
use Rattle.std.specs.Prelude.{min}
use Rattle.folders.specs.declared.report.FileVerdict.{FileVerdict}
use Rattle.folders.specs.declared.report.FileVerdict.TheVariants as file
use Rattle.folders.specs.declared.report.V1Verdict.{V1Verdict}
use Rattle.folders.specs.declared.report.V1Verdict.TheVariants as version1

-- the worse of two verdicts on a file: missing, unreadable, of another length, bad at the earlier
-- piece, good
abbrev pub worse : FileVerdict → FileVerdict → FileVerdict
worse file.Missing w = file.Missing
worse file.Unreadable file.Missing = file.Missing
worse file.Unreadable w = file.Unreadable
worse file.WrongLength file.Missing = file.Missing
worse file.WrongLength file.Unreadable = file.Unreadable
worse file.WrongLength w = file.WrongLength
worse (file.Bad p) file.Good = file.Bad p
worse (file.Bad p) (file.Bad q) = file.Bad (min p q)
worse (file.Bad p) w = w
worse file.Good w = w

-- the worse of two verdicts on the version 1 pieces: not checked, bad at the earlier piece, good
abbrev pub worse_v1 : V1Verdict → V1Verdict → V1Verdict
worse_v1 version1.NotChecked w = version1.NotChecked
worse_v1 (version1.Bad p) version1.Good = version1.Bad p
worse_v1 (version1.Bad p) (version1.Bad q) = version1.Bad (min p q)
worse_v1 (version1.Bad p) version1.NotChecked = version1.NotChecked
worse_v1 version1.Good w = w
