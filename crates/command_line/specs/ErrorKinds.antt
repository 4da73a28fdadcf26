-- The kinds of errors of arguments.
use Rattle.std.specs.Prelude.{◌≡◌, ◌⊎◌}
use Rattle.clap.specs.declared.error.kind.ErrorKind.{ErrorKind}
use Rattle.clap.specs.declared.error.kind.ErrorKind.TheVariants.{DisplayHelp, DisplayVersion}

-- help or the version, which go to standard output
abbrev pub IsHelpOrVersion : ErrorKind → Type 0
IsHelpOrVersion kind = (kind ≡ DisplayHelp) ⊎ (kind ≡ DisplayVersion)
