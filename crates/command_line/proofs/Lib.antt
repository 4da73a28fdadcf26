-- Lemmas on the command line.
mod Building
mod CommandLine
mod Units
