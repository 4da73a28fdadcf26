-- What is read of a part's text. Public clauses do not name these.
use Rattle.std.specs.Prelude.{◌≡◌, ℕ, ◌+◌, Bool, true, ◌++◌, length}
use Rattle.assembling.specs.Said.{RowSaid}
use Rattle.assembling.specs.declared.rows.FileRows.{FileRows}

-- this many nodes came to a file's, and in a hybrid as many digests of cuts
pub record AddsCount (count : ℕ) (hybrid : Bool) (old new : FileRows) : Type 0 where
  pub nodes : length new.nodes.items ≡ length old.nodes.items + count
  pub cuts : hybrid ≡ true → length new.v1.cuts.items ≡ length old.v1.cuts.items + count

-- what a part says of a row came behind what others say
pub record IsBehind (hybrid : Bool) (row : RowSaid) (old new : FileRows) : Type 0 where
  pub nodes : new.nodes.items ≡ old.nodes.items ++ row.nodes
  pub cuts : hybrid ≡ true → new.v1.cuts.items ≡ old.v1.cuts.items ++ row.cuts
  pub padded : hybrid ≡ true → new.v1.padded ≡ row.padded
