-- The digests of whole cuts that come next. Public clauses do not name these.
use Rattle.std.specs.Prelude.{◌≡◌, ℕ, ◌+◌, ◌-◌, ◌*◌, ◌<◌, ◌≤◌, List, [], length, drop, take, slice_index_or, Option}
use Rattle.std.specs.Option.{option_to_list}
use Rattle.sha1.specs.Sha1.{sha1}
use Rattle.lanes.specs.declared.words.TheConstants.{LANES}
use Rattle.pieces.specs.declared.next_cuts.NextCuts.{NextCuts}

-- how many cuts' digests are told: one or none
abbrev pub cuts_told : Option (List ℕ) → ℕ
cuts_told digest = length (option_to_list digest)

-- of these digests this many are left, and they are those of the first cuts of these bytes
pub record AreOfCuts (digests : List (List ℕ)) (left size : ℕ) (bytes : List ℕ) : Type 0 where
  pub whole : left * size ≤ length bytes
  pub are : (i : ℕ) → i < left
      → slice_index_or digests (LANES - left + i) [] ≡ sha1 (take size (drop (i * size) bytes))

-- what is known of the next cuts is true of these bytes
abbrev pub KnowsCuts : NextCuts → ℕ → List ℕ → Type 0
KnowsCuts n size bytes = AreOfCuts n.digests n.left size bytes
