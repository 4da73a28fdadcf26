-- What stands in the slots of a store. Public clauses do not name these.
use Rattle.std.specs.Prelude.{◌≡◌, ◌≢◌, ℕ, ◌+◌, ◌*◌, ◌<◌, List, ◌++◌, length, take}
use Rattle.lanes.specs.Lanes.{bytes_at}
use Rattle.pieces.specs.declared.slots.TheConstants.{SLOTS}
use Rattle.pieces.specs.declared.store.Store.{Store}

-- the bytes of a slot
abbrev pub slot_bytes : Store → ℕ → List ℕ
slot_bytes s slot = bytes_at s.bytes.items (slot * s.size) s.size

-- these bytes were put into a slot, from this byte of it on
pub record PutsMore (old new : Store) (slot at : ℕ) (bytes : List ℕ) : Type 0 where
  pub size : new.size ≡ old.size
  pub front : take (at + length bytes) (slot_bytes new slot)
      ≡ take at (slot_bytes old slot) ++ bytes
  pub others : (other : ℕ) → other < SLOTS → other ≢ slot
      → slot_bytes new other ≡ slot_bytes old other
