-- SHA-1 of messages that pass on from lane to lane.
use Rattle.std.specs.Prelude.{◌≡◌, ℕ, ◌%◌, length, List}
use Rattle.sha1_lanes.specs.Batches.{hash_value_of, value_in}
use Rattle.sha1_lanes.specs.declared.relay.Relay.{Relay}

-- this much of the message in lane j, whole blocks, was taken in
pub record HasPassed (s : Relay) (j : ℕ) (m : List ℕ) : Type 0 where
  pub whole : length m % 64 ≡ 0
  pub value_is : value_in j s.values ≡ hash_value_of m
