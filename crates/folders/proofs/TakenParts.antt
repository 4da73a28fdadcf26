-- A source that a consumer takes part by part, through a buffer.
use Rattle.std.proofs.Common.{◌≡◌, ℕ, ◌+◌, ◌-◌, ◌<◌, ◌≤◌, ◌++◌, List, length, take, arith, subst, ◌∙◌}
use Rattle.std.proofs.lemmas.List.{length-append, length-take-le, take-append-le}
use Rattle.benc.specs.Device.{SourceSeen}
use Rattle.wire.proofs.Giving.{Gave-trans}
use Rattle.folders.specs.Exactly.{TookExactly}
use Rattle.folders.specs.TakeAll.{Fills}

-- so many bytes were taken, no fault came, and the consumer has room for what is left of the bound
pub record IsTaking {T : Type 0} (took : T → List ℕ → T → Type 0) (has_room : T → ℕ → Type 0) (old now : SourceSeen) (bound : ℕ) (first last : T)
    (count : ℕ) (buffer : List ℕ) : Type 0 where
  pub within : count ≤ bound
  pub some : 0 < length buffer
  pub falls : now.limit + count ≡ old.limit
  pub counted : now.faults ≡ old.faults
  pub so_far : TookExactly took old now count first last
  pub room : has_room last (bound - count)

module _ {T : Type 0} {took : T → List ℕ → T → Type 0} {has_room : T → ℕ → Type 0} {old b now : SourceSeen} {bound count n : ℕ} {x y z : T}
    {buffer part : List ℕ} (joins : (i j k : T) (s t : List ℕ) → took i s j → took j t k → took i (s ++ t) k) (rest : List ℕ)
    (before : IsTaking took has_room old b bound x y count buffer) (fills : Fills b now part n) (given : took y (take n (part ++ rest)) z) where
  filled : took y (take n part) z
  filled = subst (λ t. took y t z) (take-append-le n part rest fills.bound) given

  -- what was taken with the next part
  pub with_part : TookExactly took old now (count + n) x z
  with_part =
      let so_far = before.so_far in
      record {
        bytes = so_far.bytes ++ take n part;
        count = omega (arith, so_far.count, length-append so_far.bytes (take n part), length-take-le n part fills.bound);
        gave = Gave-trans old b now so_far.bytes (take n part) so_far.gave fills.gave;
        taken = joins x y z so_far.bytes (take n part) so_far.taken filled;
      }

  pub goes_on : ((i j : T) (s : List ℕ) (m : ℕ) → took i s j → has_room i (length s + m) → has_room j m) → count + n ≤ bound
      → 0 < length (part ++ rest) → now.faults ≡ b.faults → IsTaking took has_room old now bound x z (count + n) (part ++ rest)
  goes_on room_left within some counts =
      let size = length-take-le n part fills.bound in
      let left : bound - count ≡ length (take n part) + (bound - (count + n)) = omega (arith, size, within) in
      record {
        within = within;
        some = some;
        falls = omega (arith, fills.gave.falls, before.falls, size);
        counted = counts ∙ before.counted;
        so_far = with_part;
        room = room_left y z (take n part) (bound - (count + n)) filled (subst (has_room y) left before.room);
      }
