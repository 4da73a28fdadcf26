-- A cut in each lane, whose bytes are taken from one place to another.
use Rattle.std.proofs.Common.{◌≡◌, ◌∙◌, ℕ, ◌+◌, ◌-◌, ◌<◌, ◌≤◌, min, List, ◌++◌, length, take, drop, replicate, slice_index}
use Rattle.std.proofs.Common.{sym, ap, arith, length-drop, inl, inr}
use Rattle.std.proofs.lemmas.Bool.{cases_lt}
use Rattle.std.proofs.lemmas.List.{ext_get_or, get_or-drop, get_or-take, length-take-le, take-append-drop, take-append-le}
use Rattle.std.proofs.Math.Seq.{take-add}
use Rattle.sha1_lanes.specs.Batches.{bytes_at, filled_at}
use Rattle.sha1_lanes.proofs.Zeros.{byte_with_zeros, length-filled_at, message_within, past_end}

-- the byte of a message that is filled up
filled_byte : (bytes : List ℕ) (start size whole i : ℕ) → slice_index (filled_at bytes start size whole) i ≡ slice_index (bytes_at bytes start size) i
filled_byte bytes start size whole i = sym (byte_with_zeros (bytes_at bytes start size) (whole - size) i)

-- a byte within a message is the buffer's
byte_within : (bytes : List ℕ) (start size i : ℕ) → i < size → slice_index (bytes_at bytes start size) i ≡ slice_index bytes (start + i)
byte_within bytes start size i lt = get_or-take size (drop start bytes) i 0 lt ∙ get_or-drop start bytes i 0

-- and one past it is zero
byte_past : (bytes : List ℕ) (start size i : ℕ) → size ≤ i → slice_index (bytes_at bytes start size) i ≡ 0
byte_past bytes start size i le = past_end (bytes_at bytes start size) i (omega (arith, message_within bytes start size, le))

-- a byte behind the first ones of a message that is filled up is one of the part that begins there
part_byte : (bytes : List ℕ) (start size from most i : ℕ) → i < most
    → slice_index (bytes_at bytes start size) (from + i)
    ≡ slice_index (bytes_at bytes (start + min from size) (min (size - from) most)) i
part_byte bytes start size from most i lt = elim (cases_lt (from + i) size) [
  | inl before ↦
      let spot : start + (from + i) ≡ start + min from size + i = omega (arith, before) in
      byte_within bytes start size (from + i) before
      ∙ ap (slice_index bytes) spot
      ∙ sym (byte_within bytes (start + min from size) (min (size - from) most) i (omega (arith, before, lt)))
  | inr past ↦
      byte_past bytes start size (from + i) past
      ∙ sym (byte_past bytes (start + min from size) (min (size - from) most) i (omega (arith, past)))
]

-- the bytes of a message that is filled up, from one place to another
pub part_filled : (bytes : List ℕ) (start size whole from to : ℕ) → start + size ≤ length bytes → size ≤ whole → from ≤ to → to ≤ whole
    → take from (filled_at bytes start size whole) ++ filled_at bytes (start + min from size) (min (size - from) (to - from)) (to - from)
    ≡ take to (filled_at bytes start size whole)
part_filled bytes start size whole from to inside fit order within =
    let m : List ℕ = filled_at bytes start size whole in
    let most : ℕ = to - from in
    let part : List ℕ = filled_at bytes (start + min from size) (min (size - from) most) most in
    let long : length m ≡ whole = length-filled_at bytes start size whole inside fit in
    let part_long : length part ≡ most =
    length-filled_at bytes (start + min from size) (min (size - from) most) most (omega (arith, inside)) (omega arith) in
    let rest_long : length (take most (drop from m)) ≡ most = length-take-le most (drop from m) (omega (arith, length-drop from m, long, within, order)) in
    let same : part ≡ take most (drop from m) = ext_get_or 0 part (take most (drop from m)) (part_long ∙ sym rest_long) (λ i lt.
    let below : i < most = omega (arith, lt, part_long) in
    filled_byte bytes (start + min from size) (min (size - from) most) most i
    ∙ sym (part_byte bytes start size from most i below)
    ∙ sym (filled_byte bytes start size whole (from + i))
    ∙ sym (get_or-drop from m i 0)
    ∙ sym (get_or-take most (drop from m) i 0 below)) in
    let all : from + most ≡ to = omega (arith, order) in
    ap (λ p. take from m ++ p) same ∙ sym (take-add from most m) ∙ ap (λ n. take n m) all

-- the whole blocks of a cut that is filled up, and then the rest of it, are the cut
pub whole_cut : (cut : List ℕ) (zeros at : ℕ) → at ≤ length cut → take at (cut ++ replicate zeros 0) ++ drop at cut ≡ cut
whole_cut cut zeros at le = ap (λ b. b ++ drop at cut) (take-append-le at cut (replicate zeros 0) le) ∙ take-append-drop at cut
