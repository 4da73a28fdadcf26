-- The place of a byte, counted from a file that was passed.
use Rattle.std.proofs.Common.{◌≡◌, ℕ, zero, suc, ◌+◌, ◌-◌, ◌/◌, ◌≤◌, false, cond, nat_lt, List, [], ◌∷◌}
use Rattle.std.proofs.Common.{length, take, drop, sum_by}
use Rattle.std.proofs.Common.{sym, ap, ◌∙◌, arith}
use Rattle.std.proofs.lemmas.Bool.Decides.{nat_tests}
use Rattle.std.proofs.lemmas.List.Sums.{sum_by-cons}
use Rattle.opening.specs.Description.{FileEntry}
use Rattle.parts.specs.Shares.{piece_at_byte}

abbrev pub byte_length : FileEntry → ℕ
byte_length f = f.length

-- the byte comes behind the first files, so its place is counted from the next
pub place_behind : (pl past : ℕ) (fs : List FileEntry) (k byte : ℕ) → k ≤ length fs → sum_by byte_length (take k fs) ≤ byte
    → piece_at_byte pl past (drop k fs) (byte - sum_by byte_length (take k fs)) ≡ piece_at_byte pl past fs byte
place_behind pl past fs zero byte within le = ap (piece_at_byte pl past fs) (let e : byte - 0 ≡ byte = omega arith in e)
place_behind pl past [] (suc k) byte within le = absurd (omega (arith, within))
place_behind pl past (f ∷ fs) (suc k) byte within le =
    let sum : ℕ = sum_by byte_length (take k fs) in
    let whole : sum_by byte_length (f ∷ take k fs) ≡ f.length + sum = sum_by-cons byte_length f (take k fs) in
    let test : nat_lt byte f.length ≡ false = no_lt byte f.length (omega (arith, whole, le)) in
    let less : byte - sum_by byte_length (f ∷ take k fs) ≡ byte - f.length - sum = omega (arith, whole) in
    ap (piece_at_byte pl past (drop k fs)) less
    ∙ place_behind pl past fs k (byte - f.length) (omega (arith, within)) (omega (arith, whole, le))
    ∙ sym (ap (λ b. cond b (f.first_piece + byte / pl) (piece_at_byte pl past fs (byte - f.length))) test)
  where
    no_lt : (a b : ℕ) → b ≤ a → nat_lt a b ≡ false
    no_lt a b le = grind (arith, nat_tests, le)
