use Rattle.std.proofs.Common.{rules, ◌≡◌, ℕ, ◌+◌, ◌*◌, ◌≤◌, ◌++◌, List, length, take, sym, ap, ◌∙◌, arith, refl, add-one}
use Rattle.std.proofs.lemmas.List.{take_all}
use Rattle.std.proofs.lemmas.Simd.{length-replicate}
use Rattle.std.proofs.lemmas.Slice.{overwrites, take-put_mid}
use Rattle.std.specs.Int.{w32, to_be_bytes}
use Rattle.lanes.specs.Lanes.{bytes_in, word_in}
use Rattle.lanes.proofs.output.digest_of.Goals as goal
use borrow.Rule.Slice.PartMut.{put_mid}

-- one more word of the digest
one_more : (j : ℕ) (x : List (List ℕ)) (bytes word : List ℕ) (k n : ℕ) → take (4 * k) bytes ≡ bytes_in j x k → 4 * k ≤ length bytes
    → word ≡ to_be_bytes w32 (word_in x k j) → take (4 * (k + 1)) (put_mid (4 * k) n bytes word) ≡ bytes_in j x (k + 1)
unfolding bytes_in
one_more j x bytes word k n before fits same =
    let four : length word ≡ 4 = rw same refl in
    let front : take (4 * (k + 1)) (put_mid (4 * k) n bytes word) ≡ take (4 * k) bytes ++ word =
    take-put_mid (4 * k) n bytes word (4 * (k + 1)) (omega arith) fits in
    rw (front, before, same, add-one) refl

pub words-init : goal.words-init
unfolding bytes_in
words-init g c = (length-replicate {A = ℕ} g.row.SIZE 0, refl)

pub words-preserved : goal.words-preserved
words-preserved g c = (
  search (rules, overwrites),
  one_more c.args.message c.args.state.now c.words.bytes _ c.words.k _ c.words.invariant.1
      (omega (arith, c.requires.size, c.words.invariant.0)) (c.copy_from_slice.ensures.after ∙ c.to_be_bytes.ensures),
)

pub returns : goal.returns
returns g c =
    let count : c.words.k ≡ g.row.COUNT = omega arith in
    let all : 4 * c.words.k ≡ g.row.SIZE = omega (arith, c.requires.size) in
    sym (take_all (4 * c.words.k) c.words.bytes (omega (arith, all, c.words.invariant.0)))
    ∙ c.words.invariant.1
    ∙ ap (bytes_in c.args.message c.args.state.now) count
