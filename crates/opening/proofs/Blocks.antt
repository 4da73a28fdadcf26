-- Runs of blocks: how long they are, and that one size is one run.
use Rattle.std.proofs.Common.{◌≡◌, ℕ, zero, suc, ◌+◌, ◌-◌, ◌*◌, ◌/◌, ◌%◌, ◌<◌, ◌≤◌, inl, inr, refl, sym, ap, subst, ◌∙◌, arith}
use Rattle.std.proofs.lemmas.Bool.{cases_eq}
use Rattle.hashtree.specs.Tree.{block_count}
use Rattle.opening.specs.Blocks.{block_size, run_size, most_bytes, IsBlockRun}

-- each block but the last of a run is full
full_before : (len b m : ℕ) → b + m < block_count len → run_size len b m ≡ 16384 * m
full_before len b zero inside = refl
full_before len b (suc m) inside =
    let before : run_size len b m ≡ 16384 * m = full_before len b m (omega arith) in
    let full : block_size len (b + m) ≡ 16384 = omega arith in
    omega (arith, before, full)

-- the last block begins after the full ones
pub last_of_run : (len b size k : ℕ) → IsBlockRun len b size (suc k)
    → size ≡ 16384 * k + block_size len (b + k)
last_of_run len b size k r =
    let before : run_size len b k ≡ 16384 * k = full_before len b k (omega (arith, r.inside)) in
    r.sizes ∙ ap (λ n. n + block_size len (b + k)) before

pub one_block_run : (len b size j k : ℕ) → IsBlockRun len b size j → IsBlockRun len b size k → j ≡ k
one_block_run len b size zero k p q = absurd (omega (arith, p.some))
one_block_run len b size (suc j) zero p q = absurd (omega (arith, q.some))
one_block_run len b size (suc j) (suc k) p q =
    let first : size ≡ 16384 * j + block_size len (b + j) = last_of_run len b size j p in
    let second : size ≡ 16384 * k + block_size len (b + k) = last_of_run len b size k q in
    omega (arith, first, second, p.inside, q.inside)

pub at_most_seventeen : (len b size k : ℕ) → IsBlockRun len b size k → k ≤ 17
at_most_seventeen len b size zero p = omega arith
at_most_seventeen len b size (suc k) p =
    let last : size ≡ 16384 * k + block_size len (b + k) = last_of_run len b size k p in
    omega (arith, last, p.inside, p.carried)

-- ---- which sizes are runs

-- bytes that fit into what is left of the file, and end with a whole block or with the file
pub record IsCutAtBlocks (len b size : ℕ) : Type 0 where
  pub some : 0 < size
  pub left : 16384 * b + size ≤ len
  pub carried : size ≤ most_bytes
  pub ends : (size % 16384 ≡ 0 → ⊥) → 16384 * b + size ≡ len

-- the blocks of such bytes are their length, rounded up
pub cut_is_run : (len b size : ℕ) → IsCutAtBlocks len b size
    → IsBlockRun len b size ((size + 16383) / 16384)
cut_is_run len b size h =
    let j : ℕ = (size - 1) / 16384 in
    let rounded : (size + 16383) / 16384 ≡ suc j = omega (arith, h.some) in
    let inside : b + j < block_count len = omega (arith, h.some, h.left) in
    let before : run_size len b j ≡ 16384 * j = full_before len b j inside in
    let last : block_size len (b + j) ≡ size - 16384 * j = elim (cases_eq (size % 16384) 0) [
      | inl whole ↦ omega (arith, h.some, h.left, whole)
      | inr part ↦ omega (arith, h.some, h.left, h.ends part)
    ] in
    subst (IsBlockRun len b size) (sym rounded) (record {
      some = omega arith;
      inside = omega (arith, inside);
      sizes = omega (arith, before, last, h.some);
      carried = h.carried;
    })

pub run_is_cut : (len b size k : ℕ) → IsBlockRun len b size k → IsCutAtBlocks len b size
run_is_cut len b size zero r = absurd (omega (arith, r.some))
run_is_cut len b size (suc k) r =
    let last : size ≡ 16384 * k + block_size len (b + k) = last_of_run len b size k r in
    record {
      some = omega (arith, last, r.inside);
      left = omega (arith, last, r.inside);
      carried = r.carried;
      ends = λ no. omega (arith, last, r.inside, no);
    }
