-- Runs of consecutive blocks of a file, as one piece message carries them (BEP 3, "piece").
use Rattle.std.specs.Prelude.{◌≡◌, ℕ, zero, suc, ◌+◌, ◌-◌, ◌*◌, ◌≤◌, min}
use Rattle.hashtree.specs.Tree.{block_count}

-- how many bytes block b has in a file of this length
abbrev pub block_size : ℕ → ℕ → ℕ
block_size len b = min 16384 (len - 16384 * b)

-- how many bytes k blocks have together, from block b on
abbrev pub run_size : ℕ → ℕ → ℕ → ℕ
run_size len b zero = 0
run_size len b (suc k) = run_size len b k + block_size len (b + k)

-- the most bytes that one piece message carries
abbrev pub most_bytes : ℕ
most_bytes = 263208

-- this many bytes are k consecutive blocks of a file of this length, at least one, from block b on
pub record IsBlockRun (len b size k : ℕ) : Type 0 where
  pub some : 1 ≤ k
  pub inside : b + k ≤ block_count len
  pub sizes : size ≡ run_size len b k
  pub carried : size ≤ most_bytes
