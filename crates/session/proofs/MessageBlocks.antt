-- The blocks of a message, as a loop comes to them.
use Rattle.std.proofs.Common.{◌≡◌, ℕ, zero, suc, ◌+◌, ◌*◌, ◌^◌, ◌<◌, ◌≤◌, List, [], ◌∷◌, ◌++◌, Option, Some, None, Result, Ok, Err, IfOk, IfErr, refl, subst}
use Rattle.std.proofs.Common.{arith}
use Rattle.std.specs.Result.{result_err}
use Rattle.hashtree.specs.Tree.{block, block_count}
use Rattle.opening.specs.Blocks.{block_size, IsBlockRun}
use Rattle.opening.specs.Description.{Description}
use Rattle.opening.specs.Sound.{IsSound}
use Rattle.opening.proofs.Blocks.{last_of_run}
use Rattle.partial_tree.specs.declared.refusal.BlockRefusal.{BlockRefusal}
use Rattle.chains.specs.Chain.{Chain}
use Rattle.chains.proofs.Chains.{Chain-more}
use Rattle.session.specs.Blocks.{Cut, cuts, most_blocks}
use Rattle.session.specs.Layouts.{SessionSeen, HasBlock, HasRun}
use Rattle.session.specs.Session.{IsMarkedBlock, IsUnmarkedBlock, BlockStep}

-- each block begins in the bytes
pub run-begins : (len b size k m : ℕ) → IsBlockRun len b size k → m < k → 16384 * m < size
run-begins len b size zero m r low = absurd (omega (arith, low))
run-begins len b size (suc k) m r low =
    let last : size ≡ 16384 * k + block_size len (b + k) = last_of_run len b size k r in
    let inside : b + k < block_count len = omega (arith, r.inside) in
    omega (arith, last, low, inside)

pub run-offset : (len b size k m : ℕ) → IsBlockRun len b size k → m < k → 16384 * m ≤ size
run-offset len b size k m r low = let begins : 16384 * m < size = run-begins len b size k m r low in omega (arith, begins)

-- the file has each block of a run
pub run-has : (d : Description) (file b size k m : ℕ) → HasRun d file b size k → m < k → HasBlock d file (b + m)
run-has d file b size k m (f, there, r) low = (f, there, omega (arith, r.inside, low))

-- the numbers of a message's blocks are small
pub run-first : (d : Description) → IsSound d → (file b size k : ℕ) → HasRun d file b size k → b + most_blocks < 2 ^ 64
run-first d sound file b size k (f, there, r) =
    let bound : f.length ≤ 2 ^ 46 = (sound.files file f there).bound in
    let inside : b < block_count f.length = omega (arith, r.inside, r.some) in
    omega (arith, bound, inside)

-- the number of a block of a file is small
pub has-low : (d : Description) → IsSound d → (file b : ℕ) → HasBlock d file b → b + 8 < 2 ^ 64
has-low d sound file b (f, there, inside) =
    let bound : f.length ≤ 2 ^ 46 = (sound.files file f there).bound in
    omega (arith, bound, inside)

-- before the first block
pub no_block : (file : ℕ) (S : SessionSeen) (first : ℕ) (bytes : List ℕ) → Chain (BlockStep file) S (cuts first bytes 0) [] S
unfolding cuts
no_block file S first bytes = refl

module _ (file : ℕ) (S : SessionSeen) (first : ℕ) (bytes : List ℕ) (m : ℕ) (rs : List (Option BlockRefusal)) (mid : SessionSeen)
    (before : Chain (BlockStep file) S (cuts first bytes m) rs mid) where
  abbrev this : Cut
  this = record { number = first + m; bytes = block bytes m }

  next_step : (r : Option BlockRefusal) (S' : SessionSeen) → BlockStep file mid this r S'
      → Chain (BlockStep file) S (cuts first bytes (m + 1)) (rs ++ r ∷ []) S'
  unfolding cuts
  next_step r S' step =
      let more : Chain (BlockStep file) S (cuts first bytes (suc m)) (rs ++ r ∷ []) S' = Chain-more (BlockStep file) S (cuts first bytes m) rs mid this r S'
      before step in
      let next : suc m ≡ m + 1 = omega arith in
      subst (λ k. Chain (BlockStep file) S (cuts first bytes k) (rs ++ r ∷ []) S') next more

  -- one more block
  pub next_block : {X : Type 0} (own : List ℕ) (r : Result X BlockRefusal) (S' : SessionSeen) → own ≡ block bytes m
      → IfOk r (λ _. IsMarkedBlock mid file (first + m) own S') → IfErr r (λ x. IsUnmarkedBlock mid file (first + m) own x × (S' ≡ mid))
      → Chain (BlockStep file) S (cuts first bytes (m + 1)) (rs ++ result_err r ∷ []) S'
  next_block own (Ok x) S' is marked refused = next_step None S' (subst (λ bs. IsMarkedBlock mid file (first + m) bs S') is marked)
  next_block own (Err x) S' is marked refused =
      next_step (Some x) S' (subst (λ bs. IsUnmarkedBlock mid file (first + m) bs x) is refused.0, refused.1)
