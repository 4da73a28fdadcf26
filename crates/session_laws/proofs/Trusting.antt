-- To one who trusts SHA-256 nothing is left of the named collisions.
use Rattle.std.proofs.Common.{ℕ, ◌+◌, ◌*◌, ◌<◌, List, ◌∷◌, length, Option, None, Result, Ok, Err, inl, inr, refl, sym, subst, Bor}
use Rattle.std.specs.List.{All}
use Rattle.std.proofs.lemmas.Option.{slice_get_within}
use Rattle.std.proofs.lemmas.List.Elements.{All-head, All-tail}
use Rattle.wire.specs.declared.message.Ask.{Ask}
use Rattle.wire.specs.declared.message.Message.{Message}
use Rattle.wire.specs.declared.message.Message.TheVariants as message
use Rattle.wire.specs.Records.{Directed}
use Rattle.partial_tree.specs.declared.refusal.HashRefusal.{HashRefusal}
use Rattle.partial_tree.specs.declared.refusal.BlockRefusal.{BlockRefusal}
use Rattle.session.specs.declared.verdict.Verdict.{Verdict}
use Rattle.session.specs.declared.verdict.Verdict.TheVariants as verdict
use Rattle.hashtree.specs.Tree.{block, block_count}
use Rattle.node_maps.specs.Digest.{Hash}
use Rattle.partial_tree.specs.Trust.{HasNoCollision, AreInputsOf}
use Rattle.tree_laws.proofs.Trusted.{no_collision, no_block_collision}
use Rattle.chains.specs.Chain.{Chain}
use Rattle.chains.proofs.Chains.{Chain-each, Chain-within}
use Rattle.session.specs.Session.{SessionSeen, AreTaken, AreBlocks, IsFileBlock}
use Rattle.session.specs.Blocks.{BlocksSeen}
use Rattle.session.specs.SafeStep.{KeepsKnown, StoresTrueHashes, StoresAnswers, TakesTrueBlock, verdict_of, IsSafeStep}
use Rattle.session.specs.Wanted.{WantedClosesOneGap}
use Rattle.session.specs.Rounds.{Collides}
use Rattle.session.specs.Noted.{asking, IsSafeNotedStep}
use Rattle.session.specs.Trusted.{AreJoinsOfTrees, HasBlocksOf, IsTrustedBlock, StoresTrusted, StoresTrustedAnswers, TrustedClosesOneGap, TakesTrustedBlock}
use Rattle.session.specs.Trusted.{TakesTrustedHashes, TakesTrustedBlocks, TakesTrusted, IsTrustedStep, IsTrustedNotedStep}
use Rattle.session.proofs.MessageBlocks.{run-begins}
use Rattle.session.proofs.OneTree.{keeps-same, keeps-then}

-- ---- one call

module _ (P : List ℕ → Type 0) (none : HasNoCollision P) (S : SessionSeen) (joins : AreJoinsOfTrees P S) where
  pub trusted-block : (file b : ℕ) (bytes : List ℕ) → IsFileBlock S file b bytes → P bytes → IsTrustedBlock P S file b bytes
  trusted-block file b bytes is given = record {
    in_file = is.in_file;
    is_block = λ f fits inputs. elim (is.is_block f fits) [
      | inl same ↦ same
      | inr named ↦ elim named [
        | inl c ↦
            absurd (no_collision P _ _ none inputs.joins
            (joins is.in_file.tree_number is.in_file.tree is.in_file.state is.in_file.is_tree) c)
        | inr c ↦
            absurd (no_block_collision P f b bytes none
            (inputs.blocks b (subst (λ n. b < block_count n) (sym fits.same_length) is.in_file.inside)) given c)
      ]
    ];
  }

  pub trusted-hashes : (ask : Ask) (hashes : List Hash) (r : Result ℕ HashRefusal) → StoresTrueHashes S ask hashes r
      → StoresTrusted P S ask hashes r
  trusted-hashes ask hashes r stores n tree s f at true' inputs = elim (stores n tree s f at true') [
    | inl stored ↦ inl stored
    | inr other ↦ elim other [
      | inl lacks ↦ inr lacks
      | inr c ↦ absurd (no_collision P _ _ none inputs.joins (joins n tree s at) c)
    ]
  ]

  pub trusted-answers : (ask : Ask) (hashes : List Hash) (r : Result ℕ HashRefusal) → StoresAnswers S ask hashes r
      → StoresTrustedAnswers P S ask hashes r
  trusted-answers ask hashes r stores J from theirs = elim (stores J from) [
    | inl stored ↦ inl stored
    | inr other ↦ elim other [
      | inl lacks ↦ inr lacks
      | inr (s, at, c) ↦
          absurd (no_collision P _ _ none
          (theirs from.asked.number from.asked.tree from.asked.state from.asked.is_tree)
          (joins from.asked.number from.asked.tree s at) c)
    ]
  ]

  pub trusted-gap : (ask : Ask) (hashes : List Hash) (r : Result ℕ HashRefusal) (S' : SessionSeen)
      → WantedClosesOneGap S ask hashes r S' → TrustedClosesOneGap P S ask hashes r S'
  trusted-gap ask hashes r S' closes n f w inputs = elim (closes n f w) [
    | inl fewer ↦ inl fewer
    | inr other ↦ elim other [
      | inl lacks ↦ inr lacks
      | inr c ↦ absurd (no_collision P _ _ none inputs.joins (joins n w.tree w.state w.is_tree) c)
    ]
  ]

  pub trusted-taken : (file b : ℕ) (bytes : List ℕ) (r : Option BlockRefusal) → TakesTrueBlock S file b bytes r
      → TakesTrustedBlock P S file b bytes r
  trusted-taken file b bytes r takes p f fits is known inputs = elim (takes p f fits is known) [
    | inl taken ↦ taken
    | inr c ↦ absurd (no_collision P _ _ none inputs.joins (joins p.tree_number p.tree p.state p.is_tree) c)
  ]

  pub trusted-rounds : (n : ℕ) (f : List ℕ) → AreInputsOf P f → ¬ Collides S n f
  trusted-rounds n f inputs (tree, s, at, c) = no_collision P _ _ none inputs.joins (joins n tree s at) c

  -- ---- one step

  takes-hashes : (ask : Ask) (given : Bor (List Hash)) (r : Result ℕ HashRefusal) (S' : SessionSeen)
      → IsSafeStep S (message.Hashes ask given) (verdict_of r) S' → TakesTrustedHashes P S ask given.now r S'
  takes-hashes ask given r S' s = record {
    stores = trusted-hashes ask given.now r (s.true_hashes_are_stored ask given r refl refl);
    stores_answers = trusted-answers ask given.now r (s.answers_are_stored ask given r refl refl);
    closes_one_gap = trusted-gap ask given.now r S' (s.one_gap_closes ask given r refl refl);
  }

  takes-blocks : (index begin : ℕ) (sent : Bor (List ℕ)) (v : BlocksSeen) (S' : SessionSeen)
      → IsSafeStep S (message.Piece index begin sent) (verdict.Blocks v) S' → HasBlocksOf P (message.Piece index begin sent)
      → TakesTrustedBlocks P S sent.now v
  takes-blocks index begin sent v S' s blocks =
      let taken : AreTaken S index begin sent.now v S' = s.allowed in
      let are : AreBlocks S index begin sent.now v = s.verified_is_the_block index begin sent v refl refl in
      record {
        verified = λ m stated. trusted-block v.file (v.first + m) (block sent.now m) (are.verified m stated)
            (blocks m (run-begins taken.in_file.tree.length v.first (length sent.now) (length v.refusals) m taken.run
            (slice_get_within v.refusals m None stated)));
        taken = λ m r stated. trusted-taken v.file (v.first + m) (block sent.now m) r
            (s.true_blocks_are_verified index begin sent v refl refl m r stated);
      }

  pub trusted-step : (m : Message) (v : Verdict) (S' : SessionSeen) → IsSafeStep S m v S' → HasBlocksOf P m → TakesTrusted P S m v S'
  trusted-step (message.Hashes ask given) (verdict.Stored c) S' s blocks = takes-hashes ask given (Ok c) S' s
  trusted-step (message.Hashes ask given) (verdict.HashRefused r) S' s blocks = takes-hashes ask given (Err r) S' s
  trusted-step (message.Piece index begin sent) (verdict.Blocks v) S' s blocks = takes-blocks index begin sent v S' s blocks
  trusted-step (message.Hashes ask given) v S' s blocks = absurd s.allowed
  trusted-step (message.Piece index begin sent) v S' s blocks = tt
  trusted-step m v S' s blocks = tt

-- ---- whole runs

-- what is known at the end of a run holds what was known at each of its steps
module _ {I O : Type 0} (P : List ℕ → Type 0) (R Q : SessionSeen → I → O → SessionSeen → Type 0) (B : I → Type 0)
    (keeps : (S : SessionSeen) (i : I) (o : O) (S' : SessionSeen) → R S i o S' → KeepsKnown S S')
    (trusts : (S : SessionSeen) (i : I) (o : O) (S' : SessionSeen) → R S i o S' → AreJoinsOfTrees P S → B i → Q S i o S') where
  joins-before : (S S' : SessionSeen) → KeepsKnown S S' → AreJoinsOfTrees P S' → AreJoinsOfTrees P S
  joins-before S S' keeps joins n tree s at =
      let (later, later_is, same) = keeps n tree s at in
      λ l j left right a b. joins n tree later later_is l j left right (same l (2 * j) left a) (same l (2 * j + 1) right b)

  joins-first : (S : SessionSeen) (is : List I) (os : List O) (S' : SessionSeen) → Chain R S is os S' → AreJoinsOfTrees P S' → AreJoinsOfTrees P S
  joins-first S is os S' run = joins-before S S' (Chain-within R KeepsKnown (λ A. keeps-same A A refl) keeps-then keeps S is os S' run)

  trusted-chain : (S : SessionSeen) (is : List I) (os : List O) (S' : SessionSeen) → Chain R S is os S' → All B is → AreJoinsOfTrees P S'
      → Chain Q S is os S'
  trusted-chain S is os S' run = Chain-each R (λ A is os E. All B is → AreJoinsOfTrees P E → Chain Q A is os E) (λ A all joins. refl)
      (λ A i o M is os E step rest later all joins. (
        M,
        trusts A i o M step (joins-first A (i ∷ is) (o ∷ os) E (M, step, rest) joins) (All-head B i is all),
        later (All-tail B i is all) joins,
      )) S is os S' run

module _ (P : List ℕ → Type 0) (none : HasNoCollision P) where
  pub trusted-runs : (S : SessionSeen) (ms : List Message) (vs : List Verdict) (S' : SessionSeen) → Chain IsSafeStep S ms vs S'
      → All (HasBlocksOf P) ms → AreJoinsOfTrees P S' → Chain (IsTrustedStep P) S ms vs S'
  trusted-runs = trusted-chain P IsSafeStep (IsTrustedStep P) (HasBlocksOf P) (λ S m v S' s. s.known_stays)
      (λ S m v S' s joins blocks. record { safe = s; trusted = trusted-step P none S joins m v S' s blocks })

  pub trusted-noted_runs : (S : SessionSeen) (ms : List (Directed Message)) (vs : List Verdict) (S' : SessionSeen)
      → Chain IsSafeNotedStep S ms vs S' → All (λ x. HasBlocksOf P x.1) ms → AreJoinsOfTrees P S'
      → Chain (IsTrustedNotedStep P) S ms vs S'
  trusted-noted_runs = trusted-chain P IsSafeNotedStep (IsTrustedNotedStep P) (λ x. HasBlocksOf P x.1) (λ S x v S' s. s.known_stays)
      (λ S x v S' s joins blocks. record {
        safe = s;
        trusted = λ m is awaited. trusted-step P none S joins m v (asking S.asks S') (s.is_safe m is awaited)
            (subst (λ (y : Directed Message). HasBlocksOf P y.1) is blocks);
      })
