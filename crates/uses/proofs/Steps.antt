-- Runs of one torrent, and what their steps say of blocks; what is made of what is true.
use Rattle.std.proofs.Common.{◌≡◌, ◌∙◌, ℕ, List, slice_get, Option, Some, None, Result, Ok, Err, IfOk, inl, inr, ap, refl, subst, sym}
use Rattle.std.specs.Borrow.{Bor}
use Rattle.std.specs.Option.{option_or}
use Rattle.chains.specs.Chain.{Chain}
use Rattle.chains.proofs.Chains.{Chain-each}
use Rattle.node_maps.specs.Digest.{Hash}
use Rattle.node_maps.specs.Known.{look}
use Rattle.node_maps.specs.Places.{PartialTree}
use Rattle.opening.specs.Description.{Description}
use Rattle.opening.specs.Laws.{PlaceIsBlockPlace}
use Rattle.opening.specs.Places.{place_of}
use Rattle.opening.specs.Sound.{IsSound}
use Rattle.partial_tree.proofs.ClaimValues.{claims-given}
use Rattle.partial_tree.specs.Claims.{IsAgreed, claims, joined}
use Rattle.partial_tree.specs.declared.refusal.HashRefusal.{HashRefusal}
use Rattle.session.proofs.States.{set-write}
use Rattle.session.specs.Layouts.{roots}
use Rattle.session.specs.SafeStep.{IsSafeStep, StoresTrueHashes, verdict_of}
use Rattle.session.specs.Session.{IsStored, SessionSeen}
use Rattle.session.specs.declared.verdict.Verdict.{Verdict}
use Rattle.session.specs.declared.verdict.Verdict.TheVariants as verdict
use Rattle.uses.specs.Strangers.{AreStored, VerifiesTheBlock, TakesTheTrue, TakesTrueHashes, TakesTrueBlocks}
use Rattle.wire.specs.declared.message.Ask.{Ask}
use Rattle.wire.specs.declared.message.Message.{Message}
use Rattle.wire.specs.declared.message.Message.TheVariants as message

module _ (place : PlaceIsBlockPlace) (t : Description) (sound : IsSound t) where
  -- each step of a run is one of its torrent
  pub run-verifies : (S : SessionSeen) (ms : List Message) (vs : List Verdict) (S' : SessionSeen) → S.torrent ≡ t
      → Chain IsSafeStep S ms vs S' → Chain (VerifiesTheBlock t) S ms vs S'
  run-verifies S ms vs S' same run = Chain-each IsSafeStep (λ A ms vs B. A.torrent ≡ t → Chain (VerifiesTheBlock t) A ms vs B) (λ A same. refl)
      (λ A m v mid ms vs B step rest later same. (
        mid,
        record {
          of_torrent = same;
          step = step;
          verified = λ index begin sent entries is said.
              let are = step.verified_is_the_block index begin sent entries is said in
              record {
                place = (place t index begin entries.file entries.first sound).0
                    (subst (λ d. place_of d index begin ≡ Some (entries.file, entries.first)) same are.at);
                blocks = are.verified;
              };
        },
        later (step.torrent_stays ∙ same),
      )) S ms vs S' run same

-- what is claimed is had where it is joined to what agrees with it
joined-has : (K C : PartialTree) (l i : ℕ) (v : Hash) → IsAgreed K C → C l i ≡ Some v → (found : Option Hash) → found ≡ joined K C l i → found ≡ Some v
joined-has K C l i v agreed claimed found is = is ∙ had (K l i) (λ u there. agreed l i u v there claimed)
  where
    had : (k : Option Hash) → ((u : Hash) → k ≡ Some u → u ≡ v) → option_or k (C l i) ≡ Some v
    had None same = claimed
    had (Some u) same = ap Some (same u refl)

-- hashes that are stored are known then
stored-known : (S : SessionSeen) (ask : Ask) (hashes : List Hash) (c : ℕ) (S' : SessionSeen) → IsStored S ask hashes c S' → AreStored S' ask hashes
stored-known S ask hashes c S' h = (
  record {
    number = h.asked.number;
    tree = h.asked.tree;
    state = h.after;
    is_tree = record {
      tree_is = subst (λ (T : SessionSeen). slice_get (roots T) h.asked.number ≡ Some h.asked.tree) (sym h.state_after) h.asked.is_tree.tree_is;
      state_is = ap (λ (T : SessionSeen). slice_get T.trees h.asked.number) h.state_after
          ∙ set-write S.trees h.asked.number h.after h.asked.state h.asked.is_tree.state_is;
    };
    has_root = h.asked.has_root;
  },
  λ l i v given. joined-has (look h.asked.state.known) (claims ask hashes) l i v h.taken.1.agreed (claims-given ask hashes l i v given)
      (look h.after.known l i) (h.taken.1.joined_is l i),
)

takes-stored : (S : SessionSeen) (ask : Ask) (hashes : List Hash) (r : Result ℕ HashRefusal) (S' : SessionSeen) → IfOk r (λ c. IsStored S ask hashes c S')
    → StoresTrueHashes S ask hashes r → TakesTrueHashes S ask hashes (verdict_of r) S'
takes-stored S ask hashes r S' allowed stores n tree s f at are = elim (stores n tree s f at are) [
  | inl stored ↦ inl (
    stored.0,
    ap verdict_of stored.1,
    stored-known S ask hashes stored.0 S' (subst (λ q. IfOk q (λ c. IsStored S ask hashes c S')) stored.1 allowed),
  )
  | inr rest ↦ inr (elim rest [ inl lacking ↦ inl (ap verdict_of lacking) | inr collision ↦ inr collision ])
]

-- the verdict on hashes is that they were stored, or why not
takes-hashes : (S : SessionSeen) (ask : Ask) (hashes : Bor (List Hash)) (v : Verdict) (S' : SessionSeen)
    → IsSafeStep S (message.Hashes ask hashes) v S' → TakesTrueHashes S ask hashes.now v S'
takes-hashes S ask hashes (verdict.Stored c) S' step = takes-stored S ask hashes.now (Ok c) S' step.allowed
    (step.true_hashes_are_stored ask hashes (Ok c) refl refl)
takes-hashes S ask hashes (verdict.HashRefused r) S' step = takes-stored S ask hashes.now (Err r) S' tt
    (step.true_hashes_are_stored ask hashes (Err r) refl refl)
takes-hashes S ask hashes v S' step = absurd step.allowed

-- the verdict on a piece message is one on each of its blocks, or on all
takes-blocks : (S : SessionSeen) (index begin : ℕ) (bytes : Bor (List ℕ)) (v : Verdict) (S' : SessionSeen)
    → IsSafeStep S (message.Piece index begin bytes) v S' → TakesTrueBlocks S index begin bytes.now v
takes-blocks S index begin bytes (verdict.Blocks b) S' step = (
  step.allowed.in_file,
  step.allowed.run,
  step.true_blocks_are_verified index begin bytes b refl refl,
)
takes-blocks S index begin bytes (verdict.BlockRefused r) S' step = step.blocks_are_not_refused index begin bytes r refl refl
takes-blocks S index begin bytes v S' step = absurd step.allowed

-- so what is true is taken, whatever the message
pub takes-true : (S : SessionSeen) (m : Message) (v : Verdict) (S' : SessionSeen) → IsSafeStep S m v S' → TakesTheTrue S m v S'
takes-true S (message.Hashes ask hashes) v S' step = takes-hashes S ask hashes v S' step
takes-true S (message.Piece index begin bytes) v S' step = takes-blocks S index begin bytes v S' step
takes-true S m v S' step = tt
