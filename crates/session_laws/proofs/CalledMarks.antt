-- A leaf that is marked after calls of any kind was marked before, or verified by one of them.
use Rattle.std.proofs.Common.{◌≡◌, ◌⊎◌, ℕ, zero, suc, ◌+◌, ◌<◌, true, List, [], ◌∷◌, length, set, Some, inl, inr, refl, sym, ap, ◌∙◌, arith}
use Rattle.std.specs.Prelude.{slice_get}
use Rattle.std.specs.FinSet as leaves
use Rattle.std.specs.Ordering.{nat_cmp, eq_by_cmp}
use Rattle.std.specs.Cmp.{nat_cmp_total}
use Rattle.std.proofs.lemmas.Bool.{or_cases, eqb-true}
use Rattle.node_maps.proofs.Known.{nat_equal}
use Rattle.node_maps.specs.Known.{Marked}
use Rattle.hashtree.specs.Tree.{block_count}
use Rattle.node_maps.specs.Digest.{Hash}
use Rattle.partial_tree.specs.LeafRows.{mark_run}
use Rattle.session.specs.Layouts.{tree_of}
use Rattle.session.specs.Session.{SessionSeen, TreeState, IsMarkedBlock}
use Rattle.session.specs.Pieces.{IsLeafMarked, IsTakenFrom}
use Rattle.session.proofs.States.{set-read}
use Rattle.session.proofs.Runs.{step-torrent}
use Rattle.session.proofs.NotedSteps.{noted-torrent}
use Rattle.session_laws.specs.Marks.{IsMarked}
use Rattle.session_laws.specs.Calling.{Call, TookMessage, TookNoted, TookBlock, TookPiece, TookLeaves, Filled, MarkedLeaf, AreMade, CallDoes, IsVerifiedIn}
use Rattle.session_laws.specs.Calling.{Verifies}
use Rattle.session_laws.proofs.Marked.{block-marks, noted-marks, same-marks, step-marks, verified-later}

-- ---- one tree's marks

-- if tree n has this state then, a mark is of it, or was there
one-tree : (S : SessionSeen) (n : ℕ) (after : TreeState) (S' : SessionSeen) (k b : ℕ) → S' ≡ record S { trees = set S.trees n after } → IsMarked S' k b
    → ((k ≡ n) × (leaves.contains after.marked b ≡ true)) ⊎ IsMarked S k b
one-tree S n after S' k b is m = elim (set-read S.trees n k after m.state (ap (λ U. slice_get U.trees k) (sym is) ∙ m.there)) [
  | inr (other, old) ↦ inr (record { state = m.state; there = old; marked = m.marked })
  | inl (same, now) ↦ inl (same, ap (λ (st : TreeState). leaves.contains st.marked b) (sym now) ∙ m.marked)
]

-- the same marks as tree n had
unchanged : (S : SessionSeen) (n : ℕ) (before after : TreeState) (S' : SessionSeen) (k b : ℕ) → slice_get S.trees n ≡ Some before
    → after.marked ≡ before.marked → S' ≡ record S { trees = set S.trees n after } → IsMarked S' k b → IsMarked S k b
unchanged S n before after S' k b there same is m = elim (one-tree S n after S' k b is m) [
  | inr old ↦ old
  | inl (here, marked) ↦ record {
    state = before;
    there = ap (slice_get S.trees) here ∙ there;
    marked = ap (λ s. leaves.contains s b) (sym same) ∙ marked;
  }
]

-- one more leaf is marked
pub insert-marks : (marked : Marked) (c b : ℕ) → leaves.contains (leaves.insert marked c) b ≡ true → (c ≡ b) ⊎ (leaves.contains marked b ≡ true)
insert-marks marked c b here =
    elim (or_cases (eq_by_cmp nat_cmp b c) (leaves.contains marked b) (sym (leaves.contains-insert nat_cmp_total marked c b) ∙ here)) [
      | inl now ↦ inl (sym (eqb-true b c (sym (nat_equal b c) ∙ now)))
      | inr before ↦ inr before
    ]

-- this many more are marked
pub run-marks-of : (marked : Marked) (first count b : ℕ) → leaves.contains (mark_run marked first count) b ≡ true
    → ((j : ℕ) × (j < count) × (first + j ≡ b)) ⊎ (leaves.contains marked b ≡ true)
run-marks-of marked first zero b here = inr here
run-marks-of marked first (suc n) b here = elim (insert-marks (mark_run marked first n) (first + n) b here) [
  | inl now ↦ inl (n, (let low : n < suc n = omega arith in low), now)
  | inr before ↦ elim (run-marks-of marked first n b before) [
    | inl (j, low, is) ↦ inl (j, (let more : j < suc n = omega (arith, low) in more), is)
    | inr old ↦ inr old
  ]
]

-- ---- calls

leaf-marks : (S : SessionSeen) (n c : ℕ) (digest : Hash) (S' : SessionSeen) (k b : ℕ) → IsLeafMarked S n c digest S' → IsMarked S' k b
    → IsMarked S k b ⊎ ((n ≡ k) × (c ≡ b))
leaf-marks S n c digest S' k b (s, there, known, is) m =
    elim (one-tree S n (record s { marked = leaves.insert s.marked c }) S' k b is m) [
      | inr old ↦ inl old
      | inl (here, marked) ↦ elim (insert-marks s.marked c b marked) [
        | inl now ↦ inr (sym here, now)
        | inr before ↦ inl (record { state = s; there = ap (slice_get S.trees) here ∙ there; marked = before })
      ]
    ]

piece-marks : (S : SessionSeen) (file first : ℕ) (bytes : List ℕ) (S' : SessionSeen) (k b : ℕ) → IsTakenFrom S file first bytes S' → IsMarked S' k b
    → IsMarked S k b ⊎ ((tree_of S file ≡ Some k) × ((j : ℕ) × (j < block_count (length bytes)) × (first + j ≡ b)))
piece-marks S file first bytes S' k b h m =
    elim (one-tree S h.in_file.tree_number h.after S' k b h.state_after m) [
      | inr old ↦ inl old
      | inl (here, marked) ↦
          elim (run-marks-of h.in_file.state.marked first (block_count (length bytes)) b (ap (λ s. leaves.contains s b) (sym h.marks) ∙ marked)) [
            | inl run ↦ inr (h.in_file.of_file ∙ ap Some (sym here), run)
            | inr before ↦ inl (record {
              state = h.in_file.state;
              there = ap (slice_get S.trees) here ∙ h.in_file.is_tree.state_is;
              marked = before;
            })
          ]
    ]

one-block : (S : SessionSeen) (file c : ℕ) (bytes : List ℕ) (S' : SessionSeen) (n b : ℕ) → IsMarkedBlock S file c bytes S' → IsMarked S' n b
    → IsMarked S n b ⊎ ((tree_of S file ≡ Some n) × (c ≡ b))
one-block S file c bytes S' n b h m = elim (block-marks S file n b (record { number = c; bytes = bytes }) S' h m) [
  | inl old ↦ inl old
  | inr now ↦ inr (now.of_file, now.number_is)
]

call-marks : (S : SessionSeen) (call : Call) (S' : SessionSeen) (n b : ℕ) → CallDoes S call S' → IsMarked S' n b → IsMarked S n b ⊎ Verifies S call n b
call-marks S (TookMessage m v) S' n b h at = step-marks S m v S' n b h at
call-marks S (TookNoted m v) S' n b h at = noted-marks S m v S' n b h at
call-marks S (TookBlock index begin bytes file c) S' n b h at = one-block S file c bytes S' n b h.1 at
call-marks S (TookPiece index bytes file first) S' n b h at = piece-marks S file first bytes S' n b h.1 at
call-marks S (TookLeaves k first leaves c) S' n b h at = inl (unchanged S k h.before h.after S' n b h.is_tree.state_is h.marks_stay h.state_after at)
call-marks S (Filled k layer hashes c) S' n b h at = inl (unchanged S k h.before h.after S' n b h.is_tree.state_is h.marks_stay h.state_after at)
call-marks S (MarkedLeaf k c digest) S' n b h at = leaf-marks S k c digest S' n b h at

call-torrent : (S : SessionSeen) (call : Call) (S' : SessionSeen) → CallDoes S call S' → S'.torrent ≡ S.torrent
call-torrent S (TookMessage m v) S' h = step-torrent S m v S' h
call-torrent S (TookNoted m v) S' h = noted-torrent S m v S' h
call-torrent S (TookBlock index begin bytes file c) S' h = ap (λ U. U.torrent) h.1.state_after
call-torrent S (TookPiece index bytes file first) S' h = ap (λ U. U.torrent) h.1.state_after
call-torrent S (TookLeaves k first leaves c) S' h = ap (λ U. U.torrent) h.state_after
call-torrent S (Filled k layer hashes c) S' h = ap (λ U. U.torrent) h.state_after
call-torrent S (MarkedLeaf k c digest) S' (s, there, known, is) = ap (λ U. U.torrent) is

verifies-later : (S M : SessionSeen) (call : Call) (n b : ℕ) → M.torrent ≡ S.torrent → Verifies M call n b → Verifies S call n b
verifies-later S M (TookMessage m v) n b same h = verified-later S M v n b same h
verifies-later S M (TookNoted m v) n b same h = verified-later S M v n b same h
verifies-later S M (TookBlock index begin bytes file c) n b same h = (ap (λ d. tree_of (record S { torrent = d }) file) (sym same) ∙ h.0, h.1)
verifies-later S M (TookPiece index bytes file first) n b same h = (ap (λ d. tree_of (record S { torrent = d }) file) (sym same) ∙ h.0, h.1)
verifies-later S M (TookLeaves k first leaves c) n b same h = absurd h
verifies-later S M (Filled k layer hashes c) n b same h = absurd h
verifies-later S M (MarkedLeaf k c digest) n b same h = h

pub marks-of_calls : (S : SessionSeen) (calls : List Call) (S' : SessionSeen) → AreMade S calls S' → (n b : ℕ) → IsMarked S' n b
    → IsMarked S n b ⊎ IsVerifiedIn S calls n b
unfolding AreMade
marks-of_calls S [] S' e n b at = inl (same-marks S S' n b (ap (λ U. U.trees) e) at)
marks-of_calls S (call ∷ calls) S' (M, does, rest) n b at = elim (marks-of_calls M calls S' rest n b at) [
  | inr (k, later, there, by) ↦ inr (suc k, later, there, verifies-later S M later n b (call-torrent S call M does) by)
  | inl now ↦ elim (call-marks S call M n b does now) [
    | inl before ↦ inl before
    | inr here ↦ inr (0, call, refl, here)
  ]
]
