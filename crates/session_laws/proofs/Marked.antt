-- A leaf that is marked after a run was marked before, or verified in it.
use Rattle.std.proofs.Common.{◌≡◌, ◌⊎◌, ℕ, suc, ◌+◌, true, List, [], ◌∷◌, length, Option, Some, None, inl, inr, refl, sym, ap, ◌∙◌}
use Rattle.std.specs.Prelude.{slice_get}
use Rattle.std.specs.FinSet as leaves
use Rattle.std.specs.Ordering.{nat_cmp, eq_by_cmp}
use Rattle.std.specs.Cmp.{nat_cmp_total}
use Rattle.std.proofs.lemmas.Bool.{or_cases, eqb-true}
use Rattle.std.proofs.lemmas.Option.{same_Some, slice_get_within}
use Rattle.node_maps.proofs.Known.{nat_equal}
use Rattle.wire.specs.declared.form.Direction.TheVariants.{In, Out}
use Rattle.wire.specs.declared.message.Ask.{Ask}
use Rattle.wire.specs.declared.message.Message.{Message}
use Rattle.wire.specs.declared.message.Message.TheVariants as message
use Rattle.wire.specs.Records.{Directed}
use Rattle.partial_tree.specs.declared.refusal.BlockRefusal.{BlockRefusal}
use Rattle.session.specs.declared.verdict.Verdict.{Verdict}
use Rattle.session.specs.declared.verdict.Verdict.TheVariants as verdict
use Rattle.node_maps.specs.Digest.{Hash}
use Rattle.node_maps.specs.Known.{look}
use Rattle.hashtree.specs.Tree.{block}
use Rattle.sha2.specs.Sha256.{sha256}
use Rattle.chains.specs.Chain.{Chain}
use Rattle.chains.proofs.Chains.{Chain-each}
use Rattle.session.specs.Blocks.{Cut, cuts}
use Rattle.session.specs.Layouts.{tree_of}
use Rattle.session.specs.Session.{SessionSeen, TreeState, HasClosedTrees, IsInFile, IsFileBlock, IsStored, IsMarkedBlock, BlockStep, Step}
use Rattle.session.specs.Noted.{NotedStep}
use Rattle.session.proofs.States.{set-read}
use Rattle.session.proofs.Entries.{cuts-at, says-block}
use Rattle.session.proofs.Runs.{step-torrent}
use Rattle.session.proofs.NotedSteps.{noted-torrent, out_effect}
use Rattle.session_laws.specs.Marks.{IsMarked, IsVerifiedBy, IsVerifiedAmong}

-- the same trees have the same marks
pub same-marks : (S S' : SessionSeen) (n b : ℕ) → S'.trees ≡ S.trees → IsMarked S' n b → IsMarked S n b
same-marks S S' n b same m = record { state = m.state; there = ap (λ ts. slice_get ts n) (sym same) ∙ m.there; marked = m.marked }

-- ---- one block

-- the marked block itself
pub record IsCut (S : SessionSeen) (file n b : ℕ) (c : Cut) : Type 0 where
  pub of_file : tree_of S file ≡ Some n
  pub number_is : c.number ≡ b

pub block-marks : (S : SessionSeen) (file n b : ℕ) (c : Cut) (S' : SessionSeen) → IsMarkedBlock S file c.number c.bytes S' → IsMarked S' n b
    → IsMarked S n b ⊎ IsCut S file n b c
block-marks S file n b c S' h m =
    elim (set-read S.trees h.in_file.tree_number n _ m.state (ap (λ U. slice_get U.trees n) (sym h.state_after) ∙ m.there)) [
      | inr (other, old) ↦ inl (record { state = m.state; there = old; marked = m.marked })
      | inl (same, is) ↦
          let here : leaves.contains (leaves.insert h.in_file.state.marked c.number) b ≡ true =
          ap (λ (st : TreeState). leaves.contains st.marked b) (sym is) ∙ m.marked in
          elim (or_cases (eq_by_cmp nat_cmp b c.number) (leaves.contains h.in_file.state.marked b)
          (sym (leaves.contains-insert nat_cmp_total h.in_file.state.marked c.number b) ∙ here)) [
            | inl now ↦ inr (record {
              of_file = h.in_file.of_file ∙ ap Some (sym same);
              number_is = sym (eqb-true b c.number (sym (nat_equal b c.number) ∙ now));
            })
            | inr before ↦ inl (record {
              state = h.in_file.state;
              there = ap (slice_get S.trees) same ∙ h.in_file.is_tree.state_is;
              marked = before;
            })
          ]
    ]

-- ---- the blocks of a message

-- one of the cuts is the block, and is not refused
record IsAmong (S : SessionSeen) (file n b : ℕ) (cs : List Cut) (rs : List (Option BlockRefusal)) : Type 0 where
  at : ℕ
  cut : Cut
  cut_there : slice_get cs at ≡ Some cut
  taken : slice_get rs at ≡ Some None
  is_cut : IsCut S file n b cut

among-later : (S : SessionSeen) (file n b : ℕ) (c : Cut) (r : Option BlockRefusal) (cs : List Cut) (rs : List (Option BlockRefusal)) (M : SessionSeen)
    → M.torrent ≡ S.torrent → IsAmong M file n b cs rs → IsAmong S file n b (c ∷ cs) (r ∷ rs)
among-later S file n b c r cs rs M same h = record {
  at = suc h.at;
  cut = h.cut;
  cut_there = h.cut_there;
  taken = h.taken;
  is_cut = record { of_file = ap (λ d. tree_of (record S { torrent = d }) file) (sym same) ∙ h.is_cut.of_file; number_is = h.is_cut.number_is };
}

blocks-marks : (file n b : ℕ) (S : SessionSeen) (cs : List Cut) (rs : List (Option BlockRefusal)) (S' : SessionSeen) → Chain (BlockStep file) S cs rs S'
    → IsMarked S' n b → IsMarked S n b ⊎ IsAmong S file n b cs rs
blocks-marks file n b S [] [] S' e m = inl (same-marks S S' n b (ap (λ U. U.trees) e) m)
blocks-marks file n b S [] (r ∷ rs) S' e m = absurd e
blocks-marks file n b S (c ∷ cs) [] S' e m = absurd e
blocks-marks file n b S (c ∷ cs) (None ∷ rs) S' (M, step, rest) m = elim (blocks-marks file n b M cs rs S' rest m) [
  | inr later ↦ inr (among-later S file n b c None cs rs M (ap (λ U. U.torrent) step.state_after) later)
  | inl now ↦ elim (block-marks S file n b c M step now) [
    | inl before ↦ inl before
    | inr here ↦ inr (record { at = 0; cut = c; cut_there = refl; taken = refl; is_cut = here })
  ]
]
blocks-marks file n b S (c ∷ cs) (Some r ∷ rs) S' (M, step, rest) m = elim (blocks-marks file n b M cs rs S' rest m) [
  | inr later ↦ inr (among-later S file n b c (Some r) cs rs M (ap (λ U. U.torrent) step.1) later)
  | inl now ↦ inl (same-marks S M n b (ap (λ U. U.trees) step.1) now)
]

-- ---- one message

stored-marks : (S : SessionSeen) (ask : Ask) (hashes : List Hash) (c : ℕ) (S' : SessionSeen) (n b : ℕ) → IsStored S ask hashes c S' → IsMarked S' n b
    → IsMarked S n b
stored-marks S ask hashes c S' n b h m =
    elim (set-read S.trees h.asked.number n h.after m.state (ap (λ U. slice_get U.trees n) (sym h.state_after) ∙ m.there)) [
      | inr (other, old) ↦ record { state = m.state; there = old; marked = m.marked }
      | inl (same, is) ↦ record {
        state = h.asked.state;
        there = ap (slice_get S.trees) same ∙ h.asked.is_tree.state_is;
        marked = ap (λ s. leaves.contains s b) (sym h.marks_stay) ∙ ap (λ (st : TreeState). leaves.contains st.marked b) (sym is) ∙ m.marked;
      }
    ]

pub step-marks : (S : SessionSeen) (m : Message) (v : Verdict) (S' : SessionSeen) (n b : ℕ) → Step S m v S' → IsMarked S' n b
    → IsMarked S n b ⊎ IsVerifiedBy S v n b
step-marks S (message.Hashes ask hashes) (verdict.Stored c) S' n b h at = inl (stored-marks S ask hashes.now c S' n b h at)
step-marks S (message.Hashes ask hashes) (verdict.HashRefused r) S' n b h at = inl (same-marks S S' n b (ap (λ U. U.trees) h.1) at)
step-marks S (message.Piece index begin bytes) (verdict.Blocks v) S' n b h at =
    elim (blocks-marks v.file n b S (cuts v.first bytes.now (length v.refusals)) v.refusals S' h.each at) [
      | inl before ↦ inl before
      | inr among ↦
          let low = slice_get_within v.refusals among.at None among.taken in
          let is : record { number = v.first + among.at; bytes = block bytes.now among.at } ≡ among.cut =
          same_Some _ among.cut (sym (cuts-at v.first bytes.now (length v.refusals) among.at low) ∙ among.cut_there) in
          inr (among.at, among.taken, among.is_cut.of_file, ap (λ (x : Cut). x.number) is ∙ among.is_cut.number_is)
    ]
step-marks S (message.Piece index begin bytes) (verdict.BlockRefused r) S' n b h at = inl (same-marks S S' n b (ap (λ U. U.trees) h.1) at)
step-marks S (message.Request ask) verdict.Answered S' n b h at = inl (same-marks S S' n b (ap (λ U. U.trees) h.1) at)
step-marks S (message.Request ask) verdict.Rejected S' n b h at = inl (same-marks S S' n b (ap (λ U. U.trees) h.1) at)
step-marks S (message.Reject ask) verdict.RejectNoted S' n b h at = inl (same-marks S S' n b (ap (λ U. U.trees) h) at)
step-marks S message.KeepAlive verdict.KeepAlive S' n b h at = inl (same-marks S S' n b (ap (λ U. U.trees) h) at)
step-marks S (message.Other id size) (verdict.Skipped id') S' n b h at = inl (same-marks S S' n b (ap (λ U. U.trees) h.1) at)
step-marks S m v S' n b h at = absurd h

pub noted-marks : (S : SessionSeen) (x : Directed Message) (v : Verdict) (S' : SessionSeen) (n b : ℕ) → NotedStep S x v S' → IsMarked S' n b
    → IsMarked S n b ⊎ IsVerifiedBy S v n b
noted-marks S (In, message.Hashes ask hashes) (verdict.Stored c) S' n b h at =
    inl (stored-marks S ask hashes.now c h.joined n b h.stored (same-marks h.joined S' n b (ap (λ U. U.trees) h.state_after) at))
noted-marks S (In, message.Hashes ask hashes) (verdict.HashRefused r) S' n b h at = inl (same-marks S S' n b (ap (λ U. U.trees) h.1) at)
noted-marks S (In, message.Hashes ask hashes) v S' n b h at = absurd h
noted-marks S (In, m) v S' n b h at = step-marks S m v S' n b h at
noted-marks S (Out, m) v S' n b h at = inl (same-marks S S' n b (ap (λ U. U.trees) (out_effect S m v S' h)) at)

-- ---- runs

pub verified-later : (S M : SessionSeen) (v : Verdict) (n b : ℕ) → M.torrent ≡ S.torrent → IsVerifiedBy M v n b → IsVerifiedBy S v n b
verified-later S M (verdict.Blocks v) n b same (m, taken, of_file, is) =
    (m, taken, ap (λ d. tree_of (record S { torrent = d }) v.file) (sym same) ∙ of_file, is)
verified-later S M v n b same h = absurd h

module _ {I : Type 0} (R : SessionSeen → I → Verdict → SessionSeen → Type 0)
    (torrent : (S : SessionSeen) (i : I) (v : Verdict) (S' : SessionSeen) → R S i v S' → S'.torrent ≡ S.torrent)
    (marks : (S : SessionSeen) (i : I) (v : Verdict) (S' : SessionSeen) (n b : ℕ) → R S i v S' → IsMarked S' n b → IsMarked S n b ⊎ IsVerifiedBy S v n b)
  where
    run-marks : (S : SessionSeen) (ms : List I) (vs : List Verdict) (S' : SessionSeen) → Chain R S ms vs S' → (n b : ℕ) → IsMarked S' n b
        → IsMarked S n b ⊎ IsVerifiedAmong S vs n b
    run-marks S ms vs S' run n b = Chain-each R (λ A ms vs E. IsMarked E n b → IsMarked A n b ⊎ IsVerifiedAmong A vs n b) (λ A at. inl at)
        (λ A m v M ms vs E step rest later at. elim (later at) [
          | inr (k, w, there, by) ↦ inr (suc k, w, there, verified-later A M w n b (torrent A m v M step) by)
          | inl now ↦ elim (marks A m v M n b step now) [ inl before ↦ inl before | inr here ↦ inr (0, v, refl, here) ]
        ]) S ms vs S' run

pub marks-of_run : (S : SessionSeen) (ms : List Message) (vs : List Verdict) (S' : SessionSeen) → Chain Step S ms vs S' → (n b : ℕ) → IsMarked S' n b
    → IsMarked S n b ⊎ IsVerifiedAmong S vs n b
marks-of_run = run-marks Step step-torrent step-marks

pub marks-of_noted_run : (S : SessionSeen) (ms : List (Directed Message)) (vs : List Verdict) (S' : SessionSeen) → Chain NotedStep S ms vs S' → (n b : ℕ)
    → IsMarked S' n b → IsMarked S n b ⊎ IsVerifiedAmong S vs n b
marks-of_noted_run = run-marks NotedStep noted-torrent noted-marks

-- bytes with the digest of a known leaf are that block
pub known-block : (S : SessionSeen) → HasClosedTrees S → (file b : ℕ) (bytes : List ℕ) (p : IsInFile S file b) → look p.state.known 0 b ≡ Some (sha256 bytes)
    → IsFileBlock S file b bytes
known-block S closed file b bytes p known =
    says-block S closed file (record { number = b; bytes = bytes }) p.tree_number p.tree p.state p.of_file p.is_tree (p.inside, known)
