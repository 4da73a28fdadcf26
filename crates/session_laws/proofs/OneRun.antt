-- With memory for all, the messages and the state determine the verdicts and the last state.
use Rattle.std.proofs.Common.{◌≡◌, ◌≢◌, ◌⊎◌, ℕ, List, [], ◌∷◌, length, set, Option, Some, None, inl, inr, refl, sym, ap, ap₂, ◌∙◌, subst, subst₂, arith}
use Rattle.std.specs.Prelude.{slice_get}
use Rattle.std.specs.List.{AllZip}
use Rattle.std.specs.FinMap.{len}
use Rattle.std.specs.FinSet as leaves
use Rattle.std.proofs.lemmas.Bool.{cases_lt}
use Rattle.std.proofs.lemmas.Option.{same_Some, none-some}
use Rattle.sha2.specs.Sha256.{sha256}
use Rattle.wire.specs.declared.frame.Frame.{Frame}
use Rattle.wire.specs.declared.message.Ask.{Ask}
use Rattle.wire.specs.declared.message.Message.{Message}
use Rattle.wire.specs.declared.message.Message.TheVariants as message
use Rattle.wire.specs.Meaning.{Means}
use Rattle.wire.specs.Records.{Directed, MeansDirected, messages_in, directed_messages}
use Rattle.wire.specs.Conversion.{conversion}
use Rattle.opening.specs.Blocks.{IsBlockRun}
use Rattle.opening.proofs.Blocks.{one_block_run}
use Rattle.partial_tree.specs.declared.refusal.HashRefusal.{HashRefusal}
use Rattle.partial_tree.specs.declared.refusal.HashRefusal.TheVariants.{UnknownRoot, BadRange, BadCount, BadPad, Unanchored, Mismatch, NoMemory, Unasked}
use Rattle.partial_tree.specs.declared.refusal.BlockRefusal.{BlockRefusal}
use Rattle.partial_tree.specs.declared.refusal.BlockRefusal.TheVariants.{BadPlace, BadSize, Unproved, BadBlock}
use Rattle.node_maps.specs.Digest.{Hash}
use Rattle.node_maps.specs.Places.{PartialTree}
use Rattle.node_maps.specs.Known.{Known, Marked, look}
use Rattle.node_maps.proofs.Known.{same_known}
use Rattle.partial_tree.specs.Names.{hash_refusal_number}
use Rattle.partial_tree.specs.TreeRoot.{TreeRoot}
use Rattle.partial_tree.specs.Claims.{claims, joined, Refuses}
use Rattle.partial_tree.specs.Kept.{RefusesBlock}
use Rattle.partial_tree.proofs.Joining.{accepted-no_fault}
use Rattle.chains.specs.Chain.{Chain}
use Rattle.chains.proofs.Chains.{Chain-one}
use Rattle.session.specs.declared.verdict.Verdict.{Verdict}
use Rattle.session.specs.declared.verdict.Verdict.TheVariants as verdict
use Rattle.session.specs.Blocks.{BlocksSeen, Cut, cuts}
use Rattle.session.specs.Layouts.{roots}
use Rattle.session.specs.Session.{SessionSeen, TreeState, IsAsked, IsStored, IsHashRefused, IsInFile, IsPlaced, IsMarkedBlock, BlockStep, AreTaken, AreRefused}
use Rattle.session.specs.Session.{HasDistinctRoots, Step}
use Rattle.session.specs.Noted.{asking, NotedStep}
use Rattle.session.specs.NotedLaws.{incoming, HadMemory}
use Rattle.session.proofs.Entries.{same_number, same_tree, same_state}
use Rattle.session.proofs.Rounds.{asked-is}
use Rattle.session.proofs.Rounds.{later-distinct}
use Rattle.session.proofs.Runs.{step-torrent}
use Rattle.session.proofs.SafeSteps.{run_there}
use Rattle.session_laws.proofs.Replayed.{conversion_replays, memory-noted, memory-incoming}

-- ---- one refusal of hashes

same_rank : (r q : HashRefusal) → hash_refusal_number r ≡ hash_refusal_number q → r ≡ q
same_rank UnknownRoot UnknownRoot e = refl
same_rank BadRange BadRange e = refl
same_rank BadCount BadCount e = refl
same_rank BadPad BadPad e = refl
same_rank Unanchored Unanchored e = refl
same_rank Mismatch Mismatch e = refl
same_rank NoMemory NoMemory e = refl
same_rank Unasked Unasked e = refl
same_rank r q e = absurd (omega (arith, e))

first_one : (n : ℕ) (K : PartialTree) (ask : Ask) (hashes : List Hash) (r q : HashRefusal) → Refuses n K ask hashes r → Refuses n K ask hashes q → r ≡ q
first_one n K ask hashes r q a b = elim (cases_lt (hash_refusal_number r) (hash_refusal_number q)) [
  | inl less ↦ absurd (b.first r less a.fault)
  | inr more ↦ elim (cases_lt (hash_refusal_number q) (hash_refusal_number r)) [
    | inl less ↦ absurd (a.first q less b.fault)
    | inr other ↦ same_rank r q (omega arith)
  ]
]

abbrev Unknown : SessionSeen → Ask → Type 0
Unknown S ask = (n : ℕ) (tree : TreeRoot) → slice_get (roots S) n ≡ Some tree → tree.root ≢ ask.root

abbrev RefusedOf : SessionSeen → Ask → List Hash → HashRefusal → Type 0
RefusedOf S ask hashes r = (a : IsAsked S ask) × Refuses a.tree.length (look a.state.known) ask hashes r

refused_cases : (S : SessionSeen) (ask : Ask) (hashes : List Hash) (r : HashRefusal) → r ≢ NoMemory → IsHashRefused S ask hashes r
    → ((r ≡ UnknownRoot) × Unknown S ask) ⊎ RefusedOf S ask hashes r
refused_cases S ask hashes UnknownRoot memory h = inl (refl, h)
refused_cases S ask hashes NoMemory memory h = absurd (memory refl)
refused_cases S ask hashes BadRange memory h = inr h
refused_cases S ask hashes BadCount memory h = inr h
refused_cases S ask hashes BadPad memory h = inr h
refused_cases S ask hashes Unanchored memory h = inr h
refused_cases S ask hashes Mismatch memory h = inr h
refused_cases S ask hashes Unasked memory h = inr h

module _ (S : SessionSeen) (distinct : HasDistinctRoots S) (ask : Ask) (hashes : List Hash) where
  not_unknown : Unknown S ask → IsAsked S ask → ⊥
  not_unknown unknown a = unknown a.number a.tree a.is_tree.tree_is a.has_root

  at_one : (a b : IsAsked S ask) (r : HashRefusal) → Refuses a.tree.length (look a.state.known) ask hashes r
      → Refuses b.tree.length (look b.state.known) ask hashes r
  at_one a b r refused =
      let (number, tree, state) = asked-is S ask b.number b.tree b.state distinct b.is_tree b.has_root a in
      subst₂ (λ (tr : TreeRoot) (st : TreeState). Refuses tr.length (look st.known) ask hashes r) tree state refused

  one_refusal : (r q : HashRefusal) → r ≢ NoMemory → q ≢ NoMemory → IsHashRefused S ask hashes r → IsHashRefused S ask hashes q → r ≡ q
  one_refusal r q mr mq h k = both (refused_cases S ask hashes r mr h) (refused_cases S ask hashes q mq k)
    where
      both : ((r ≡ UnknownRoot) × Unknown S ask) ⊎ RefusedOf S ask hashes r → ((q ≡ UnknownRoot) × Unknown S ask) ⊎ RefusedOf S ask hashes q → r ≡ q
      both (inl (e, u)) (inl (d, w)) = e ∙ sym d
      both (inl (e, u)) (inr (b, y)) = absurd (not_unknown u b)
      both (inr (a, x)) (inl (d, w)) = absurd (not_unknown w a)
      both (inr (a, x)) (inr (b, y)) = first_one b.tree.length (look b.state.known) ask hashes r q (at_one a b r x) y

  stored_not_refused : (c : ℕ) (S' : SessionSeen) (r : HashRefusal) → r ≢ NoMemory → IsStored S ask hashes c S' → IsHashRefused S ask hashes r → ⊥
  stored_not_refused c S' r memory h k = elim (refused_cases S ask hashes r memory k) [
    | inl (e, unknown) ↦ not_unknown unknown h.asked
    | inr (a, refused) ↦ accepted-no_fault h.asked.tree (look h.asked.state.known) ask hashes r h.taken.0 (at_one a h.asked r refused).fault
  ]

  stored_one : (c d : ℕ) (S' T : SessionSeen) → IsStored S ask hashes c S' → IsStored S ask hashes d T → (c ≡ d) × (S' ≡ T)
  stored_one c d S' T h k =
      let (number, tree, state) = asked-is S ask k.asked.number k.asked.tree k.asked.state distinct k.asked.is_tree k.asked.has_root h.asked in
      let known : h.after.known ≡ k.after.known = same_known h.after.known k.after.known
      (λ l i. h.taken.1.joined_is l i ∙ ap (λ (st : TreeState). joined (look st.known) (claims ask hashes) l i) state ∙ sym (k.taken.1.joined_is l i)) in
      let marked : h.after.marked ≡ k.after.marked = h.marks_stay ∙ ap (λ (st : TreeState). st.marked) state ∙ sym k.marks_stay in
      let make : Known → Marked → TreeState = λ x y. record { known = x; marked = y } in
      let after : h.after ≡ k.after = ap₂ make known marked in
      let before : len h.asked.state.known ≡ len k.asked.state.known = ap (λ (st : TreeState). len st.known) state in
      let more : len h.after.known ≡ len k.after.known = ap (λ (m : Known). len m) known in (
        omega (arith, h.taken.1.gained, k.taken.1.gained, before, more),
        h.state_after
            ∙ ap₂ (λ (n : ℕ) (a : TreeState). record S { trees = set S.trees n a }) number after ∙ sym k.state_after,
      )

-- ---- one entry of a piece message

tree_one : (n : ℕ) (K : PartialTree) (b : ℕ) (bytes : List ℕ) (r q : BlockRefusal)
    → RefusesBlock n K b bytes r → RefusesBlock n K b bytes q → r ≡ q
tree_one n K b bytes BadPlace q h k = absurd h
tree_one n K b bytes BadSize BadPlace h k = absurd k
tree_one n K b bytes BadSize BadSize h k = refl
tree_one n K b bytes BadSize Unproved h k = absurd (h k.0)
tree_one n K b bytes BadSize BadBlock h k = absurd (h k.0)
tree_one n K b bytes Unproved BadPlace h k = absurd k
tree_one n K b bytes Unproved BadSize h k = absurd (k h.0)
tree_one n K b bytes Unproved Unproved h k = refl
tree_one n K b bytes Unproved BadBlock h k = absurd (none-some k.1.0 (sym h.1 ∙ k.1.1))
tree_one n K b bytes BadBlock BadPlace h k = absurd k
tree_one n K b bytes BadBlock BadSize h k = absurd (k h.0)
tree_one n K b bytes BadBlock Unproved h k = absurd (none-some h.1.0 (sym k.1 ∙ h.1.1))
tree_one n K b bytes BadBlock BadBlock h k = refl

module _ (S : SessionSeen) (file b : ℕ) (bytes : List ℕ) where
  at_file : (p q : IsInFile S file b) (r : BlockRefusal)
      → RefusesBlock p.tree.length (look p.state.known) b bytes r
      → RefusesBlock q.tree.length (look q.state.known) b bytes r
  at_file p q r refused =
      subst₂ (λ (tr : TreeRoot) (st : TreeState). RefusesBlock tr.length (look st.known) b bytes r)
      (same_tree S file b q.tree_number q.tree q.state q.of_file q.is_tree p) (same_state S file b q.tree_number q.tree q.state q.of_file q.is_tree p) refused

  marked_not_refused : (S' : SessionSeen) (r : BlockRefusal)
      → (h : IsMarkedBlock S file b bytes S')
      → RefusesBlock h.in_file.tree.length (look h.in_file.state.known) b bytes r → ⊥
  marked_not_refused S' BadPlace h k = k
  marked_not_refused S' BadSize h k = k h.size
  marked_not_refused S' Unproved h (size, none) = none-some (sha256 bytes) (sym none ∙ h.leaf_known)
  marked_not_refused S' BadBlock h k = k.1.2 (same_Some (sha256 bytes) k.1.0 (sym h.leaf_known ∙ k.1.1))

  marked_one : (S' T : SessionSeen) → IsMarkedBlock S file b bytes S' → IsMarkedBlock S file b bytes T → S' ≡ T
  marked_one S' T h k =
      let number = same_number S file b k.in_file.tree_number k.in_file.tree k.in_file.state k.in_file.of_file k.in_file.is_tree h.in_file in
      let state = same_state S file b k.in_file.tree_number k.in_file.tree k.in_file.state k.in_file.of_file k.in_file.is_tree h.in_file in
      h.state_after ∙ ap₂ (λ (n : ℕ) (st : TreeState). record S { trees = set S.trees n (record st { marked = leaves.insert st.marked b }) }) number state
      ∙ sym k.state_after

block_one : (file : ℕ) (S : SessionSeen) (c : Cut) (r q : Option BlockRefusal) (S' T : SessionSeen) → BlockStep file S c r S' → BlockStep file S c q T
    → (r ≡ q) × (S' ≡ T)
block_one file S c None None S' T h k = (refl, marked_one S file c.number c.bytes S' T h k)
block_one file S c None (Some q) S' T h ((p, k), e) =
    absurd (marked_not_refused S file c.number c.bytes S' q h (at_file S file c.number c.bytes p h.in_file q k))
block_one file S c (Some r) None S' T ((p, h), e) k =
    absurd (marked_not_refused S file c.number c.bytes T r k (at_file S file c.number c.bytes p k.in_file r h))
block_one file S c (Some r) (Some q) S' T ((p, h), e) ((p', k), e') =
    (ap Some (tree_one p'.tree.length (look p'.state.known) c.number c.bytes r q (at_file S file c.number c.bytes p p' r h) k), e ∙ sym e')

-- ---- one verdict of a piece message

module _ (S : SessionSeen) (index begin : ℕ) (bytes : List ℕ) where
  taken_one : (v w : BlocksSeen) (S' T : SessionSeen) → AreTaken S index begin bytes v S' → AreTaken S index begin bytes w T → (v ≡ w) × (S' ≡ T)
  taken_one v w S' T h k =
      let pair : ◌≡◌ {A = ℕ × ℕ} (w.file, w.first) (v.file, v.first) = same_Some (w.file, w.first) (v.file, v.first) (sym k.at ∙ h.at) in
      let stated : List (Option BlockRefusal) → BlocksSeen = λ rs. record { file = v.file; first = v.first; refusals = rs } in
      let is : w ≡ stated w.refusals = λ j. record { file = (pair j).0; first = (pair j).1; refusals = w.refusals } in
      let k' : AreTaken S index begin bytes (stated w.refusals) T = subst (λ (x : BlocksSeen). AreTaken S index begin bytes x T) is k in
      let tree : k'.in_file.tree ≡ h.in_file.tree = same_tree S v.file v.first h.in_file.tree_number h.in_file.tree h.in_file.state h.in_file.of_file
      h.in_file.is_tree k'.in_file in
      let count : length w.refusals ≡ length v.refusals =
      one_block_run h.in_file.tree.length v.first (length bytes) (length w.refusals) (length v.refusals)
      (subst (λ (tr : TreeRoot). IsBlockRun tr.length v.first (length bytes) (length w.refusals)) tree k'.run) h.run in
      let one = Chain-one (BlockStep v.file) (block_one v.file) S (cuts v.first bytes (length v.refusals)) v.refusals w.refusals S' T h.each
      (subst (λ n. Chain (BlockStep v.file) S (cuts v.first bytes n) w.refusals T) count k'.each) in
      (ap stated one.0 ∙ sym is, one.1)

  taken_not_refused : (v : BlocksSeen) (S' : SessionSeen) (r : BlockRefusal) → AreTaken S index begin bytes v S' → AreRefused S index begin bytes r → ⊥
  taken_not_refused v S' BadPlace h none = none-some (v.file, v.first) (sym none ∙ h.at)
  taken_not_refused v S' BadSize h (p, none) =
      let placed : IsPlaced S index begin = record { file = v.file; number = v.first; at = h.at; in_file = h.in_file } in
      none (length v.refusals) (run_there S index begin placed p (length bytes) (length v.refusals) h.run)
  taken_not_refused v S' Unproved h k = k
  taken_not_refused v S' BadBlock h k = k

  one_message_refusal : (r q : BlockRefusal) → AreRefused S index begin bytes r → AreRefused S index begin bytes q → r ≡ q
  one_message_refusal BadPlace BadPlace h k = refl
  one_message_refusal BadPlace BadSize h (p, none) = absurd (none-some (p.file, p.number) (sym h ∙ p.at))
  one_message_refusal BadSize BadPlace (p, none) k = absurd (none-some (p.file, p.number) (sym k ∙ p.at))
  one_message_refusal BadSize BadSize h k = refl
  one_message_refusal BadPlace q h k = absurd k
  one_message_refusal BadSize q h k = absurd k
  one_message_refusal r q h k = absurd h

-- ---- one step

module _ (S : SessionSeen) (distinct : HasDistinctRoots S) where
  one_step : (m : Message) (v w : Verdict) (S' T : SessionSeen) → Step S m v S' → Step S m w T → v ≢ verdict.HashRefused NoMemory
      → w ≢ verdict.HashRefused NoMemory
      → (v ≡ w) × (S' ≡ T)
  one_step (message.Hashes ask hashes) (verdict.Stored c) (verdict.Stored d) S' T a b x y =
      let one = stored_one S distinct ask hashes.now c d S' T a b in (ap verdict.Stored one.0, one.1)
  one_step (message.Hashes ask hashes) (verdict.Stored c) (verdict.HashRefused r) S' T a b x y =
      absurd (stored_not_refused S distinct ask hashes.now c S' r (λ e. y (ap verdict.HashRefused e)) a b.0)
  one_step (message.Hashes ask hashes) (verdict.HashRefused r) (verdict.Stored c) S' T a b x y =
      absurd (stored_not_refused S distinct ask hashes.now c T r (λ e. x (ap verdict.HashRefused e)) b a.0)
  one_step (message.Hashes ask hashes) (verdict.HashRefused r) (verdict.HashRefused q) S' T a b x y = (
    ap verdict.HashRefused (one_refusal S distinct ask hashes.now r q (λ e. x (ap verdict.HashRefused e)) (λ e. y (ap verdict.HashRefused e)) a.0 b.0),
    a.1
        ∙ sym b.1,
  )
  one_step (message.Hashes ask hashes) (verdict.Stored c) w S' T a b x y = absurd b
  one_step (message.Hashes ask hashes) (verdict.HashRefused r) w S' T a b x y = absurd b
  one_step (message.Hashes ask hashes) v w S' T a b x y = absurd a
  one_step (message.Piece i o bytes) (verdict.Blocks v) (verdict.Blocks w) S' T a b x y =
      let one = taken_one S i o bytes.now v w S' T a b in (ap verdict.Blocks one.0, one.1)
  one_step (message.Piece i o bytes) (verdict.Blocks v) (verdict.BlockRefused r) S' T a b x y = absurd (taken_not_refused S i o bytes.now v S' r a b.0)
  one_step (message.Piece i o bytes) (verdict.BlockRefused r) (verdict.Blocks v) S' T a b x y = absurd (taken_not_refused S i o bytes.now v T r b a.0)
  one_step (message.Piece i o bytes) (verdict.BlockRefused r) (verdict.BlockRefused q) S' T a b x y =
      (ap verdict.BlockRefused (one_message_refusal S i o bytes.now r q a.0 b.0), a.1 ∙ sym b.1)
  one_step (message.Piece i o bytes) (verdict.Blocks v) w S' T a b x y = absurd b
  one_step (message.Piece i o bytes) (verdict.BlockRefused r) w S' T a b x y = absurd b
  one_step (message.Piece i o bytes) v w S' T a b x y = absurd a
  one_step (message.Request ask) verdict.Answered verdict.Answered S' T a b x y = (refl, a.1 ∙ sym b.1)
  one_step (message.Request ask) verdict.Answered verdict.Rejected S' T a b x y = absurd (b.0 a.0)
  one_step (message.Request ask) verdict.Rejected verdict.Answered S' T a b x y = absurd (a.0 b.0)
  one_step (message.Request ask) verdict.Rejected verdict.Rejected S' T a b x y = (refl, a.1 ∙ sym b.1)
  one_step (message.Request ask) verdict.Answered w S' T a b x y = absurd b
  one_step (message.Request ask) verdict.Rejected w S' T a b x y = absurd b
  one_step (message.Request ask) v w S' T a b x y = absurd a
  one_step (message.Reject ask) verdict.RejectNoted verdict.RejectNoted S' T a b x y = (refl, a ∙ sym b)
  one_step (message.Reject ask) verdict.RejectNoted w S' T a b x y = absurd b
  one_step (message.Reject ask) v w S' T a b x y = absurd a
  one_step message.KeepAlive verdict.KeepAlive verdict.KeepAlive S' T a b x y = (refl, a ∙ sym b)
  one_step message.KeepAlive verdict.KeepAlive w S' T a b x y = absurd b
  one_step message.KeepAlive v w S' T a b x y = absurd a
  one_step (message.Other id size) (verdict.Skipped i) (verdict.Skipped j) S' T a b x y = (ap verdict.Skipped (a.0 ∙ sym b.0), a.1 ∙ sym b.1)
  one_step (message.Other id size) (verdict.Skipped i) w S' T a b x y = absurd b
  one_step (message.Other id size) v w S' T a b x y = absurd a

-- ---- one run

pub one_run : (S : SessionSeen) → HasDistinctRoots S → (ms : List Message) (vs ws : List Verdict) (S' T : SessionSeen) → Chain Step S ms vs S'
    → Chain Step S ms ws T → HadMemory vs → HadMemory ws
    → (vs ≡ ws) × (S' ≡ T)
one_run S distinct [] [] [] S' T a b x y = (refl, a ∙ sym b)
one_run S distinct [] [] (w ∷ ws) S' T a b x y = absurd b
one_run S distinct [] (v ∷ vs) ws S' T a b x y = absurd a
one_run S distinct (m ∷ ms) [] ws S' T a b x y = absurd a
one_run S distinct (m ∷ ms) (v ∷ vs) [] S' T a b x y = absurd b
one_run S distinct (m ∷ ms) (v ∷ vs) (w ∷ ws) S' T (M, step, rest) (N, step', rest') x y =
    let one = one_step S distinct m v w M N step step' x.0 y.0 in
    let later = one_run M (later-distinct S M (step-torrent S m v M step) distinct) ms vs ws S' T rest
    (subst (λ (U : SessionSeen). Chain Step U ms ws T) (sym one.1) rest') x.1 y.1 in
    (ap₂ (λ u us. u ∷ us) one.0 later.0, later.1)

pub replay_of_conversion : (S : SessionSeen) → HasDistinctRoots S → (bodies : List (List ℕ)) (fs : List Frame) (gs : List (Directed Frame))
    (vs ws : List Verdict) (T S' : SessionSeen)
    → AllZip Means bodies fs → AllZip MeansDirected (conversion bodies) gs
    → Chain Step S (messages_in fs) vs T → HadMemory vs → Chain NotedStep S (directed_messages gs) ws S' → HadMemory ws
    → (incoming (directed_messages gs) ws ≡ vs) × (asking S.asks S' ≡ T)
replay_of_conversion S distinct bodies fs gs vs ws T S' means converted run had noted_run noted_had =
    one_run S distinct (messages_in fs) (incoming (directed_messages gs) ws) vs (asking S.asks S') T
    (conversion_replays S bodies fs gs ws S' means converted noted_run (memory-noted (directed_messages gs) ws noted_had)) run
    (memory-incoming (directed_messages gs) ws noted_had) had
