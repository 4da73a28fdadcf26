-- A run over a round: the gaps fall.
use Rattle.std.proofs.Common.{◌≡◌, ◌≢◌, ℕ, ◌+◌, ◌<◌, ◌≤◌, Bool, true, false, List, [], ◌∷◌, ◌++◌}
use Rattle.std.proofs.Common.{Some, None, inl, inr, refl, sym, ap, ◌∙◌, subst, arith}
use Rattle.std.specs.List.{All}
use Rattle.std.proofs.lemmas.Option.{none-some}
use Rattle.std.proofs.lemmas.Bool.{cases_Bool, false≢true}
use Rattle.std.proofs.lemmas.List.Elements.{All-pop}
use Rattle.wire.specs.declared.message.Message.{Message}
use Rattle.wire.specs.declared.message.Message.TheVariants as message
use Rattle.partial_tree.specs.declared.refusal.HashRefusal.TheVariants.{NoMemory}
use Rattle.session.specs.declared.verdict.Verdict.{Verdict}
use Rattle.session.specs.declared.verdict.Verdict.TheVariants as verdict
use Rattle.hashtree.specs.Tree.{block_count}
use Rattle.partial_tree.specs.TreeRoot.{TreeRoot, Fits}
use Rattle.node_maps.specs.Places.{tree_height, PartialTree}
use Rattle.partial_tree.specs.Closed.{IsClosed, whole}
use Rattle.partial_tree.specs.Claims.{top_layer, top_index, answer_of, CanAnswer}
use Rattle.partial_tree.specs.Gaps.{gaps, want_ask, want_of}
use Rattle.session.specs.Session.{SessionSeen, HasClosedTrees, HasDistinctRoots, HasHashes, Step}
use Rattle.chains.specs.Chain.{Chain}
use Rattle.chains.proofs.Chains.{LastStep, last_step}
use Rattle.chains.proofs.Cases.{some_or_none}
use Rattle.session.specs.Rounds.{HasNoMoreGaps, IsLater, RoundLeavesFewer}
use Rattle.tree_laws.proofs.Whole.{whole-closed}
use Rattle.tree_laws.proofs.Answers.{answer-reaches, answer-root}
use Rattle.tree_laws.proofs.Wanted.{want-range, whole-can_answer, gaps-none, gaps-all_known}
use Rattle.session.proofs.OneTree.{gaps-after}
use Rattle.session.proofs.Runs.{run-keeps, run-closed, run-torrent}
use Rattle.session.proofs.Rounds.{want-tall, wanted-none, wanted-some, later-distinct, answered-fewer}

-- ---- what is wanted

pub no_gap-nothing_wanted : (t : TreeRoot) (K : PartialTree) → gaps t.length K ≡ 0 → (b : ℕ) → b < block_count t.length → want_of t K b ≡ None
no_gap-nothing_wanted t K e b inside = wanted-none t K b (gaps-none t.length K e b inside)

pub nothing_wanted-no_gap : (t : TreeRoot) (K : PartialTree) → ((b : ℕ) → b < block_count t.length → want_of t K b ≡ None) → gaps t.length K ≡ 0
nothing_wanted-no_gap t K all = gaps-all_known t.length K (λ b inside. elim (some_or_none (K 0 b)) [
  | inl known ↦ known
  | inr none ↦ absurd (none-some (want_ask t b) (sym (all b inside) ∙ wanted-some t K b none))
])

pub wanted-root : (t : TreeRoot) (K : PartialTree) (f : List ℕ) (b : ℕ) → IsClosed t K → Fits f t.length t.root → b < block_count t.length → K 0 b ≡ None
    → (top_layer (want_ask t b) (answer_of (tree_height t.length) (whole f) (want_ask t b)) ≡ tree_height t.length)
    × (top_index (want_ask t b) (answer_of (tree_height t.length) (whole f) (want_ask t b)) ≡ 0)
wanted-root t K f b closed fits inside none =
    let tall : 1 ≤ tree_height t.length = want-tall t K b closed inside none in
    let can : CanAnswer (tree_height t.length) (whole f) (want_ask t b) = whole-can_answer t f (want_ask t b) fits (want-range t b tall inside) in
    let whole_closed : IsClosed t (whole f) = whole-closed f t fits in
    (answer-reaches t (whole f) (want_ask t b) whole_closed can (omega arith), answer-root t (whole f) (want_ask t b) whole_closed can (omega arith))

-- ---- the gaps over a run

pub run-gaps : (S : SessionSeen) (ms : List Message) (vs : List Verdict) (S' : SessionSeen) → Chain Step S ms vs S' → HasNoMoreGaps S S'
run-gaps S ms vs S' run = gaps-after S S' (run-keeps S ms vs S' run)

pub run-later : (S : SessionSeen) → HasClosedTrees S → HasDistinctRoots S → (ms : List Message) (vs : List Verdict) (S' : SessionSeen) → All HasHashes ms
    → Chain Step S ms vs S' → IsLater S S'
run-later S closed_trees distinct ms vs S' all run = record {
  closed = run-closed S ms vs S' closed_trees all run;
  distinct = later-distinct S S' (run-torrent S ms vs S' run) distinct;
  keeps = run-keeps S ms vs S' run;
}

-- ---- one round

-- whether memory was refused
pub lacks_memory : Verdict → Bool
lacks_memory (verdict.HashRefused NoMemory) = true
lacks_memory v = false

pub lacks_memory-is : (v : Verdict) → lacks_memory v ≡ true → v ≡ verdict.HashRefused NoMemory
unfolding lacks_memory
lacks_memory-is (verdict.HashRefused NoMemory) e = refl
lacks_memory-is v e = absurd (false≢true e)

pub lacks_memory-not : (v : Verdict) → lacks_memory v ≡ false → v ≢ verdict.HashRefused NoMemory
unfolding lacks_memory
lacks_memory-not v e is = false≢true (sym e ∙ ap lacks_memory is)

All-front : (ms : List Message) (m : Message) → All HasHashes (ms ++ m ∷ []) → All HasHashes ms
All-front ms m all = (All-pop HasHashes (ms ++ m ∷ []) ms (Some m) refl all).0

pub round-fewer : (S : SessionSeen) → HasDistinctRoots S → (ms : List Message) (vs : List Verdict) (S' : SessionSeen) → HasClosedTrees S → All HasHashes ms
    → Chain Step S ms vs S' → RoundLeavesFewer S ms vs S'
round-fewer S distinct ms vs S' closed_trees all run n f r =
    let x : Message = message.Hashes r.ask r.answer in
    let at_end : LastStep Step S r.before x vs S' = last_step Step S r.before x vs S' (subst (λ xs. Chain Step S xs vs S') r.ends run) in
    let hashes : All HasHashes r.before = All-front r.before x (subst (All HasHashes) r.ends all) in
    elim (cases_Bool (lacks_memory at_end.last)) [
      | inl lacks ↦ inr (inl (at_end.earlier, at_end.outputs_are ∙ ap (λ v. at_end.earlier ++ v ∷ []) (lacks_memory-is at_end.last lacks)))
      | inr has ↦
          elim (answered-fewer S at_end.middle S' closed_trees
          (run-later S closed_trees distinct r.before at_end.earlier at_end.middle hashes at_end.run) n f r.ask r.answer r.wants at_end.last
          (lacks_memory-not at_end.last has) at_end.step) [
            | inl fewer ↦ inl fewer
            | inr collides ↦ inr (inr collides)
          ]
    ]
