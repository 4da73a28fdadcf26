-- Rounds of a session that notes what it asks for.
use Rattle.std.proofs.Common.{◌≡◌, ◌≢◌, ◌⊎◌, ℕ, ◌+◌, ◌*◌, ◌/◌, ◌<◌, List, [], ◌∷◌, ◌++◌, length, drop, Some, inl, inr, refl}
use Rattle.std.proofs.Common.{sym, ap, ◌∙◌, subst, arith, Bor}
use Rattle.std.specs.Prelude.{slice_get}
use Rattle.std.specs.List.{All}
use Rattle.std.specs.FinSet as set
use Rattle.std.proofs.lemmas.Bool.{cases_Bool}
use Rattle.std.proofs.lemmas.Option.{slice_get_within}
use Rattle.std.proofs.lemmas.List.Elements.{All-pop}
use Rattle.wire.specs.declared.form.Direction.TheVariants.{In, Out}
use Rattle.wire.specs.declared.message.Ask.{Ask}
use Rattle.wire.specs.declared.message.Message.{Message}
use Rattle.wire.specs.declared.message.Message.TheVariants as message
use Rattle.wire.specs.Records.{Directed}
use Rattle.partial_tree.specs.declared.refusal.HashRefusal.TheVariants.{NoMemory}
use Rattle.session.specs.declared.verdict.Verdict.{Verdict}
use Rattle.session.specs.declared.verdict.Verdict.TheVariants as verdict
use Rattle.node_maps.specs.Digest.{Hash}
use Rattle.node_maps.specs.Places.{IsKnown}
use Rattle.partial_tree.specs.Gaps.{window}
use Rattle.node_maps.specs.Known.{look}
use Rattle.chains.specs.Chain.{Chain}
use Rattle.chains.proofs.Chains.{Chain-kept, Chain-length, Chain-same, Chain-within, LastStep, StepAt, last_step, step_at}
use Rattle.session.specs.Session.{SessionSeen, TreeState, HasClosedTrees, HasDistinctRoots, HasFewerGaps}
use Rattle.session.specs.SafeStep.{KeepsKnown}
use Rattle.session.specs.Wanted.{IsWantedAnswer}
use Rattle.session.specs.Rounds.{HasNoMoreGaps, IsLater, Collides}
use Rattle.session.specs.Noted.{IsOpenAsk, asking, StepOut, NotedStep, IsBaseKnown, KeepsOpen}
use Rattle.session.specs.NotedRounds.{HasDirectedHashes, IsAskMade, IsAskedAt, LacksMemoryToNote, NotedRoundLeavesFewer}
use Rattle.tree_laws.proofs.Wanted.{gaps-fewer}
use Rattle.session.proofs.OpenAsks.{opened_contains}
use Rattle.session.proofs.OtherAsks.{tree_asking}
use Rattle.session.proofs.OneTree.{keeps-same, keeps-then, gaps-after}
use Rattle.session.proofs.Rounds.{wanted-is, asked-is, later-distinct, answered-fewer}
use Rattle.session.proofs.RoundRuns.{lacks_memory, lacks_memory-is, lacks_memory-not}
use Rattle.session.proofs.NotedSteps.{in_hashes, noted-torrent, noted-keeps, noted-closed, noted-open, noted-opens, base_later}
use Rattle.chains.proofs.Cases.{item_at, item_stays}

-- ---- whole runs

pub run-noted-keeps : (S : SessionSeen) (ms : List (Directed Message)) (vs : List Verdict) (S' : SessionSeen) → Chain NotedStep S ms vs S' → KeepsKnown S S'
run-noted-keeps = Chain-within NotedStep KeepsKnown (λ A. keeps-same A A refl) keeps-then noted-keeps

pub run-noted-gaps : (S : SessionSeen) (ms : List (Directed Message)) (vs : List Verdict) (S' : SessionSeen) → Chain NotedStep S ms vs S' → HasNoMoreGaps S S'
run-noted-gaps S ms vs S' run = gaps-after S S' (run-noted-keeps S ms vs S' run)

pub run-noted-later : (S : SessionSeen) → HasClosedTrees S → HasDistinctRoots S → (ms : List (Directed Message)) (vs : List Verdict) (S' : SessionSeen)
    → All HasDirectedHashes ms → Chain NotedStep S ms vs S' → IsLater S S'
run-noted-later S closed_trees distinct ms vs S' all run = record {
  closed = Chain-kept NotedStep HasClosedTrees HasDirectedHashes noted-closed S ms vs S' closed_trees all run;
  distinct = later-distinct S S' (Chain-same NotedStep (λ (A : SessionSeen). A.torrent) noted-torrent S ms vs S' run) distinct;
  keeps = run-noted-keeps S ms vs S' run;
}

-- an open ask stays open until its base range is known, which then stays known
abbrev KeepsAsks : SessionSeen → SessionSeen → Type 0
KeepsAsks S S' = KeepsKnown S S' × KeepsOpen S S'

asks-then : (S M S' : SessionSeen) → KeepsAsks S M → KeepsAsks M S' → KeepsAsks S S'
asks-then S M S' (keeps, first) (later, next) = (
  keeps-then S M S' keeps later,
  λ ask was. elim (first ask was) [
    | inl still ↦ next ask still
    | inr known ↦ inr (base_later M S' ask later known)
  ],
)

pub run-noted-open : (S : SessionSeen) (ms : List (Directed Message)) (vs : List Verdict) (S' : SessionSeen) → Chain NotedStep S ms vs S' → KeepsOpen S S'
run-noted-open S ms vs S' run = (Chain-within NotedStep KeepsAsks (λ A. (keeps-same A A refl, λ ask was. inl was)) asks-then
    (λ A x v B step. (noted-keeps A x v B step, noted-open A x v B step)) S ms vs S' run).1

-- ---- where the ask was noted

requested : (S : SessionSeen) (ask : Ask) (v : Verdict) (M : SessionSeen) → StepOut S (message.Request ask) v M → IsOpenAsk M ask
    ⊎ (v ≡ verdict.HashRefused NoMemory)
requested S ask verdict.Noted M h = inl (ap (λ (U : SessionSeen). set.contains U.asks ask) h ∙ opened_contains S.asks ask)
requested S ask (verdict.HashRefused NoMemory) M h = inr refl
requested S ask v M h = absurd h

-- after our request, unless memory was refused for it, the ask is open or its base range is known
abbrev IsHeard : SessionSeen → Ask → Type 0
IsHeard S ask = IsOpenAsk S ask ⊎ IsBaseKnown S ask

noted_at : (S : SessionSeen) (ms : List (Directed Message)) (vs : List Verdict) (N : SessionSeen) → Chain NotedStep S ms vs N → (ask : Ask) (k : ℕ)
    → IsAskedAt ms ask k → IsHeard N ask ⊎ (slice_get vs k ≡ Some (verdict.HashRefused NoMemory))
noted_at S ms vs N run ask k at =
    let low : k < length vs = omega (arith, slice_get_within ms k (Out, message.Request ask) at, Chain-length NotedStep S ms vs N run) in
    let (v, there) = item_at vs k low in
    let here : StepAt NotedStep S ms vs k (Out, message.Request ask) v N = step_at NotedStep S ms vs k (Out, message.Request ask) v N at there run in
    elim (requested here.from ask v here.to here.step) [
      | inl now ↦ inl (run-noted-open here.to (drop (k + 1) ms) (drop (k + 1) vs) N here.after ask now)
      | inr lacks ↦ inr (there ∙ ap Some lacks)
    ]

opened_by : (S : SessionSeen) (ms : List (Directed Message)) (vs : List Verdict) (N : SessionSeen) → Chain NotedStep S ms vs N → (ask : Ask)
    → (asked : IsAskMade S ms ask) → IsHeard N ask ⊎ LacksMemoryToNote S ms ask asked vs
opened_by S ms vs N run ask (inl was) = inl (run-noted-open S ms vs N run ask was)
opened_by S ms vs N run ask (inr (k, at)) = noted_at S ms vs N run ask k at

lacks_in_all : (S : SessionSeen) (ms : List (Directed Message)) (ask : Ask) (asked : IsAskMade S ms ask) (vs : List Verdict) (v : Verdict)
    → LacksMemoryToNote S ms ask asked vs
    → LacksMemoryToNote S ms ask asked (vs ++ v ∷ [])
lacks_in_all S ms ask (inl was) vs v lacks = lacks
lacks_in_all S ms ask (inr (k, at)) vs v lacks = item_stays vs (v ∷ []) k (verdict.HashRefused NoMemory) lacks

-- ---- a round: S is where the ask was wanted, N where its true answer comes

noted_round : (S N S' : SessionSeen) → HasClosedTrees S → IsLater S N → (n : ℕ) (f : List ℕ) (ask : Ask) (answer : Bor (List Hash))
    → (w : IsWantedAnswer S n f ask answer.now) → IsHeard N ask → (v : Verdict) → v ≢ verdict.HashRefused NoMemory
    → NotedStep N (In, message.Hashes ask answer) v S' → HasFewerGaps S' n w.tree (look w.state.known) ⊎ Collides S' n f
noted_round S N S' closed_trees later n f ask answer w (inl still) v memory step =
    elim (answered-fewer S N (asking N.asks S') closed_trees later n f ask answer w v memory (in_hashes N ask answer v S' still step)) [
      | inl (s, at, fewer) ↦ inl (s, tree_asking S'.asks (asking N.asks S') n w.tree s at, fewer)
      | inr (tree, s, at, collision) ↦ inr (tree, s, tree_asking S'.asks (asking N.asks S') n tree s at, collision)
    ]
noted_round S N S' closed_trees later n f ask answer w (inr base) v memory step =
    let (none, is) = wanted-is w.tree (look w.state.known) w.block ask w.wanted in
    let root : w.tree.root ≡ ask.root = ap (λ (a : Ask). a.root) (sym is) in
    let (now, now_is, keeps) = later.keeps n w.tree w.state w.is_tree in
    let (last, last_is, kept) = noted-keeps N (In, message.Hashes ask answer) v S' step n w.tree now now_is in
    let (number, one, state) = asked-is N ask n w.tree now later.distinct now_is root base.asked in
    let first : ℕ = w.block / window w.tree.length * window w.tree.length in
    let there : (j : ℕ) → j < window w.tree.length → IsKnown (look base.asked.state.known) 0 (first + j) =
    subst (λ (q : Ask). (j : ℕ) → j < q.length → IsKnown (look base.asked.state.known) q.base (q.index + j)) is base.known in
    inl (
      last,
      last_is,
      gaps-fewer w.tree.length (look w.state.known) (look last.known) w.block (λ l i u h. kept l i u (keeps l i u h)) w.inside none
          (λ j low. let (u, h) = there j low in (u, kept 0 (first + j) u (ap (λ (st : TreeState). look st.known 0 (first + j)) (sym state) ∙ h))),
    )

pub noted-round-fewer : (S : SessionSeen) → HasDistinctRoots S → (ms : List (Directed Message)) (vs : List Verdict) (S' : SessionSeen) → HasClosedTrees S
    → All HasDirectedHashes ms → Chain NotedStep S ms vs S'
    → NotedRoundLeavesFewer S ms vs S'
noted-round-fewer S distinct ms vs S' closed_trees all run n f r =
    let x : Directed Message = (In, message.Hashes r.ask r.answer) in
    let at_end : LastStep NotedStep S r.before x vs S' = last_step NotedStep S r.before x vs S' (subst (λ xs. Chain NotedStep S xs vs S') r.ends run) in
    let hashes : All HasDirectedHashes r.before =
    (All-pop HasDirectedHashes (r.before ++ x ∷ []) r.before (Some x) refl (subst (All HasDirectedHashes) r.ends all)).0 in
    elim (cases_Bool (lacks_memory at_end.last)) [
      | inl lacks ↦ inr (inl (at_end.earlier, at_end.outputs_are ∙ ap (λ v. at_end.earlier ++ v ∷ []) (lacks_memory-is at_end.last lacks)))
      | inr has ↦ elim (opened_by S r.before at_end.earlier at_end.middle at_end.run r.ask r.noted) [
        | inr lacks ↦
            inr (inr (inl (subst (LacksMemoryToNote S r.before r.ask r.noted) (sym at_end.outputs_are) (lacks_in_all S r.before r.ask r.noted at_end.earlier
            at_end.last lacks))))
        | inl heard ↦
            elim (noted_round S at_end.middle S' closed_trees
            (run-noted-later S closed_trees distinct r.before at_end.earlier at_end.middle hashes at_end.run) n f r.ask r.answer r.wants heard at_end.last
            (lacks_memory-not at_end.last has) at_end.step) [
              | inl fewer ↦ inl fewer
              | inr collides ↦ inr (inr (inr collides))
            ]
      ]
    ]

-- ---- the laws

pub incoming-opens : (S : SessionSeen) (ms : List Message) (vs : List Verdict) (S' : SessionSeen) → Chain (λ s m v s'. NotedStep s (In, m) v s') S ms vs S'
    → (ask : Ask) → IsOpenAsk S' ask → IsOpenAsk S ask
incoming-opens = Chain-within (λ (s : SessionSeen) (m : Message) (v : Verdict) (s' : SessionSeen). NotedStep s (In, m) v s')
    (λ A B. (ask : Ask) → IsOpenAsk B ask → IsOpenAsk A ask) (λ A ask now. now) (λ A B C first next ask now. first ask (next ask now))
    (λ A m v B step. noted-opens A (In, m) v B step)

pub run-noted-law : (S : SessionSeen) (ms : List (Directed Message)) (vs : List Verdict) (S' : SessionSeen) → HasClosedTrees S → All HasDirectedHashes ms
    → Chain NotedStep S ms vs S' → HasClosedTrees S' × HasNoMoreGaps S S'
run-noted-law S ms vs S' closed_trees all run =
    (Chain-kept NotedStep HasClosedTrees HasDirectedHashes noted-closed S ms vs S' closed_trees all run, run-noted-gaps S ms vs S' run)
