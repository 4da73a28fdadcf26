-- The replay of a conversion: it runs as the record of form 1 does.
use Rattle.std.proofs.Common.{◌≡◌, ◌≢◌, ℕ, List, [], ◌∷◌, ◌++◌, refl, sym, ap, ◌∙◌, subst, arith}
use Rattle.std.specs.List.{AllZip, flat_map}
use Rattle.std.specs.FinSet as set
use Rattle.wire.specs.declared.form.Direction.TheVariants.{In, Out}
use Rattle.wire.specs.declared.frame.Frame.{Frame}
use Rattle.wire.specs.declared.frame.Frame.TheVariants as stated
use Rattle.wire.specs.declared.message.Ask.{Ask}
use Rattle.wire.specs.declared.message.Message.{Message}
use Rattle.wire.specs.declared.message.Message.TheVariants as message
use Rattle.wire.specs.Meaning.{Means, SameMessage, SameFrame}
use Rattle.wire.specs.Records.{Directed, direction_byte, MeansDirected, messages_in, directed_messages}
use Rattle.wire.specs.Conversion.{conversion, converted_message, converted_messages, converted_frame}
use Rattle.wire.proofs.Meanings.{one_meaning}
use Rattle.wire.proofs.Conversions.{conversion_means}
use Rattle.partial_tree.specs.declared.refusal.HashRefusal.TheVariants.{NoMemory, Unasked}
use Rattle.chains.specs.Chain.{Chain}
use Rattle.chains.proofs.Chains.{Chain-same}
use Rattle.session.specs.declared.verdict.Verdict.{Verdict}
use Rattle.session.specs.declared.verdict.Verdict.TheVariants as verdict
use Rattle.session.specs.Asks.{AskSet}
use Rattle.session.specs.Session.{SessionSeen, AreTaken, AreRefused, Step}
use Rattle.session.specs.Noted.{IsOpenAsk, asking, with_ask, without_ask, IsAnswerStored, IsAnswerRefused, StepIn, StepOut, NotedStep}
use Rattle.session.specs.NotedLaws.{incoming, AllNoted, HadMemory}
use Rattle.session.proofs.OpenAsks.{opened_contains}
use Rattle.session.proofs.OtherAsks.{step_asking, run_asking}
use Rattle.session.proofs.NotedSteps.{in_hashes, step-asks}

run-asks : (S : SessionSeen) (ms : List Message) (vs : List Verdict) (S' : SessionSeen) → Chain Step S ms vs S' → S'.asks ≡ S.asks
run-asks = Chain-same Step (λ (A : SessionSeen). A.asks) step-asks

-- a request that was noted leaves the trees, and its ask is open
out_noted : (S : SessionSeen) (ask : Ask) (v : Verdict) (S' : SessionSeen) → StepOut S (message.Request ask) v S' → v ≢ verdict.HashRefused NoMemory
    → S' ≡ with_ask S ask
out_noted S ask verdict.Noted S' h noted = h
out_noted S ask (verdict.HashRefused NoMemory) S' h noted = absurd (noted refl)
out_noted S ask v S' h noted = absurd h

-- ---- a conversion runs as form 1

pub conversion_runs : (S : SessionSeen) (ms : List Message) (vs : List Verdict) (S' : SessionSeen) → Chain NotedStep S (converted_messages ms) vs S'
    → AllNoted (converted_messages ms) vs
    → Chain Step S ms (incoming (converted_messages ms) vs) (asking S.asks S')
conversion_runs S [] [] S' e noted = ap (asking S.asks) e
conversion_runs S [] (v ∷ vs) S' e noted = absurd e
conversion_runs S (message.Hashes ask hashes ∷ ms) [] S' e noted = absurd e
conversion_runs S (message.Hashes ask hashes ∷ ms) (v ∷ []) S' (M, out, e) noted = absurd e
conversion_runs S (message.Hashes ask hashes ∷ ms) (v ∷ w ∷ vs) S' (M, out, (N, step, rest)) (was, noted) =
    let is : M ≡ with_ask S ask = out_noted S ask v M out was in
    let open_there : IsOpenAsk M ask = ap (λ (U : SessionSeen). set.contains U.asks ask) is ∙ opened_contains S.asks ask in
    let taken : Step M (message.Hashes ask hashes) w (asking M.asks N) = in_hashes M ask hashes w N open_there step in
    let here : Step (asking S.asks M) (message.Hashes ask hashes) w (asking S.asks N) = step_asking S.asks M (message.Hashes ask hashes) w (asking M.asks N)
    taken in (
      asking S.asks N,
      subst (λ (U : SessionSeen). Step U (message.Hashes ask hashes) w (asking S.asks N)) (ap (asking S.asks) is) here,
      run_asking S.asks N ms (incoming (converted_messages ms) vs) (asking N.asks S') (conversion_runs N ms vs S' rest noted),
    )
conversion_runs S (m ∷ ms) [] S' e noted = absurd e
conversion_runs S (m ∷ ms) (v ∷ vs) S' (M, step, rest) noted = (
  M,
  step,
  subst (λ (o : AskSet). Chain Step M ms (incoming (converted_messages ms) vs) (asking o S')) (step-asks S m v M step) (conversion_runs M ms vs S' rest noted),
)

-- ---- each run of form 1 is that of its conversion

record Answered (S : SessionSeen) (m : Message) (v : Verdict) (T : SessionSeen) : Type 0 where
  after : SessionSeen
  step : StepIn S m v after
  same : after ≡ asking after.asks T

hashes_answered : (S : SessionSeen) (ask : Ask) (hashes : _) (v : Verdict) (T : SessionSeen) → IsOpenAsk S ask → Step S (message.Hashes ask hashes) v T
    → Answered S (message.Hashes ask hashes) v T
hashes_answered S ask hashes (verdict.Stored c) T was h = record {
  after = without_ask T ask;
  step = record { was_open = was; joined = T; stored = h; state_after = refl };
  same = refl;
}
hashes_answered S ask hashes (verdict.HashRefused Unasked) T was h = absurd h.0.1.fault
hashes_answered S ask hashes (verdict.HashRefused r) T was h = record { after = S; step = ((was, h.0), refl); same = ap (asking S.asks) (sym h.1) }
hashes_answered S ask hashes v T was h = absurd h

record Converted (S : SessionSeen) (ms : List Message) (vs : List Verdict) (T : SessionSeen) : Type 0 where
  verdicts : List Verdict
  after : SessionSeen
  run : Chain NotedStep S (converted_messages ms) verdicts after
  noted : AllNoted (converted_messages ms) verdicts
  same : incoming (converted_messages ms) verdicts ≡ vs
  trees : asking S.asks after ≡ T

-- the asks that are open afterwards are those before
same_trees : (S T after : SessionSeen) (o : AskSet) → T.asks ≡ S.asks → asking o after ≡ asking o T → asking S.asks after ≡ T
same_trees S T after o stay e = ap (asking S.asks) e ∙ (λ i. record T { asks = sym stay i })

not_memory : verdict.Noted ≡ verdict.HashRefused NoMemory → ⊥
not_memory e = cc

run_converted : (S : SessionSeen) (ms : List Message) (vs : List Verdict) (T : SessionSeen) → Chain Step S ms vs T → Converted S ms vs T
run_converted S [] [] T e = record { verdicts = []; after = S; run = refl; noted = tt; same = refl; trees = sym e }
run_converted S [] (v ∷ vs) T e = absurd e
run_converted S (m ∷ ms) [] T e = absurd e
run_converted S (message.Hashes ask hashes ∷ ms) (v ∷ vs) T (M, step, rest) =
    let asked : SessionSeen = with_ask S ask in
    let a : Answered asked (message.Hashes ask hashes) v (asking asked.asks M) =
    hashes_answered asked ask hashes v (asking asked.asks M) (opened_contains S.asks ask) (step_asking asked.asks S (message.Hashes ask hashes) v M step) in
    let next : Chain Step a.after ms vs (asking a.after.asks T) = subst (λ (U : SessionSeen). Chain Step U ms vs (asking a.after.asks T)) (sym a.same)
    (run_asking a.after.asks M ms vs T rest) in
    let later : Converted a.after ms vs (asking a.after.asks T) = run_converted a.after ms vs (asking a.after.asks T) next in
    record {
      verdicts = verdict.Noted ∷ v ∷ later.verdicts;
      after = later.after;
      run = (asked, refl, (a.after, a.step, later.run));
      noted = ((λ e. not_memory e), later.noted);
      same = ap (λ ws. v ∷ ws) later.same;
      trees = same_trees S T later.after a.after.asks (run-asks M ms vs T rest ∙ step-asks S (message.Hashes ask hashes) v M step) later.trees;
    }
run_converted S (m ∷ ms) (v ∷ vs) T (M, step, rest) =
    let later : Converted M ms vs T = run_converted M ms vs T rest in
    let stay : T.asks ≡ S.asks = run-asks M ms vs T rest ∙ step-asks S m v M step in
    record {
      verdicts = v ∷ later.verdicts;
      after = later.after;
      run = (M, step, later.run);
      noted = later.noted;
      same = ap (λ ws. v ∷ ws) later.same;
      trees = same_trees S T later.after S.asks stay (ap (asking S.asks) later.trees);
    }

pub form_1_runs : (S : SessionSeen) (ms : List Message) (vs : List Verdict) (T : SessionSeen) → Chain Step S ms vs T
    → (ws : List Verdict) × (S' : SessionSeen) × Chain NotedStep S (converted_messages ms) ws S' × AllNoted (converted_messages ms) ws
    × (incoming (converted_messages ms) ws ≡ vs) × (asking S.asks S' ≡ T)
form_1_runs S ms vs T run = let c : Converted S ms vs T = run_converted S ms vs T run in (c.verdicts, c.after, c.run, c.noted, c.same, c.trees)

-- ---- the same from the bytes

-- the same direction and the same message, wherever its block or its hashes lie
abbrev SameSent : Directed Message → Directed Message → Type 0
SameSent x y = (x.0 ≡ y.0) × SameMessage x.1 y.1

abbrev SameDirected : Directed Frame → Directed Frame → Type 0
SameDirected x y = (x.0 ≡ y.0) × SameFrame x.1 y.1

same_directed : (ds : List (Directed (List ℕ))) (gs hs : List (Directed Frame)) → AllZip MeansDirected ds gs → AllZip MeansDirected ds hs
    → AllZip SameDirected gs hs
same_directed [] [] [] p q = tt
same_directed [] [] (h ∷ hs) p q = absurd q
same_directed [] (g ∷ gs) hs p q = absurd p
same_directed (d ∷ ds) [] hs p q = absurd p
same_directed (d ∷ ds) (g ∷ gs) [] p q = absurd q
same_directed (d ∷ ds) (g ∷ gs) (h ∷ hs) p q =
    ((sym p.0.0 ∙ q.0.0, one_meaning d.1 g.1 h.1 p.0.1 q.0.1), same_directed ds gs hs p.1 q.1)

same_sent : (gs hs : List (Directed Frame)) → AllZip SameDirected gs hs → AllZip SameSent (directed_messages gs) (directed_messages hs)
same_sent [] [] p = tt
same_sent [] (h ∷ hs) p = absurd p
same_sent (g ∷ gs) [] p = absurd p
same_sent ((d, stated.Message m) ∷ gs) ((e, stated.Message n) ∷ hs) p = (p.0, same_sent gs hs p.1)
same_sent ((d, stated.Message m) ∷ gs) ((e, stated.BadSize id len) ∷ hs) p = absurd p.0.1
same_sent ((d, stated.BadSize id len) ∷ gs) ((e, stated.Message n) ∷ hs) p = absurd p.0.1
same_sent ((d, stated.BadSize id len) ∷ gs) ((e, stated.BadSize id' len') ∷ hs) p = same_sent gs hs p.1

not_out : In ≡ Out → ⊥
not_out e = omega (arith, ap direction_byte e)

in_same : (S : SessionSeen) (m n : Message) (v : Verdict) (S' : SessionSeen) → SameMessage m n → StepIn S m v S' → StepIn S n v S'
in_same S message.KeepAlive message.KeepAlive v S' p h = h
in_same S (message.Piece i b x) (message.Piece j c y) (verdict.Blocks w) S' p h =
    subst (λ z. AreTaken S j c z w S') p.2 (subst (λ z. AreTaken S j z x.now w S') p.1 (subst (λ z. AreTaken S z b x.now w S') p.0 h))
in_same S (message.Piece i b x) (message.Piece j c y) (verdict.BlockRefused r) S' p h =
    (subst (λ z. AreRefused S j c z r) p.2 (subst (λ z. AreRefused S j z x.now r) p.1 (subst (λ z. AreRefused S z b x.now r) p.0 h.0)), h.1)
in_same S (message.Piece i b x) (message.Piece j c y) v S' p h = absurd h
in_same S (message.Request a) (message.Request b) v S' p h = subst (λ z. StepIn S (message.Request z) v S') p h
in_same S (message.Hashes a xs) (message.Hashes b ys) (verdict.Stored c) S' p h =
    subst (λ z. IsAnswerStored S z ys.now c S') p.0 (subst (λ z. IsAnswerStored S a z c S') p.1 h)
in_same S (message.Hashes a xs) (message.Hashes b ys) (verdict.HashRefused r) S' p h =
    (subst (λ z. IsAnswerRefused S z ys.now r) p.0 (subst (λ z. IsAnswerRefused S a z r) p.1 h.0), h.1)
in_same S (message.Hashes a xs) (message.Hashes b ys) v S' p h = absurd h
in_same S (message.Reject a) (message.Reject b) v S' p h = subst (λ z. StepIn S (message.Reject z) v S') p h
in_same S (message.Other i m) (message.Other j n) v S' p h =
    subst (λ z. StepIn S (message.Other j z) v S') p.1 (subst (λ z. StepIn S (message.Other z m) v S') p.0 h)
in_same S m n v S' p h = absurd p

out_same : (S : SessionSeen) (m n : Message) (v : Verdict) (S' : SessionSeen) → SameMessage m n → StepOut S m v S' → StepOut S n v S'
out_same S (message.Request a) (message.Request b) v S' p h = subst (λ z. StepOut S (message.Request z) v S') p h
out_same S message.KeepAlive message.KeepAlive v S' p h = h
out_same S (message.Piece i b x) (message.Piece j c y) verdict.Sent S' p h = h
out_same S (message.Piece i b x) (message.Piece j c y) v S' p h = absurd h
out_same S (message.Hashes a xs) (message.Hashes b ys) verdict.Sent S' p h = h
out_same S (message.Hashes a xs) (message.Hashes b ys) v S' p h = absurd h
out_same S (message.Reject a) (message.Reject b) verdict.Sent S' p h = h
out_same S (message.Reject a) (message.Reject b) v S' p h = absurd h
out_same S (message.Other i m) (message.Other j n) verdict.Sent S' p h = h
out_same S (message.Other i m) (message.Other j n) v S' p h = absurd h
out_same S m n v S' p h = absurd p

run_same : (S : SessionSeen) (xs ys : List (Directed Message)) (vs : List Verdict) (S' : SessionSeen) → AllZip SameSent xs ys → Chain NotedStep S xs vs S'
    → Chain NotedStep S ys vs S'
run_same S [] [] vs S' p h = h
run_same S [] (y ∷ ys) vs S' p h = absurd p
run_same S (x ∷ xs) [] vs S' p h = absurd p
run_same S (x ∷ xs) (y ∷ ys) [] S' p h = absurd h
run_same S ((In, m) ∷ xs) ((In, n) ∷ ys) (v ∷ vs) S' p (M, step, rest) = (M, in_same S m n v M p.0.1 step, run_same M xs ys vs S' p.1 rest)
run_same S ((Out, m) ∷ xs) ((Out, n) ∷ ys) (v ∷ vs) S' p (M, step, rest) = (M, out_same S m n v M p.0.1 step, run_same M xs ys vs S' p.1 rest)
run_same S ((In, m) ∷ xs) ((Out, n) ∷ ys) (v ∷ vs) S' p h = absurd (not_out p.0.0)
run_same S ((Out, m) ∷ xs) ((In, n) ∷ ys) (v ∷ vs) S' p h = absurd (not_out (sym p.0.0))

incoming_same : (xs ys : List (Directed Message)) (vs : List Verdict) → AllZip SameSent xs ys → incoming xs vs ≡ incoming ys vs
incoming_same [] [] vs p = refl
incoming_same [] (y ∷ ys) vs p = absurd p
incoming_same (x ∷ xs) [] vs p = absurd p
incoming_same (x ∷ xs) (y ∷ ys) [] p = refl
incoming_same ((In, m) ∷ xs) ((In, n) ∷ ys) (v ∷ vs) p = ap (λ ws. v ∷ ws) (incoming_same xs ys vs p.1)
incoming_same ((Out, m) ∷ xs) ((Out, n) ∷ ys) (v ∷ vs) p = incoming_same xs ys vs p.1
incoming_same ((In, m) ∷ xs) ((Out, n) ∷ ys) (v ∷ vs) p = absurd (not_out p.0.0)
incoming_same ((Out, m) ∷ xs) ((In, n) ∷ ys) (v ∷ vs) p = absurd (not_out (sym p.0.0))

noted_same : (xs ys : List (Directed Message)) (vs : List Verdict) → AllZip SameSent xs ys → AllNoted xs vs → AllNoted ys vs
noted_same [] [] vs p h = tt
noted_same [] (y ∷ ys) vs p h = absurd p
noted_same (x ∷ xs) [] vs p h = absurd p
noted_same (x ∷ xs) (y ∷ ys) [] p h = tt
noted_same ((In, m) ∷ xs) ((In, n) ∷ ys) (v ∷ vs) p h = noted_same xs ys vs p.1 h
noted_same ((Out, m) ∷ xs) ((Out, n) ∷ ys) (v ∷ vs) p h = (h.0, noted_same xs ys vs p.1 h.1)
noted_same ((In, m) ∷ xs) ((Out, n) ∷ ys) (v ∷ vs) p h = absurd (not_out p.0.0)
noted_same ((Out, m) ∷ xs) ((In, n) ∷ ys) (v ∷ vs) p h = absurd (not_out (sym p.0.0))

-- the messages of converted frames are the converted messages
frames_converted : (fs : List Frame) → directed_messages (flat_map converted_frame fs) ≡ converted_messages (messages_in fs)
frames_converted [] = refl
frames_converted (stated.BadSize id len ∷ fs) = frames_converted fs
frames_converted (stated.Message (message.Hashes ask hashes) ∷ fs) = ap (λ ms. (Out, message.Request ask) ∷ (In, message.Hashes ask hashes) ∷ ms)
    (frames_converted fs)
frames_converted (stated.Message m ∷ fs) = ap (λ ms. converted_message m ++ ms) (frames_converted fs)

pub conversion_replays : (S : SessionSeen) (bodies : List (List ℕ)) (fs : List Frame) (gs : List (Directed Frame)) (vs : List Verdict) (S' : SessionSeen)
    → AllZip Means bodies fs → AllZip MeansDirected (conversion bodies) gs → Chain NotedStep S (directed_messages gs) vs S' → AllNoted (directed_messages gs) vs
    → Chain Step S (messages_in fs) (incoming (directed_messages gs) vs) (asking S.asks S')
conversion_replays S bodies fs gs vs S' means converted run noted =
    let same : AllZip SameSent (directed_messages gs) (directed_messages (flat_map converted_frame fs)) =
    same_sent gs (flat_map converted_frame fs)
    (same_directed (conversion bodies) gs (flat_map converted_frame fs) converted (conversion_means bodies fs means)) in
    let is : directed_messages (flat_map converted_frame fs) ≡ converted_messages (messages_in fs) = frames_converted fs in
    let moved : Chain NotedStep S (converted_messages (messages_in fs)) vs S' = subst (λ ms. Chain NotedStep S ms vs S') is
    (run_same S (directed_messages gs) (directed_messages (flat_map converted_frame fs)) vs S' same run) in
    let all : AllNoted (converted_messages (messages_in fs)) vs =
    subst (λ ms. AllNoted ms vs) is (noted_same (directed_messages gs) (directed_messages (flat_map converted_frame fs)) vs same noted) in
    subst (λ ws. Chain Step S (messages_in fs) ws (asking S.asks S')) (ap (λ ms. incoming ms vs) (sym is)
    ∙ sym (incoming_same (directed_messages gs) (directed_messages (flat_map converted_frame fs)) vs same))
    (conversion_runs S (messages_in fs) vs S' moved all)

-- with memory for all, each request was noted
pub memory-noted : (ms : List (Directed Message)) (vs : List Verdict) → HadMemory vs → AllNoted ms vs
memory-noted [] vs h = tt
memory-noted (m ∷ ms) [] h = tt
memory-noted ((In, m) ∷ ms) (v ∷ vs) h = memory-noted ms vs h.1
memory-noted ((Out, m) ∷ ms) (v ∷ vs) h = (h.0, memory-noted ms vs h.1)

pub memory-incoming : (ms : List (Directed Message)) (vs : List Verdict) → HadMemory vs → HadMemory (incoming ms vs)
memory-incoming [] vs h = tt
memory-incoming (m ∷ ms) [] h = tt
memory-incoming ((In, m) ∷ ms) (v ∷ vs) h = (h.0, memory-incoming ms vs h.1)
memory-incoming ((Out, m) ∷ ms) (v ∷ vs) h = memory-incoming ms vs h.1
