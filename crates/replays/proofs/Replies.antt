-- Answers: what the hashes of one have in number, what a frame with its answer is, and how answers go out one after another.
use Rattle.std.proofs.Common.{◌≡◌, ℕ, ◌+◌, ◌≤◌, ◌^◌, ◌++◌, List, [], length, map, Bool, true, false, Option, Some, None, refl, sym, ap, ◌∙◌, subst, arith}
use Rattle.std.specs.Prelude.{is_some, slice_get}
use Rattle.std.specs.List.{range_with_len}
use Rattle.std.proofs.lemmas.List.{length-append}
use Rattle.std.proofs.lemmas.List.FromFn.{length-map-range_with_len}
use Rattle.std.proofs.lemmas.Option.{slice_get-map}
use Rattle.benc.specs.Device.{SinkSeen, Sent, Broke, SentAndFlushed, one_more}
use Rattle.benc.proofs.Known.{Appends-keeps, Appends_nothing}
use Rattle.benc.proofs.Out.{Sent-append}
use Rattle.hashtree.specs.Tree.{block_count}
use Rattle.hashtree.proofs.Heights.{height_least}
use Rattle.opening.specs.Sound.{IsSound}
use Rattle.std.specs.Borrow.{Bor}
use Rattle.wire.specs.Records.{Directed}
use Rattle.wire.specs.declared.form.Direction.TheVariants.{In, Out}
use Rattle.wire.specs.declared.form.Form.{Form}
use Rattle.wire.specs.declared.form.Form.TheVariants.{One, Two}
use Rattle.wire.specs.declared.frame.Frame.{Frame}
use Rattle.wire.specs.declared.frame.Frame.TheVariants as frame
use Rattle.wire.specs.declared.message.Ask.{Ask}
use Rattle.wire.specs.declared.message.Message.{Message}
use Rattle.wire.specs.declared.message.Message.TheVariants as message
use Rattle.node_maps.specs.Digest.{Hash}
use Rattle.node_maps.specs.Known.{look}
use Rattle.node_maps.specs.Places.{tree_height, PartialTree}
use Rattle.partial_tree.specs.Claims.{answer_of, answer_uncles, cover, sibling, above, hash_or_pad}
use Rattle.partial_tree.specs.declared.answer.Answer.{Answer}
use Rattle.partial_tree.specs.declared.answer.Answer.TheVariants as answer
use Rattle.session.specs.Answers.{IsAnswerTo}
use Rattle.session.specs.Layouts.{SessionSeen, root_of_entry}
use Rattle.session.specs.Session.{Step}
use Rattle.session.specs.Noted.{StepIn}
use Rattle.session.specs.declared.verdict.Verdict.{Verdict}
use Rattle.session.specs.declared.verdict.Verdict.TheVariants as verdict
use Rattle.session.proofs.Sessions.{mapped}
use Rattle.replays.specs.declared.report.FrameReport.{FrameReport}
use Rattle.replays.specs.declared.report.FrameReport.TheVariants as frame_report
use Rattle.replays.specs.declared.report.Reply.{Reply}
use Rattle.replays.specs.declared.report.Reply.TheVariants as reply
use Rattle.replays.specs.Answering.{Answers, AnswersAsk, HasFewHashes, IfWanted, IsReply, IsWanted, reply_of, reply_to}
use Rattle.printing.specs.Cut.{BrokeAfter, FailedFlush, Flushed, Unflushed}
use Rattle.replays.specs.Replay.{Meets, StepsBy}

-- ---- how many hashes an answer has

low_height : (len : ℕ) → len ≤ 2 ^ 46 → tree_height len ≤ 32
low_height len bound = height_least (block_count len) 32 (omega arith)

answer_count : (h : ℕ) (K : PartialTree) (ask : Ask) → length (answer_of h K ask) ≡ ask.length + answer_uncles h ask
answer_count h K ask =
    let base : ℕ → Hash = λ j. hash_or_pad K ask.base (ask.index + j) in
    let uncle : ℕ → Hash = λ j. hash_or_pad K (cover ask + j) (sibling (above ask (cover ask + j))) in
    length-append (map base (range_with_len 0 ask.length)) (map uncle (range_with_len 0 (answer_uncles h ask)))
    ∙ ap (λ n. n + length (map uncle (range_with_len 0 (answer_uncles h ask)))) (length-map-range_with_len base 0 ask.length)
    ∙ ap (λ n. ask.length + n) (length-map-range_with_len uncle 0 (answer_uncles h ask))

pub few_hashes : (S : SessionSeen) (ask : Ask) (given : Answer) → IsSound S.torrent → IsAnswerTo S ask given → HasFewHashes given
few_hashes S ask (answer.Hashes hashes) sound (asked, (can, is)) =
    let e = mapped root_of_entry (slice_get S.torrent.trees asked.number) asked.tree (sym (slice_get-map root_of_entry S.torrent.trees asked.number)
    ∙ asked.is_tree.tree_is) in
    let bound = (sound.trees asked.number e.0 e.1).bound in
    let low : tree_height asked.tree.length ≤ 32 = subst (λ t. tree_height t.length ≤ 32) e.2 (low_height e.0.length bound) in
    let count = answer_count (tree_height asked.tree.length) (look asked.state.known) ask in
    let size : length hashes.items ≡ ask.length + answer_uncles (tree_height asked.tree.length) ask = ap length is ∙ count in
    omega (arith, size, low, can.range.most)
few_hashes S ask answer.Reject sound is = tt

-- ---- a frame with its answer

no_reply : (wanted : Bool) (S : SessionSeen) (bytes : List ℕ) → IsReply wanted S reply.Nothing bytes → bytes ≡ []
no_reply true S bytes is = is
no_reply false S bytes is = is

answers_of_step : (wanted : Bool) (S S' : SessionSeen) (m : Message) (v : Verdict) (bytes : List ℕ) → Step S m v S' → IsReply wanted S' (reply_of m v) bytes
    → Answers wanted S m bytes
answers_of_step false S S' m v bytes step is = is
answers_of_step true S S' (message.Request ask) verdict.Answered bytes step is = subst (λ T. AnswersAsk T ask bytes) step.1 is
answers_of_step true S S' (message.Request ask) verdict.Rejected bytes step is = (answer.Reject, step.0, is)
answers_of_step true S S' (message.Request ask) v bytes step is = absurd step
answers_of_step true S S' m v bytes step is = is

none_answered : (wanted : Bool) (S : SessionSeen) (ask : Ask) (hashes : Bor (List Hash)) (bytes : List ℕ) → bytes ≡ []
    → Answers wanted S (message.Hashes ask hashes) bytes
none_answered true S ask hashes bytes e = e
none_answered false S ask hashes bytes e = e

answers_of_in : (wanted : Bool) (S S' : SessionSeen) (m : Message) (v : Verdict) (bytes : List ℕ) → StepIn S m v S' → IsReply wanted S' (reply_of m v) bytes
    → Answers wanted S m bytes
answers_of_in wanted S S' (message.Hashes ask hashes) v bytes step is = none_answered wanted S ask hashes bytes (no_reply wanted S' bytes is)
answers_of_in wanted S S' m v bytes step is = answers_of_step wanted S S' m v bytes step is

answers_by : (wanted : Bool) (form : Form) (S S' : SessionSeen) (m : Message) (v : Verdict) (bytes : List ℕ) → StepsBy form S (In, m) v S'
    → IsReply wanted S' (reply_of m v) bytes → Answers wanted S m bytes
answers_by wanted One S S' m v bytes safe is = answers_of_step wanted S S' m v bytes safe.allowed is
answers_by wanted Two S S' m v bytes safe is = answers_of_in wanted S S' m v bytes safe.allowed is

pub meets_more : (wanted : Bool) (form : Form) (S S' : SessionSeen) (f : Directed Frame) (d : FrameReport) (bytes : List ℕ) → Meets false form S f d [] S'
    → IsReply wanted S' (reply_to f d) bytes → Meets wanted form S f d bytes S'
meets_more wanted form S S' (In, frame.Message m) d bytes (v, safe, is, none) replies =
    (v, safe, is, answers_by wanted form S S' m v bytes safe (subst (λ x. IsReply wanted S' (reply_to (In, frame.Message m) x) bytes) is replies))
meets_more wanted form S S' (Out, frame.Message m) d bytes (v, safe, is, none) replies = (v, safe, is, no_reply wanted S' bytes replies)
meets_more wanted form S S' (In, frame.BadSize id len) d bytes (is, none, stays) replies = (is, no_reply wanted S' bytes replies, stays)
meets_more wanted form S S' (Out, frame.BadSize id len) d bytes (is, none, stays) replies = (is, no_reply wanted S' bytes replies, stays)

-- only an answer of hashes depends on what is known
pub reply_same : (wanted : Bool) (r : Reply) (S S' : SessionSeen) (bytes : List ℕ) → ((ask : Ask) → r ≡ reply.Hashes ask → S' ≡ S) → IsReply wanted S' r bytes
    → IsReply wanted S r bytes
reply_same true (reply.Hashes ask) S S' bytes same is = subst (λ x. AnswersAsk x ask bytes) (same ask refl) is
reply_same true (reply.Reject ask) S S' bytes same is = is
reply_same true reply.Nothing S S' bytes same is = is
reply_same false r S S' bytes same is = is

-- hashes answer only what is reported as answered
pub hashes_answer_requests : (f : Directed Frame) (d : FrameReport) (ask : Ask) → reply_to f d ≡ reply.Hashes ask → d ≡ frame_report.Verdict verdict.Answered
hashes_answer_requests (In, frame.Message (message.Request a)) (frame_report.Verdict verdict.Answered) ask is = refl
hashes_answer_requests (In, frame.Message (message.Request a)) (frame_report.Verdict verdict.Rejected) ask is = let no : ⊥ = cc in absurd no
hashes_answer_requests (In, frame.Message (message.Request a)) (frame_report.Verdict v) ask is = let no : ⊥ = cc in absurd no
hashes_answer_requests (In, frame.Message m) (frame_report.Verdict v) ask is = let no : ⊥ = cc in absurd no
hashes_answer_requests f d ask is = let no : ⊥ = cc in absurd no

-- ---- the sink of the answers

pub same_wanted : (P : SinkSeen → SinkSeen → Type 0) (a b : Option SinkSeen) → IfWanted P a b → is_some b ≡ is_some a
same_wanted P None b is = ap is_some is
same_wanted P (Some x) None is = absurd is
same_wanted P (Some x) (Some y) is = refl

pub none_sent : (a : Option SinkSeen) → IfWanted (λ x y. Sent x y []) a a
none_sent None = refl
none_sent (Some x) = record { bytes = Appends_nothing x.written; faults = refl; flushes = refl }

pub sent_more : (a b c : Option SinkSeen) (first next : List ℕ) → IfWanted (λ x y. Sent x y first) a b → IfWanted (λ x y. Sent x y next) b c
    → IfWanted (λ x y. Sent x y (first ++ next)) a c
sent_more None None c first next p q = q
sent_more None (Some y) c first next p q = let no : ⊥ = cc in absurd no
sent_more (Some x) None c first next p q = absurd p
sent_more (Some x) (Some y) None first next p q = absurd q
sent_more (Some x) (Some y) (Some z) first next p q = Sent-append x y z first next p q

pub broke_after : (a b c : Option SinkSeen) (first next : List ℕ) → IfWanted (λ x y. Sent x y first) a b → IsWanted (λ x y. Broke x y next) b c
    → IsWanted (BrokeAfter first next) a c
broke_after None None c first next p q = absurd q
broke_after None (Some y) c first next p q = let no : ⊥ = cc in absurd no
broke_after (Some x) None c first next p q = absurd p
broke_after (Some x) (Some y) None first next p q = absurd q
broke_after (Some x) (Some y) (Some z) first next p q = (y, p, q)

pub sent_and_flushed : (a b c : Option SinkSeen) (text : List ℕ) → IfWanted (λ x y. Sent x y text) a b → IfWanted Flushed b c
    → IfWanted (λ x y. SentAndFlushed x y text) a c
sent_and_flushed None None c text p q = q
sent_and_flushed None (Some y) c text p q = let no : ⊥ = cc in absurd no
sent_and_flushed (Some x) None c text p q = absurd p
sent_and_flushed (Some x) (Some y) None text p q = absurd q
sent_and_flushed (Some x) (Some y) (Some z) text p q = record {
  bytes = Appends-keeps x.written y.written z.written text p.bytes q.bytes;
  faults = q.faults ∙ p.faults;
  flushes = q.flushes ∙ ap one_more p.flushes;
  last = q.last;
}

pub sent_unflushed : (a b c : Option SinkSeen) (text : List ℕ) → IfWanted (λ x y. Sent x y text) a b → IsWanted FailedFlush b c → IsWanted (Unflushed text) a c
sent_unflushed None None c text p q = absurd q
sent_unflushed None (Some y) c text p q = let no : ⊥ = cc in absurd no
sent_unflushed (Some x) None c text p q = absurd p
sent_unflushed (Some x) (Some y) None text p q = absurd q
sent_unflushed (Some x) (Some y) (Some z) text p q = record {
  bytes = Appends-keeps x.written y.written z.written text p.bytes q.bytes;
  faults = q.faults ∙ ap one_more p.faults;
  flushes = q.flushes ∙ ap one_more p.flushes;
}
