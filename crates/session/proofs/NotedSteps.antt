-- Steps of a session that notes what it asks for.
use Rattle.std.proofs.Common.{◌≡◌, ℕ, ◌+◌, Bool, true, false, not, ◌&&◌, ◌||◌, List, Option, Some, None, Result, inl, inr, refl, sym, ap, ap₂}
use Rattle.std.proofs.Common.{◌∙◌, subst, arith}
use Rattle.std.specs.Prelude.{slice_get}
use Rattle.std.specs.Ordering.{eq_by_cmp}
use Rattle.std.specs.FinSet as set
use Rattle.std.proofs.lemmas.Bool.{cases_Bool, and_parts}
use Rattle.wire.specs.declared.form.Direction.TheVariants.{In, Out}
use Rattle.wire.specs.declared.message.Ask.{Ask}
use Rattle.wire.specs.declared.message.Message.{Message}
use Rattle.wire.specs.declared.message.Message.TheVariants as message
use Rattle.wire.specs.Records.{Directed}
use Rattle.partial_tree.specs.declared.refusal.HashRefusal.{HashRefusal}
use Rattle.partial_tree.specs.declared.refusal.HashRefusal.TheVariants.{NoMemory, Unasked}
use Rattle.partial_tree.specs.declared.refusal.BlockRefusal.{BlockRefusal}
use Rattle.node_maps.specs.Digest.{Hash}
use Rattle.node_maps.specs.Places.{tree_height, PartialTree}
use Rattle.node_maps.specs.Known.{look}
use Rattle.partial_tree.specs.TreeRoot.{TreeRoot}
use Rattle.partial_tree.proofs.ClaimValues.{first_of_two, second_of_two}
use Rattle.partial_tree.proofs.Claimed.{base-claims}
use Rattle.partial_tree.proofs.Powers.{spans-some}
use Rattle.chains.proofs.Cases.{some_or_none}
use Rattle.chains.proofs.Chains.{Chain-same}
use Rattle.session.specs.declared.verdict.Verdict.{Verdict}
use Rattle.session.specs.declared.verdict.Verdict.TheVariants as verdict
use Rattle.session.specs.Asks.{AskSet, ask_cmp}
use Rattle.session.specs.Blocks.{Cut}
use Rattle.session.specs.Layouts.{roots}
use Rattle.session.specs.Session.{SessionSeen, IsTree, HasClosedTrees, IsStored, IsHashRefused, BlockStep, HasDistinctRoots, HasHashes, Step}
use Rattle.session.specs.SafeStep.{KeepsKnown}
use Rattle.session.specs.Noted.{IsOpenAsk, without_ask, asking, IsAnswerStored, IsAnswerRefused, StepIn, StepOut, NotedStep}
use Rattle.session.specs.Noted.{IsAwaited, IsBaseKnown, OpensOnlyOurs, KeepsOpen, IsSafeNotedStep}
use Rattle.session.specs.Wanted.{HasOneGapFewer, WantedClosesOneGap}
use Rattle.session.proofs.States.{set-write}
use Rattle.session.proofs.OpenAsks.{ask_total, same_ask}
use Rattle.session.proofs.OtherAsks.{tree_asking, keeps_asking, closed_asking}
use Rattle.session.proofs.Runs.{Effect, unchanged, stored, taken, effect, step-closed, effect-keeps, effect-torrent}
use Rattle.session.proofs.SafeSteps.{safe_step}

-- ---- a step of the trees leaves the open asks

block-asks : (file : ℕ) (S : SessionSeen) (c : Cut) (r : Option BlockRefusal) (S' : SessionSeen) → BlockStep file S c r S' → S'.asks ≡ S.asks
block-asks file S c None S' h = ap (λ U. U.asks) h.state_after
block-asks file S c (Some r) S' h = ap (λ U. U.asks) h.1

effect-asks : (S : SessionSeen) (m : Message) (S' : SessionSeen) → Effect S m S' → S'.asks ≡ S.asks
effect-asks S m S' (unchanged e) = ap (λ U. U.asks) e
effect-asks S m S' (stored ask hashes c has h) = ap (λ U. U.asks) h.state_after
effect-asks S m S' (taken index begin bytes v h) =
    Chain-same (BlockStep v.file) (λ (A : SessionSeen). A.asks) (block-asks v.file) S _ v.refusals S' h.each

pub step-asks : (S : SessionSeen) (m : Message) (v : Verdict) (S' : SessionSeen) → Step S m v S' → S'.asks ≡ S.asks
step-asks S m v S' step = effect-asks S m S' (effect S m v S' step)

same_asking : (S S' : SessionSeen) → S'.asks ≡ S.asks → S' ≡ asking S.asks S'
same_asking S S' e = λ i. record S' { asks = e i }

-- ---- a noted step is a step of the trees, unless nobody asked

pub answer-stored : (S : SessionSeen) (ask : Ask) (hashes : List Hash) (c : ℕ) (S' : SessionSeen) → IsAnswerStored S ask hashes c S'
    → IsStored S ask hashes c (asking S.asks S')
answer-stored S ask hashes c S' h = record {
  asked = h.stored.asked;
  after = h.stored.after;
  taken = h.stored.taken;
  marks_stay = h.stored.marks_stay;
  state_after = ap (asking S.asks) (h.state_after ∙ ap (λ U. without_ask U ask) h.stored.state_after);
}

pub answer-refused : (S : SessionSeen) (ask : Ask) (hashes : List Hash) (r : HashRefusal) → IsOpenAsk S ask → IsAnswerRefused S ask hashes r
    → IsHashRefused S ask hashes r
answer-refused S ask hashes Unasked was h = absurd (h was)
answer-refused S ask hashes r was h = h.1

-- an answer to an open ask is a step
pub in_hashes : (S : SessionSeen) (ask : Ask) (hashes : _) (v : Verdict) (S' : SessionSeen) → IsOpenAsk S ask → StepIn S (message.Hashes ask hashes) v S'
    → Step S (message.Hashes ask hashes) v (asking S.asks S')
in_hashes S ask hashes (verdict.Stored c) S' was h = answer-stored S ask hashes.now c S' h
in_hashes S ask hashes (verdict.HashRefused r) S' was h = (answer-refused S ask hashes.now r was h.0, ap (asking S.asks) h.1)
in_hashes S ask hashes v S' was h = absurd h

pub in_effect : (S : SessionSeen) (m : Message) (v : Verdict) (S' : SessionSeen) → StepIn S m v S' → Effect S m (asking S.asks S')
in_effect S (message.Hashes ask hashes) (verdict.Stored c) S' h = stored ask hashes.now c (λ x. x) (answer-stored S ask hashes.now c S' h)
in_effect S (message.Hashes ask hashes) (verdict.HashRefused r) S' h = unchanged (ap (asking S.asks) h.1)
in_effect S (message.Hashes ask hashes) v S' h = absurd h
in_effect S m v S' h = subst (Effect S m) (same_asking S S' (step-asks S m v S' h)) (effect S m v S' h)

pub out_effect : (S : SessionSeen) (m : Message) (v : Verdict) (S' : SessionSeen) → StepOut S m v S' → asking S.asks S' ≡ S
out_effect S (message.Request ask) verdict.Noted S' h = ap (asking S.asks) h
out_effect S (message.Request ask) (verdict.HashRefused NoMemory) S' h = ap (asking S.asks) h.1
out_effect S (message.Request ask) v S' h = absurd h
out_effect S m verdict.Sent S' h = ap (asking S.asks) h
out_effect S m v S' h = absurd h

pub noted_effect : (S : SessionSeen) (x : Directed Message) (v : Verdict) (S' : SessionSeen) → NotedStep S x v S' → Effect S x.1 (asking S.asks S')
noted_effect S (In, m) v S' h = in_effect S m v S' h
noted_effect S (Out, m) v S' h = unchanged (out_effect S m v S' h)

-- ---- so it keeps the trees closed, and what is known

pub noted-keeps : (S : SessionSeen) (x : Directed Message) (v : Verdict) (S' : SessionSeen) → NotedStep S x v S' → KeepsKnown S S'
noted-keeps S x v S' step = keeps_asking S'.asks S (asking S.asks S') (effect-keeps S x.1 (asking S.asks S') (noted_effect S x v S' step))

pub noted-closed : (S : SessionSeen) (x : Directed Message) (v : Verdict) (S' : SessionSeen) → HasClosedTrees S → HasHashes x.1 → NotedStep S x v S'
    → HasClosedTrees S'
noted-closed S x v S' closed_trees all step = closed_asking S'.asks (asking S.asks S') (step-closed S x.1 (asking S.asks S') closed_trees all
    (noted_effect S x v S' step))

pub noted-torrent : (S : SessionSeen) (x : Directed Message) (v : Verdict) (S' : SessionSeen) → NotedStep S x v S' → S'.torrent ≡ S.torrent
noted-torrent S x v S' step = effect-torrent S x.1 (asking S.asks S') (noted_effect S x v S' step)

-- ---- so what came in and is awaited makes a safe step, but for the open asks

awaited-step : (S : SessionSeen) (m : Message) (v : Verdict) (S' : SessionSeen) → StepIn S m v S' → IsAwaited S m → Step S m v (asking S.asks S')
awaited-step S (message.Hashes ask hashes) v S' h awaited = in_hashes S ask hashes v S' awaited h
awaited-step S m v S' h awaited = subst (Step S m v) (same_asking S S' (step-asks S m v S' h)) h

-- the trees are the same whatever asks are open
pub one_gap-asking : (o : AskSet) (S S' : SessionSeen) (n : ℕ) (tree : TreeRoot) (K : PartialTree)
    → HasOneGapFewer S' n tree K → HasOneGapFewer (asking o S') n tree K
one_gap-asking o S S' n tree K (s, at, fewer) = (s, tree_asking o S' n tree s at, fewer)

pub closes-asking : (o : AskSet) (S : SessionSeen) (ask : Ask) (hashes : List Hash) (r : Result ℕ HashRefusal) (S' : SessionSeen)
    → WantedClosesOneGap S ask hashes r S' → WantedClosesOneGap S ask hashes r (asking o S')
closes-asking o S ask hashes r S' closes n f w = elim (closes n f w) [
  | inl fewer ↦ inl (one_gap-asking o S S' n w.tree (look w.state.known) fewer)
  | inr other ↦ inr other
]

-- ---- open asks

same_open : (S S' : SessionSeen) (ask : Ask) → S'.asks ≡ S.asks → IsOpenAsk S ask → IsOpenAsk S' ask
same_open S S' ask e was = ap (λ (o : AskSet). set.contains o ask) e ∙ was

stored-asks : (S : SessionSeen) (ask : Ask) (hashes : List Hash) (c : ℕ) (S' : SessionSeen) → IsAnswerStored S ask hashes c S' → S'.asks ≡ set.remove S.asks ask
stored-asks S ask hashes c S' h = ap (λ U. U.asks) (h.state_after ∙ ap (λ U. without_ask U ask) h.stored.state_after)

pub noted-opens : (S : SessionSeen) (x : Directed Message) (v : Verdict) (S' : SessionSeen) → NotedStep S x v S' → OpensOnlyOurs S x S'
noted-opens S (In, message.Hashes other hashes) (verdict.Stored c) S' h = λ ask now.
    let is = sym (set.contains-remove ask_total S.asks other ask) ∙ ap (λ (o : AskSet). set.contains o ask) (sym (stored-asks S other hashes.now c S' h))
    ∙ now in
    (and_parts (not (eq_by_cmp ask_cmp ask other)) (set.contains S.asks ask) is).1
noted-opens S (In, message.Hashes other hashes) (verdict.HashRefused r) S' h = λ ask now. same_open S' S ask (ap (λ U. U.asks) (sym h.1)) now
noted-opens S (In, message.Hashes other hashes) v S' h = absurd h
noted-opens S (In, m) v S' h = λ ask now. same_open S' S ask (sym (step-asks S m v S' h)) now
noted-opens S (Out, m) v S' h = tt

-- stored hashes make their base range known
stored_base : (S : SessionSeen) (ask : Ask) (hashes : List Hash) (c : ℕ) (S' : SessionSeen) → IsStored S ask hashes c S' → IsBaseKnown S' ask
stored_base S ask hashes c S' h =
    let at : IsTree S' h.asked.number h.asked.tree h.after = record {
      tree_is = ap (λ U. slice_get (roots U) h.asked.number) h.state_after ∙ h.asked.is_tree.tree_is;
      state_is = ap (λ U. slice_get U.trees h.asked.number) h.state_after ∙ set-write S.trees h.asked.number h.after h.asked.state h.asked.is_tree.state_is;
    } in
    record {
      asked = record { number = h.asked.number; tree = h.asked.tree; state = h.after; is_tree = at; has_root = h.asked.has_root };
      known = λ j low.
          let ok = h.taken.0 in
          let claim = base-claims ask hashes (spans-some (tree_height h.asked.tree.length) ask ok.range) ok.range.power_of_two ok.range.aligned ok.count.enough
          (ask.index + j) (omega arith) (omega arith) in
          elim (some_or_none (look h.asked.state.known ask.base (ask.index + j))) [
            | inl (v, known) ↦ (v, h.taken.1.joined_is ask.base (ask.index + j) ∙ first_of_two (look h.asked.state.known ask.base (ask.index + j)) _ v known)
            | inr none ↦ (
              claim.0,
              h.taken.1.joined_is ask.base (ask.index + j) ∙ second_of_two (look h.asked.state.known ask.base (ask.index + j)) _ none
                  ∙ claim.1,
            )
          ];
    }

-- what is known stays known
pub base_later : (S S' : SessionSeen) (ask : Ask) → KeepsKnown S S' → IsBaseKnown S ask → IsBaseKnown S' ask
base_later S S' ask keeps b =
    let (later, later_is, same) = keeps b.asked.number b.asked.tree b.asked.state b.asked.is_tree in
    record {
      asked = record { number = b.asked.number; tree = b.asked.tree; state = later; is_tree = later_is; has_root = b.asked.has_root };
      known = λ j low. let (v, e) = b.known j low in (v, same ask.base (ask.index + j) v e);
    }

base_asking : (o : AskSet) (S : SessionSeen) (ask : Ask) → IsBaseKnown S ask → IsBaseKnown (asking o S) ask
base_asking o S ask b = record {
  asked = record {
    number = b.asked.number;
    tree = b.asked.tree;
    state = b.asked.state;
    is_tree = tree_asking o S b.asked.number b.asked.tree b.asked.state
        b.asked.is_tree;
    has_root = b.asked.has_root;
  };
  known = b.known;
}

in-open : (S : SessionSeen) (m : Message) (v : Verdict) (S' : SessionSeen) → StepIn S m v S' → KeepsOpen S S'
in-open S (message.Hashes other hashes) (verdict.Stored c) S' h = λ ask was. elim (cases_Bool (eq_by_cmp ask_cmp ask other)) [
  | inl same ↦
      inr (subst (IsBaseKnown S') (sym (same_ask ask other same))
      (base_asking S'.asks (asking S.asks S') other (stored_base S other hashes.now c (asking S.asks S') (answer-stored S other hashes.now c S' h))))
  | inr differ ↦
      inl (ap (λ (o : AskSet). set.contains o ask) (stored-asks S other hashes.now c S' h) ∙ set.contains-remove ask_total S.asks other ask
      ∙ ap₂ (λ p q. not p && q) differ was)
]
in-open S (message.Hashes other hashes) (verdict.HashRefused r) S' h = λ ask was. inl (same_open S S' ask (ap (λ U. U.asks) h.1) was)
in-open S (message.Hashes other hashes) v S' h = absurd h
in-open S m v S' h = λ ask was. inl (same_open S S' ask (step-asks S m v S' h) was)

or-true : (b : Bool) → (b || true) ≡ true
or-true true = refl
or-true false = refl

out-open : (S : SessionSeen) (m : Message) (v : Verdict) (S' : SessionSeen) → StepOut S m v S' → (ask : Ask) → IsOpenAsk S ask → IsOpenAsk S' ask
out-open S (message.Request other) verdict.Noted S' h ask was =
    ap (λ U. set.contains U.asks ask) h ∙ set.contains-insert ask_total S.asks other ask ∙ ap (λ b. eq_by_cmp ask_cmp ask other || b) was
    ∙ or-true (eq_by_cmp ask_cmp ask other)
out-open S (message.Request other) (verdict.HashRefused NoMemory) S' h ask was = same_open S S' ask (ap (λ U. U.asks) h.1) was
out-open S (message.Request other) v S' h ask was = absurd h
out-open S m verdict.Sent S' h ask was = same_open S S' ask (ap (λ U. U.asks) h) was
out-open S m v S' h ask was = absurd h

pub noted-open : (S : SessionSeen) (x : Directed Message) (v : Verdict) (S' : SessionSeen) → NotedStep S x v S' → KeepsOpen S S'
noted-open S (In, m) v S' h = in-open S m v S' h
noted-open S (Out, m) v S' h = λ ask was. inl (out-open S m v S' h ask was)

-- ---- all of it

pub safe_noted_step : (S : SessionSeen) → HasClosedTrees S → HasDistinctRoots S → (x : Directed Message) (v : Verdict) (S' : SessionSeen) → NotedStep S x v S'
    → IsSafeNotedStep S x v S'
safe_noted_step S closed_trees distinct x v S' step = record {
  allowed = step;
  known_stays = noted-keeps S x v S' step;
  is_safe = λ m is awaited.
      safe_step S closed_trees distinct m v (asking S.asks S') (awaited-step S m v S' (subst (λ (y : Directed Message). NotedStep S y v S') is step) awaited);
  opens_only_ours = noted-opens S x v S' step;
  keeps_open = noted-open S x v S' step;
}
