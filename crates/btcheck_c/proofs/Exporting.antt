-- How many hashes a session answers with, and what it answers to the ask of an export.
use Rattle.std.proofs.Common.{◌≡◌, ℕ, ◌+◌, ◌≤◌, ◌^◌, List, length, map, Option, Some, None, refl, sym, ap, ◌∙◌, subst, arith}
use Rattle.std.specs.Prelude.{slice_get}
use Rattle.std.specs.List.{range_with_len}
use Rattle.std.proofs.lemmas.List.{length-append}
use Rattle.std.proofs.lemmas.List.FromFn.{length-map-range_with_len}
use Rattle.std.proofs.lemmas.Option.{slice_get-map}
use Rattle.hashtree.specs.Tree.{block_count}
use Rattle.hashtree.proofs.Heights.{height_least}
use Rattle.opening.specs.Description.{Description}
use Rattle.opening.specs.Sound.{IsSound}
use Rattle.node_maps.specs.Digest.{Hash}
use Rattle.node_maps.specs.Known.{look}
use Rattle.node_maps.specs.Places.{tree_height, PartialTree}
use Rattle.partial_tree.specs.Claims.{CanAnswer, answer_of, answer_uncles, cover, above, sibling, hash_or_pad}
use Rattle.partial_tree.specs.declared.answer.Answer.{Answer}
use Rattle.partial_tree.specs.declared.answer.Answer.TheVariants as answer
use Rattle.partial_tree.specs.TreeRoot.{TreeRoot}
use Rattle.session.specs.Layouts.{root_of_entry}
use Rattle.session.specs.SafeStep.{IsAnswerFrom}
use Rattle.session.specs.Session.{SessionSeen, IsAnswered, IsAsked, HasClosedTrees, HasDistinctRoots}
use Rattle.session.proofs.Rounds.{asked-is}
use Rattle.session.proofs.Sessions.{mapped}
use Rattle.wire.specs.declared.message.Ask.{Ask}
use Rattle.session_exports.specs.Exports.{IsRange}
use Rattle.c_layouts.specs.AnswerFrames.{FitsFrame}
use Rattle.btcheck_c.specs.Taken.{AnswerGiven}

low_height : (len : ℕ) → len ≤ 2 ^ 46 → tree_height len ≤ 32
low_height len bound = height_least (block_count len) 32 (omega arith)

answer_count : (h : ℕ) (K : PartialTree) (ask : Ask) → length (answer_of h K ask) ≡ ask.length + answer_uncles h ask
answer_count h K ask =
    let base : ℕ → Hash = λ j. hash_or_pad K ask.base (ask.index + j) in
    let uncle : ℕ → Hash = λ j. hash_or_pad K (cover ask + j) (sibling (above ask (cover ask + j))) in
    length-append (map base (range_with_len 0 ask.length)) (map uncle (range_with_len 0 (answer_uncles h ask)))
    ∙ ap (λ n. n + length (map uncle (range_with_len 0 (answer_uncles h ask)))) (length-map-range_with_len base 0 ask.length)
    ∙ ap (λ n. ask.length + n) (length-map-range_with_len uncle 0 (answer_uncles h ask))

-- the tree of an ask is no higher than the longest file's
asked-low : (S : SessionSeen) (ask : Ask) → IsSound S.torrent → (asked : IsAsked S ask) → tree_height asked.tree.length ≤ 32
asked-low S ask sound asked =
    let e = mapped root_of_entry (slice_get S.torrent.trees asked.number) asked.tree (sym (slice_get-map root_of_entry S.torrent.trees asked.number)
    ∙ asked.is_tree.tree_is) in
    let bound = (sound.trees asked.number e.0 e.1).bound in subst (λ (t : TreeRoot). tree_height t.length ≤ 32) e.2 (low_height e.0.length bound)

-- an answer fits a frame
pub answer-fits : (S : SessionSeen) (ask : Ask) (given : Option Answer) → IsSound S.torrent → AnswerGiven S ask given → FitsFrame given
answer-fits S ask (Some (answer.Hashes hashes)) sound (asked, (can, is)) =
    let low = asked-low S ask sound asked in
    let size : length hashes.items ≡ ask.length + answer_uncles (tree_height asked.tree.length) ask =
    ap length is ∙ answer_count (tree_height asked.tree.length) (look asked.state.known) ask in
    omega (arith, size, low, can.range.most)
answer-fits S ask (Some answer.Reject) sound is = tt
answer-fits S ask None sound is = tt

-- the hashes with which the tree of the ask answers
abbrev pub IsTreeHashes : SessionSeen → Ask → List Hash → Type 0
IsTreeHashes S ask hashes = (a : IsAsked S ask) × (CanAnswer (tree_height a.tree.length) (look a.state.known) ask
    × (hashes ≡ answer_of (tree_height a.tree.length) (look a.state.known) ask))

-- what a session answers for a range of leaves is an answer with enough proof, of few hashes
pub record IsFewFrom (S : SessionSeen) (ask : Ask) (hashes : List Hash) : Type 0 where
  pub from : IsAnswerFrom S.torrent S ask hashes
  pub few : length hashes ≤ 544

pub range-answered : (S : SessionSeen) (n b : ℕ) (ask : Ask) (hashes : List Hash) → IsSound S.torrent → HasClosedTrees S → HasDistinctRoots S
    → IsRange S n b ask → (given : IsTreeHashes S ask hashes) → IsFewFrom S ask hashes
range-answered S n b ask hashes sound closed distinct range (asked, (can, is)) =
    let r = range.asked in
    let same = asked-is S ask r.number r.tree r.state distinct r.is_tree r.has_root asked in
    let enough : tree_height asked.tree.length ≡ tree_height r.tree.length = ap (λ (t : TreeRoot). tree_height t.length) same.1 in
    let low = asked-low S ask sound asked in
    let size : length hashes ≡ ask.length + answer_uncles (tree_height asked.tree.length) ask =
    ap length is ∙ answer_count (tree_height asked.tree.length) (look asked.state.known) ask in record {
      from = record {
        same = refl;
        closed = closed;
        asked = asked;
        can = can;
        enough = omega (arith, range.proof_is, range.leaves, enough);
        hashes_are = is;
      };
      few = omega (arith, size, low, range.most);
    }

-- the same, of the session as it stands after a call that left it
pub export-answered : (S S' : SessionSeen) (d : Description) (n b : ℕ) (ask : Ask) (hashes given : List Hash) → S' ≡ S → d ≡ S.torrent → IsSound d
    → HasClosedTrees S → HasDistinctRoots S → IsRange S n b ask → given ≡ hashes → IsTreeHashes S' ask hashes → IsFewFrom S ask given
export-answered S S' d n b ask hashes given same of sound closed distinct range is answered =
    range-answered S n b ask given (subst IsSound of sound) closed distinct range
    (subst (IsTreeHashes S ask) (sym is) (subst (λ (s : SessionSeen). IsTreeHashes s ask hashes) same answered))

-- the ask of an export can be answered
pub range-can : (S S' : SessionSeen) (n b : ℕ) (ask : Ask) → S' ≡ S → IsRange S n b ask → IsAnswered S' ask
range-can S S' n b ask same range = subst (λ (s : SessionSeen). IsAnswered s ask) (sym same) (range.asked, range.can)
