-- Stretches of pieces as they come, wait and pass through the lanes.
use Rattle.std.proofs.Common.{◌≡◌, ◌≢◌, ℕ, zero, suc, ◌+◌, ◌-◌, ◌*◌, ◌<◌, ◌≤◌, min, List, []}
use Rattle.std.proofs.Common.{◌++◌, length, take, drop, sym, ap, ◌∙◌, subst, arith, inl, inr}
use Rattle.std.proofs.Math.Nat.{mul-le-mul_left}
use Rattle.std.proofs.Math.Seq.{take-add}
use Rattle.std.proofs.lemmas.Bool.{cases_eq}
use Rattle.std.proofs.lemmas.List.{length-append, drop-append-le, take-append-le, length-drop, length-take-le, drop-drop, drop_all}
use Rattle.sha1.specs.Sha1.{sha1}
use Rattle.sha1_lanes.specs.Relays.{HasPassed}
use Rattle.sha1_lanes.specs.declared.relay.Relay.{Relay}
use Rattle.lanes.specs.declared.words.TheConstants.{LANES}
use Rattle.pieces.specs.Cuts.{cut}
use Rattle.pieces.specs.Slot.{slot_of}
use Rattle.pieces.specs.Staged.{IsPassing, StandsInSlots}
use Rattle.pieces.specs.declared.slots.TheConstants.{SLOTS}
use Rattle.pieces.proofs.Cutting.{cut_append, cut_ends, last_cut}
use Rattle.pieces.proofs.Slot.{own_differ, slot_again, slot_within, slots_differ}

-- ---- stretches of a content

-- a part stays as it is
part_append : (at n : ℕ) (content more : List ℕ) → at + n ≤ length content → take n (drop at (content ++ more)) ≡ take n (drop at content)
part_append at n content more h =
    ap (take n) (drop-append-le at content more (omega (arith, h)))
    ∙ take-append-le n (drop at content) more (omega (arith, h, length-drop at content))

-- some stretches of a piece, and the next one
pub begun_next : (size piece j : ℕ) (content : List ℕ)
    → take (size * j) (drop (size * (LANES * piece)) content) ++ cut size content (LANES * piece + j)
    ≡ take (size * suc j) (drop (size * (LANES * piece)) content)
begun_next size piece j content =
    let from = size * (LANES * piece) in
    let at : size * (LANES * piece + j) ≡ from + size * j = omega arith in
    let whole : size * suc j ≡ size * j + size = omega arith in
    ap (λ k. take (size * j) (drop from content) ++ take size (drop k content)) at
    ∙ ap (λ t. take (size * j) (drop from content) ++ take size t) (sym (drop-drop (size * j) from content))
    ∙ sym (take-add (size * j) size (drop from content))
    ∙ ap (λ k. take k (drop from content)) (sym whole)

-- ---- more bytes come

-- what came is what is waited for, once more bytes of the running stretch are in its slot
pub passing_more : (relay : Relay) (old new : ℕ → List ℕ) (size piece stretch : ℕ) (content more : List ℕ) → stretch < LANES
    → ((other : ℕ) → other < SLOTS → other ≢ slot_of piece stretch → new other ≡ old other)
    → IsPassing relay old size (piece + min stretch 1) (LANES * piece + stretch) content
    → IsPassing relay new size (piece + min stretch 1) (LANES * piece + stretch) (content ++ more)
passing_more relay old new size piece stretch content more bound others passing = record {
  within = omega (arith, passing.within, length-append content more);
  begins = passing.begins;
  taken = λ k j less at came.
      let ends : size * (LANES * k + j) ≤ size * (LANES * piece + stretch) = mul-le-mul_left size came in
      subst (HasPassed relay j)
      (sym (part_append (size * (LANES * k)) (size * j) content more (omega (arith, ends, passing.within))))
      (passing.taken k j less at came);
  waiting = λ k i less waits came.
      others (slot_of k i) (slot_within k i less) (slots_differ k i piece stretch less bound waits came)
      ∙ passing.waiting k i less waits came
      ∙ sym (cut_append size content more (LANES * k + i) (omega (arith, cut_ends size (LANES * k + i) (LANES * piece + stretch) came, passing.within)));
}

-- more bytes of the running stretch are in its slot
pub stands_more : (old new : ℕ → List ℕ) (size piece stretch filled : ℕ) (content more : List ℕ) → stretch < LANES
    → ((other : ℕ) → other < SLOTS → other ≢ slot_of piece stretch → new other ≡ old other)
    → take (filled + length more) (new (slot_of piece stretch)) ≡ take filled (old (slot_of piece stretch)) ++ more
    → StandsInSlots old size piece stretch filled content
    → StandsInSlots new size piece stretch (filled + length more) (content ++ more)
stands_more old new size piece stretch filled content more bound others front stands = record {
  length_is = omega (arith, stands.length_is, length-append content more);
  before = λ i less.
      others (slot_of piece i) (slot_within piece i (omega (arith, less, bound))) (own_differ piece i stretch less bound)
      ∙ stands.before i less
      ∙ sym (cut_append size content more (LANES * piece + i)
      (omega (arith, cut_ends size (LANES * piece + i) (LANES * piece + stretch) (omega (arith, less)), stands.length_is)));
  running = front ∙ ap (λ t. t ++ more) stands.running
      ∙ sym (drop-append-le (size * (LANES * piece + stretch)) content more (omega (arith, stands.length_is)));
}

-- ---- a stretch is whole

-- its slot holds it
pub slot_whole : (slots : ℕ → List ℕ) (size piece stretch : ℕ) (content : List ℕ) → ((slot : ℕ) → take size (slots slot) ≡ slots slot)
    → StandsInSlots slots size piece stretch size content → slots (slot_of piece stretch) ≡ cut size content (LANES * piece + stretch)
slot_whole slots size piece stretch content all stands =
    sym (all (slot_of piece stretch)) ∙ stands.running ∙ sym (last_cut size content (LANES * piece + stretch) (omega (arith, stands.length_is)))

-- so it waits as well
pub passing_whole : (relay : Relay) (slots : ℕ → List ℕ) (size piece stretch : ℕ) (content : List ℕ) → stretch < LANES
    → length content ≡ size * (LANES * piece + stretch) + size
    → slots (slot_of piece stretch) ≡ cut size content (LANES * piece + stretch)
    → IsPassing relay slots size (piece + min stretch 1) (LANES * piece + stretch) content
    → IsPassing relay slots size (piece + min stretch 1) (LANES * piece + stretch + 1) content
passing_whole relay slots size piece stretch content bound count slot passing = record {
  within = omega (arith, count);
  begins = passing.begins;
  taken = λ k j less at came. elim (cases_eq j 0) [
    | inl first ↦
        subst (λ n. HasPassed relay n (take (size * n) (drop (size * (LANES * k)) content))) (sym first)
        (let none : size * 0 ≡ 0 = omega arith in
        subst (λ n. HasPassed relay 0 (take n (drop (size * (LANES * k)) content))) (sym none) passing.begins)
    | inr later ↦ passing.taken k j less at (omega (arith, at, came, later, bound, less))
  ];
  waiting = λ k i less waits came. elim (cases_eq (LANES * k + i) (LANES * piece + stretch)) [
    | inl here ↦
        let same_piece : k ≡ piece = omega (arith, here, less, bound) in
        let same_stretch : i ≡ stretch = omega (arith, here, less, bound) in
        ap (λ n. slots (slot_of n i)) same_piece ∙ ap (λ n. slots (slot_of piece n)) same_stretch ∙ slot ∙ ap (cut size content) (sym here)
    | inr other ↦ passing.waiting k i less waits (omega (arith, came, other))
  ];
}

-- the next stretch begins
pub passing_next : (relay : Relay) (slots : ℕ → List ℕ) (size step whole step' whole' : ℕ) (content : List ℕ) → step ≡ step' → whole ≡ whole'
    → IsPassing relay slots size step whole content → IsPassing relay slots size step' whole' content
passing_next relay slots size step whole step' whole' content same_step same_whole passing =
    subst (λ n. IsPassing relay slots size n whole' content) same_step (subst (λ n. IsPassing relay slots size step n content) same_whole passing)

pub stands_next : (slots : ℕ → List ℕ) (size piece stretch piece' stretch' : ℕ) (content : List ℕ) → stretch < LANES → stretch' < LANES
    → LANES * piece' + stretch' ≡ LANES * piece + stretch + 1
    → slots (slot_of piece stretch) ≡ cut size content (LANES * piece + stretch)
    → StandsInSlots slots size piece stretch size content
    → StandsInSlots slots size piece' stretch' 0 content
stands_next slots size piece stretch piece' stretch' content bound bound' next slot stands =
    let place : size * (LANES * piece' + stretch') ≡ size * (LANES * piece + stretch) + size = ap (λ n. size * n) next ∙ omega arith in
    record {
      length_is = omega (arith, place, stands.length_is);
      before = λ i less.
          let same : piece' ≡ piece = omega (arith, less, bound, bound', next) in
          let own : slots (slot_of piece i) ≡ cut size content (LANES * piece + i) = elim (cases_eq i stretch) [
            | inl here ↦ ap (λ n. slots (slot_of piece n)) here ∙ slot ∙ ap (λ n. cut size content (LANES * piece + n)) (sym here)
            | inr other ↦ stands.before i (omega (arith, less, bound, bound', next, other))
          ] in
          ap (λ n. slots (slot_of n i)) same ∙ own ∙ ap (λ n. cut size content (LANES * n + i)) (sym same);
      running = sym (drop_all (size * (LANES * piece' + stretch')) content (omega (arith, place, stands.length_is)));
    }

-- ---- a step

pub passing_step : (old new : Relay) (slots : ℕ → List ℕ) (size step : ℕ)
    → ((j : ℕ) → suc j < LANES → (m : List ℕ) → HasPassed old j m → HasPassed new (suc j) (m ++ slots (slot_of step j)))
    → HasPassed new 0 [] → (whole : ℕ) (content : List ℕ) → IsPassing old slots size step whole content → IsPassing new slots size (step + 1) whole content
passing_step old new slots size step passes begins whole content passing = record {
  within = passing.within;
  begins = begins;
  taken = taken_next;
  waiting = λ k i less waits came. passing.waiting k i less (omega (arith, waits)) came;
}
  where
    next_of : (k j : ℕ) → j < LANES → k + j ≡ step → LANES * k + j < whole
        → take (size * j) (drop (size * (LANES * k)) content) ++ slots (slot_of step j) ≡ take (size * suc j) (drop (size * (LANES * k)) content)
    next_of k j less at came =
        ap (λ n. take (size * j) (drop (size * (LANES * k)) content) ++ slots n) (ap (λ n. slot_of n j) (sym at) ∙ slot_again k j)
        ∙ ap (λ t. take (size * j) (drop (size * (LANES * k)) content) ++ t) (passing.waiting k j less (omega (arith, at)) came)
        ∙ begun_next size k j content

    taken_next : (k j : ℕ) → j < LANES → k + j ≡ step + 1 → LANES * k + j ≤ whole
        → HasPassed new j (take (size * j) (drop (size * (LANES * k)) content))
    taken_next k zero less at came =
        let none : size * 0 ≡ 0 = omega arith in
        subst (λ n. HasPassed new 0 (take n (drop (size * (LANES * k)) content))) (sym none) begins
    taken_next k (suc j) less at came =
        let before : k + j ≡ step = omega (arith, at) in
        subst (HasPassed new (suc j)) (next_of k j (omega (arith, less)) before (omega (arith, came)))
        (passes j less (take (size * j) (drop (size * (LANES * k)) content)) (passing.taken k j (omega (arith, less)) before (omega (arith, came))))

-- the piece that was in the last lane has its digest
pub digest_told : (relay : Relay) (slots : ℕ → List ℕ) (size step whole : ℕ) (content digest : List ℕ)
    → ((m : List ℕ) → HasPassed relay (LANES - 1) m → length m ≡ (LANES - 1) * size → digest ≡ sha1 (m ++ slots (slot_of step (LANES - 1))))
    → LANES ≤ step + 1 → LANES * (step - (LANES - 1)) + LANES ≤ whole → IsPassing relay slots size step whole content
    → digest ≡ sha1 (cut (LANES * size) content (step - (LANES - 1)))
digest_told relay slots size step whole content digest is late came passing =
    let k : ℕ = step - (LANES - 1) in
    let from : ℕ = size * (LANES * k) in
    let at : k + 7 ≡ step = omega (arith, late) in
    let inside : size * (LANES * k + LANES) ≤ size * whole = mul-le-mul_left size came in
    let long : length (take (size * 7) (drop from content)) ≡ (LANES - 1) * size =
    length-take-le (size * 7) (drop from content) (omega (arith, inside, passing.within, length-drop from content)) ∙ omega arith in
    let piece_at : LANES * size * k ≡ from = omega arith in
    let piece_long : LANES * size ≡ size * 8 = omega arith in
    is (take (size * 7) (drop from content)) (passing.taken k 7 (omega arith) at (omega (arith, came))) long
    ∙ ap (λ n. sha1 (take (size * 7) (drop from content) ++ slots n)) (ap (λ n. slot_of n 7) (sym at) ∙ slot_again k 7)
    ∙ ap (λ t. sha1 (take (size * 7) (drop from content) ++ t)) (passing.waiting k 7 (omega arith) (omega (arith, at)) (omega (arith, came)))
    ∙ ap sha1 (begun_next size k 7 content)
    ∙ ap (λ n. sha1 (take n (drop from content))) (sym piece_long)
    ∙ ap (λ n. sha1 (take (LANES * size) (drop n content))) (sym piece_at)
