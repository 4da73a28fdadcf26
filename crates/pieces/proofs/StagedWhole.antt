-- The stages as a whole: what came, what is told, and what is left.
use Rattle.std.proofs.Common.{◌≡◌, ℕ, ◌+◌, ◌*◌, List}
use Rattle.std.proofs.Common.{◌++◌, length, take, drop, Option, None, sym, ap, ◌∙◌, subst, arith}
use Rattle.std.proofs.lemmas.Option.{none-some}
use Rattle.std.proofs.lemmas.List.{take-take}
use Rattle.sha1.specs.Sha1.{sha1}
use Rattle.sha1_lanes.specs.declared.relay.Relay.{Relay}
use Rattle.lanes.specs.declared.words.TheConstants.{LANES}
use Rattle.pieces.specs.Cuts.{cut}
use Rattle.pieces.specs.Slot.{slot_of}
use Rattle.pieces.specs.Staged.{ClosesStretch, CountsTold, DoesStep, IsDraining, IsPassing, IsStaged, IsStagedTo, StandsInSlots, TakesStretch, steps_made}
use Rattle.pieces.specs.Staged.{told_before}
use Rattle.pieces.specs.Stored.{PutsMore, slot_bytes}
use Rattle.pieces.specs.declared.stages.Stages.{Stages}
use Rattle.pieces.specs.declared.store.Store.{Store}
use Rattle.pieces.proofs.Staged.{passing_more, stands_more, slot_whole, passing_whole, passing_next, stands_next}

-- a slot has as many bytes as a stretch
pub slot_long : (s : Store) (slot : ℕ) → take s.size (slot_bytes s slot) ≡ slot_bytes s slot
slot_long s slot = take-take s.size s.size (drop (slot * s.size) s.bytes.items) (omega arith)

-- the place in a stretch, by its size
same_place : (f g : Stages) → g.piece ≡ f.piece → g.stretch ≡ f.stretch → g.store.size ≡ f.store.size → (n m : ℕ) → m ≡ n
    → g.store.size * (LANES * g.piece + g.stretch) + m ≡ f.store.size * (LANES * f.piece + f.stretch) + n
same_place f g piece stretch size n m same =
    ap (λ k. k * (LANES * g.piece + g.stretch) + m) size ∙ ap (λ k. f.store.size * (LANES * k + g.stretch) + m) piece
    ∙ ap (λ k. f.store.size * (LANES * f.piece + k) + m) stretch ∙ ap (λ k. f.store.size * (LANES * f.piece + f.stretch) + k) same

-- some bytes of the running stretch were put into its slot
pub staged_more : (f g : Stages) (filled piece_length : ℕ) (content more : List ℕ) → g.relay ≡ f.relay → g.piece ≡ f.piece → g.stretch ≡ f.stretch
    → PutsMore f.store g.store (slot_of f.piece f.stretch) f.filled more → filled ≡ f.filled + length more
    → IsStaged f piece_length content → IsStagedTo filled g piece_length (content ++ more)
staged_more f g filled piece_length content more relay piece stretch puts count staged =
    let size : f.store.size ≡ g.store.size = sym puts.size in
    let stands : StandsInSlots (slot_bytes g.store) f.store.size f.piece f.stretch (f.filled + length more) (content ++ more) =
    stands_more (slot_bytes f.store) (slot_bytes g.store) f.store.size f.piece f.stretch f.filled content more f.in_piece puts.others
    puts.front staged.stands in
    let passing : IsPassing f.relay (slot_bytes g.store) f.store.size (steps_made f) (LANES * f.piece + f.stretch) (content ++ more) =
    passing_more f.relay (slot_bytes f.store) (slot_bytes g.store) f.store.size f.piece f.stretch content more f.in_piece puts.others staged.passing in
    record {
      piece_length_is = staged.piece_length_is ∙ ap (λ n. LANES * n) size;
      stands = subst (λ n. StandsInSlots (slot_bytes g.store) n g.piece g.stretch filled (content ++ more)) size
          (subst (λ n. StandsInSlots (slot_bytes g.store) f.store.size n g.stretch filled (content ++ more)) (sym piece)
          (subst (λ n. StandsInSlots (slot_bytes g.store) f.store.size f.piece n filled (content ++ more)) (sym stretch)
          (subst (λ n. StandsInSlots (slot_bytes g.store) f.store.size f.piece f.stretch n (content ++ more)) (sym count) stands)));
      passing = subst (λ n. IsPassing g.relay (slot_bytes g.store) n (steps_made g) (LANES * g.piece + g.stretch) (content ++ more)) size
          (subst (λ (r : Relay). IsPassing r (slot_bytes g.store) f.store.size (steps_made g) (LANES * g.piece + g.stretch) (content ++ more)) (sym relay)
          (passing_next f.relay (slot_bytes g.store) f.store.size (steps_made f) (LANES * f.piece + f.stretch) (steps_made g)
          (LANES * g.piece + g.stretch) (content ++ more)
          (omega (arith, piece, stretch)) (omega (arith, piece, stretch)) passing));
    }

-- a part of a stretch came
pub takes_part : (f g : Stages) (more : List ℕ) → g.relay ≡ f.relay → g.piece ≡ f.piece → g.stretch ≡ f.stretch
    → PutsMore f.store g.store (slot_of f.piece f.stretch) f.filled more → g.filled ≡ f.filled + length more
    → TakesStretch f more None g
takes_part f g more relay piece stretch puts count = record {
  count = same_place f g piece stretch puts.size (f.filled + length more) g.filled count ∙ omega arith;
  counts = record {
    none = λ _. omega (arith, piece, stretch);
    one = λ d is. absurd (none-some d is);
  };
  content = λ n content staged. staged_more f g g.filled n content more relay piece stretch puts count staged;
  digest_is = λ n content staged d is. absurd (none-some d is);
}

-- the last part of a stretch came
pub takes_last : (f g h : Stages) (more : List ℕ) (digest : Option (List ℕ)) → g.relay ≡ f.relay → g.piece ≡ f.piece → g.stretch ≡ f.stretch
    → PutsMore f.store g.store (slot_of f.piece f.stretch) f.filled more → f.store.size ≡ f.filled + length more
    → ClosesStretch g digest h → TakesStretch f more digest h
takes_last f g h more digest relay piece stretch puts all closes =
    let steps : steps_made g ≡ steps_made f = omega (arith, piece, stretch) in
    let whole : g.store.size ≡ f.filled + length more = puts.size ∙ all in
    record {
      count = closes.count ∙ same_place f g piece stretch puts.size (f.filled + length more) g.store.size whole ∙ omega arith;
      counts = subst (λ n. CountsTold digest (told_before n) (told_before (steps_made h))) steps closes.counts;
      content = λ n content staged.
          closes.content n (content ++ more) (staged_more f g g.store.size n content more relay piece stretch puts whole staged);
      digest_is = λ n content staged d is.
          closes.digest_is n (content ++ more) (staged_more f g g.store.size n content more relay piece stretch puts whole staged) d is
          ∙ ap (λ k. sha1 (cut n (content ++ more) (told_before k))) steps;
    }

-- the running stretch is whole: its step, if it has one, and the next stretch
pub closes : (f g h : Stages) (digest : Option (List ℕ)) → g.store ≡ f.store → DoesStep f digest g
    → h.store ≡ g.store → h.relay ≡ g.relay → h.filled ≡ 0 → LANES * h.piece + h.stretch ≡ LANES * f.piece + f.stretch + 1 → steps_made h ≡ f.piece + 1
    → ClosesStretch f digest h
closes f g h digest first does second relay empty next steps = record {
  count = ap (λ (s : Store). s.size * (LANES * h.piece + h.stretch) + h.filled) store
      ∙ ap (λ n. f.store.size * n + h.filled) next ∙ omega (arith, empty);
  counts = subst (λ n. CountsTold digest (told_before (steps_made f)) (told_before n)) (sym steps) does.counts;
  content = content_next;
  digest_is = λ n content staged d is.
      does.digest_is (LANES * f.piece + f.stretch + 1) content (whole n content staged) (omega arith) d is
      ∙ ap (λ k. sha1 (cut k content (told_before (steps_made f)))) (sym staged.piece_length_is);
}
  where
    store : h.store ≡ f.store
    store = second ∙ first

    slot : (n : ℕ) (content : List ℕ) → IsStagedTo f.store.size f n content
        → slot_bytes f.store (slot_of f.piece f.stretch) ≡ cut f.store.size content (LANES * f.piece + f.stretch)
    slot n content staged = slot_whole (slot_bytes f.store) f.store.size f.piece f.stretch content (slot_long f.store) staged.stands

    whole : (n : ℕ) (content : List ℕ) → IsStagedTo f.store.size f n content
        → IsPassing f.relay (slot_bytes f.store) f.store.size (steps_made f) (LANES * f.piece + f.stretch + 1) content
    whole n content staged =
        passing_whole f.relay (slot_bytes f.store) f.store.size f.piece f.stretch content f.in_piece staged.stands.length_is
        (slot n content staged) staged.passing

    content_next : (n : ℕ) (content : List ℕ) → IsStagedTo f.store.size f n content → IsStaged h n content
    content_next n content staged =
        let stands : StandsInSlots (slot_bytes f.store) f.store.size h.piece h.stretch h.filled content =
        subst (λ k. StandsInSlots (slot_bytes f.store) f.store.size h.piece h.stretch k content) (sym empty)
        (stands_next (slot_bytes f.store) f.store.size f.piece f.stretch h.piece h.stretch content f.in_piece h.in_piece next
        (slot n content staged) staged.stands) in
        let passing : IsPassing h.relay (slot_bytes f.store) f.store.size (steps_made h) (LANES * h.piece + h.stretch) content =
        subst (λ (r : Relay). IsPassing r (slot_bytes f.store) f.store.size (steps_made h) (LANES * h.piece + h.stretch) content) (sym relay)
        (passing_next g.relay (slot_bytes f.store) f.store.size (f.piece + 1) (LANES * f.piece + f.stretch + 1) (steps_made h)
        (LANES * h.piece + h.stretch) content
        (sym steps) (sym next) (does.passing (LANES * f.piece + f.stretch + 1) content (whole n content staged))) in
        record {
          piece_length_is = staged.piece_length_is ∙ ap (λ (s : Store). LANES * s.size) (sym store);
          stands = subst (λ (s : Store). StandsInSlots (slot_bytes s) s.size h.piece h.stretch h.filled content) (sym store) stands;
          passing = subst (λ (s : Store). IsPassing h.relay (slot_bytes s) s.size (steps_made h) (LANES * h.piece + h.stretch) content)
              (sym store) passing;
        }

-- what came passes on to its end
pub drains : (s : Stages) (piece_length : ℕ) (content : List ℕ) → IsStaged s piece_length content → IsDraining s (steps_made s) piece_length content
drains s piece_length content staged = record {
  piece_length_is = staged.piece_length_is;
  stands = staged.stands;
  passing = record {
    within = omega (arith, staged.stands.length_is);
    begins = staged.passing.begins;
    taken = λ k j less at came. staged.passing.taken k j less at (omega (arith, came));
    waiting = λ k i less waits came. staged.passing.waiting k i less waits (omega (arith, came));
  };
}
