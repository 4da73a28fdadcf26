-- Things that are told one after the other.
use Rattle.std.proofs.Common.{◌≡◌, ◌+◌, ◌++◌, ◌||◌, ℕ, suc, Bool, true, false, List, [], ◌∷◌, length, Result, Ok, Err}
use Rattle.std.proofs.Common.{refl, sym, ap, ◌∙◌, subst, arith}
use Rattle.std.specs.List.{list_any}
use Rattle.std.proofs.lemmas.Grind.{flat_map-append}
use Rattle.std.proofs.lemmas.List.{length-append}
use Rattle.std.proofs.lemmas.List.Folds.{list_any-append}
use Rattle.std.proofs.Math.Bool.{or-false}
use Rattle.benc.specs.Device.{SinkSeen, Sent, Broke}
use Rattle.benc.proofs.Known.{Appends_nothing}
use Rattle.benc.proofs.Out.{Sent-append, Broke-append}
use Rattle.session.specs.Blocks.{BlocksSeen}
use Rattle.session.specs.Session.{SessionSeen}
use Rattle.holdings.specs.declared.piece_range.Pieces.{Pieces}
use Rattle.holdings.specs.Holdings.{HoldingsSeen}
use Rattle.holdings.specs.Next.{AreUnsettled}
use Rattle.replays.specs.declared.report.Outcome.{Outcome}
use Rattle.replays.specs.declared.said.Said.{Said}
use Rattle.lines.specs.Rows.{Spelling}
use Rattle.replays.specs.ReplayRows.{all_lines_as, said_lines_as}
use Rattle.replays.specs.SaidLines.{said_refuses, said_lacks}
use Rattle.replays.specs.Held.{AreSaidOf, AreSettled, IsSaidOf, IsSettled, Work, work}
use Rattle.replays.specs.ByPieces.{SaysAll, SaysEntries, SaysSettled, by_pieces_as}
use Rattle.replays.specs.TellingOf.{IsOutcomeAfter}

-- ---- what goes out, and what it amounts to

or_apart : (x y z : Bool) → ((x || y) || z) ≡ (x || (y || z))
or_apart true y z = refl
or_apart false y z = refl

pub none-sent : (spelled : Spelling) (n : ℕ) (a : SinkSeen) → Sent a a (all_lines_as spelled n [])
none-sent spelled n a = record { bytes = Appends_nothing a.written; faults = refl; flushes = refl }

pub none-noted : (spelled : Spelling) (o : Outcome) → IsOutcomeAfter (by_pieces_as spelled) o [] o
none-noted spelled o = record { refused = sym (or-false o.refused); no_memory = sym (or-false o.no_memory); fault = refl }

noted-then : (spelled : Spelling) (ss ts : List Said) (o p q : Outcome) → IsOutcomeAfter (by_pieces_as spelled) o ss p
    → IsOutcomeAfter (by_pieces_as spelled) p ts q
    → IsOutcomeAfter (by_pieces_as spelled) o (ss ++ ts) q
noted-then spelled ss ts o p q first next = record {
  refused = next.refused ∙ ap (λ b. b || list_any said_refuses ts) first.refused
      ∙ or_apart o.refused (list_any said_refuses ss) (list_any said_refuses ts)
      ∙ ap (λ b. o.refused || b) (sym (list_any-append said_refuses ss ts));
  no_memory = next.no_memory ∙ ap (λ b. b || list_any said_lacks ts) first.no_memory
      ∙ or_apart o.no_memory (list_any said_lacks ss) (list_any said_lacks ts)
      ∙ ap (λ b. o.no_memory || b) (sym (list_any-append said_lacks ss ts));
  fault = next.fault ∙ first.fault;
}

-- some, and then more, which may break off
pub says-then : {A E : Type 0} (spelled : Spelling) (n : ℕ) (ss ts : List Said) (a b c : SinkSeen) (o p q : Outcome) (r : Result A E)
    → Sent a b (all_lines_as spelled n ss)
    → IsOutcomeAfter (by_pieces_as spelled) o ss p → SaysAll spelled n ts b c p q r → SaysAll spelled n (ss ++ ts) a c o q r
says-then spelled n ss ts a b c o p q (Ok u) sent noted (more, then) = (
  subst (Sent a c) (sym (flat_map-append (said_lines_as spelled n) ss ts))
      (Sent-append a b c (all_lines_as spelled n ss) (all_lines_as spelled n ts) sent more),
  noted-then spelled ss ts o p q noted then,
)
says-then spelled n ss ts a b c o p q (Err e) sent noted broke =
    subst (Broke a c) (sym (flat_map-append (said_lines_as spelled n) ss ts))
    (Broke-append a b c (all_lines_as spelled n ss) (all_lines_as spelled n ts) sent broke)

-- ---- the entries of a message

-- one more entry
pub said-more : (S : SessionSeen) (v : BlocksSeen) (bytes : List ℕ) (n m : ℕ) (k : HoldingsSeen) (ss : List Said) (mid : HoldingsSeen) (s : Said)
    (k' : HoldingsSeen) → AreSaidOf S v bytes n m k ss mid → IsSaidOf S v bytes n (m + length ss) mid s k'
    → AreSaidOf S v bytes n m k (ss ++ s ∷ []) k'
unfolding AreSaidOf
said-more S v bytes n m k [] mid s k' here next =
    let same : m + 0 ≡ m = omega arith in
    (k', subst (λ x. IsSaidOf S v bytes n m x s k') here (subst (λ i. IsSaidOf S v bytes n i mid s k') same next), refl)
said-more S v bytes n m k (x ∷ ss) mid s k' (after, first, rest) next =
    let same : m + suc (length ss) ≡ m + 1 + length ss = omega arith in
    (after, first, said-more S v bytes n (m + 1) after ss mid s k' rest (subst (λ i. IsSaidOf S v bytes n i mid s k') same next))

pub said-none : (S : SessionSeen) (v : BlocksSeen) (bytes : List ℕ) (n m : ℕ) (k : HoldingsSeen) → AreSaidOf S v bytes n m k [] k
unfolding AreSaidOf
said-none S v bytes n m k = refl

-- entries of a message that were told so far
pub record InEntries (S : SessionSeen) (v : BlocksSeen) (bytes : List ℕ) (n : ℕ) (k k' : HoldingsSeen) (spelled : Spelling) (number count : ℕ)
    (a b : SinkSeen) (o p : Outcome) : Type 0 where
  pub told : List Said
  pub count_is : length told ≡ count
  pub held : AreSaidOf S v bytes n 0 k told k'
  pub sent : Sent a b (all_lines_as spelled number told)
  pub noted : IsOutcomeAfter (by_pieces_as spelled) o told p

module _ (S : SessionSeen) (v : BlocksSeen) (bytes : List ℕ) (n : ℕ) (k mid k' : HoldingsSeen) (spelled : Spelling) (number count : ℕ) (a b c : SinkSeen)
    (o p q : Outcome) (s : Said) (so_far : InEntries S v bytes n k mid spelled number count a b o p) (next : IsSaidOf S v bytes n count mid s k') where
  held-more : AreSaidOf S v bytes n 0 k (so_far.told ++ s ∷ []) k'
  held-more =
      let same : count ≡ 0 + length so_far.told = omega (arith, so_far.count_is) in
      said-more S v bytes n 0 k so_far.told mid s k' so_far.held (subst (λ i. IsSaidOf S v bytes n i mid s k') same next)

  pub entries-more : (u : Unit {0}) → SaysAll {A = Unit {0}} {E = ⊥} spelled number (s ∷ []) b c p q (Ok u)
      → InEntries S v bytes n k k' spelled number (count + 1) a c o q
  entries-more u says =
      let all = says-then {A = Unit {0}} {E = ⊥} spelled number so_far.told (s ∷ []) a b c o p q (Ok u) so_far.sent so_far.noted says in
      record {
        told = so_far.told ++ s ∷ [];
        count_is = omega (arith, length-append so_far.told (s ∷ []), so_far.count_is);
        held = held-more;
        sent = all.0;
        noted = all.1;
      }

  pub entries-broke : {A E : Type 0} (e : E) → SaysAll {A = A} {E = E} spelled number (s ∷ []) b c p q (Err e)
      → SaysEntries {A = A} {E = E} S v bytes n k k' spelled number a c o q (Err e)
  entries-broke {A} {E} e says = record {
    entries = so_far.told ++ s ∷ [];
    held = held-more;
    says = says-then {A = A} {E = E} spelled number so_far.told (s ∷ []) a b c o p q (Err e) so_far.sent so_far.noted says;
    all = tt;
  }

-- ---- settlings

-- one more settling
pub settled-more : (file : ℕ) (w : Work) (ss : List Said) (mid : Work) (s : Said) (w' : Work) → AreSettled file w ss mid → IsSettled file mid s w'
    → AreSettled file w (ss ++ s ∷ []) w'
unfolding AreSettled
settled-more file w [] mid s w' here next = (w', subst (λ x. IsSettled file x s w') here next, refl)
settled-more file w (x ∷ ss) mid s w' (after, first, rest) next = (after, first, settled-more file after ss mid s w' rest next)

pub settled-none : (file : ℕ) (w : Work) → AreSettled file w [] w
unfolding AreSettled
settled-none file w = refl

-- settlings that were told so far
pub record InSettling (file : ℕ) (w w' : Work) (spelled : Spelling) (number : ℕ) (a b : SinkSeen) (o p : Outcome) : Type 0 where
  pub told : List Said
  pub settled : AreSettled file w told w'
  pub sent : Sent a b (all_lines_as spelled number told)
  pub noted : IsOutcomeAfter (by_pieces_as spelled) o told p

module _ (file : ℕ) (S : SessionSeen) (k : HoldingsSeen) (from : Pieces) (mid w' : Work) (spelled : Spelling) (number : ℕ) (a b c : SinkSeen)
    (o p q : Outcome) (s : Said) (so_far : InSettling file (work S k from) mid spelled number a b o p) (next : IsSettled file mid s w') where
  pub settling-more : (u : Unit {0}) → SaysAll {A = Unit {0}} {E = ⊥} spelled number (s ∷ []) b c p q (Ok u)
      → InSettling file (work S k from) w' spelled number a c o q
  settling-more u says =
      let all = says-then {A = Unit {0}} {E = ⊥} spelled number so_far.told (s ∷ []) a b c o p q (Ok u) so_far.sent so_far.noted says in
      record {
        told = so_far.told ++ s ∷ [];
        settled = settled-more file (work S k from) so_far.told mid s w' so_far.settled next;
        sent = all.0;
        noted = all.1;
      }

  pub settling-broke : {A E : Type 0} (e : E) → SaysAll {A = A} {E = E} spelled number (s ∷ []) b c p q (Err e)
      → SaysSettled {A = A} {E = E} file S k from w'.session w'.held spelled number a c o q (Err e)
  settling-broke {A} {E} e says = record {
    told = so_far.told ++ s ∷ [];
    settles = record {
      left = w'.pieces;
      settled = settled-more file (work S k from) so_far.told mid s w' so_far.settled next;
      done = tt;
    };
    says = says-then {A = A} {E = E} spelled number so_far.told (s ∷ []) a b c o p q (Err e) so_far.sent so_far.noted says;
  }

-- nothing is left to settle
pub settling-done : {E : Type 0} (file : ℕ) (S : SessionSeen) (k : HoldingsSeen) (from : Pieces) (M : SessionSeen) (h : HoldingsSeen) (left : Pieces)
    (S' : SessionSeen) (k' : HoldingsSeen) (spelled : Spelling) (number : ℕ) (a b : SinkSeen) (o p : Outcome)
    → InSettling file (work S k from) (work M h left) spelled number a b o p → AreUnsettled M h left left.end → S' ≡ M → k' ≡ h
    → SaysSettled {A = Unit {0}} {E = E} file S k from S' k' spelled number a b o p (Ok tt)
settling-done {E} file S k from M h left S' k' spelled number a b o p so_far done same same_held =
    subst (λ T. SaysSettled {A = Unit {0}} {E = E} file S k from T k' spelled number a b o p (Ok tt)) (sym same)
    (subst (λ x. SaysSettled {A = Unit {0}} {E = E} file S k from M x spelled number a b o p (Ok tt)) (sym same_held) (record {
      told = so_far.told;
      settles = record { left = left; settled = so_far.settled; done = done };
      says = (so_far.sent, so_far.noted);
    }))
