-- What calls told, as one frame.
use Rattle.std.proofs.Common.{◌≡◌, ◌+◌, ◌-◌, ◌%◌, ◌^◌, ◌++◌, ℕ, Bool, true, false, List, [], ◌∷◌, length, Option, Some, None, Result, Ok, Err}
use Rattle.std.proofs.Common.{inl, inr, refl, sym, subst}
use Rattle.std.specs.Prelude.{◌≢◌, is_ok}
use Rattle.std.proofs.lemmas.List.{append-nil}
use Rattle.benc.specs.Device.{SinkSeen, Sent, Broke}
use Rattle.wire.specs.declared.frame.Frame.{Frame}
use Rattle.wire.specs.declared.message.Ask.{Ask}
use Rattle.wire.specs.Records.{Directed}
use Rattle.opening.specs.Trees.{IsTreeWithRoot}
use Rattle.session.specs.Blocks.{BlocksSeen}
use Rattle.session.specs.Pieces.{piece_span}
use Rattle.session.specs.Session.{SessionSeen}
use Rattle.session.specs.declared.verdict.Verdict.{Verdict}
use Rattle.session.specs.declared.verdict.Verdict.TheVariants as verdict
use Rattle.holdings.specs.declared.piece_range.Pieces.{Pieces}
use Rattle.holdings.specs.Holdings.{HoldingsSeen, all_pieces}
use Rattle.replays.specs.declared.report.FrameReport.{FrameReport}
use Rattle.replays.specs.declared.report.FrameReport.TheVariants as frame_report
use Rattle.replays.specs.declared.report.Outcome.{Outcome}
use Rattle.replays.specs.declared.said.Said.{Said}
use Rattle.replays.specs.declared.said.Said.TheVariants as said
use Rattle.lines.specs.Rows.{Spelling}
use Rattle.replays.specs.ReplayRows.{all_lines_as}
use Rattle.replays.specs.Held.{ArePiecesOf, AreSaidOf, IsFirstWith, IsRunOf, SettlesAll, work}
use Rattle.replays.specs.ByPieces.{SaysAll, SaysEntries, SaysHashes, SaysRun, SaysSettled, TellsByPieces, asked_in, by_pieces_as, bytes_in}
use Rattle.replays.specs.TellingOf.{IsOutcomeAfter, TellsFrame}
use Rattle.replays.proofs.SaidAll.{says-then, settled-none}

-- all of a frame was told, or as much as went out
tells-frame : {A E : Type 0} (spelled : Spelling) (n : ℕ) (f : Directed Frame) (d : FrameReport) (S : SessionSeen) (k : HoldingsSeen) (S' : SessionSeen)
    (k' : HoldingsSeen) (a b : SinkSeen) (o p : Outcome) (told : List Said) (r : Result A E)
    → TellsByPieces (is_ok r) f d S k told S' k' → SaysAll spelled n told a b o p r
    → TellsFrame (by_pieces_as spelled) n f d (S, k) (S', k') a b o p r
tells-frame spelled n f d S k S' k' a b o p told (Ok u) tells (sent, noted) = (told, tells, sent, noted)
tells-frame spelled n f d S k S' k' a b o p told (Err e) tells broke = (told, false, tells, broke)

-- ---- a message of blocks

module _ {A E : Type 0} (S : SessionSeen) (v : BlocksSeen) (bytes : List ℕ) (n : ℕ) (run : IsRunOf S v bytes n) (k mid : HoldingsSeen) (spelled : Spelling)
    (number : ℕ)
    (a b : SinkSeen) (o p : Outcome) where
  -- its entries, and then settlings
  pub run-says : (file : ℕ) (pieces : Pieces) (S' : SessionSeen) (k' : HoldingsSeen) (c : SinkSeen) (q : Outcome) (r : Result A E) {B F : Type 0} (u : B)
      → SaysEntries {A = B} {E = F} S v bytes n k mid spelled number a b o p (Ok u) → ArePiecesOf S v n pieces → file ≡ v.file
      → SaysSettled file S mid pieces S' k' spelled number b c p q r → SaysRun S v bytes k S' k' spelled number a c o q r
  run-says file pieces S' k' c q r u first are_pieces same next = record {
    told = first.entries ++ next.told;
    tells = record {
      tree = n;
      run = run;
      entries = first.entries;
      mid = mid;
      held = first.held;
      pieces = pieces;
      are_pieces = are_pieces;
      settled = next.told;
      settles = subst (λ i. SettlesAll (is_ok r) i S mid pieces next.told S' k') same next.settles;
      told_is = refl;
      all = inl first.all;
    };
    says = says-then spelled number first.entries next.told a b c o p q r first.says.0 first.says.1 next.says;
  }

  -- its entries broke off
  pub run-broke : (e : E) → SaysEntries {A = A} {E = E} S v bytes n k mid spelled number a b o p (Err e)
      → SaysRun {A = A} {E = E} S v bytes k S mid spelled number a b o p (Err e)
  run-broke e first =
      let pieces : Pieces = record {
        tree = n;
        from = v.first - v.first % 2 ^ piece_span S.torrent.piece_length run.tree.length;
        end = v.first + length v.refusals;
      } in
      record {
        told = first.entries;
        tells = record {
          tree = n;
          run = run;
          entries = first.entries;
          mid = mid;
          held = first.held;
          pieces = pieces;
          are_pieces = record { tree_is = refl; tree = run.tree; is_tree = run.is_tree; from_is = refl; end_is = refl };
          settled = [];
          settles = record { left = pieces; settled = settled-none v.file (work S mid pieces); done = tt };
          told_is = sym (append-nil first.entries);
          all = inr (refl, refl);
        };
        says = first.says;
      }

module _ {A E : Type 0} (spelled : Spelling) (n : ℕ) (f : Directed Frame) (S : SessionSeen) (k : HoldingsSeen) (a b : SinkSeen) (o p : Outcome)
    (r : Result A E) where
  pub blocks-told : (v v' : BlocksSeen) (bytes : List ℕ) (S' : SessionSeen) (k' : HoldingsSeen) → v' ≡ v → bytes_in f ≡ Some bytes
      → SaysRun S v' bytes k S' k' spelled n a b o p r
      → TellsFrame (by_pieces_as spelled) n f (frame_report.Verdict (verdict.Blocks v)) (S, k) (S', k') a b o p r
  blocks-told v v' bytes S' k' same at says' =
      let says = subst (λ x. SaysRun S x bytes k S' k' spelled n a b o p r) same says' in
      tells-frame spelled n f (frame_report.Verdict (verdict.Blocks v)) S k S' k' a b o p says.told r (inl (bytes, at, says.tells)) says.says

  pub blocks-plain : (v : BlocksSeen) → ((bytes : List ℕ) (t : ℕ) → bytes_in f ≡ Some bytes → ¬ IsRunOf S v bytes t)
      → SaysAll spelled n (said.Report (frame_report.Verdict (verdict.Blocks v)) ∷ []) a b o p r
      → TellsFrame (by_pieces_as spelled) n f (frame_report.Verdict (verdict.Blocks v)) (S, k) (S, k) a b o p r
  blocks-plain v none says =
      tells-frame spelled n f (frame_report.Verdict (verdict.Blocks v)) S k S k a b o p (said.Report (frame_report.Verdict (verdict.Blocks v)) ∷ []) r
      (inr (none, (refl, refl, refl))) says

  -- ---- a message of hashes

  pub hashes-told : (count tree file : ℕ) (pieces : Pieces) (S' : SessionSeen) (k' : HoldingsSeen)
      → (ask : Ask) × (asked_in f ≡ Some ask) × IsTreeWithRoot S.torrent.trees ask.root tree → IsFirstWith S tree file → pieces ≡ all_pieces tree
      → SaysHashes (frame_report.Verdict (verdict.Stored count)) file S k pieces S' k' spelled n a b o p r
      → TellsFrame (by_pieces_as spelled) n f (frame_report.Verdict (verdict.Stored count)) (S, k) (S', k') a b o p r
  hashes-told count tree file pieces S' k' (ask, at, has) is_first same says' =
      let d : FrameReport = frame_report.Verdict (verdict.Stored count) in
      let says = subst (λ x. SaysHashes d file S k x S' k' spelled n a b o p r) same says' in
      tells-frame spelled n f d S k S' k' a b o p (said.Report d ∷ says.settled) r (inl (
        ask,
        at,
        record {
          tree = tree;
          has_root = has;
          file = file;
          is_first = is_first;
          settled = says.settled;
          settles = says.settles;
          told_is = refl;
        },
      )) says.says

  pub hashes-plain : (count : ℕ) → ((ask : Ask) (t : ℕ) → asked_in f ≡ Some ask → ¬ IsTreeWithRoot S.torrent.trees ask.root t)
      → SaysAll spelled n (said.Report (frame_report.Verdict (verdict.Stored count)) ∷ []) a b o p r
      → TellsFrame (by_pieces_as spelled) n f (frame_report.Verdict (verdict.Stored count)) (S, k) (S, k) a b o p r
  hashes-plain count none says =
      tells-frame spelled n f (frame_report.Verdict (verdict.Stored count)) S k S k a b o p (said.Report (frame_report.Verdict (verdict.Stored count)) ∷ []) r
      (inr (none, (refl, refl, refl))) says

-- the report, and then settlings
pub says-hashes : {A E : Type 0} (d : FrameReport) (file : ℕ) (S : SessionSeen) (k : HoldingsSeen) (pieces : Pieces) (S' : SessionSeen) (k' : HoldingsSeen)
    (spelled : Spelling) (n : ℕ) (a b c : SinkSeen) (o p q : Outcome) (r : Result A E) → Sent a b (all_lines_as spelled n (said.Report d ∷ []))
    → IsOutcomeAfter (by_pieces_as spelled) o (said.Report d ∷ []) p
    → SaysSettled file S k pieces S' k' spelled n b c p q r → SaysHashes d file S k pieces S' k' spelled n a c o q r
says-hashes d file S k pieces S' k' spelled n a b c o p q r sent noted next = record {
  settled = next.told;
  settles = next.settles;
  says = says-then spelled n (said.Report d ∷ []) next.told a b c o p q r sent noted next.says;
}

-- the report broke off
pub hashes-broke : {A E : Type 0} (d : FrameReport) (file : ℕ) (S : SessionSeen) (k : HoldingsSeen) (pieces : Pieces) (spelled : Spelling) (n : ℕ)
    (a b : SinkSeen) (o p : Outcome) (e : E) → SaysAll {A = A} {E = E} spelled n (said.Report d ∷ []) a b o p (Err e)
    → SaysHashes {A = A} {E = E} d file S k pieces S k spelled n a b o p (Err e)
hashes-broke d file S k pieces spelled n a b o p e broke = record {
  settled = [];
  settles = record { left = pieces; settled = settled-none file (work S k pieces); done = tt };
  says = broke;
}

-- ---- any other frame

plain-tells : (whole : Bool) (f : Directed Frame) (v : Verdict) (S : SessionSeen) (k : HoldingsSeen) → ((b : BlocksSeen) → v ≡ verdict.Blocks b → ⊥)
    → ((count : ℕ) → v ≡ verdict.Stored count → ⊥)
    → TellsByPieces whole f (frame_report.Verdict v) S k (said.Report (frame_report.Verdict v) ∷ []) S k
plain-tells whole f (verdict.Blocks v) S k blocks stored = absurd (blocks v refl)
plain-tells whole f (verdict.Stored count) S k blocks stored = absurd (stored count refl)
plain-tells whole f v S k blocks stored = (refl, refl, refl)

module _ {A E : Type 0} (spelled : Spelling) (n : ℕ) (f : Directed Frame) (S : SessionSeen) (k : HoldingsSeen) (a b : SinkSeen) (o p : Outcome)
    (r : Result A E) where
  -- a message with another verdict
  pub verdict-told : (v : Verdict) → ((b : BlocksSeen) → v ≡ verdict.Blocks b → ⊥) → ((count : ℕ) → v ≡ verdict.Stored count → ⊥)
      → SaysAll spelled n (said.Report (frame_report.Verdict v) ∷ []) a b o p r
      → TellsFrame (by_pieces_as spelled) n f (frame_report.Verdict v) (S, k) (S, k) a b o p r
  verdict-told v blocks stored says =
      tells-frame spelled n f (frame_report.Verdict v) S k S k a b o p (said.Report (frame_report.Verdict v) ∷ []) r
      (plain-tells (is_ok r) f v S k blocks stored) says

  -- a bad frame
  pub bad-told : (d : FrameReport) (id len : ℕ) → d ≡ frame_report.BadFrame id len → SaysAll spelled n (said.Report d ∷ []) a b o p r
      → TellsFrame (by_pieces_as spelled) n f d (S, k) (S, k) a b o p r
  bad-told d id len is = subst (λ x. SaysAll spelled n (said.Report x ∷ []) a b o p r → TellsFrame (by_pieces_as spelled) n f x (S, k) (S, k) a b o p r)
      (sym is)
      (tells-frame spelled n f (frame_report.BadFrame id len) S k S k a b o p (said.Report (frame_report.BadFrame id len) ∷ []) r (refl, refl, refl))
