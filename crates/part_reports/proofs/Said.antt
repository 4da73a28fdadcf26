-- What a part can say of version 1 pieces and of a file, by a test.
use Rattle.std.proofs.Common.{◌≡◌, ℕ, ◌^◌, ◌<◌, ◌≤◌, Bool, true, false, not, ◌&&◌, ◌+◌, ◌-◌, ◌++◌, IsTrue, List, Option}
use Rattle.std.proofs.Common.{Some, None, is_some, refl, sym, ap, subst, ◌∙◌, arith}
use Rattle.std.proofs.lemmas.Option.{same_Some}
use Rattle.folders.specs.Verdicts.{is_checked, is_good, is_whole, stream_is_good}
use Rattle.folders.specs.declared.report.FileVerdict.{FileVerdict}
use Rattle.folders.specs.declared.report.V1Verdict.{V1Verdict}
use Rattle.folders.specs.declared.report.V1Verdict.TheVariants as version1
use Rattle.opening.specs.Description.{Description}
use Rattle.parts.specs.Parts.{place_count}
use Rattle.parts.specs.declared.places.Places.{Places}
use Rattle.folders.specs.Printed.{version1_rows}
use Rattle.parts.specs.PartLines.{part_answer_row}
use Rattle.lines.specs.Rows.{spell}
use Rattle.lines.specs.Texts.{text_of}
use Rattle.part_reports.specs.Lines.{HasEnd, IsSmallV1, SaysEnd}
use Rattle.part_reports.specs.Reported.{CanSayV1}

-- a test and what it is of follow from each other
abbrev pub Tests : Bool → Type 0 → Type 0
Tests b P = (IsTrue b → P) × (P → IsTrue b)

pub says_one : (r : Places) (pieces : ℕ) (worst : FileVerdict) (v : V1Verdict) → CanSayV1 r pieces v → is_checked v ≡ is_whole worst
    → SaysEnd r pieces worst (Some v)
says_one r pieces worst v can checked u is = subst (λ x. CanSayV1 r pieces x × (is_checked x ≡ is_whole worst)) (same_Some v u is) (can, checked)

pub apart : (b : Bool) → b ≡ true → b ≡ false → ⊥
apart b on off = (let e : false ≡ true = sym off ∙ on in (let x : ⊥ = cc in x))

not_true : (a b : Bool) → b ≡ not a → IsTrue b → false ≡ a
not_true true b is on = (let e : false ≡ true = sym is ∙ on in e)
not_true false b is on = refl

true_not : (a b : Bool) → b ≡ not a → false ≡ a → IsTrue b
true_not a b is off = is ∙ ap not (sym off)

pub says_not_checked : (r : Places) (pieces : ℕ) (worst : FileVerdict) (b : Bool) → b ≡ not (is_whole worst)
    → Tests b (SaysEnd r pieces worst (Some version1.NotChecked))
says_not_checked r pieces worst b is = (
  λ on. says_one r pieces worst version1.NotChecked tt (not_true (is_whole worst) b is on),
  λ said. true_not (is_whole worst) b is (said version1.NotChecked refl).1,
)

pub says_good : (r : Places) (pieces : ℕ) (worst : FileVerdict) (b : Bool) → b ≡ is_whole worst → Tests b (SaysEnd r pieces worst (Some version1.Good))
says_good r pieces worst b is = (
  λ on. says_one r pieces worst version1.Good tt (sym on ∙ is),
  λ said. is ∙ sym (said version1.Good refl).1,
)

pub says_bad : (r : Places) (pieces : ℕ) (worst : FileVerdict) (q : ℕ) (b : Bool)
    → (IsTrue b → (is_whole worst ≡ true) × (r.from ≤ q) × (q < r.to) × (q < pieces))
    → ((is_whole worst ≡ true) → r.from ≤ q → q < r.to → q < pieces → IsTrue b) → Tests b (SaysEnd r pieces worst (Some (version1.Bad q)))
says_bad r pieces worst q b to from = (
  λ on.
      let all = to on in
      says_one r pieces worst (version1.Bad q) ((all.1, all.2), all.3) (sym all.0),
  λ said.
      let all = said (version1.Bad q) refl in
      from (sym all.1) all.0.0.0 all.0.0.1 all.0.1,
)

pub says_none : (r : Places) (pieces : ℕ) (worst : FileVerdict) → SaysEnd r pieces worst None
says_none r pieces worst v is = (let x : ⊥ = cc in absurd x)

-- what can be said has a small number, where there are not too many pieces
pub small_said : (r : Places) (pieces : ℕ) (v : V1Verdict) → pieces < 2 ^ 64 → CanSayV1 r pieces v → IsSmallV1 v
small_said r pieces (version1.Bad q) few can = omega (arith, few, can.1)
small_said r pieces v few can = tt

-- what another end says of the version 1 pieces is what was read of them
pub same_said_v1 : (t : Description) (r : Places) (pieces : ℕ) (worst : FileVerdict) (text : List ℕ) (v1 : Option V1Verdict) → pieces + 1 ≡ place_count t
    → pieces < 2 ^ 64
    → ((w : Option V1Verdict) (more : List ℕ) → is_some w ≡ is_some t.v1 → ((v : V1Verdict) → w ≡ Some v → IsSmallV1 v)
    → text ≡ spell text_of (version1_rows w) ++ more → v1 ≡ w)
    → (end : HasEnd t r worst text) → v1 ≡ end.0
same_said_v1 t r pieces worst text v1 count few whole end =
    let pieces_is : place_count t - 1 ≡ pieces = omega (arith, count) in
    whole end.0 (text_of (part_answer_row (is_good worst && stream_is_good end.0))) end.1.hybrid
    (λ v is. small_said r pieces v few (subst (λ n. CanSayV1 r n v) pieces_is (end.1.says v is).0)) end.1.is
