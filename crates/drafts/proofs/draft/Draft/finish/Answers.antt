use Rattle.std.proofs.Common.{◌≡◌, ◌≢◌, ◌≤◌, ◌<◌, ℕ, Bool, true, false, List, [], ◌∷◌, length, map, inl, inr, refl, ap, sym, subst, ◌∙◌, arith}
use Rattle.std.proofs.lemmas.Bool.{cases_lt, false≢true, ne_eqb}
use Rattle.std.specs.Prelude.{◌==◌, IsTrue}
use Rattle.benc.specs.Device.{BrokeOrUnflushed, SentAndFlushed}
use Rattle.benc.specs.Text.{spelling}
use Rattle.filetree.specs.Tests.{NoneHolds}
use Rattle.opening.specs.Refusals.{max_torrent}
use Rattle.drafts.specs.DraftSeen.{outline_file}
use Rattle.drafts.specs.Finishing.{finish_rows}
use Rattle.drafts.specs.Outline.{IsOutline, Outline}
use Rattle.drafts.specs.Written.{value_of}
use Rattle.drafts.specs.declared.draft.DraftFile.{DraftFile}
use Rattle.drafts.proofs.draft.Draft.finish.Goals as goal
use Rattle.drafts.proofs.draft.Draft.finish.Goals.{After-is_small, After-write}
use Rattle.drafts.proofs.draft.Draft.finish.Given.{Over}

not_more : (m n : ℕ) → n ≤ m → m < n → ⊥
not_more m n le lt = omega arith

some_drafted : (fs : List DraftFile) (n : ℕ) (b : Bool) → n ≡ length fs → b ≡ (n == 0) → b ≡ false → map outline_file fs ≢ []
some_drafted [] n b is test not = λ e. let yes : b ≡ true = test ∙ ap (λ m. m == 0) is in let never : true ≡ false = sym yes ∙ not in cc
some_drafted (f ∷ fs) n b is test not = λ e. cc

none_drafted : (fs : List DraftFile) (n : ℕ) (b : Bool) → n ≡ length fs → b ≡ (n == 0) → b ≡ true → map outline_file fs ≡ []
none_drafted [] n b is test holds = refl
none_drafted (f ∷ fs) n b is test holds = let fails : b ≡ false = test ∙ ne_eqb n 0 (λ e. omega arith) in let never : true ≡ false = sym holds ∙ fails in cc

too_large : (b : Bool) (n : ℕ) → (n ≤ max_torrent → IsTrue b) → b ≡ false → max_torrent < n
too_large b n small fails = elim (cases_lt max_torrent n) [
  | inl less ↦ less
  | inr most ↦ absurd (false≢true (sym fails ∙ small most))
]

-- the draft has files, and its text is not too large
some : (g : Over) (c : After-is_small g) → c.args.self.now.files ≢ []
some g c = subst (λ (o : Outline). o.files ≢ []) c.self.view_is
    (some_drafted c.self.inside.files.items _ c.is_empty.result (omega (arith, c.self.inside.files.ok.0)) c.is_empty.ensures c.if-is_empty.false)

none : (g : Over) (c : After-write g) → NoneHolds (finish_rows c.args.self.now)
none g c =
    let small = c.is_small.ensures.answer.0 c.if-not-is_small.false in
    (some g (goal.at.After-write g c).After-is_small, (not_more max_torrent (length (spelling (value_of c.args.self.now))) small, tt))

pub returns-then-is_empty-clause-refused : goal.returns-then-is_empty-clause-refused
returns-then-is_empty-clause-refused g c = λ _.
    let fs = c.self.inside.files in
    let none : c.args.self.now.files ≡ [] = subst (λ (o : Outline). o.files ≡ []) c.self.view_is
    (none_drafted fs.items _ c.is_empty.result (omega (arith, fs.ok.0)) c.is_empty.ensures c.if-is_empty.true) in
    (inl (none, refl), refl)

pub returns-then-is_empty-clause-broke : goal.returns-then-is_empty-clause-broke
returns-then-is_empty-clause-broke g c = λ is. absurd cc

pub returns-then-not-is_small-clause-refused : goal.returns-then-not-is_small-clause-refused
returns-then-not-is_small-clause-refused g c = λ _.
    let large = too_large c.is_small.result (length (spelling (value_of c.args.self.now))) c.is_small.ensures.answer.1 c.if-not-is_small.true in
    (inr (some g (goal.at.returns-then-not-is_small-clause-refused g c).After-is_small, inl (large, refl)), c.is_small.ensures.unchanged)

pub returns-then-not-is_small-clause-broke : goal.returns-then-not-is_small-clause-broke
returns-then-not-is_small-clause-broke g c = λ is. absurd cc

pub returns-in-Ok-clause-opens : goal.returns-in-Ok-clause-opens
returns-in-Ok-clause-opens g c =
    let kept = subst (λ (o : Outline). IsOutline o) c.self.view_is c.self.invariant.0.outline_is in
    c.draft_describes.ensures c.args.self.now kept (some g (goal.at.returns-in-Ok-clause-opens g c).After-is_small)
    (c.is_small.ensures.answer.0 c.if-not-is_small.false)

pub returns-in-Err-clause-refused : goal.returns-in-Err-clause-refused
returns-in-Err-clause-refused g c = λ other. absurd (other refl)

pub returns-in-Ok-clause-written : goal.returns-in-Ok-clause-written
returns-in-Ok-clause-written g c = (
  none g (goal.at.returns-in-Ok-clause-written g c).After-write,
  subst (λ s. SentAndFlushed s (g.W.Sink.seen c.write.new.w) (spelling (value_of c.args.self.now))) c.is_small.ensures.unchanged c.in-Ok.ensures,
)

pub returns-in-Err-clause-broke : goal.returns-in-Err-clause-broke
returns-in-Err-clause-broke g c = λ _. (
  none g (goal.at.returns-in-Err-clause-broke g c).After-write,
  subst (λ s. BrokeOrUnflushed s (g.W.Sink.seen c.write.new.w) (spelling (value_of c.args.self.now))) c.is_small.ensures.unchanged c.in-Err.ensures,
)
