-- Reports that are read and joined one after the other.
use Rattle.std.proofs.Common.{◌≡◌, ℕ, ◌<◌, ◌^◌, true, List, [], ◌∷◌, ◌++◌, length, map, replicate, get_or, slice_get, option_map, is_some}
use Rattle.std.proofs.Common.{Option, Some, unwrap_or, inl, inr, refl, sym, ap, subst, ◌∙◌, arith, Bor}
use Rattle.std.proofs.lemmas.List.{length-replicate}
use Rattle.std.proofs.lemmas.Option.{get_or_from_slice_get, none-some, same_Some, slice_get-get_or, slice_get-map, slice_get_within}
use Rattle.chains.proofs.Cases.{item_at, item_stays, pushed_at, pushed_last, some_of}
use Rattle.opening.proofs.SoundTrees.{push_at}
use Rattle.opening.specs.Description.{Description}
use Rattle.folders.specs.declared.report.FileVerdict.{FileVerdict}
use Rattle.folders.specs.declared.report.FileVerdict.TheVariants as file
use Rattle.folders.specs.declared.report.V1Verdict.{V1Verdict}
use Rattle.folders.specs.declared.report.V1Verdict.TheVariants as version1
use Rattle.parts.specs.Joins.{IsJoin, IsWorst, NoWorse, NoWorseV1, says_of, says_of_v1}
use Rattle.parts.specs.Laws.{WorseJoins, WorseJoinsV1}
use Rattle.parts.specs.Parts.{PartReport}
use Rattle.parts.specs.Worse.{worse, worse_v1}
use Rattle.part_reports.specs.Joined.{AreReadAs, IsReadAs, IsTextAs, report_text_of}
use Rattle.part_reports.specs.Lines.{JoinsMore, MarkedPart}
use Rattle.part_reports.specs.MarkedJoins.{AreMarksOf}
use Rattle.part_reports.specs.Marks.{IsPieceMarked, IsTold, MarksMore}
use Rattle.part_reports.specs.Reasons.{AreNamed, IsReportOfKind}
use Rattle.part_reports.proofs.Faults.{head_of}
use Rattle.part_reports.proofs.Heads.{one_head}
use Rattle.part_reports.specs.declared.kind.Kind.{Kind}
use Rattle.part_reports.specs.declared.marked_report.MarkedReport.{MarkedReport}
use Rattle.part_reports.proofs.Listed.{good_at}

-- no report says anything
pub none_joined : (t : Description) (files : List FileVerdict) (v1 : Option V1Verdict) → files ≡ replicate (length t.files) file.Good
    → is_some v1 ≡ is_some t.v1 → ((v : V1Verdict) → v1 ≡ Some v → v ≡ version1.Good) → IsJoin t [] files v1
none_joined t files v1 are hybrid good = record {
  count = ap length are ∙ length-replicate {A = FileVerdict} (length t.files) file.Good;
  hybrid = hybrid;
  each = λ n v at. record {
    no_worse = λ i p there. absurd (none-some p there);
    one = inl (good_at (length t.files) n v (subst (λ fs. slice_get fs n ≡ Some v) are at));
  };
  version1 = λ v is. record { no_worse = λ i p there. absurd (none-some p there); one = inl (good v is) };
}

-- one more report is joined
pub joined_more : (t : Description) (reports : List PartReport) (p : PartReport) (old new : List FileVerdict) (v w : Option V1Verdict)
    → WorseJoins → WorseJoinsV1 → length p.files ≡ length t.files → is_some p.v1 ≡ is_some t.v1 → JoinsMore p old new v w → IsJoin t reports old v
    → IsJoin t (reports ++ p ∷ []) new w
joined_more t reports p old new v w joins joins_v1 files hybrid more j = record {
  count = more.count ∙ j.count;
  hybrid = more.hybrid ∙ j.hybrid;
  each = λ n x at.
      let within = slice_get_within new n x at in
      let a = item_at old n (omega (arith, within, more.count)) in
      let b = item_at p.files n (omega (arith, within, more.count, files, j.count)) in
      let is : x ≡ worse a.0 b.0 = same_Some x (worse a.0 b.0) (sym at ∙ more.each n a.0 b.0 a.1 b.1) in
      let says : says_of n p ≡ b.0 = ap (λ o. unwrap_or o file.Good) b.1 in
      subst (IsWorst NoWorse file.Good (says_of n) (reports ++ p ∷ [])) (ap (worse a.0) says ∙ sym is) (joins reports p n a.0 (j.each n a.0 a.1));
  version1 = λ x at.
      let there : is_some w ≡ true = ap is_some at in
      let a = some_of v (sym more.hybrid ∙ there) in
      let b = some_of p.v1 (hybrid ∙ sym j.hybrid ∙ sym more.hybrid ∙ there) in
      let is : x ≡ worse_v1 a.0 b.0 = same_Some x (worse_v1 a.0 b.0) (sym at ∙ more.version1 a.0 b.0 a.1 b.1) in
      let says : says_of_v1 p ≡ b.0 = ap (λ o. unwrap_or o version1.Good) b.1 in
      subst (IsWorst NoWorseV1 version1.Good says_of_v1 (reports ++ p ∷ [])) (ap (worse_v1 a.0) says ∙ sym is) (joins_v1 reports p a.0 (j.version1 a.0 a.1));
}

-- one more report is read
pub read_more : (k : Kind) (t : Description) (texts : List (List ℕ)) (count : ℕ) (parts : List MarkedPart) (p : MarkedPart)
    → AreReadAs k t texts count parts → IsReadAs k t texts (length parts) count p → AreReadAs k t texts count (parts ++ p ∷ [])
read_more k t texts count parts p are next i q at = elim (push_at parts p i q at) [
  | inl old ↦ are i q old
  | inr new ↦ subst (λ (x : MarkedPart). IsReadAs k t texts i count x) new.0 (subst (λ n. IsReadAs k t texts n count p) new.1 next)
]

-- the text at this place
pub text_there : (texts : List (Bor (List ℕ))) (i : ℕ) (other : Bor (List ℕ)) (text : List ℕ) → i < length texts → (get_or texts i other).now ≡ text
    → slice_get (map (λ x. x.now) texts) i ≡ Some text
text_there texts i other text within is =
    slice_get-map (λ x. x.now) texts i
    ∙ ap (option_map (λ x. x.now)) (slice_get-get_or texts i other within)
    ∙ ap Some is

-- the report of a part, which was read, is one
abbrev pub read_report : (k : Kind) (t : Description) (texts : List (List ℕ)) (part count : ℕ) (p : MarkedPart) → part < count → count < 2 ^ 64
    → IsReadAs k t texts part count p → IsReportOfKind k t part count (report_text_of k t part count p)
read_report k t texts part count p there small read = record {
  there = there;
  small = small;
  said = p;
  places = read.places;
  can = read.can;
  is = refl;
}

-- if the report of each part was read, each text is one of them
pub no_other_text : (k : Kind) (t : Description) (texts : List (List ℕ)) (parts : List ℕ) (reports : List MarkedPart)
    → AreNamed k t texts parts (length reports) → length parts ≡ length texts → AreReadAs k t texts (length reports) reports → (i : ℕ) (text : List ℕ)
    → slice_get texts i ≡ Some text → IsTextAs k t reports (get_or parts i 0) text
no_other_text k t texts parts reports named all are i text at =
    let own = t.info_hash_v2 in
    let part = item_at parts i (omega (arith, all, slice_get_within texts i text at)) in
    let part_is : get_or parts i 0 ≡ part.0 = get_or_from_slice_get parts i part.0 0 part.1 in
    let head = named.heads i part.0 text at part.1 in
    let p = item_at reports part.0 head.there in
    let read = are part.0 p.0 p.1 in
    let said : List ℕ = report_text_of k t part.0 (length reports) p.0 in
    let other = item_at parts read.number (omega (arith, all, slice_get_within texts read.number said read.there)) in
    let other_head = named.heads read.number other.0 said read.there other.1 in
    let own_head = head_of k t part.0 (length reports) said (read_report k t texts part.0 (length reports) p.0 head.there head.small read) in
    let same : other.0 ≡ part.0 = (one_head k said other.0 (length reports) part.0 (length reports) own own other_head own_head).0 in
    let place : read.number ≡ i = named.once read.number i part.0 (other.1 ∙ ap Some same) part.1 in
    let is : text ≡ said = same_Some text said (sym at ∙ ap (slice_get texts) (sym place) ∙ read.there) in
    subst (λ n. IsTextAs k t reports n text) (sym part_is) (record { part = p.0; there = p.1; is = is })

pub each_once : (k : Kind) (t : Description) (texts : List (List ℕ)) (parts : List ℕ) (count : ℕ) → AreNamed k t texts parts count
    → length parts ≡ length texts → (i j : ℕ) → i < length texts → j < length texts → get_or parts i 0 ≡ get_or parts j 0 → i ≡ j
each_once k t texts parts count named all i j i_in j_in same =
    let one = slice_get-get_or parts i 0 (omega (arith, all, i_in)) in
    let other = slice_get-get_or parts j 0 (omega (arith, all, j_in)) in
    named.once i j (get_or parts i 0) one (other ∙ ap Some (sym same))

-- how many parts there are fits 64 bits, since their first lines say it
pub few_parts : (k : Kind) (t : Description) (texts : List (List ℕ)) (parts : List ℕ) (reports : List MarkedPart)
    → AreNamed k t texts parts (length reports) → length parts ≡ length texts → AreReadAs k t texts (length reports) reports → 0 < length reports
    → length reports < 2 ^ 64
few_parts k t texts parts reports named all are some =
    let p = item_at reports 0 some in
    let read = are 0 p.0 p.1 in
    let said : List ℕ = report_text_of k t 0 (length reports) p.0 in
    let part = item_at parts read.number (omega (arith, all, slice_get_within texts read.number said read.there)) in
    (named.heads read.number part.0 said read.there part.1).small

-- no part tells of a piece
pub no_marks : (t : Description) (joined : MarkedReport) → ((q : ℕ) → IsPieceMarked joined.bad q → ⊥) → AreMarksOf t [] joined
no_marks t joined none q = (λ on. absurd (none q on), λ told. absurd (none-some told.part told.there))

-- the marks of one part more
pub marks_more : (t : Description) (parts : List MarkedPart) (p : MarkedPart) (old new : MarkedReport) → AreMarksOf t parts old
    → MarksMore (IsTold t p.marked) old.bad new.bad → AreMarksOf t (parts ++ p ∷ []) new
marks_more t parts p old new are more q = (
  λ on. elim ((more.each q).0 on) [
    | inl before ↦
        let told = (are q).0 before in
        record { number = told.number; part = told.part; there = item_stays parts (p ∷ []) told.number told.part told.there; told = told.told }
    | inr last ↦ record { number = length parts; part = p; there = pushed_last parts p (length parts) refl; told = last }
  ],
  λ told. elim (pushed_at parts p told.part told.number told.there) [
    | inl before ↦
        (more.each q).1 (inl ((are q).1 (record { number = told.number; part = told.part; there = before; told = told.told })))
    | inr last ↦ (more.each q).1 (inr (subst (λ (x : MarkedPart). IsTold t x.marked q) (sym last.1) told.told))
  ],
)
