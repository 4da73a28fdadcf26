-- The reasons of the faults of a join.
use Rattle.std.proofs.Common.{◌≡◌, ◌≢◌, ℕ, suc, ◌+◌, ◌<◌, ◌^◌, true, false, nat_eq, List, []}
use Rattle.std.proofs.Common.{◌∷◌, ◌++◌, length, get_or, slice_get, Some, inl, inr, refl, sym, ap, ap₂, subst, ◌∙◌, append-nil, arith}
use Rattle.std.specs.List.{list_any}
use Rattle.std.proofs.lemmas.Bool.{eq-eqb, eqb-true}
use Rattle.std.proofs.lemmas.List.Folds.{Any-from_list_any, list_any_at}
use Rattle.std.proofs.lemmas.Option.{get_or_from_slice_get, none-some, same_Some, slice_get-get_or, slice_get_within}
use Rattle.chains.proofs.Cases.{item_at}
use Rattle.opening.proofs.SoundTrees.{push_at}
use Rattle.opening.specs.Description.{Description, FileEntry}
use Rattle.folders.specs.declared.report.FileVerdict.{FileVerdict}
use Rattle.parts.specs.MarkedLines.{marked_place_rows, verdicts_of}
use Rattle.parts.specs.PartLines.{has_place, held_rows, part_end_rows, place_rows}
use Rattle.parts.specs.Runs.{Run, runs_rows}
use Rattle.parts.specs.Shares.{share}
use Rattle.parts.specs.declared.places.Places.{Places}
use Rattle.lines.specs.Rows.{Row, spell}
use Rattle.lines.specs.Texts.{text_of}
use Rattle.part_reports.specs.Heads.{HasHead, IsInfoHash, first_line}
use Rattle.part_reports.specs.Joined.{report_text_of}
use Rattle.part_reports.specs.Lines.{MarkedPart, marked_rest}
use Rattle.part_reports.specs.Marks.{CanMarkAll}
use Rattle.part_reports.specs.Reasons.{AreAllReportsOf, AreNamed, HasHeadReason, HasReasonOf, IsReportMissing, IsReportOfKind, StopsBehind}
use Rattle.part_reports.specs.declared.join_fault.JoinFault.{JoinFault}
use Rattle.part_reports.specs.declared.join_fault.JoinFault.TheVariants as fault
use Rattle.part_reports.specs.declared.kind.Kind.{Kind}
use Rattle.part_reports.specs.declared.kind.Kind.TheVariants as kind
use Rattle.part_reports.proofs.Heads.{one_hash, one_head}

-- without runs the lines are those of a plain report
plain_rows : (t : Description) (r : Places) (marked : List (FileVerdict × List Run)) (fs : List FileEntry)
    → ((n : ℕ) (f : FileEntry) (x : FileVerdict × List Run) → slice_get fs n ≡ Some f → slice_get marked n ≡ Some x → x.1 ≡ [])
    → marked_place_rows t r marked fs ≡ place_rows t r (verdicts_of marked) fs
plain_rows t r [] fs none = refl
plain_rows t r (x ∷ marked) [] none = refl
plain_rows t r (x ∷ marked) (f ∷ fs) none =
    let line : List Row = held_rows (has_place t r f) x.0 f in
    ap₂ (λ rows more. rows ++ more) (ap (λ runs. line ++ runs_rows t f runs) (none 0 f x refl refl) ∙ append-nil line)
    (plain_rows t r marked fs (λ n g y there at. none (suc n) g y there at))

-- what was read of the lines is the text
pub text_is : (k : Kind) (t : Description) (part count : ℕ) (m : MarkedPart) → m.places ≡ share t part count
    → CanMarkAll k t m.places t.files m.marked
    → first_line k part count t.info_hash_v2 ++ marked_rest t m ≡ report_text_of k t part count m
text_is kind.Plain t part count m places none =
    ap (λ rows. first_line kind.Plain part count t.info_hash_v2 ++ spell text_of (rows ++ part_end_rows (verdicts_of m.marked) m.v1))
    (plain_rows t m.places m.marked t.files none ∙ ap (λ r. place_rows t r (verdicts_of m.marked) t.files) places)
text_is kind.Marked t part count m places can =
    ap (λ r. first_line kind.Marked part count t.info_hash_v2
    ++ spell text_of (marked_place_rows t r m.marked t.files ++ part_end_rows (verdicts_of m.marked) m.v1)) places

-- the first line of a report
pub head_of : (k : Kind) (t : Description) (part count : ℕ) (text : List ℕ) → IsReportOfKind k t part count text → HasHead k text part count t.info_hash_v2
head_of k t part count text r = record {
  there = r.there;
  small = r.small;
  more = marked_rest t r.said;
  is = r.is ∙ sym (text_is k t part count r.said r.places r.can.marks);
}

-- a fault of a first line is one of the join
pub reason_of_head : (k : Kind) (t : Description) (texts : List (List ℕ)) (parts : List ℕ) (count place : ℕ) (text : List ℕ) (e : JoinFault)
    → IsInfoHash t.info_hash_v2 → AreNamed k t texts parts count → length parts ≡ place → slice_get texts place ≡ Some text
    → HasHeadReason k t.info_hash_v2 place text e → HasReasonOf k t texts e
reason_of_head k t texts parts count place text (fault.NoReport i) own named all at why =
    let there : slice_get texts i ≡ Some text = subst (λ j. slice_get texts j ≡ Some text) (sym why.0) at in (
      (
        text,
        there,
        record {
          none = λ part n r. why.1 part n t.info_hash_v2 (own, head_of k t part n text r);
          own = λ part n hash h. absurd (why.1 part n hash h);
        },
      ),
      inl (record {
        parts = parts;
        count = count;
        before = named;
        all = all ∙ sym why.0;
        text = text;
        there = there;
        why = why.1;
      }),
    )
reason_of_head k t texts parts count place text (fault.OtherTorrent i) own named all at why = record {
  parts = parts;
  count = count;
  before = named;
  all = all ∙ sym why.0;
  text = text;
  there = subst (λ j. slice_get texts j ≡ Some text) (sym why.0) at;
  why = why.1;
}
reason_of_head k t texts parts count place text e own named all at why = absurd why

-- and so is that a text is not the report of its part
pub reason_of_text : (k : Kind) (t : Description) (texts : List (List ℕ)) (part count place : ℕ) (text : List ℕ) → StopsBehind k t texts part count
    → slice_get texts place ≡ Some text → HasHead k text part count t.info_hash_v2 → (IsReportOfKind k t part count text → ⊥)
    → HasReasonOf k t texts (fault.NoReport place)
reason_of_text k t texts part count place text stops at head why = (
  (
    text,
    at,
    record {
      none = λ p n r.
          let same = one_head k text p n part count t.info_hash_v2 t.info_hash_v2 (head_of k t p n text r) head in
          why (subst (λ m. IsReportOfKind k t part m text) same.1 (subst (λ m. IsReportOfKind k t m n text) same.0 r));
      own = λ p n hash of. one_hash k text p n part count hash t.info_hash_v2 of.0.bytes of.1 head;
    },
  ),
  inr (record { part = part; count = count; stops = stops; text = text; at = at; head = head; none = why }),
)

-- one more first line was read
pub named_more : (k : Kind) (t : Description) (texts : List (List ℕ)) (parts : List ℕ) (count part n : ℕ) (text : List ℕ) → AreNamed k t texts parts count
    → slice_get texts (length parts) ≡ Some text → HasHead k text part n t.info_hash_v2 → (0 < length parts → n ≡ count)
    → ((i : ℕ) → slice_get parts i ≢ Some part) → AreNamed k t texts (parts ++ part ∷ []) n
named_more k t texts parts count part n text are there head same new = record {
  heads = λ i p x at in_parts. elim (push_at parts part i p in_parts) [
    | inl old ↦
        let within = slice_get_within parts i p old in
        subst (λ m. HasHead k x p m t.info_hash_v2) (sym (same (omega (arith, within)))) (are.heads i p x at old)
    | inr last ↦
        let here : text ≡ x = same_Some text x (sym there ∙ ap (slice_get texts) last.1 ∙ at) in
        subst (λ xs. HasHead k xs p n t.info_hash_v2) here (subst (λ q. HasHead k text q n t.info_hash_v2) last.0 head)
  ];
  once = λ i j p one other. elim (push_at parts part i p one) [
    | inl a ↦ elim (push_at parts part j p other) [
      | inl b ↦ are.once i j p a b
      | inr b ↦ absurd (new i (a ∙ ap Some (sym b.0)))
    ]
    | inr a ↦ elim (push_at parts part j p other) [
      | inl b ↦ absurd (new j (b ∙ ap Some (sym a.0)))
      | inr b ↦ sym a.1 ∙ b.1
    ]
  ];
}

-- a text of another number of parts than those before it
pub other_counts : (k : Kind) (t : Description) (texts : List (List ℕ)) (parts : List ℕ) (count part n : ℕ) (text : List ℕ) → AreNamed k t texts parts count
    → 0 < length parts → slice_get texts (length parts) ≡ Some text
    → HasHead k text part n t.info_hash_v2 → n ≢ count → HasReasonOf k t texts (fault.OtherCount (length parts))
other_counts k t texts parts count part n text named some there head other = record {
  parts = parts;
  count = count;
  before = named;
  all = refl;
  text = text;
  there = there;
  why = (some, part, n, head, other);
}

-- a text of a part that is there
pub are_two : (k : Kind) (t : Description) (texts : List (List ℕ)) (parts : List ℕ) (count part n number j : ℕ) (text : List ℕ) → AreNamed k t texts parts count
    → slice_get parts j ≡ Some part → slice_get texts (length parts) ≡ Some text
    → HasHead k text part n t.info_hash_v2 → (0 < length parts → n ≡ count) → (part + 1 < 2 ^ 64 → number ≡ part + 1)
    → HasReasonOf k t texts (fault.Twice number)
are_two k t texts parts count part n number j text named again there head same number_is =
    let number : number ≡ part + 1 = number_is (omega (arith, head.there, head.small)) in (
      length parts,
      record {
        parts = parts;
        count = count;
        before = named;
        all = refl;
        text = text;
        there = there;
        why = (part, n, head, same, sym number, j, again);
      },
    )

-- no text is of this part
pub is_missing : (k : Kind) (t : Description) (texts : List (List ℕ)) (part count : ℕ) (stops : StopsBehind k t texts part count)
    → ((i : ℕ) → slice_get stops.parts i ≢ Some part) → (texts ≡ [] → count ≡ 1) → IsReportMissing k t texts (part + 1) count
is_missing k t texts part count stops none no_text = record {
  part = part;
  number_is = refl;
  stops = stops;
  others = none;
  no_text = no_text;
}

-- of no text one part is missing
pub none_there : (k : Kind) (t : Description) (texts : List (List ℕ)) → length texts ≡ 0 → IsReportMissing k t texts 1 1
none_there k t texts empty =
    is_missing k t texts 0 1 (record {
      parts = [];
      named = record { heads = λ i p text at of. absurd (none-some p of); once = λ i j p one other. absurd (none-some p one) };
      all = sym empty;
      there = omega arith;
      before = λ earlier less. absurd (omega (arith, less));
    }) (λ i at. none-some 0 at) (λ is. refl)

-- there is a part if there is a text
pub some_parts : (k : Kind) (t : Description) (texts : List (List ℕ)) (parts : List ℕ) (count : ℕ) → AreNamed k t texts parts count
    → length parts ≡ length texts → 0 < length texts → (0 < count) × (count < 2 ^ 64)
some_parts k t texts parts count named all some =
    let first = item_at texts 0 some in
    let part = item_at parts 0 (omega (arith, all, some)) in
    let head = named.heads 0 part.0 first.0 first.1 part.1 in (omega (arith, head.there), head.small)

-- ---- the law

module _ (k : Kind) (t : Description) (texts : List (List ℕ)) (all : AreAllReportsOf k t texts) where
  abbrev n : ℕ
  n = length texts

  abbrev own : List ℕ
  own = t.info_hash_v2

  -- the first line of each text is that of its part
  own_head : (i : ℕ) (text : List ℕ) → slice_get texts i ≡ Some text → HasHead k text (all.part_of i) n own
  own_head i text at = head_of k t (all.part_of i) n text (all.are i text at)

  -- and no other
  known_part : (i part count : ℕ) (text : List ℕ) → slice_get texts i ≡ Some text → HasHead k text part count own → (part ≡ all.part_of i) × (count ≡ n)
  known_part i part count text at head = let one = one_head k text part count (all.part_of i) n own own head (own_head i text at) in (one.0, one.1)

  -- as many parts as the texts before one are of
  known_count : (parts : List ℕ) (count : ℕ) → AreNamed k t texts parts count → 0 < length parts → count ≡ n
  known_count parts count named some =
      let first = item_at texts 0 all.some in
      let part = item_at parts 0 some in
      (known_part 0 part.0 count first.0 first.1 (named.heads 0 part.0 first.0 first.1 part.1)).1

  pub no_reason_of : (e : JoinFault) → HasReasonOf k t texts e → e ≡ fault.NoMemory
  no_reason_of (fault.NoReport i) why = let at = why.0 in absurd (at.2.none (all.part_of i) n (all.are i at.0 at.1))
  no_reason_of (fault.OtherTorrent i) s =
      let other = s.why in
      absurd (other.4 (one_hash k s.text other.0 other.1 (all.part_of i) n other.2 own other.3.0.bytes other.3.1 (own_head i s.text s.there)))
  no_reason_of (fault.OtherCount i) s =
      let w = s.why in
      absurd (w.4 ((known_part i w.1 w.2 s.text s.there w.3).1 ∙ sym (known_count s.parts s.count s.before w.0)))
  no_reason_of (fault.Twice number) why =
      let s = why.1 in
      let w = s.why in
      let part = known_part why.0 w.0 w.1 s.text s.there w.2 in
      let place_in = slice_get_within texts why.0 s.text s.there in
      let before = slice_get_within s.parts w.5 w.0 w.6 in
      let earlier_in : w.5 < length texts = omega (arith, before, s.all, place_in) in
      let earlier = item_at texts w.5 earlier_in in
      let named = s.before.heads w.5 w.0 earlier.0 earlier.1 w.6 in
      let its = known_part w.5 w.0 s.count earlier.0 earlier.1 named in
      let again = all.once w.5 why.0 earlier_in place_in (sym its.0 ∙ part.0) in
      absurd (omega (arith, again, before, s.all))
  no_reason_of (fault.Missing number count) m =
      let some : 0 < length m.stops.parts = omega (arith, m.stops.all, all.some) in
      let count_is = known_count m.stops.parts count m.stops.named some in
      let there = all.all m.part (omega (arith, m.stops.there, count_is)) in
      let place = all.place_of m.part in
      let text = item_at texts place there.0 in
      let part = item_at m.stops.parts place (omega (arith, there.0, m.stops.all)) in
      let its = known_part place part.0 count text.0 text.1 (m.stops.named.heads place part.0 text.0 text.1 part.1) in
      absurd (m.others place (part.1 ∙ ap Some (its.0 ∙ there.1)))
  no_reason_of fault.NoMemory why = refl

pub no_reason : (k : Kind) (t : Description) (texts : List (List ℕ)) (e : JoinFault) → AreAllReportsOf k t texts → HasReasonOf k t texts e → e ≡ fault.NoMemory
no_reason k t texts e all why = no_reason_of k t texts all e why

-- ---- numbers among others

-- a number that a list has stands somewhere
pub any_at : (part : ℕ) (parts : List ℕ) → list_any (λ y. nat_eq y part) parts ≡ true → (j : ℕ) × (slice_get parts j ≡ Some part)
any_at part parts is =
    let found = Any-from_list_any (λ y. nat_eq y part) parts is in
    (found.0, slice_get-get_or parts found.0 found.1 found.2 ∙ ap Some (found.3 ∙ eqb-true found.1 part found.4))

-- and one that it does not have stands nowhere
pub none_at : (part : ℕ) (parts : List ℕ) → list_any (λ y. nat_eq y part) parts ≡ false → (j : ℕ) → slice_get parts j ≢ Some part
none_at part parts is j at =
    let on = list_any_at (λ y. nat_eq y part) parts j 0 (slice_get_within parts j part at)
    (eq-eqb (get_or parts j 0) part (get_or_from_slice_get parts j part 0 at)) in
    (let x : ⊥ = cc in x)
