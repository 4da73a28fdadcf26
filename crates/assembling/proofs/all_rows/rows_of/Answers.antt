use Rattle.std.proofs.Common.{◌≡◌, ◌<◌, ◌≤◌, ◌+◌, ◌-◌, ℕ, Bool, List, ◌∷◌, Bor, Some, length, map, rules, set, slice_get, subst, sym, ◌∙◌, ap, arith, refl}
use Rattle.std.proofs.lemmas.List.{length-map, length-set}
use Rattle.gathering.specs.Parts.{KnownPaths}
use Rattle.part_texts.specs.Divisions.{capped, first_piece, hashed}
use Rattle.part_texts.specs.Listings.{Listed}
use Rattle.part_texts.specs.declared.division.Span.{Span}
use Rattle.assembling.specs.Behind.{said_size}
use Rattle.assembling.specs.Said.{EachSays, FitsCount}
use Rattle.assembling.specs.Sizes.{row_size, rows_size}
use Rattle.assembling.specs.Taking.{IsHeld}
use Rattle.assembling.proofs.Behind.{all_passed, none_passed, one_passed}
use Rattle.assembling.proofs.Fronts.{item_of}
use Rattle.assembling.proofs.Joining.{legal_some}
use Rattle.assembling.proofs.Passing.{IsUnderWay, all_taken, begun, held_size, map_set, part_read}
use Rattle.assembling.proofs.Shares.{at_start, at_up}
use Rattle.assembling.proofs.all_rows.rows_of.Goals as goal
use Rattle.assembling.proofs.all_rows.rows_of.Goals.{After-index, After-new}

counted : (under : KnownPaths) (p : ℕ) (hybrid : Bool) (total n parts before : ℕ) (files : List Listed) (texts : List (List ℕ)) → n ≡ parts
    → EachSays under p hybrid total n before files texts → EachSays under p hybrid total parts before files texts
counted under p hybrid total n parts before files texts is says = subst (λ k. EachSays under p hybrid total k before files texts) is says

-- what the next part says and what stands behind it
there : (c : After-index) → slice_get (map (λ x. x.now) c.parts.parts.rows.items) c.parts.part ≡ Some c.index.result.now.now
there c =
    item_of (λ x. x.now) c.parts.parts.rows.items c.parts.part c.index.result.now
    (omega (arith, c.parts-test.true, c.parts.invariant.end, c.parts.invariant.rows)) ∙ ap (λ (x : Bor (List ℕ)). Some x.now) (sym c.index.ensures)

-- of how many pieces it says something
count-is : (c : After-index)
    → c.count-count.result ≡ first_piece c.args.division.now.piece_length c.args.division.now.total c.args.division.now.parts c.args.before c.args.bytes
    (c.parts.part + 1)
    - first_piece c.args.division.now.piece_length c.args.division.now.total c.args.division.now.parts c.args.before c.args.bytes c.parts.part
count-is c = c.count-count.ensures ∙ ap (λ (s : Span). s.to - s.from) c.span.ensures

-- the content is as long as the file is listed
size : (c : After-new) (under : KnownPaths) (f : Listed) (fs : List Listed) (content : List ℕ)
    → IsHeld under c.args.division.now.piece_length c.args.hybrid c.args.division.now.total c.args.before f fs content
    (map (λ x. x.now) c.args.parts.now.rows.items) → length content ≡ f.bytes
size c under f fs content held =
    let texts = map (λ x. x.now) c.args.parts.now.rows.items in
    held_size under c.args.division.now.piece_length c.args.hybrid c.args.division.now.total c.args.before f fs content texts c.requires.legal
    (omega (arith, length-map c.args.parts.now.rows.items (λ x. x.now), c.requires.some)) held

pub parts-init : goal.parts-init
parts-init c =
    let d = c.args.division.now in
    let some = legal_some d.piece_length c.requires.legal in
    let any : 0 < d.parts = omega (arith, c.requires.parts, c.requires.some) in
    let texts = map (λ x. x.now) c.args.parts.now.rows.items in
    let none = sym (at_start d.piece_length d.total d.parts c.args.before c.args.bytes some any) in
    record {
      end = search rules;
      rows = refl;
      each = record { nodes = ap length c.new.ensures.items ∙ none; cuts = λ is. ap length c.new-2.ensures.items ∙ none };
      passing = none_passed (said_size d.piece_length c.args.hybrid d.total d.parts c.args.before c.args.bytes) texts;
      way = λ under f fs content same held.
          begun under d.piece_length c.args.hybrid d.total d.parts c.args.before f fs content _ texts c.requires.legal any
          c.new.ensures.items c.new-2.ensures.items
          (counted under d.piece_length c.args.hybrid d.total (length texts) d.parts c.args.before (f ∷ fs) texts
          (length-map c.args.parts.now.rows.items (λ x. x.now) ∙ sym c.requires.parts) held.says);
    }

pub parts-preserved : goal.parts-preserved
parts-preserved c =
    let d = c.args.division.now in
    let p = d.piece_length in
    let inv = c.parts.invariant in
    let part = c.parts.part in
    let items = c.parts.parts.rows.items in
    let old = c.args.parts.now.rows.items in
    let low_part : part < d.parts = omega (arith, c.parts-test.true, inv.end, c.requires.parts) in
    let at = (goal.at.parts-preserved c).After-index in
    let added = c.in_ok-parts.ensures.count in
    let up = at_up p d.total d.parts c.args.before c.args.bytes (legal_some p c.requires.legal) part low_part in
    record {
      end = inv.end;
      rows = length-set items part c.in_ok-parts.field-0 ∙ inv.rows;
      each = record {
        nodes = omega (arith, added.nodes, inv.each.nodes, count-is at, up);
        cuts = λ is. omega (arith, added.cuts is, inv.each.cuts is, count-is at, up);
      };
      passing = one_passed (said_size p c.args.hybrid d.total d.parts c.args.before c.args.bytes) part (map (λ x. x.now) old) (map (λ x. x.now) items)
          (map (λ x. x.now) (set items part c.in_ok-parts.field-0)) c.index.result.now.now c.in_ok-parts.field-0.now
          inv.passing (there at)
          (map_set (λ x. x.now) items part c.in_ok-parts.field-0)
          (ap (λ n. length c.in_ok-parts.field-0.now + row_size c.args.hybrid n) (sym (count-is at)) ∙ c.in_ok-parts.ensures.size);
      way = λ under f fs content same held.
          let span_is : c.count-count.result ≡ first_piece p d.total d.parts c.args.before f.bytes (part + 1)
          - first_piece p d.total d.parts c.args.before f.bytes part =
          count-is at ∙ ap (λ n. first_piece p d.total d.parts c.args.before n (part + 1) - first_piece p d.total d.parts c.args.before n part) (sym same) in
          part_read under p c.args.hybrid d.total d.parts c.args.before f fs content part c.index.result.now.now c.in_ok-parts.field-0.now c.parts.rows
          c.read_row.new.rows (map (λ x. x.now) items) (map (λ x. x.now) (set items part c.in_ok-parts.field-0)) c.requires.legal low_part held.known
          held.short (size (goal.at.parts-preserved c).After-new under f fs content held) (there at)
          (map_set (λ x. x.now) items part c.in_ok-parts.field-0) (inv.way under f fs content same held)
          (λ none. c.in_ok-parts.ensures.nothing (span_is ∙ none))
          (λ row more some fitting is. c.in_ok-parts.ensures.said row more (subst (λ n. 0 < n) (sym span_is) some)
          (subst (λ n. FitsCount n row) (sym span_is) fitting) is);
    }

pub read_row-requires : goal.read_row-requires
read_row-requires c =
    let at = (goal.at.read_row-requires c).After-index in
    let said = c.index.result.now.now in
    subst (λ n. row_size c.args.hybrid n ≤ length said) (sym (count-is at))
    (c.requires.room c.parts.part said (c.parts.invariant.passing.todo c.parts.part said (omega arith) (there at)))

pub returns-clause-long : goal.returns-clause-long
returns-clause-long c = λ f fs same long.
    let d = c.args.division.now in
    let p = d.piece_length in
    let inv = c.parts.invariant in
    let old = c.args.parts.now.rows.items in
    let new = c.parts.parts.rows.items in
    let end : length (map (λ x. x.now) old) ≡ c.parts.part = omega (arith, length-map old (λ x. x.now), c.parts-test.false, c.parts.auto.part-end, inv.end) in
    all_passed (said_size p c.args.hybrid d.total d.parts c.args.before c.args.bytes)
    (λ q. rows_size p c.args.hybrid d.total d.parts q (capped c.args.before (hashed c.args.bytes)) fs) c.parts.part (map (λ x. x.now) old)
    (map (λ x. x.now) new) (length-map old (λ x. x.now) ∙ sym inv.rows ∙ sym (length-map new (λ x. x.now))) end inv.passing
    (λ q text at. long q text at
    ∙ ap (λ n. said_size p c.args.hybrid d.total d.parts c.args.before n q
    + rows_size p c.args.hybrid d.total d.parts q (capped c.args.before (hashed n)) fs) same)

pub returns-clause-taken : goal.returns-clause-taken
returns-clause-taken c = λ under f fs content same held.
    let d = c.args.division.now in
    let p = d.piece_length in
    let inv = c.parts.invariant in
    let items = c.parts.parts.rows.items in
    let end : c.parts.part ≡ d.parts = omega (arith, c.parts-test.false, c.parts.auto.part-end, inv.end, c.requires.parts) in
    all_taken under p c.args.hybrid d.total c.args.before f fs content d.parts c.parts.rows (map (λ x. x.now) items) c.requires.legal held.short
    (size (goal.at.returns-clause-taken c).After-new under f fs content held)
    (length-map items (λ x. x.now) ∙ inv.rows ∙ sym c.requires.parts)
    (subst (λ k. IsUnderWay under p c.args.hybrid d.total d.parts c.args.before f fs content k c.parts.rows (map (λ x. x.now) items)) end
    (inv.way under f fs content same held))
