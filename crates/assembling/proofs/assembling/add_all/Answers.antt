use Rattle.std.proofs.Common.{◌≡◌, ◌<◌, ◌+◌, ◌∷◌, [], ℕ, Bor, List, Some, ap, arith, drop, get_or, length, map, rules}
use Rattle.std.proofs.Common.{slice_get, subst, sym, suc, take, take_all, zero, ◌∙◌, ◌^◌}
use Rattle.std.proofs.Common.{inl, inr, refl}
use Rattle.std.proofs.lemmas.List.{length-map}
use Rattle.std.proofs.lemmas.Bool.{cases_lt}
use Rattle.std.specs.String.{string_bytes}
use Rattle.drafts.specs.Outline.{empty_outline}
use Rattle.folders.specs.Shelf.{path_bytes}
use Rattle.gathering.specs.Parts.{KnownPaths}
use Rattle.part_texts.specs.Divisions.{capped, hashed, total_of}
use Rattle.part_texts.specs.Listings.{inventory, listed}
use Rattle.part_texts.specs.declared.listing.ListedFile.{ListedFile}
use Rattle.part_texts.specs.declared.listing.Listing.{Listing}
use Rattle.assembling.specs.Added.{HasAdded, IsWithListed}
use Rattle.assembling.specs.Assembly.{RefusesListed}
use Rattle.assembling.specs.Behind.{AreLong, behind}
use Rattle.assembling.specs.Late.{RefusesWhole}
use Rattle.assembling.specs.Said.{EachSays}
use Rattle.assembling.specs.Taking.{IsOfContent}
use Rattle.chains.proofs.Cases.{drop_item}
use Rattle.assembling.proofs.Assembled.{long_as, all_gathered, held_at, one_further, says_as}
use Rattle.assembling.proofs.Drafts.{next_added}
use Rattle.assembling.proofs.Fronts.{item_of, same_item}
use Rattle.assembling.proofs.Refusing.{refused_content, refused_whole, too_long}
use Rattle.assembling.proofs.assembling.add_all.Goals as goal
use Rattle.assembling.proofs.assembling.add_all.Goals.{After-index-file, After-swap_remove-refused}

-- the next file
is-file : (c : After-index-file)
    → c.index-file.result.now ≡ get_or c.args.listing.files.items c.files.number c.index-file.result.now
is-file c =
    c.index-file.ensures ∙ ap (λ (q : Listing). get_or q.files.items c.files.number c.index-file.result.now) c.files.invariant.listing

inside : (c : After-index-file) → c.files.number < length c.args.listing.files.items
inside c = omega (arith, c.files-test.true, c.files.invariant.end)

there : (c : After-index-file) → slice_get (map listed c.args.listing.files.items) c.files.number ≡ Some (listed c.index-file.result.now)
there c =
    item_of listed c.args.listing.files.items c.files.number c.index-file.result.now (inside c) ∙ ap (λ x. Some (listed x)) (sym (is-file c))

hybrid : (c : After-index-file) → c.files.listing.hybrid ≡ c.args.listing.hybrid
hybrid c = ap (λ (q : Listing). q.hybrid) c.files.invariant.listing

-- the parts are as long as the listing asks for from it on
long : (c : After-index-file)
    → AreLong c.args.division.now.piece_length c.files.listing.hybrid c.args.division.now.total c.args.division.now.parts c.files.before
    (listed c.index-file.result.now ∷ drop (c.files.number + 1) (map listed c.args.listing.files.items)) (behind c.files.parts)
long c =
    long_as c.args.division.now.piece_length c.args.division.now.total c.args.division.now.parts c.args.listing.hybrid c.files.listing.hybrid
    c.files.before c.files.before _ _ (behind c.files.parts) (sym (hybrid c)) refl
    (drop_item (map listed c.args.listing.files.items) c.files.number (listed c.index-file.result.now) (there c)) c.files.invariant.long

-- each part says what is true of it and of those behind it
says : (c : After-index-file) (under : KnownPaths)
    → EachSays under c.args.listing.piece_length c.args.listing.hybrid (total_of (map listed c.args.listing.files.items))
    (length (map (λ (x : Bor (List ℕ)). x.now) c.files.parts.rows.items)) c.files.before
    (drop c.files.number (map listed c.args.listing.files.items)) (map (λ (x : Bor (List ℕ)). x.now) c.files.parts.rows.items)
    → EachSays under c.args.division.now.piece_length c.files.listing.hybrid c.args.division.now.total
    (length (map (λ (x : Bor (List ℕ)). x.now) c.files.parts.rows.items)) c.files.before
    (listed c.index-file.result.now ∷ drop (c.files.number + 1) (map listed c.args.listing.files.items))
    (map (λ (x : Bor (List ℕ)). x.now) c.files.parts.rows.items)
says c under so =
    says_as under c.args.listing.piece_length c.args.division.now.piece_length c.args.listing.hybrid c.files.listing.hybrid
    (total_of (map listed c.args.listing.files.items)) c.args.division.now.total _ c.files.before _ _ _ (sym c.requires.shared) (sym (hybrid c))
    (sym c.requires.total) (drop_item (map listed c.args.listing.files.items) c.files.number (listed c.index-file.result.now) (there c)) so

-- it is the one that is refused
refused : (c : After-swap_remove-refused) → c.swap_remove-refused.result ≡ c.index-file.result.now
refused c =
    c.swap_remove-refused.ensures.value
    ∙ same_item c.files.listing.files.items c.files.number _ c.index-file.result.now
    (omega (arith, c.files-test.true, c.files.invariant.end, ap (λ (q : Listing). length q.files.items) c.files.invariant.listing))
    ∙ sym c.index-file.ensures

pub files-preserved : goal.files-preserved
files-preserved c =
    let here = (goal.at.files-preserved c).After-index-file in
    let l = c.args.listing in
    let d = c.args.division.now in
    let i = c.files.number in
    let fs = map listed l.files.items in
    let f = listed c.index-file.result.now in
    record {
      listing = search rules;
      end = search rules;
      rows = search rules;
      piece_length = search rules;
      hybrid = search rules;
      long = long_as d.piece_length d.total d.parts c.files.listing.hybrid l.hybrid (capped c.files.before (hashed f.bytes)) c.saturating_add-before.result
          (drop (i + 1) fs) (drop (i + 1) fs) (behind c.rows_of.new.parts) (hybrid here)
          (sym (c.saturating_add-before.ensures ∙ ap (capped c.files.before) c.hashed.ensures)) refl
          (c.in_ok-rows.ensures.long f (drop (i + 1) fs) refl (long here));
      so_far = next_added (empty_outline (string_bytes l.name) l.piece_length l.hybrid) c.files.draft c.add_file.new.draft l.files.items i
          c.index-file.result.now (inside here) c.files.invariant.so_far
          (subst (λ y. IsWithListed c.files.draft c.add_file.new.draft (listed y)) (is-file here) c.in-Ok-add_file.ensures.added);
      true_so_far = λ under contents held given.
          let so = c.files.invariant.true_so_far under contents held given in
          let h = held_at under fs contents i f held (there here) in
          let texts = map (λ (x : Bor (List ℕ)). x.now) c.files.parts.rows.items in
          let texts' = map (λ (x : Bor (List ℕ)). x.now) c.rows_of.new.parts.rows.items in
          let taken = c.in_ok-rows.ensures.taken under f (drop (i + 1) fs) h.0 refl
          (record { says = says here under so.says; known = h.2; short = c.in-Ok-add_file.ensures.short }) in
          let adds = c.in-Ok-add_file.ensures.content h.0
          (subst (λ p. IsOfContent p c.files.listing.hybrid h.0 c.in_ok-rows.rows) (c.requires.shared ∙ sym c.requires.piece_length) taken.is) taken.size in
          one_further under (inventory l) contents i c.files.before c.saturating_add-before.result c.files.draft c.add_file.new.draft texts texts' f h.0
          (there here) h.1
          (c.saturating_add-before.ensures ∙ ap (capped c.files.before) c.hashed.ensures) adds
          (says_as under d.piece_length l.piece_length c.files.listing.hybrid l.hybrid d.total (total_of fs) (length texts')
          (capped c.files.before (hashed f.bytes)) (drop (i + 1) fs) (drop (i + 1) fs) texts' c.requires.shared (hybrid here) c.requires.total refl
          taken.later) so;
    }

-- there is room for what each part says of the next file
pub rows_of-requires-clause-room : goal.rows_of-requires-clause-room
rows_of-requires-clause-room c = λ part rest there.
    omega (arith, long (goal.at.rows_of-requires-clause-room c).After-index-file part rest there)

-- the files before the next one were added
added_so_far : (files : List ListedFile) (i : ℕ) → map listed (take i files) ≡ take i (map listed files)
added_so_far files zero = refl
added_so_far [] (suc i) = refl
added_so_far (x ∷ files) (suc i) = ap (λ fs. listed x ∷ fs) (added_so_far files i)

pub returns-in-Err-Refused-clause-reason : goal.returns-in-Err-Refused-clause-reason
returns-in-Err-Refused-clause-reason c =
    let at = goal.at.returns-in-Err-Refused-clause-reason c in
    let l = c.args.listing in
    let f = listed c.index-file.result.now in
    record {
      number = c.files.number;
      file = f;
      there = there at.After-index-file;
      path_is = ap (λ (x : ListedFile). path_bytes x.path) (refused at.After-swap_remove-refused);
      draft = c.files.draft;
      before = subst (λ fs. HasAdded (empty_outline (string_bytes l.name) l.piece_length l.hybrid) fs c.files.draft) (added_so_far l.files.items c.files.number)
          c.files.invariant.so_far;
      why = subst (RefusesWhole c.files.draft f) (sym c.in-Err-Refused.refusal-is)
          (refused_whole c.files.draft f c.in-Err-Refused.field-0 c.in-Err-Refused.refusal c.in-Err-Refused.field-0-is
          c.in-Err-Refused.ensures.refused);
    }

pub returns-clause-draft : goal.returns-clause-draft
returns-clause-draft c =
    let l = c.args.listing in
    let all = take_all c.files.number l.files.items (omega (arith, c.files-test.false, c.files.invariant.end)) in
    subst (λ fs. HasAdded (empty_outline (string_bytes l.name) l.piece_length l.hybrid) (map listed fs) c.files.draft) all c.files.invariant.so_far

pub returns-clause-gathers : goal.returns-clause-gathers
returns-clause-gathers c = λ under contents held says.
    let l = c.args.listing in
    all_gathered under (inventory l) contents c.files.number c.files.before c.files.draft (map (λ (x : Bor (List ℕ)). x.now) c.files.parts.rows.items)
    (omega (arith, length-map l.files.items listed, c.files-test.false, c.files.invariant.end, c.files.auto.number-end)) held
    (c.files.invariant.true_so_far under contents held
    (subst (λ n. EachSays under l.piece_length l.hybrid (total_of (map listed l.files.items)) n 0 (map listed l.files.items)
    (map (λ (x : Bor (List ℕ)). x.now) c.args.parts.rows.items)) (length-map c.args.parts.rows.items (λ x. x.now)) says))

pub returns-in-Err-Refused-clause-gathers : goal.returns-in-Err-Refused-clause-gathers
returns-in-Err-Refused-clause-gathers c = λ under contents held given.
    let at = goal.at.returns-in-Err-Refused-clause-gathers c in
    let l = c.args.listing in
    let fs = map listed l.files.items in
    let f = listed c.index-file.result.now in
    let so = c.files.invariant.true_so_far under contents held
    (subst (λ n. EachSays under l.piece_length l.hybrid (total_of fs) n 0 fs (map (λ (x : Bor (List ℕ)). x.now) c.args.parts.rows.items))
    (length-map c.args.parts.rows.items (λ x. x.now)) given) in
    let h = held_at under fs contents c.files.number f held (there at.After-index-file) in
    inr (record {
      number = c.files.number;
      file = f;
      content = h.0;
      there = there at.After-index-file;
      held = h.1;
      path_is = ap (λ (x : ListedFile). path_bytes x.path) (refused at.After-swap_remove-refused);
      draft = c.files.draft;
      before = so.gathered;
      why = subst (RefusesListed c.files.draft f h.0) (sym c.in-Err-Refused.refusal-is) (elim (cases_lt (2 ^ 46) c.index-file.result.now.length) [
        | inl long ↦ inl (long, too_long c.in-Err-Refused.field-0 c.in-Err-Refused.refusal c.in-Err-Refused.field-0-is (c.in-Err-Refused.ensures.long long))
        | inr short ↦
            let taken = c.in_ok-rows.ensures.taken under f (drop (c.files.number + 1) fs) h.0 refl
            (record { says = says at.After-index-file under so.says; known = h.2; short = short }) in
            let own = subst (λ p. IsOfContent p c.files.listing.hybrid h.0 c.in_ok-rows.rows) (c.requires.shared ∙ sym c.requires.piece_length) taken.is in
            refused_content c.files.draft c.add_file.new.draft f h.0 c.in-Err-Refused.field-0 c.in-Err-Refused.refusal c.in-Err-Refused.field-0-is
            (c.in-Err-Refused.ensures.content h.0 own taken.size)
      ]);
    })
