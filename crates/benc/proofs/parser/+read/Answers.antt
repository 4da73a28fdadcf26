use Rattle.std.proofs.Common.{◌≡◌, ◌-◌, inl, length, map, take, [], ◌∷◌, ◌++◌, Ok, Err, option_copied, refl, sym, ap, ◌∙◌, arith}
use Rattle.std.specs.Int.{w64}
use Rattle.std.proofs.lemmas.Int.{to_z-of_z}
use Rattle.benc.specs.Value.{Bencode, int, text, list, dict}
use Rattle.benc.specs.View.{view, pair_view, items_of, pairs_of}
use Rattle.benc.specs.Parser.{◌>>=◌, GrowsForItem, GrowsForPair, begun_at, value_at, items_behind, pairs_behind}
use Rattle.benc.specs.Fails.{Reaches}
use Rattle.benc.proofs.Handed.{handed_on}
use Rattle.benc.proofs.Reached.{list_reaches, dict_reaches}
use Rattle.benc.proofs.Lookups.{none_yet, span_push}
use Rattle.benc.proofs.SoFar.{value_of, same_value, left_mapped, value_bytes, items_begin, items_next, items_all, items_cut, items_failed, items_grow_here}
use Rattle.benc.proofs.SoFar.{items_reach, pairs_begin, pairs_next, pairs_all, pairs_cut, pairs_keyless, pairs_failed, pairs_grow_here, pairs_reach}
use Rattle.benc.proofs.Stores.{keeps_before, refused_more, refused_then, kept_push}
use Rattle.benc.proofs.Thrifty.{all_more, thrifty_pair}
use Rattle.benc.specs.Thrift.{is_thrifty, pair_is_thrifty}
use Rattle.benc.proofs.Values.{at_front, value_none, value_integer, value_items, value_pairs, list_too_deep, dict_too_deep}
use Rattle.benc.proofs.Values.{value_text, value_other, view-Int, view-Bytes, view-List, view-Dict, view-Pair}
use Rattle.benc.specs.declared.value.Pair.{Pair}
use Rattle.benc.proofs.parser.+read.Goals as goal
use Rattle.benc.proofs.parser.+read.Goals.{value-in_default-first-via-then-first-lt48, value-in_default-first-via-else-first-lt48+else-first-lt58}

pub value-returns-in_default-clause-read : goal.value-returns-in_default-clause-read
value-returns-in_default-clause-read t c = value_none c.args.room c.args.bytes.now (grind arith) ∙ ap Err (sym c.at.ensures)

pub value-returns-then-room-eq0-clause-read : goal.value-returns-then-room-eq0-clause-read
value-returns-then-room-eq0-clause-read t c =
    list_too_deep c.args.room c.args.bytes.now c.in-Some.rest.now (omega arith) (at_front c.in-Some.ensures c.in-108.is)
    ∙ ap Err (sym c.at-then-room-eq0.ensures)

pub value-returns-then-room-eq0-2-clause-read : goal.value-returns-then-room-eq0-2-clause-read
value-returns-then-room-eq0-2-clause-read t c =
    dict_too_deep c.args.room c.args.bytes.now c.in-Some.rest.now (omega arith) (at_front c.in-Some.ensures c.in-100.is)
    ∙ ap Err (sym c.at-then-room-eq0-2.ensures)

pub value-returns-in-Ok-clause-kept : goal.value-returns-in-Ok-clause-kept
value-returns-in-Ok-clause-kept t c kept =
    value_integer c.args.room c.args.bytes.now _ (at_front c.in-Some.ensures c.in-105.is)
    ∙ ap (λ r. begun_at c.args.bytes.now r >>= λ x. Ok (int x.0, x.1)) c.in-Ok.ensures.read
    ∙ ap (λ v. Ok (v, c.in-Ok.after.now)) (ap int (sym (to_z-of_z w64 c.in-Ok.n c.in-Ok.ensures.fits)) ∙ sym (view-Int _))

pub value-returns-in-Ok-clause-read : goal.value-returns-in-Ok-clause-read
value-returns-in-Ok-clause-read t c =
    ap (λ r. r >>= λ y. Ok y.1) (value_integer c.args.room c.args.bytes.now _ (at_front c.in-Some.ensures c.in-105.is)
    ∙ ap (λ r. begun_at c.args.bytes.now r >>= λ x. Ok (int x.0, x.1)) c.in-Ok.ensures.read)

pub value-returns-in-Err-clause-read : goal.value-returns-in-Err-clause-read
value-returns-in-Err-clause-read t c =
    value_integer c.args.room c.args.bytes.now _ (at_front c.in-Some.ensures c.in-105.is)
    ∙ ap (λ r. begun_at c.args.bytes.now r >>= λ x. Ok (int x.0, x.1)) c.in-Err.ensures.read ∙ ap Err (sym c.at-in-Err.ensures)

pub value-returns-in-Ok-string-clause-kept : goal.value-returns-in-Ok-string-clause-kept
value-returns-in-Ok-string-clause-kept t c kept =
    value_text c.args.room c.args.bytes.now c.in-Some.rest.now c.in-Some.first (omega arith) (omega arith) c.in-Some.ensures
    ∙ ap (λ r. begun_at c.args.bytes.now r >>= λ x. Ok (text x.0, x.1)) c.in-Ok-string.ensures.read
    ∙ ap (λ v. Ok (v, c.in-Ok-string.after.now)) (sym (view-Bytes c.in-Ok-string.text))

pub value-returns-in-Ok-string-clause-read : goal.value-returns-in-Ok-string-clause-read
value-returns-in-Ok-string-clause-read t c =
    ap (λ r. r >>= λ y. Ok y.1) (value_text c.args.room c.args.bytes.now c.in-Some.rest.now c.in-Some.first (omega arith) (omega arith) c.in-Some.ensures
    ∙ ap (λ r. begun_at c.args.bytes.now r >>= λ x. Ok (text x.0, x.1)) c.in-Ok-string.ensures.read)

pub value-returns-in-Err-string-clause-read : goal.value-returns-in-Err-string-clause-read
value-returns-in-Err-string-clause-read t c =
    value_text c.args.room c.args.bytes.now c.in-Some.rest.now c.in-Some.first (omega arith) (omega arith) c.in-Some.ensures
    ∙ ap (λ r. begun_at c.args.bytes.now r >>= λ x. Ok (text x.0, x.1)) c.in-Err-string.ensures.read ∙ ap Err (sym c.at-in-Err-string.ensures)

pub value-returns-in_default-first-clause-read : goal.value-returns-in_default-first-clause-read
value-returns-in_default-first-clause-read t c =
    value_other c.args.room c.args.bytes.now c.in-Some.rest.now c.in-Some.first (λ e. omega arith) (λ e. omega arith) (λ e. omega arith)
    (λ low high. elim c.in_default-first.branch [
      | value-in_default-first-via-then-first-lt48 w ↦ omega arith
      | value-in_default-first-via-else-first-lt48+else-first-lt58 w ↦ omega arith
    ]) c.in-Some.ensures ∙ ap Err (sym c.at-in_default-first.ensures)

pub value-returns-in_ok-found-in-108-clause-read : goal.value-returns-in_ok-found-in-108-clause-read
value-returns-in_ok-found-in-108-clause-read t c =
    left_mapped (items_behind (c.args.room - 1) c.in-Some.rest.now) list (value_at c.args.room c.args.bytes.now) c.in_ok-found-in-108.after.now
    (value_items c.args.room c.args.bytes.now _ (omega arith) (at_front c.in-Some.ensures c.in-108.is)) c.in_ok-found-in-108.ensures.read

pub value-returns-in_ok-found-in-108-clause-kept : goal.value-returns-in_ok-found-in-108-clause-kept
value-returns-in_ok-found-in-108-clause-kept t c kept =
    value_items c.args.room _ _ (omega arith) (at_front c.in-Some.ensures c.in-108.is)
    ∙ ap (λ r. r >>= λ x. Ok (list x.0, x.1)) (c.in_ok-found-in-108.ensures.kept kept)
    ∙ ap (λ v. Ok (v, c.in_ok-found-in-108.after.now)) (sym (view-List c.in_ok-found-in-108.found))

pub value-returns-in_ok-found-in-108-clause-memory : goal.value-returns-in_ok-found-in-108-clause-memory
value-returns-in_ok-found-in-108-clause-memory t c =
    refused_more _ _ (GrowsForItem (c.args.room - 1) c.args.bytes.now c.in-Some.rest.now) (Reaches c.args.room c.args.bytes.now)
    c.in_ok-found-in-108.ensures.memory
    (λ there r. list_reaches c.args.room c.args.bytes.now c.in-Some.rest.now there (omega arith) (at_front c.in-Some.ensures c.in-108.is) r)

pub value-returns-in_ok-found-in-100-clause-read : goal.value-returns-in_ok-found-in-100-clause-read
value-returns-in_ok-found-in-100-clause-read t c =
    left_mapped (pairs_behind (c.args.room - 1) c.in-Some.rest.now) dict (value_at c.args.room c.args.bytes.now) c.in_ok-found-in-100.after.now
    (value_pairs c.args.room c.args.bytes.now _ (omega arith) (at_front c.in-Some.ensures c.in-100.is)) c.in_ok-found-in-100.ensures.read

pub value-returns-in_ok-found-in-100-clause-kept : goal.value-returns-in_ok-found-in-100-clause-kept
value-returns-in_ok-found-in-100-clause-kept t c kept =
    value_pairs c.args.room _ _ (omega arith) (at_front c.in-Some.ensures c.in-100.is)
    ∙ ap (λ r. r >>= λ x. Ok (dict x.0, x.1)) (c.in_ok-found-in-100.ensures.kept kept)
    ∙ ap (λ v. Ok (v, c.in_ok-found-in-100.after.now)) (sym (view-Dict c.in_ok-found-in-100.found))

pub value-returns-in_ok-found-in-100-clause-memory : goal.value-returns-in_ok-found-in-100-clause-memory
value-returns-in_ok-found-in-100-clause-memory t c =
    refused_more _ _ (GrowsForPair (c.args.room - 1) c.args.bytes.now c.in-Some.rest.now) (Reaches c.args.room c.args.bytes.now)
    c.in_ok-found-in-100.ensures.memory
    (λ there r. dict_reaches c.args.room c.args.bytes.now c.in-Some.rest.now there (omega arith) (at_front c.in-Some.ensures c.in-100.is) r)

pub value-returns-in_err-found-in-108-clause-read : goal.value-returns-in_err-found-in-108-clause-read
value-returns-in_err-found-in-108-clause-read t c =
    rw (handed_on c.from_residual.result _ c.from_residual.ensures.1)
    (value_items c.args.room _ _ (omega arith) (at_front c.in-Some.ensures c.in-108.is)
    ∙ ap (λ r. r >>= λ x. Ok (list x.0, x.1)) c.in_err-found-in-108.ensures.read)

pub value-returns-in_err-found-in-100-clause-read : goal.value-returns-in_err-found-in-100-clause-read
value-returns-in_err-found-in-100-clause-read t c =
    rw (handed_on c.from_residual-in_err-found-in-100.result _ c.from_residual-in_err-found-in-100.ensures.1)
    (value_pairs c.args.room _ _ (omega arith) (at_front c.in-Some.ensures c.in-100.is)
    ∙ ap (λ r. r >>= λ x. Ok (dict x.0, x.1)) c.in_err-found-in-100.ensures.read)

pub items-items-init : goal.items-items-init
items-items-init t c = record {
  read = ([], items_begin c.args.room c.args.bytes.now, λ kept. ap (map view) (sym c.new-found.ensures.items));
  refused = inl refl;
  room = omega (arith, c.new-found.ensures.capacity);
  thrifty = rw c.new-found.ensures.items refl;
}

pub items-returns-in_default-clause-read : goal.items-returns-in_default-clause-read
items-returns-in_default-clause-read t c = items_cut c.items.invariant.read.1 c.in_default.ensures ∙ ap Err (sym c.at.ensures)

pub items-returns-then-first-eq101-clause-read : goal.items-returns-then-first-eq101-clause-read
items-returns-then-first-eq101-clause-read t c = ap (λ r. r >>= λ y. Ok y.1) (items_all c.items.invariant.read.1 c.in-Some.ensures (omega arith))

pub items-returns-then-first-eq101-clause-kept : goal.items-returns-then-first-eq101-clause-kept
items-returns-then-first-eq101-clause-kept t c kept =
    items_all c.items.invariant.read.1 c.in-Some.ensures (omega arith) ∙ ap (λ vs. Ok (items_of vs, c.in-Some.after.now)) (c.items.invariant.read.2 kept)

pub items-returns-in_err-item-clause-read : goal.items-returns-in_err-item-clause-read
items-returns-in_err-item-clause-read t c =
    rw (handed_on c.from_residual.result _ c.from_residual.ensures.1)
    (items_failed c.items.invariant.read.1 c.in-Some.ensures c.if-first-eq101.false c.in_err-item.ensures.read)

pub items-items-preserved : goal.items-items-preserved
items-items-preserved t c =
    let l = c.items in
    let vs = l.invariant.read.0 in
    let so = l.invariant.read.1 in
    let given = c.in_ok-item.ensures in
    let v = value_of (value_at c.args.room l.rest.now) c.in_ok-item.after.now given.read in
    let Grows = GrowsForItem c.args.room c.args.start.now c.args.bytes.now in
    record {
      read = (
        vs ++ v.0 ∷ [],
        items_next so c.in-Some.ensures c.if-first-eq101.false v.1 given.shorter,
        λ kept.
            let still = keeps_before c.value.new.store c.push.new.self (λ s. s ≡ c.args.start.now) c.push.ensures.refused kept in
            let before = keeps_before l.store c.value.new.store (Reaches c.args.room l.rest.now) given.memory still in
            let same = same_value (value_at c.args.room l.rest.now) v.0 (view c.in_ok-item.item) c.in_ok-item.after.now v.1 (given.kept still) in
            kept_push view l.found.items c.push.new.found.items c.in_ok-item.item vs v.0 (l.invariant.read.2 before) same (c.push.ensures.kept kept),
      );
      refused = refused_then c.args.store.now c.value.new.store c.push.new.self Grows (λ s. s ≡ c.args.start.now)
          (refused_then c.args.store.now l.store c.value.new.store Grows (Reaches c.args.room l.rest.now) l.invariant.refused given.memory
          (λ there r. items_reach so c.args.start.now there r))
          c.push.ensures.refused (λ there same. items_grow_here so v.1 same);
      room = c.push.ensures.room l.invariant.room;
      thrifty = all_more is_thrifty l.found.items c.push.new.found.items c.in_ok-item.item l.invariant.thrifty given.room c.push.ensures.lost;
    }

pub pairs-pairs-init : goal.pairs-pairs-init
pairs-pairs-init t c = record {
  read = ([], pairs_begin c.args.room c.args.bytes.now, λ kept. ap (map pair_view) (sym c.new-found.ensures.items), none_yet (option_copied c.args.asked));
  refused = inl refl;
  room = omega (arith, c.new-found.ensures.capacity);
  thrifty = rw c.new-found.ensures.items refl;
}

pub pairs-returns-in_default-clause-read : goal.pairs-returns-in_default-clause-read
pairs-returns-in_default-clause-read t c = pairs_cut c.pairs.invariant.read.1 c.in_default.ensures ∙ ap Err (sym c.at.ensures)

pub pairs-returns-then-first-eq101-clause-read : goal.pairs-returns-then-first-eq101-clause-read
pairs-returns-then-first-eq101-clause-read t c = ap (λ r. r >>= λ y. Ok y.1) (pairs_all c.pairs.invariant.read.1 c.in-Some.ensures (omega arith))

pub pairs-returns-then-first-eq101-clause-kept : goal.pairs-returns-then-first-eq101-clause-kept
pairs-returns-then-first-eq101-clause-kept t c kept =
    pairs_all c.pairs.invariant.read.1 c.in-Some.ensures (omega arith) ∙ ap (λ ps. Ok (pairs_of ps, c.in-Some.after.now)) (c.pairs.invariant.read.2 kept)

pub pairs-returns-then-first-eq101-clause-memory : goal.pairs-returns-then-first-eq101-clause-memory
pairs-returns-then-first-eq101-clause-memory t c = c.pairs.invariant.refused

pub pairs-returns-in-Err-clause-read : goal.pairs-returns-in-Err-clause-read
pairs-returns-in-Err-clause-read t c =
    pairs_keyless c.pairs.invariant.read.1 c.in-Some.ensures c.if-first-eq101.false c.in-Err.ensures.read ∙ ap Err (sym c.at-in-Err.ensures)

pub pairs-returns-in_err-item-clause-read : goal.pairs-returns-in_err-item-clause-read
pairs-returns-in_err-item-clause-read t c =
    rw (handed_on c.from_residual.result _ c.from_residual.ensures.1)
    (pairs_failed c.pairs.invariant.read.1 c.in-Some.ensures c.if-first-eq101.false c.in-Ok.ensures.read c.in_err-item.ensures.read)

pub pairs-pairs-preserved : goal.pairs-pairs-preserved
pairs-pairs-preserved t c =
    let l = c.pairs in
    let ps = l.invariant.read.0 in
    let so = l.invariant.read.1 in
    let k = c.in-Ok.x.0.now in
    let behind = c.in-Ok.x.1.now in
    let given = c.in_ok-item.ensures in
    let after = c.in_ok-item.after.now in
    let v = value_of (value_at c.args.room behind) after given.read in
    let Grows = GrowsForPair c.args.room c.args.start.now c.args.bytes.now in
    let x : Pair = record { key = c.in-Ok.x.0; value = c.in_ok-item.item } in
    record {
      read = (
        ps ++ (k, v.0) ∷ [],
        pairs_next so c.in-Some.ensures c.if-first-eq101.false c.in-Ok.ensures.read c.in-Ok.ensures.shorter v.1 given.shorter,
        λ kept.
            let still = keeps_before c.value.new.store c.push.new.self (λ s. s ≡ c.args.start.now) c.push.ensures.refused kept in
            let before = keeps_before l.store c.value.new.store (Reaches c.args.room behind) given.memory still in
            let same = same_value (value_at c.args.room behind) v.0 (view c.in_ok-item.item) after v.1 (given.kept still) in
            let seen : (k, v.0) ≡ pair_view x = ap (λ (w : Bencode). (k, w)) same ∙ sym (view-Pair c.in-Ok.x.0 c.in_ok-item.item) in
            kept_push pair_view l.found.items c.push.new.found.items x ps (k, v.0) (l.invariant.read.2 before) seen (c.push.ensures.kept kept),
        span_push (option_copied c.args.asked) l.span c.if_asked.result c.or-span.result ps k v.0 (take (length behind - length after) behind)
            l.invariant.read.3 c.if_asked.ensures (value_bytes c.args.room behind after v.0 v.1) c.or-span.ensures,
      );
      refused = refused_then c.args.store.now c.value.new.store c.push.new.self Grows (λ s. s ≡ c.args.start.now)
          (refused_then c.args.store.now l.store c.value.new.store Grows (Reaches c.args.room behind) l.invariant.refused given.memory
          (λ there r. pairs_reach so c.args.start.now there c.in-Ok.ensures.read r))
          c.push.ensures.refused (λ there same. pairs_grow_here so c.in-Ok.ensures.read v.1 same);
      room = c.push.ensures.room l.invariant.room;
      thrifty = all_more pair_is_thrifty l.found.items c.push.new.found.items x l.invariant.thrifty
          (thrifty_pair c.in-Ok.x.0 c.in_ok-item.item given.room) c.push.ensures.lost;
    }

pub items-items-smaller : goal.items-items-smaller
items-items-smaller t c = omega (arith, c.in_ok-item.ensures.shorter)

pub pairs-pairs-smaller : goal.pairs-pairs-smaller
pairs-pairs-smaller t c = omega (arith, c.in_ok-item.ensures.shorter, c.in-Ok.ensures.shorter)

pub items-value-requires : goal.items-value-requires
items-value-requires t c = omega arith

pub pairs-value-requires : goal.pairs-value-requires
pairs-value-requires t c = omega arith

pub value-items-requires : goal.value-items-requires
value-items-requires t c = omega (arith, c.if-room-eq0.false)

pub value-pairs-requires : goal.value-pairs-requires
value-pairs-requires t c = omega (arith, c.if-room-eq0-2.false)

pub pairs-slice_bounds-if_asked-count : goal.pairs-slice_bounds-if_asked-count
pairs-slice_bounds-if_asked-count t c = omega (arith, c.in_ok-item.ensures.shorter)
