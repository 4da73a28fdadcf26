use Rattle.std.proofs.Common.{◌≡◌, ℕ, zero, suc, ◌+◌, ◌<◌, true, false, Option, Some}
use Rattle.std.proofs.Common.{None, SomeIff, List, map, take, length, refl, ap, sym, subst, subst₂, arith}
use Rattle.std.specs.Prelude.{IsSome}
use Rattle.std.specs.FinSet.{empty}
use Rattle.std.proofs.lemmas.Bool.{false≢true}
use Rattle.std.proofs.lemmas.List.{length-map}
use Rattle.chains.proofs.Cases.{on_err}
use Rattle.pieces.specs.Pieces.{IsPieceLength}
use Rattle.pieces.proofs.Legal.{piece_length_is}
use Rattle.opening.specs.Seen.{tree_entry}
use Rattle.partial_tree.specs.Kept.{KeptTree, info_of}
use Rattle.session.specs.Layouts.{root_of_entry}
use Rattle.session.proofs.FirstTrees.{ArePlanted, sound_at, same_more, kept_all, planted_one_more, no_trees, fresh}
use Rattle.session.proofs.planting.planted_all.Goals as goal

-- a lawful piece length is made
made_of : (made : Option ℕ) (n : ℕ) → SomeIff made (IsPieceLength n) n → IsPieceLength n → IsSome made
made_of None n none is = absurd (none is)
made_of (Some p) n both is = refl

-- what fails is not for nothing
some : (n : ℕ) → (n ≡ 0 → false ≡ true) → 0 < n
some zero none = absurd (false≢true (none refl))
some (suc n) none = omega arith

pub infos-init : goal.infos-init
infos-init g c = record {
  same = ap (map info_of) c.in_ok-trees.ensures.items;
  planted = no_trees c.unwrap-piece_length.result c.args.with_layers (map tree_entry c.trees-infos.result.now) c.in_ok-trees.trees.items
      c.in_ok-trees.ensures.items;
  stated = c.in_ok-trees.ensures.len;
  room = c.in_ok-trees.ensures.capacity;
}

pub planted-requires : goal.planted-requires
planted-requires g c =
    let same : c.unwrap-piece_length.result ≡ c.args.torrent.now.piece_length = piece_length_is _ _ _ _ c.unwrap-piece_length.ensures c.new.ensures
    c.piece_length.ensures in
    sound_at c.args.torrent.now c.recall_sound.ensures c.trees-infos.result.now c.trees-infos.ensures c.unwrap-piece_length.result same c.infos.info-index _
    c.infos-test.true

pub infos-preserved : goal.infos-preserved
infos-preserved g c =
    let b : KeptTree = c.in_ok-planted.field-0 in
    let count : length c.infos.trees.items ≡ c.infos.info-index = omega (arith, c.infos.trees.ok, c.infos.invariant.stated) in
    record {
      same = subst (λ (ts : List KeptTree). map info_of ts ≡ take (c.infos.info-index + 1) (map root_of_entry (map tree_entry c.trees-infos.result.now)))
          (sym c.push_reserved.ensures.items)
          (same_more c.args.torrent.now c.recall_sound.ensures c.trees-infos.result.now c.trees-infos.ensures c.infos.info-index _ c.infos.trees.items b
          c.infos-test.true c.in_ok-planted.ensures.root_is c.in_ok-planted.ensures.length_is c.infos.invariant.same);
      planted = subst (λ (ts : List KeptTree). ArePlanted c.unwrap-piece_length.result c.args.with_layers (map tree_entry c.trees-infos.result.now) ts)
          (sym c.push_reserved.ensures.items)
          (planted_one_more c.unwrap-piece_length.result c.args.with_layers c.trees-infos.result.now c.infos.trees.items c.infos.info-index _ b
          c.infos-test.true count c.in_ok-planted.ensures c.infos.invariant.planted);
      stated = omega (arith, c.push_reserved.ensures.len, c.infos.invariant.stated);
      room = omega (arith, c.push_reserved.ensures.capacity, c.infos.invariant.room);
    }

pub returns-clause-kept : goal.returns-clause-kept
returns-clause-kept g c =
    let same : c.unwrap-piece_length.result ≡ c.args.torrent.now.piece_length = piece_length_is _ _ _ _ c.unwrap-piece_length.ensures c.new.ensures
    c.piece_length.ensures in
    let planted : ArePlanted c.args.torrent.now.piece_length c.args.with_layers c.args.torrent.now.trees c.infos.trees.items =
    subst₂ (λ p es. ArePlanted p c.args.with_layers es c.infos.trees.items) same c.trees-infos.ensures c.infos.invariant.planted in
    kept_all c.args.torrent.now c.recall_sound.ensures c.trees-infos.result.now c.trees-infos.ensures c.args.with_layers c.infos.info-index c.infos.trees.items
    c.infos-test.false c.infos.invariant.same planted

pub returns-clause-fresh : goal.returns-clause-fresh
returns-clause-fresh g c =
    let same : c.unwrap-piece_length.result ≡ c.args.torrent.now.piece_length = piece_length_is _ _ _ _ c.unwrap-piece_length.ensures c.new.ensures
    c.piece_length.ensures in
    let planted : ArePlanted c.args.torrent.now.piece_length c.args.with_layers c.args.torrent.now.trees c.infos.trees.items =
    subst₂ (λ p es. ArePlanted p c.args.with_layers es c.infos.trees.items) same c.trees-infos.ensures c.infos.invariant.planted in
    fresh c.args.torrent.now c.recall_sound.ensures c.trees-infos.result.now c.trees-infos.ensures c.args.with_layers c.infos.trees.items empty refl
    (kept_all c.args.torrent.now c.recall_sound.ensures c.trees-infos.result.now c.trees-infos.ensures c.args.with_layers c.infos.info-index c.infos.trees.items
    c.infos-test.false c.infos.invariant.same planted) planted

pub unwrap-piece_length-requires : goal.unwrap-piece_length-requires
unwrap-piece_length-requires g c =
    made_of c.new.result c.piece_length.result c.new.ensures (subst IsPieceLength (sym c.piece_length.ensures) c.recall_sound.ensures.legal)

pub returns-in_err-trees-clause-no_memory : goal.returns-in_err-trees-clause-no_memory
returns-in_err-trees-clause-no_memory g c =
    let infos = c.trees-infos.result.now in
    on_err c.from_residual.result
    (omega (arith, some (length infos) c.in_err-trees.ensures.succeeds, length-map infos tree_entry, ap length c.trees-infos.ensures))

pub returns-in_err-planted-clause-no_memory : goal.returns-in_err-planted-clause-no_memory
returns-in_err-planted-clause-no_memory g c =
    let infos = c.trees-infos.result.now in
    on_err c.from_residual-in_err-planted.result
    (omega (arith, c.infos-test.true, length-map infos tree_entry, ap length c.trees-infos.ensures))

pub push_reserved-requires : goal.push_reserved-requires
push_reserved-requires g c = omega (arith, c.infos.invariant.stated, c.infos.invariant.room, c.infos-test.true)
