use Rattle.std.proofs.Common.{◌≡◌, ◌<◌, ◌≤◌, ◌+◌, ◌*◌, ◌++◌, ◌∷◌, [], is_ok, true, length, length-append, length-drop, sym, ◌∙◌, ap, arith}
use Rattle.std.proofs.lemmas.List.{drop_all, take_all}
use Rattle.gathering.specs.PartRows.{joined_hashes}
use Rattle.assembling.proofs.Fronts.{push_ok}
use Rattle.assembling.proofs.Reading.{next_digest, next_rest, product, read_more, some_found}
use Rattle.assembling.proofs.rows.read_each.Goals as goal

pub unwrap-requires : goal.unwrap-requires
unwrap-requires g c =
    let more = product g.row.N c.digests._number c.args.count c.digests-test.true in
    let there : g.row.N ≤ length c.digests.rest.now = omega (arith, more, c.digests.invariant.size, c.requires) in
    some_found _ c.split_first_chunk.result c.split_first_chunk.ensures.cases (λ short. omega (arith, short, there))

pub digests-preserved : goal.digests-preserved
digests-preserved g c =
    let digests = c.digests.digests.items in
    let digest = c.unwrap.result.0.now in
    let found = rw c.unwrap.ensures at c.split_first_chunk.ensures.cases in
    let more = product g.row.N c.digests._number c.args.count c.digests-test.true in
    let next : g.row.N * (c.digests._number + 1) ≡ g.row.N * c.digests._number + g.row.N = omega arith in
    let ok : is_ok c.push.result ≡ true = sym c.map_err.ensures.variant ∙ ap is_ok c.in_ok-map_err.was in
    let items = push_ok c.push.result digests c.push.new.self.items digest c.push.ensures.items ok in
    record {
      count = omega (arith, ap length items, length-append digests (digest ∷ []), c.digests.invariant.count);
      size = omega (arith, ap length found.1, length-drop g.row.N c.digests.rest.now, more, next, c.digests.invariant.size, c.requires);
      said = λ given more count widths is.
          let inv = c.digests.invariant.said given more count widths is in
          let lt : c.digests._number < length given = omega (arith, c.digests-test.true, count) in (
            found.1 ∙ next_rest g.row.N given c.digests._number c.digests.rest.now more lt widths inv.0,
            items
                ∙ read_more c.args.digests.now.items digests given c.digests._number digest lt inv.1
                (found.0 ∙ next_digest g.row.N given c.digests._number c.digests.rest.now more lt widths inv.0),
          );
    }

pub returns-clause-size : goal.returns-clause-size
returns-clause-size g c =
    let end : c.digests._number ≡ c.args.count = omega (arith, c.digests-test.false, c.digests.auto._number-end) in
    ap (λ n. length c.digests.rest.now + g.row.N * n) (sym end) ∙ c.digests.invariant.size

pub returns-clause-said : goal.returns-clause-said
returns-clause-said g c = λ given more count widths is.
    let inv = c.digests.invariant.said given more count widths is in
    let all : length given ≤ c.digests._number = omega (arith, c.digests-test.false, count) in (
      inv.0 ∙ ap (λ ds. joined_hashes ds ++ more) (drop_all c.digests._number given all),
      inv.1 ∙ ap (λ ds. c.args.digests.now.items ++ ds) (take_all c.digests._number given all),
    )
