use Rattle.std.proofs.Common.{◌/◌, inl, inr, refl, ap, ◌∙◌}
use Rattle.opening.specs.Description.{Description}
use Rattle.holdings.specs.Holdings.{most_pieces}
use Rattle.btcheck_c.proofs.hold_calls.held_for.Goals as goal

pub returns-in-Ok : goal.returns-in-Ok
returns-in-Ok c =
    let same = c.piece_length-longest.ensures ∙ ap (λ (d : Description). d.piece_length) c.torrent.ensures in (
      refl,
      inr (
        c.in-Ok.held,
        refl,
        record {
          nothing = c.in-Ok.ensures.empty;
          most = c.in-Ok.ensures.most ∙ ap (λ n. most_pieces c.args.bound (n / 16384)) same;
          longest = c.in-Ok.ensures.longest ∙ ap (λ n. n / 16384) same;
          clock = c.in-Ok.ensures.clock;
          looks = c.in-Ok.ensures.looks;
        },
      ),
    )

pub returns-in-Err : goal.returns-in-Err
returns-in-Err c = (refl, inl refl)
