use Rattle.std.proofs.Common.{◌≡◌, ◌∷◌, ◌++◌, length, lit≤, replicate, refl, sym, ap, ◌∙◌, arith}
use Rattle.std.proofs.lemmas.List.{append-nil, drop_all}
use Rattle.wire.specs.Frames.{four_bytes, frame}
use Rattle.wire.specs.Meaning.{ask_bytes}
use Rattle.wire.proofs.Written.{length-ask_bytes}
use Rattle.c_layouts.proofs.ask_frames.ask_frame.Goals as goal

pub returns : goal.returns
unfolding frame
returns c =
    let ask = c.args.ask.now in let body = c.args.id ∷ ask_bytes ask in
    let fit = c.put_head.ensures.fields in
    let size : length body ≡ 49 = omega (arith, length-ask_bytes ask fit) in record {
      body = body;
      fits = omega (arith, size);
      means = record { fields = fit; bytes = refl };
      bytes_are = c.put_head.ensures.room ∙ ap (λ rest. (four_bytes 49 ++ body) ++ rest) (drop_all 53 (replicate 53 0) (lit≤ tt))
          ∙ append-nil (four_bytes 49 ++ body) ∙ ap (λ n. four_bytes n ++ body) (sym size);
    }
