use Rattle.std.proofs.Common.{◌≡◌, ◌+◌, ◌*◌, ◌∷◌, ◌++◌, drop, length, refl, inl, sym, ap, ap₂, ◌∙◌, arith, length-append}
use Rattle.wire.specs.Frames.{four_bytes, frame}
use Rattle.wire.specs.Meaning.{ask_bytes}
use Rattle.wire.proofs.FourBytes.{length-four_bytes}
use Rattle.wire.proofs.Written.{IsWrittenFrame-hashes, length-ask_bytes}
use Rattle.c_layouts.proofs.PartsPut.{IsPut, put-more}
use Rattle.c_layouts.proofs.hashes_frame.write_hashes_frame.Goals as goal

pub returns-clause-done : goal.returns-clause-done
returns-clause-done c =
    let room = c.args.room.now in let ask = c.args.ask.now in let hashes = c.args.hashes in let flat = c.as_flattened-bytes.result.now in
    let fit = c.put_head-end.ensures.fields in
    let size = 49 + length hashes.now * 32 in let named = four_bytes (49 + length flat) ++ (22 ∷ ask_bytes ask) in
    let head : IsPut room c.put_head-end.new.room named 0 c.put_head-end.result = record {
      end_is = omega (
        arith,
        c.put_head-end.ensures.end,
        length-append (four_bytes (49 + length flat)) (22 ∷ ask_bytes ask),
        length-four_bytes (49 + length flat),
        length-ask_bytes ask fit,
      );
      fits = omega arith;
      room_is = c.put_head-end.ensures.room ∙ ap (λ n. named ++ drop n room) (sym c.put_head-end.ensures.end);
    } in
    let whole = put-more room c.put_head-end.new.room c.put.new.room named flat 0 c.put_head-end.result c.put.result head
    c.put.ensures.end (omega arith) c.put.ensures.room in
    let w = IsWrittenFrame-hashes ask hashes flat fit (λ k d low. (c.recall_hashes.ensures k d low).size) c.requires c.as_flattened-bytes.ensures.value
    c.as_flattened-bytes.ensures.len in
    let counted : 49 + length flat ≡ size = omega (arith, c.as_flattened-bytes.ensures.len) in
    let is : named ++ flat ≡ frame w.body = ap (λ n. (four_bytes n ++ (22 ∷ ask_bytes ask)) ++ flat) counted ∙ w.same in
    let ends : c.put.result ≡ 53 + length hashes.now * 32 = omega (arith, c.put_head-end.ensures.end, c.put.ensures.end, c.as_flattened-bytes.ensures.len) in
    let long : length (named ++ flat) ≡ 53 + length hashes.now * 32 = omega (arith, whole.end_is, ends) in (
      omega (arith, c.as_flattened-bytes.ensures.len),
      inl (
        refl,
        record {
          body = w.body;
          fits = w.fits;
          means = w.means;
          size_is = ap length (sym is) ∙ long;
          room_is = whole.room_is ∙ ap₂ (λ x y. x ++ drop y room) is ends;
        },
      ),
    )
