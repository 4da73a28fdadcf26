use Rattle.std.proofs.Common.{rules, ◌≡◌, ◌∙◌, ◌<◌, length, sym, subst, refl}
use Rattle.std.proofs.lemmas.List.{nil_from_length}
use Rattle.std.proofs.lemmas.Result.{err_from_is_err_and}
use Rattle.gathering.specs.Hashing.{AreHashesOf}
use Rattle.gathering.specs.Reading.{FindsWholeContent}
use Rattle.gathering.proofs.Digests.{keeps_layer}
use Rattle.gathering.proofs.ReadAlone.{same_content}
use Rattle.gathering.proofs.job.hashes_of.Goals as goal

pub returns-then-length-eq0-clause-found : goal.returns-then-length-eq0-clause-found
returns-then-length-eq0-clause-found c bytes there =
    let t = c.args.kind.now in
    let same = same_content _ c.bytes-length.result.now bytes c.bytes-length.ensures.bytes there in
    let none : length c.bytes-length.result.now ≡ 0 = search rules in
    subst (λ b. AreHashesOf t.piece_length t.hybrid b c.empty.result) (sym (nil_from_length c.bytes-length.result.now none) ∙ same)
    (c.empty.ensures t.piece_length t.hybrid)

pub returns-in_err-layer-clause-found : goal.returns-in_err-layer-clause-found
returns-in_err-layer-clause-found c bytes there =
    let t = c.args.kind.now in
    let same = same_content _ c.bytes-length.result.now bytes c.bytes-length.ensures.bytes there in
    let some : 0 < length c.bytes-length.result.now = search rules in
    let p = err_from_is_err_and c.from_residual.result c.from_residual.ensures.1 in
    subst (FindsWholeContent t.piece_length t.hybrid bytes) (sym p.1)
    (keeps_layer t.piece_length t.hybrid c.piece_layer-height.result (length bytes) bytes refl (subst (λ b. 0 < length b) same some)
    c.piece_layer-height.ensures (c.in_err-layer.ensures.memory bytes there))
