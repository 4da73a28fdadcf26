-- What runs in a stream that is cut, as its bytes come.
use Rattle.std.proofs.Common.{◌≡◌, ℕ, ◌+◌, ◌-◌, ◌*◌, ◌^◌, ◌<◌, ◌≤◌, List, [], ◌++◌, length, take, drop, Option, Some, None, IsSome}
use Rattle.std.proofs.Common.{length-append, refl, sym, ap, ◌∙◌, subst, arith}
use Rattle.std.proofs.lemmas.List.{drop-append-le, drop-drop, drop_all, length-drop, take_rest}
use Rattle.sha1.specs.Sha1.{sha1}
use Rattle.lanes.specs.declared.words.TheConstants.{LANES}
use Rattle.pieces.specs.Cutting.{IsCutting}
use Rattle.pieces.specs.CutStreams.{Runs, TellsCut, bytes_running, turns}
use Rattle.pieces.specs.NextCuts.{cuts_told}
use Rattle.pieces.specs.Running.{HoldsUntold, IsRunning, bytes_untold, told, told_in}
use Rattle.pieces.specs.Staged.{AreBegun, IsDigestOf, IsStaged, TakesStretch, bytes_staged}
use Rattle.pieces.specs.declared.cut_stream.CutStream.{CutStream}
use Rattle.pieces.specs.declared.cutter.Cutter.{Cutter}
use Rattle.pieces.specs.declared.stages.Stages.{Stages}
use Rattle.pieces.proofs.Running.{holds_more, one_untold, size_is, told_more, told_none, told_whole}

-- ---- nothing came

pub begun_runs : (cutter : Cutter) (stages : Option Stages) (p : ℕ) → IsCutting cutter [] → AreBegun stages p → IsRunning cutter stages p []
begun_runs cutter None p cutting begun = cutting
begun_runs cutter (Some s) p cutting begun = (
  cutting,
  record { content = []; staged = (begun s refl).1; running_is = sym (drop_all (p * told s) [] (omega arith)) },
)

pub begun_none : (stages : Option Stages) (p : ℕ) → 0 < p → AreBegun stages p → (told_in stages ≡ 0) × (bytes_untold stages p ≡ 0)
begun_none None p some begun = (refl, refl)
begun_none (Some s) p some begun =
    let none = told_none s p some (begun s refl).1.piece_length_is (begun s refl).0 in
    (none, omega (arith, (begun s refl).0))

-- ---- stages

-- some bytes go into stages, and a digest is told, or none
pub tells_staged : (c d : CutStream) (s t : Stages) (part : List ℕ) (digest : Option (List ℕ)) → c.stages ≡ Some s → d.stages ≡ Some t
    → d.cutter ≡ c.cutter → TakesStretch s part digest t → TellsCut c part digest d
tells_staged c d s t part digest before after same takes =
    let p : ℕ = c.cutter.piece_length in
    let k : ℕ = cuts_told digest in
    let same_length : d.cutter.piece_length ≡ p = ap (λ (x : Cutter). x.piece_length) same in
    let more : told t ≡ told s + k = told_more digest (told s) (told t) takes.counts in
    let times : p * told t ≡ p * told s + p * k = ap (λ n. p * n) more ∙ omega arith in
    record {
      piece_length = same_length;
      told = omega (arith, ap told_in before, ap told_in after, more);
      count =
          let old : bytes_untold c.stages p ≡ bytes_staged s - p * told s = ap (λ o. bytes_untold o p) before in
          let new : bytes_untold d.stages d.cutter.piece_length ≡ bytes_staged t - p * told t =
          ap (λ o. bytes_untold o d.cutter.piece_length) after ∙ ap (λ n. bytes_staged t - n * told t) same_length in
          let holds = c.same_length s before in
          omega (
            arith,
            times,
            old,
            new,
            takes.count,
            ap (λ (x : Cutter). x.filled) same,
            told_whole s p (size_is s p holds),
            told_whole t p (size_is t p (holds_more s t p part digest takes holds)),
          );
      runs = λ n running runs.
          let held = untold n running runs in
          let at : n * told t ≡ n * told s + n * k = ap (λ m. n * m) more ∙ omega arith in
          let rest : drop (n * k) (running ++ part) ≡ drop (n * told t) (held.content ++ part) =
          ap (drop (n * k)) (longer n running runs) ∙ drop-drop (n * k) (n * told s) (held.content ++ part)
          ∙ ap (λ m. drop m (held.content ++ part)) (sym at) in
          record {
            piece_length_is = same_length ∙ runs.piece_length_is;
            held = subst (λ o. IsRunning d.cutter o n (drop (n * k) (running ++ part))) (sym after) (
              subst (λ (x : Cutter). IsCutting x []) (sym same) (subst (λ o. IsRunning c.cutter o n running) before runs.held).0,
              record { content = held.content ++ part; staged = takes.content n held.content held.staged; running_is = rest },
            );
          };
      digest_is = λ n running runs e is.
          let held = untold n running runs in
          let now : IsStaged t n (held.content ++ part) = takes.content n held.content held.staged in
          let one : told t ≡ told s + 1 = takes.counts.one e is in
          let at : n * told t ≡ n * told s + n = ap (λ m. n * m) one ∙ omega arith in (
            omega (
              arith,
              ap length (longer n running runs),
              length-drop (n * told s) (held.content ++ part),
              at,
              told_whole t n now.piece_length_is,
              now.stands.length_is,
            ),
            takes.digest_is n held.content held.staged e is ∙ ap (λ xs. sha1 (take n xs)) (sym (longer n running runs)),
          );
    }
  where
    untold : (n : ℕ) (running : List ℕ) → Runs c n running → HoldsUntold s n running
    untold n running runs = (subst (λ o. IsRunning c.cutter o n running) before runs.held).1

    longer : (n : ℕ) (running : List ℕ) (runs : Runs c n running)
        → running ++ part ≡ drop (n * told s) ((untold n running runs).content ++ part)
    longer n running runs =
        let held = untold n running runs in
        ap (λ xs. xs ++ part) held.running_is
        ∙ sym (drop-append-le (n * told s) held.content part
        (omega (arith, told_whole s n held.staged.piece_length_is, held.staged.stands.length_is)))

-- a digest is told only where another piece came behind its own
pub told_after : (c : CutStream) (s t : Stages) (part : List ℕ) (digest : Option (List ℕ)) (more : ℕ) → c.stages ≡ Some s → TakesStretch s part digest t
    → length part ≤ more → IsSome digest → c.cutter.piece_length < bytes_running c + more
told_after c s t part None more there takes bound some = cc
told_after c s t part (Some d) more there takes bound some =
    let p : ℕ = c.cutter.piece_length in
    let size = size_is t p (holds_more s t p part (Some d) takes (c.same_length s there)) in
    let next : told t ≡ told s + 1 = takes.counts.one d refl in
    let times : p * told t ≡ p * told s + p = ap (λ n. p * n) next ∙ omega arith in
    let running : bytes_running c ≡ c.cutter.filled + (bytes_staged s - p * told s) = ap (λ o. c.cutter.filled + bytes_untold o p) there in
    omega (arith, one_untold t p size (omega (arith, next)), times, running, takes.count, bound, c.cutter.some)

-- stages told far fewer digests than there are numbers
pub few_pieces : (o : Option Stages) (s : Stages) → o ≡ Some s → told_in o + 2 * LANES < 2 ^ 64 → s.piece + 9 < 2 ^ 64
few_pieces o s is fits = omega (arith, ap told_in is, fits)

-- ---- the place in the content

-- of some content the digests of this many cuts were told before, and this one now
pub record HasTold (t : CutStream) (n count : ℕ) (content : List ℕ) (digest : Option (List ℕ)) : Type 0 where
  pub whole : n * (count + cuts_told digest) ≤ length content
  pub digest_is : IsDigestOf digest n content count
  pub runs : Runs t n (drop (n * (count + cuts_told digest)) content)

pub has_told : (s t : CutStream) (n count : ℕ) (content part : List ℕ) (digest : Option (List ℕ)) → TellsCut s part digest t
    → n * count ≤ length content → Runs s n (drop (n * count) content) → HasTold t n count (content ++ part) digest
has_told s t n count content part digest tells whole runs = record {
  whole = fits digest (λ d is. (tells.digest_is n running runs d is).0);
  digest_is = λ d is. (tells.digest_is n running runs d is).1 ∙ ap (λ xs. sha1 (take n xs)) longer;
  runs = subst (Runs t n) (ap (drop (n * k)) longer ∙ drop-drop (n * k) (n * count) (content ++ part) ∙ ap (λ m. drop m (content ++ part)) (sym at))
      (tells.runs n running runs);
}
  where
    running : List ℕ
    running = drop (n * count) content

    k : ℕ
    k = cuts_told digest

    at : n * (count + k) ≡ n * count + n * k
    at = omega arith

    longer : running ++ part ≡ drop (n * count) (content ++ part)
    longer = sym (drop-append-le (n * count) content part whole)

    fits : (o : Option (List ℕ)) → ((d : List ℕ) → o ≡ Some d → n ≤ length (running ++ part)) → n * (count + cuts_told o) ≤ length (content ++ part)
    fits None one = omega (arith, whole, length-append content part)
    fits (Some d) one =
        let next : n * (count + 1) ≡ n * count + n = omega arith in
        omega (arith, next, one d refl, ap length longer, length-drop (n * count) (content ++ part), whole, length-append content part)

-- ---- the bytes that are left of some

pub rest_long : (bytes : List ℕ) (start : ℕ) → length (take (length bytes - start) (drop start bytes)) ≡ length bytes - start
rest_long bytes start = ap length (take_rest bytes start) ∙ length-drop start bytes

pub fewer_turns : (s t : CutStream) (bytes : List ℕ) (start n : ℕ)
    → turns t (length (take (length bytes - start) (drop start bytes)) - n) < turns s (length (take (length bytes - start) (drop start bytes)))
    → turns t (length bytes - (start + n)) < turns s (length bytes - start)
fewer_turns s t bytes start n less =
    let fewer : length bytes - (start + n) ≡ (length bytes - start) - n = omega arith in
    subst (λ k. turns t k < turns s (length bytes - start)) (sym fewer)
    (subst (λ k. turns t (k - n) < turns s k) (rest_long bytes start) less)
