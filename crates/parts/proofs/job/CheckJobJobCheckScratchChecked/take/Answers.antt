use Rattle.std.proofs.Common.{◌≡◌, ◌∙◌, ◌+◌, [], length, ap, sym, subst, arith, vec_capacity, Result, Ok, Err}
use Rattle.std.specs.Prelude.{IfOk}
use Rattle.std.proofs.lemmas.List.{length-map, length_push}
use Rattle.std.proofs.lemmas.Option.{same_Some, slice_get_within}
use Rattle.opening.specs.Seen.{file_entry}
use Rattle.opening.proofs.Placing.{file_there}
use Rattle.parts.specs.Passing.{IsReadyAt}
use Rattle.parts.specs.Telling.{TellsFile}
use Rattle.parts.proofs.job.CheckJobJobCheckScratchChecked.take.Goals as goal

if_ok : {A E : Type 0} (P : Type 0) (r : Result A E) → P → IfOk r (λ _. P)
if_ok P (Ok x) p = p
if_ok P (Err e) p = tt

pub returns-clause-takes : goal.returns-clause-takes
returns-clause-takes g c i a there finds =
    let t = c.args.self.now.torrent.now in
    let lt = slice_get_within t.files c.args.number i there in
    let is = file_there t c.files.result.now c.args.number c.index-files-number.result c.files.ensures
    (omega (arith, lt, ap length c.files.ensures, length-map c.files.result.now file_entry)) c.index-files-number.is in
    let same : file_entry c.index-files-number.result ≡ i = same_Some (file_entry c.index-files-number.result) i (sym is ∙ there) in
    record {
      verdicts = c.args.found;
      finds = finds;
      takes = record {
        files_are = c.push_reserved.ensures.items;
        v1_is = c.worse_v1-checked.ensures;
        tells = subst (λ f. TellsFile g.L.LineSink.spelled t c.args.self.now.telling f c.args.found.file [] (g.L.LineSink.seen c.args.out.now)
            (g.L.LineSink.seen c.tell.new.out) c.tell.result) same c.tell.ensures.tells;
        some = c.tell.ensures.some;
      };
    }

pub returns-clause-ready : goal.returns-clause-ready
returns-clause-ready g c = if_ok (IsReadyAt c.args.self.now.torrent.now (c.args.number + 1) (record {
  files = c.push_reserved.new.self.items;
  room = vec_capacity c.push_reserved.new.self;
  v1 = c.worse_v1-checked.result;
  out = g.L.LineSink.seen c.tell.new.out;
})) c.tell.result (record {
  count = ap length c.push_reserved.ensures.items ∙ length_push c.args.checked.now.files.items c.args.found.file ∙ ap (λ n. n + 1) c.requires.ready.count;
  room = omega (arith, c.requires.ready.room, c.push_reserved.ensures.capacity);
})
