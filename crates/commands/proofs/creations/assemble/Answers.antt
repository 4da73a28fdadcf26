use Rattle.std.proofs.Common.{◌≡◌, ℕ, Bor, List, map, inr, rules, string_bytes, subst, sym, ap, ◌∙◌}
use Rattle.std.specs.Prelude.{Result, Err, String}
use Rattle.std.specs.Global.{Global, Vec}
use Rattle.std.proofs.lemmas.Result.{err_from_is_err_and}
use Rattle.benc.specs.Device.{SinkSeen}
use Rattle.drafts.specs.Outline.{Outline}
use Rattle.filetree.specs.declared.refusal.Refusal.{Refusal}
use Rattle.printing.specs.declared.fault.Fault.{Fault}
use Rattle.torrent_lines.specs.Refused.{refusal_text}
use Rattle.assembling.specs.Outcome.{IsAssembled}
use Rattle.assembling.specs.declared.fault.AssembleFault.{AssembleFault}
use Rattle.assembling.specs.declared.fault.AssembleFault.TheVariants as assembling
use Rattle.commands.specs.Creations.{AssemblesDraft}
use Rattle.commands.specs.Outcomes.{IsUnprinted}
use Rattle.commands.proofs.creations.assemble.Goals as goal

refused : (texts : List (List ℕ)) (x : AssembleFault) (r : Refusal) (path : Vec (String Global)) → x ≡ assembling.Refused r path
    → IsAssembled texts (Err x) → IsAssembled texts (Err (assembling.Refused r path))
refused texts x r path is all = subst (λ (y : AssembleFault). IsAssembled texts (Err y)) is all

broke_off : (texts : List (List ℕ)) (out out' : SinkSeen) (x : AssembleFault) (r : Refusal) (path : Vec (String Global)) (items : List (String Global))
    (f e : Fault) (result : Result (Result (Result Outline ℕ) AssembleFault) Fault) → x ≡ assembling.Refused r path → items ≡ path.items
    → IsAssembled texts (Err x) → IsUnprinted r (refusal_text r (map string_bytes items)) out out' f → result ≡ Err e → e ≡ f
    → AssemblesDraft (IsAssembled texts) out out' result
broke_off texts out out' x r path items f e result is same all unprinted answer fault =
    subst (AssemblesDraft (IsAssembled texts) out out') (sym (answer ∙ ap Err fault)) (inr (
      r,
      path,
      refused texts x r path is all,
      subst (λ (xs : List (String Global)). IsUnprinted r (refusal_text r (map string_bytes xs)) out out' f) same unprinted,
    ))

pub returns-in_err-refuse-in-Err-Refused : goal.returns-in_err-refuse-in-Err-Refused
returns-in_err-refuse-in-Err-Refused g c =
    let texts = map (λ (x : Bor (List ℕ)). x.now) c.args.texts.now in
    let p = err_from_is_err_and c.from_residual.result c.from_residual.ensures.1 in
    broke_off texts (g.W.Sink.seen c.args.out.now) (g.W.Sink.seen c.refuse.new.out) c.in-Err-Refused.field-0 c.in-Err-Refused.refusal c.in-Err-Refused.path
    c.deref.result.now _ p.0 c.from_residual.result c.in-Err-Refused.field-0-is c.deref.ensures.value c.in-Err-Refused.ensures
    c.in_err-refuse-in-Err-Refused.ensures.fault p.1 p.2

pub returns-in_ok-refuse-in-Err-Refused : goal.returns-in_ok-refuse-in-Err-Refused
returns-in_ok-refuse-in-Err-Refused g c =
    let texts = map (λ (x : Bor (List ℕ)). x.now) c.args.texts.now in (
      c.in_ok-refuse-in-Err-Refused.ensures.status,
      c.in-Err-Refused.refusal,
      c.in-Err-Refused.path,
      refused texts c.in-Err-Refused.field-0 c.in-Err-Refused.refusal c.in-Err-Refused.path c.in-Err-Refused.field-0-is c.in-Err-Refused.ensures,
      search rules,
    )
