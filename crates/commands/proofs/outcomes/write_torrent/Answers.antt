use Rattle.std.specs.Prelude.{◌≡◌, ◌≢◌, ℕ, List, [], Result, Ok, Err, IfErr, IfOk, OnOk, false}
use Rattle.std.proofs.Common.{rules, inr}
use Rattle.benc.specs.Device.{SinkSeen, SentAndFlushed}
use Rattle.torrent_lines.specs.Refused.{refusal_text}
use Rattle.printing.specs.declared.fault.Fault.{Fault}
use Rattle.drafts.specs.Finishing.{finish_rows}
use Rattle.drafts.specs.Outline.{Outline}
use Rattle.filetree.specs.declared.refusal.Refusal.{Refusal}
use Rattle.filetree.specs.declared.refusal.Refusal.TheVariants.{NoMemory, Write}
use Rattle.filetree.specs.Tests.{First}
use Rattle.commands.specs.Outcomes.{IsUnprinted, WritesTorrent, answer_status}
use Rattle.commands.proofs.outcomes.write_torrent.Goals as goal

-- the refusal was printed, or its line broke off
refused : (draft : Outline) (path : List ℕ) (torrent torrent' out out' : SinkSeen) (r : Refusal)
    → First (finish_rows draft) r → torrent' ≡ torrent → r ≢ NoMemory → (answer : Result ℕ Fault)
    → IfOk answer (λ s. s ≡ answer_status false)
    → OnOk answer (SentAndFlushed out out' (refusal_text r []))
    → IfErr answer (IsUnprinted r (refusal_text r []) out out')
    → WritesTorrent draft path torrent torrent' out out' answer
refused draft path torrent torrent' out out' r first unwritten memory (Ok s) status line fault =
    inr (status, unwritten, r, first, line)
refused draft path torrent torrent' out out' r first unwritten memory (Err f) status line fault =
    inr (record {
      named = (fault.broke memory).0;
      refusal = r;
      first = first;
      broke = (fault.broke memory).1;
      unwritten = unwritten;
    })

-- src/outcomes.rt:228:1
pub returns-in-Err : goal.returns-in-Err
returns-in-Err g c =
    let not_write : c.in-Err.refusal ≢ Write = search rules in
    let known = c.in-Err.ensures.refused not_write in
    refused _ _ _ _ _ _ _ known.0 known.1 c.in-Err.ensures.no_memory c.refuse.result
    c.refuse.ensures.status c.refuse.ensures.line c.refuse.ensures.fault
