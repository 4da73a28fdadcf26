use Rattle.std.proofs.Common.{◌-◌, ◌≤◌, ◌++◌, ℕ, List, length, take}
use Rattle.benc.specs.Device.{SinkSeen}
use Rattle.conversions.specs.Steps.{ConvertsFurther, Held, Reached}
use Rattle.conversions.proofs.parts.convert_part.Given as goal

abbrev pub invariant-frames : goal.invariant-frames
invariant-frames g l = record {
  within : l.done ≤ length l.part;
  converts : (start : SinkSeen) (fed text : List ℕ) → Reached l.initial.left fed text → Held start (g.W.Sink.seen l.initial.out) l.initial.outgoing.items text
      → ConvertsFurther start (g.W.Sink.seen l.out) l.outgoing.items l.left (fed ++ take l.done l.part);
}

abbrev pub decreases-frames : goal.decreases-frames
decreases-frames g l = length l.part - l.done
