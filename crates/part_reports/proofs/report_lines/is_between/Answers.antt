use Rattle.std.proofs.Common.{ℕ, ◌<◌, ◌≤◌, IsTrue, nat_le, nat_lt, arith}
use Rattle.part_reports.proofs.report_lines.is_between.Goals as goal

at_most : (a b : ℕ) → IsTrue (nat_le a b) → a ≤ b
at_most a b is = grind arith

below : (a b : ℕ) → IsTrue (nat_lt a b) → a < b
below a b is = grind arith

is_below : (a b : ℕ) → a < b → IsTrue (nat_lt a b)
is_below a b lt = grind arith

pub returns-then-from-number : goal.returns-then-from-number
returns-then-from-number c = (
  λ on. (c.if-from-number.true, below c.args.number c.args.to on),
  λ both. is_below c.args.number c.args.to both.1,
)

pub returns-else-from-number : goal.returns-else-from-number
returns-else-from-number c = (
  λ on.
      let le = at_most c.args.from c.args.number on in
      absurd (omega (arith, le, c.if-from-number.false)),
  λ both. absurd (omega (arith, both.0, c.if-from-number.false)),
)
