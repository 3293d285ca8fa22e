-- `put_numbers` meets its contract: after i turns, i numbers are put. Assumes nothing.
use native.Mathlib.Omega.{arith}
use Rattle.answers.proofs.Fields.{told_none, told_more, told_all}
use Rattle.answers.proofs.line.put_numbers.Goals as goal

pub loop-number-init : goal.loop-number-init
loop-number-init c = told_none _

pub put_field-requires : goal.put_field-requires
put_field-requires c = omega (arith, c.loop-number.invariant.short, c.loop-number.invariant.kept, c.loop-number-test.true, c.requires)

pub loop-number-preserved : goal.loop-number-preserved
loop-number-preserved c = told_more _ c.loop-number-test.true c.loop-number.invariant c.put_field.ensures

pub returns : goal.returns
returns c = told_all c.args.answer c.loop-number.auto.number-index-end c.loop-number-test.false c.loop-number.invariant
