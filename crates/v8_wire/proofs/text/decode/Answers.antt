use Rattle.v8_wire.proofs.Texts.{decoded-refused, decoded-long, decoded-fits}
use Rattle.v8_wire.proofs.text.decode.Goals as goal

pub returns-in-Err-clause-exact : goal.returns-in-Err-clause-exact
returns-in-Err-clause-exact c = decoded-refused c.args.left c.args.bytes.now c.in-Err.ensures.cases.0

pub returns-in-Ok-of_text-clause-exact : goal.returns-in-Ok-of_text-clause-exact
returns-in-Ok-of_text-clause-exact c =
    decoded-fits c.args.left c.args.bytes.now c.in-Ok.text.now c.in-Ok-of_text.text c.in-Ok.ensures.cases.0 c.in-Ok.ensures.cases.1 c.in-Ok-of_text.ensures.0 c.in-Ok-of_text.ensures.1

pub returns-in-Err-TooLong-clause-exact : goal.returns-in-Err-TooLong-clause-exact
returns-in-Err-TooLong-clause-exact c =
    decoded-long c.args.left c.args.bytes.now c.in-Ok.text.now c.in-Ok.ensures.cases.0 c.in-Ok.ensures.cases.1 (rw c.in-Err-TooLong.field-0-is at c.in-Err-TooLong.ensures)
