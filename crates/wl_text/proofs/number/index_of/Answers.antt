use Rattle.wl_text.proofs.Numbers.{index_of_by_led, index_of_led, index_of_by, index_of_some, index_of_none}
use Rattle.wl_text.proofs.number.index_of.Goals as goal

pub returns-then-is_zero_led-clause-value : goal.returns-then-is_zero_led-clause-value
returns-then-is_zero_led-clause-value c = index_of_by_led c.args.text.now (cc)

pub returns-then-is_zero_led-clause-law : goal.returns-then-is_zero_led-clause-law
returns-then-is_zero_led-clause-law c = index_of_led c.args.text.now (cc)

pub returns-in-Some-clause-value : goal.returns-in-Some-clause-value
returns-in-Some-clause-value c = index_of_by c.args.text.now _ (cc) (cc)

pub returns-in-Some-clause-law : goal.returns-in-Some-clause-law
returns-in-Some-clause-law c = index_of_some c.args.text.now _ (cc) (cc)

pub returns-in-None-clause-value : goal.returns-in-None-clause-value
returns-in-None-clause-value c = index_of_by c.args.text.now _ (cc) (cc)

pub returns-in-None-clause-law : goal.returns-in-None-clause-law
returns-in-None-clause-law c = index_of_none c.args.text.now (cc)
