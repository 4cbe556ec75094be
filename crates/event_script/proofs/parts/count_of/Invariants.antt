use Rattle.std.proofs.Common.{◌≡◌, ◌≤◌, drop}
use Rattle.event_script.specs.Lines.{count_from}
use Rattle.event_script.proofs.parts.count_of.Given as goal

-- What is left completes the number.
abbrev pub invariant-digits : goal.invariant-digits
invariant-digits l = record {
  small : l.count ≤ 10000;
  rest : count_from l.count (drop l.digit-index l.text) ≡ count_from 0 l.text;
}
