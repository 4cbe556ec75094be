use Rattle.std.proofs.Common.{◌≡◌, ◌≤◌, drop}
use Rattle.std.specs.Str.{all_ascii_digits}
use Rattle.wl_text.specs.Number.{value_after}
use Rattle.wire_input.proofs.key.natural.Given as goal

-- The value so far, and whether all are digits, depend on what is left alone.
abbrev pub invariant-loop-digit : goal.invariant-loop-digit
invariant-loop-digit l = record {
  small : l.value ≤ l.most;
  value : value_after 0 l.digits ≡ value_after l.value (drop l.digit-index l.digits);
  digits : all_ascii_digits l.digits ≡ all_ascii_digits (drop l.digit-index l.digits);
}
