use Rattle.std.proofs.Common.{◌≡◌, ◌+◌, ◌≤◌, length, All}
use Rattle.std.specs.Str.Lines.{lines}
use Rattle.event_script.specs.Allowed.{IsAllowed}
use Rattle.event_script.specs.Script.{numbered, script}
use Rattle.event_script.proofs.Read.{behind_all}
use Rattle.event_script.proofs.script.read_script.Given as goal

-- The lines that were read and what is left are the script.
abbrev pub invariant-lines : goal.invariant-lines
invariant-lines l = record {
  few : l.number + length l.rest ≤ 1_048_576;
  told : length l.read.items ≤ l.number;
  allowed : All (λ line. IsAllowed line.what) l.read.items;
  read : behind_all l.read.items (numbered (l.number + 1) (lines l.rest)) ≡ script l.bytes;
}

abbrev pub decreases-lines : goal.decreases-lines
decreases-lines l = length l.rest
