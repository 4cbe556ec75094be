use Rattle.std.proofs.Common.{◌≡◌}
use Rattle.proto_props.proofs.Hardening.{part_frozen}
use Rattle.proto_props.proofs.frozen.harden.Given as goal

abbrev pub invariant-properties : goal.invariant-properties
invariant-properties l = l.table ≡ part_frozen l.at l.initial.table
