use Rattle.wire_input.proofs.Said.{parcel_of-read, parcel_of-refused}
use Rattle.wire_input.proofs.place.parcel_of_json.Goals as goal

pub returns-in-Ok-clause-exact : goal.returns-in-Ok-clause-exact
returns-in-Ok-clause-exact c = rw (parcel_of-read _ _ c.in-Ok.ensures.ok.0 c.in-Ok.ensures.ok.1) c.parcel_of_value.ensures.exact

pub returns-else-is_memory-clause-exact : goal.returns-else-is_memory-clause-exact
returns-else-is_memory-clause-exact c =
    parcel_of-refused c.args.bytes.now (c.in-Err.ensures.err (λ m. cc (c.is_memory.ensures.1 m, c.if-is_memory.false)))
