use Rattle.js_machine.proofs.Messages.{message_short}
use Rattle.js_machine.proofs.throwing.message.Goals as goal

pub short_text-requires : goal.short_text-requires
short_text-requires c = rw c.message.ensures (message_short c.args.fault)
