use Rattle.v8_wire.proofs.WholeAgain.{read-once}
use Rattle.v8_wire.proofs.laws.bytes_read_once.Goals as goal

pub returns : goal.returns
returns c = λ bytes ports a b. read-once ports bytes a b
