use Rattle.std.proofs.Common.{inl, inr, refl}
use Rattle.worlds_cli.proofs.command.refuse.Goals as goal

pub returns-in-Err : goal.returns-in-Err
returns-in-Err g c = inr (c.in-Err.ensures.err, c.in-Err.ensures.front)

pub returns : goal.returns
returns g c = inl (refl, c.in-Ok.ensures.ok)
