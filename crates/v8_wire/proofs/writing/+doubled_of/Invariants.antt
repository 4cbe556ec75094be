use Rattle.v8_wire.proofs.writing.+doubled_of.Given as goal

abbrev pub decreases-doubled_of : goal.decreases-doubled_of
decreases-doubled_of l = l.more
