use Rattle.js_parse.proofs.grammar.+part_of.Given as goal

abbrev pub decreases-part_of : goal.decreases-part_of
decreases-part_of l = l.depth
