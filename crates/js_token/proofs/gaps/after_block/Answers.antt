use Rattle.std.proofs.Common.{arith}
use Rattle.js_token.proofs.Comments.{after_block-turn}
use Rattle.js_token.proofs.gaps.after_block.Goals as goal

pub block-preserved : goal.block-preserved
block-preserved c = (
  omega (arith, c.in-Some.ensures.cases.1, c.block.invariant.0),
  after_block-turn c.in-Some.first.now c.block.left.now c.in-Some.rest.now c.block.breaks _ _ _ c.in-Some.ensures.cases.0
      c.is_block_end.ensures.value c.if-is_block_end.false c.is_line_break-breaks.ensures c.block.invariant.1,
)
