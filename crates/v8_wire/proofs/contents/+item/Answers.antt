use Rattle.std.proofs.Common.{◌∙◌, ap, sym, length, arith}
use Rattle.v8_wire.specs.Contents.{contents_at, turned}
use Rattle.v8_wire.specs.Item.{item_at}
use Rattle.v8_wire.proofs.Refusals.{array_turn-fails, sparse_turn-fails}
use Rattle.v8_wire.proofs.Turns.{contents_at-turn, contents_at-fails}
use Rattle.v8_wire.proofs.contents.+item.Goals as goal

pub contents_of-returns-in-Err-clause-exact : goal.contents_of-returns-in-Err-clause-exact
contents_of-returns-in-Err-clause-exact t c =
    let i = c.turns.invariant in
    rw i.4 (contents_at-fails c.in-Err.stop (item_at c.args.depth) i.0 c.turns.begun c.turns.met c.turns.rest.now i.1 c.in-Err.ensures.exact)

pub contents_of-returns-in-End-clause-exact : goal.contents_of-returns-in-End-clause-exact
contents_of-returns-in-End-clause-exact t c =
    let i = c.turns.invariant in
    let s = contents_at-turn (item_at c.args.depth) i.0 c.turns.begun c.turns.met c.turns.rest.now _ i.1 c.in-Ok.ensures.exact in
    i.4 ∙ s.2 ∙ ap (λ turn. turned (contents_at (item_at c.args.depth) s.0) turn c.turn_of.new.met c.in-Ok.found.1.now) c.in-End.is

pub contents_of-turns-preserved : goal.contents_of-turns-preserved
contents_of-turns-preserved t c =
    let i = c.turns.invariant in
    let s = contents_at-turn (item_at c.args.depth) i.0 c.turns.begun c.turns.met c.turns.rest.now _ i.1 c.in-Ok.ensures.exact in (
      s.0,
      omega (arith, s.1, i.1, c.in-Ok.ensures.shorter),
      omega (arith, i.2, c.in-Ok.ensures.shorter),
      omega (arith, i.3, c.in-Ok.ensures.grows),
      i.4 ∙ s.2 ∙ ap (λ turn. turned (contents_at (item_at c.args.depth) s.0) turn c.turn_of.new.met c.in-Ok.found.1.now) c.in-More.is,
    )

pub contents_of-returns-in-End-clause-grows : goal.contents_of-returns-in-End-clause-grows
contents_of-returns-in-End-clause-grows t c = omega (arith, c.turns.invariant.3, c.in-Ok.ensures.grows)

pub composite_of-set-requires : goal.composite_of-set-requires
composite_of-set-requires t c = omega (arith, c.in_ok-number.ensures.grows, c.in_ok-node.ensures.grows)

pub array_turn_of-returns-clause-exact : goal.array_turn_of-returns-clause-exact
array_turn_of-returns-clause-exact t c =
    array_turn-fails c.refusal.result (item_at c.args.depth) c.args.size c.args.items c.args.met.now c.args.tag (length c.args.bytes.now) c.args.after.now
    c.if-tag-eq45.false (omega (arith, c.if-len-size.false)) c.if-tag-eq36.false c.refusal.ensures

pub sparse_turn_of-returns-clause-exact : goal.sparse_turn_of-returns-clause-exact
sparse_turn_of-returns-clause-exact t c =
    sparse_turn-fails c.refusal.result (item_at c.args.depth) c.args.size c.args.items c.args.met.now c.args.tag c.args.left c.args.bytes.now
    c.if-tag-eq45.false c.if-tag-eq64.false (sym c.may_be_next_of.ensures ∙ c.if-may_be_next_of.false) c.refusal.ensures
