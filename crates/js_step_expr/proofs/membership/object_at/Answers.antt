use Rattle.std.proofs.Common.{◌∙◌, sym, ℕ, [], None, false, nat_eq, true≢false}
use Rattle.js_semantics.specs.World.{World, over}
use Rattle.world_heap.proofs.Wells.{no_env_stands}
use Rattle.js_step_expr.proofs.Fitted.{object_fits}
use Rattle.world_kind.specs.declared.WorldKind.TheVariants.{Main}
use Rattle.js_step_expr.proofs.membership.object_at.Goals as goal

pub returns-then-not-is_cell-clause-closed : goal.returns-then-not-is_cell-clause-closed
returns-then-not-is_cell-clause-closed c fit =
    let cells = c.args.heap.now.cells in
    let w : World ℕ = record { heap = []; depth = 0; units = 0; limits = c.args.heap.now.limits; kind = Main; tree = []; loaded = false; supply = λ n. None; same = nat_eq } in
    let there = object_fits cells c.args.value.now (over c.args.heap.now w) c.in-Some.loc fit (sym (c.object_of.ensures w) ∙ c.in-Some.is) in
    absurd (true≢false (sym (c.is_cell.ensures.only (no_env_stands cells c.in-Some.loc there)) ∙ c.if-not-is_cell.true))
