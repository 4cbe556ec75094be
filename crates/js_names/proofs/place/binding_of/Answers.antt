use Rattle.std.proofs.Common.{◌≡◌, ◌-◌, ℕ, Option, Some, suc, option_map, nat_eq, sym, ap, ◌∙◌, arith}
use Rattle.world_heap.specs.Maps.{find}
use Rattle.world_heap.specs.declared.cell.Binding.{Binding}
use Rattle.world_heap.specs.declared.cell.Cell.{Cell}
use Rattle.js_semantics.specs.World.{over}
use Rattle.js_semantics.specs.Environments.{binding_within, binding_of}
use Rattle.js_names.specs.Places.{binding_under}
use Rattle.js_names.proofs.Placing.{turn, turn_none, went}
use Rattle.js_names.proofs.place.binding_of.Goals as goal

pub returns-in-Here : goal.returns-in-Here
unfolding binding_of
returns-in-Here c = λ w.
    let h = c.args.heap.now in
    let name = c.args.name.now in
    let left = c.environments.left in
    let at = c.environments.at in
    let place = c.in-Here.place in
    let less : left ≡ suc (left - 1) = omega arith in
    let there : binding_under (find nat_eq h.cells at) place ≡ Some c.in_ok-binding_in-in-Here.field-0.now = ap (λ (o : Option (Cell ℕ)). binding_under o place) c.in_ok-cell.ensures.found ∙ c.in_ok-binding_in-in-Here.ensures in
    sym (turn h w name left (left - 1) at c.in_ok-cell.cell.now c.look.result less c.in_ok-cell.ensures.found c.look.ensures
    ∙ ap (went (λ outer. binding_within (left - 1) outer name (over h w)) (find nat_eq h.cells) at) c.in-Here.is
    ∙ ap (option_map (λ (b : Binding ℕ). (at, b))) there) ∙ c.environments.invariant w

pub environments-preserved : goal.environments-preserved
environments-preserved c = λ w.
    let h = c.args.heap.now in
    let name = c.args.name.now in
    let left = c.environments.left in
    let less : left ≡ suc (left - 1) = omega arith in
    sym (turn h w name left (left - 1) c.environments.at c.in_ok-cell.cell.now c.look.result less c.in_ok-cell.ensures.found c.look.ensures
    ∙ ap (went (λ outer. binding_within (left - 1) outer name (over h w)) (find nat_eq h.cells) c.environments.at) c.in-Outer.is) ∙ c.environments.invariant w

pub returns-in-Nowhere : goal.returns-in-Nowhere
unfolding binding_of
returns-in-Nowhere c = λ w.
    let h = c.args.heap.now in
    let name = c.args.name.now in
    let left = c.environments.left in
    let less : left ≡ suc (left - 1) = omega arith in
    sym (turn h w name left (left - 1) c.environments.at c.in_ok-cell.cell.now c.look.result less c.in_ok-cell.ensures.found c.look.ensures
    ∙ ap (went (λ outer. binding_within (left - 1) outer name (over h w)) (find nat_eq h.cells) c.environments.at) c.in-Nowhere.is) ∙ c.environments.invariant w

pub returns-in_err-cell : goal.returns-in_err-cell
unfolding binding_of
returns-in_err-cell c = λ w.
    let h = c.args.heap.now in
    let left = c.environments.left in
    let less : left ≡ suc (left - 1) = omega arith in
    ap (option_map (λ found. (found.0, found.1.now))) c.from_residual.ensures
    ∙ sym (turn_none h w c.args.name.now left (left - 1) c.environments.at less c.in_err-cell.ensures.found) ∙ c.environments.invariant w

pub returns-in_err-binding_in-in-Here : goal.returns-in_err-binding_in-in-Here
unfolding binding_of
returns-in_err-binding_in-in-Here c = λ w.
    let h = c.args.heap.now in
    let name = c.args.name.now in
    let left = c.environments.left in
    let at = c.environments.at in
    let place = c.in-Here.place in
    let less : left ≡ suc (left - 1) = omega arith in
    ap (option_map (λ found. (found.0, found.1.now))) c.from_residual-in_err-binding_in-in-Here.ensures
    ∙ sym (turn h w name left (left - 1) at c.in_ok-cell.cell.now c.look.result less c.in_ok-cell.ensures.found c.look.ensures
    ∙ ap (went (λ outer. binding_within (left - 1) outer name (over h w)) (find nat_eq h.cells) at) c.in-Here.is
    ∙ ap (option_map (λ (b : Binding ℕ). (at, b))) (ap (λ (o : Option (Cell ℕ)). binding_under o place) c.in_ok-cell.ensures.found ∙ c.in_err-binding_in-in-Here.ensures)) ∙ c.environments.invariant w

pub returns : goal.returns
unfolding binding_of
returns c = λ w.
    let none : c.environments.left ≡ 0 = omega arith in
    sym (ap (λ n. binding_within n c.environments.at c.args.name.now (over c.args.heap.now w)) none) ∙ c.environments.invariant w
