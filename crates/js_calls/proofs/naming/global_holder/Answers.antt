use Rattle.std.proofs.Common.{sym, ◌∙◌, true≢false, subst, nat_eq}
use Rattle.js_machine.specs.Does.{world_of}
use Rattle.js_calls.proofs.Lookups.{holds, holds_not, no_global}
use Rattle.world_heap.specs.declared.builtin.BuiltIn.TheVariants.{Global}
use Rattle.world_heap.specs.Heaps.{IsNoEnv}
use Rattle.world_heap.specs.Over.{OptionOver}
use Rattle.world_heap.proofs.Wells.{no_env_stands}
use Rattle.js_machine.proofs.Closing.{built_in_fits}
use Rattle.js_calls.proofs.naming.global_holder.Goals as goal

pub returns-in-Some-find-clause-is : goal.returns-in-Some-find-clause-is
returns-in-Some-find-clause-is c nodes supply =
    holds c.args.name.now (world_of nodes supply c.args.state.now) c.in-Some.global c.in-Some-find.field-0 (sym (c.built_in.ensures nodes supply) ∙ c.in-Some.is) (sym c.find.ensures ∙ c.in-Some-find.is)

pub returns-in-None-find-clause-is : goal.returns-in-None-find-clause-is
returns-in-None-find-clause-is c nodes supply =
    holds_not c.args.name.now (world_of nodes supply c.args.state.now) c.in-Some.global (sym (c.built_in.ensures nodes supply) ∙ c.in-Some.is) (sym c.find.ensures ∙ c.in-None-find.is)

pub returns-in-None-clause-is : goal.returns-in-None-clause-is
returns-in-None-clause-is c nodes supply = no_global c.args.name.now (world_of nodes supply c.args.state.now) (sym (c.built_in.ensures nodes supply) ∙ c.in-None.is)

pub returns-then-not-is_cell-clause-closed : goal.returns-then-not-is_cell-clause-closed
returns-then-not-is_cell-clause-closed c nodes closed =
    let s = c.args.state.now in
    let there : IsNoEnv nat_eq s.heap.cells c.in-Some.global = subst (λ o. OptionOver (IsNoEnv nat_eq s.heap.cells) o) (sym (c.built_in.ensures nodes (λ n. n)) ∙ c.in-Some.is) (built_in_fits nodes (λ n. n) s Global closed) in
    absurd (true≢false (sym (c.is_cell.ensures.only (no_env_stands s.heap.cells c.in-Some.global there)) ∙ c.if-not-is_cell.true))

pub returns-in-Some-find-clause-closed : goal.returns-in-Some-find-clause-closed
returns-in-Some-find-clause-closed c nodes closed =
    let s = c.args.state.now in
    subst (λ o. OptionOver (IsNoEnv nat_eq s.heap.cells) o) (sym (c.built_in.ensures nodes (λ n. n)) ∙ c.in-Some.is) (built_in_fits nodes (λ n. n) s Global closed)
