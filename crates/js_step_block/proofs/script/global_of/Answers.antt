use Rattle.std.proofs.Common.{ap, subst, sym, nat_eq}
use Rattle.world_heap.specs.declared.value.Value.TheVariants.{Ref, Undefined}
use Rattle.std.specs.Option.{option_map_or}
use Rattle.world_heap.specs.declared.builtin.BuiltIn.TheVariants.{Global}
use Rattle.world_heap.specs.Heaps.{IsNoEnv}
use Rattle.world_heap.specs.Over.{OptionOver}
use Rattle.js_machine.proofs.Closing.{built_in_fits}
use Rattle.js_step_block.proofs.script.global_of.Goals as goal

pub returns-in-Some-clause-is : goal.returns-in-Some-clause-is
returns-in-Some-clause-is c nodes supply = ap (λ o. option_map_or (λ loc. Ref loc) o Undefined) (c.in-Some.ensures nodes supply)

pub returns-in-None-clause-is : goal.returns-in-None-clause-is
returns-in-None-clause-is c nodes supply = ap (λ o. option_map_or (λ loc. Ref loc) o Undefined) (c.in-None.ensures nodes supply)

pub returns-in-Some-clause-closed : goal.returns-in-Some-clause-closed
returns-in-Some-clause-closed c nodes closed =
    let s = c.args.state.now in
    subst (λ o. OptionOver (IsNoEnv nat_eq s.heap.cells) o) (sym (c.in-Some.ensures nodes (λ n. n))) (built_in_fits nodes (λ n. n) s Global closed)

pub returns-in-None-clause-closed : goal.returns-in-None-clause-closed
returns-in-None-clause-closed c nodes closed = tt
