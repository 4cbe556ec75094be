use Rattle.std.proofs.Common.{◌≡◌, ◌∙◌, ◌-◌, suc, sym, ap, arith, nat_eq, Some}
use Rattle.proto_props.specs.Chains.{search, taken}
use Rattle.proto_props.proofs.Turns.{turn, next_stands}
use Rattle.proto_props.proofs.chain.search_from.Goals as goal

pub returns-in-Own-clause-is : goal.returns-in-Own-clause-is
returns-in-Own-clause-is c =
    let less : c.objects.left ≡ suc (c.objects.left - 1) = omega arith in
    let key = c.args.key.now in
    let cells = c.args.heap.now.cells in
    sym (turn cells key c.objects.left (c.objects.left - 1) c.objects.at c.cell.result.now c.seen.result less c.cell.ensures.found c.seen.ensures
    ∙ ap (λ s. taken (search nat_eq cells key (c.objects.left - 1)) c.objects.at (Some s)) c.in-Own.is) ∙ c.objects.invariant.goes_on

pub returns-in-Past-clause-is : goal.returns-in-Past-clause-is
returns-in-Past-clause-is c =
    let less : c.objects.left ≡ suc (c.objects.left - 1) = omega arith in
    let key = c.args.key.now in
    let cells = c.args.heap.now.cells in
    sym (turn cells key c.objects.left (c.objects.left - 1) c.objects.at c.cell.result.now c.seen.result less c.cell.ensures.found c.seen.ensures
    ∙ ap (λ s. taken (search nat_eq cells key (c.objects.left - 1)) c.objects.at (Some s)) c.in-Past.is) ∙ c.objects.invariant.goes_on

pub returns-in-End-clause-is : goal.returns-in-End-clause-is
returns-in-End-clause-is c =
    let less : c.objects.left ≡ suc (c.objects.left - 1) = omega arith in
    let key = c.args.key.now in
    let cells = c.args.heap.now.cells in
    sym (turn cells key c.objects.left (c.objects.left - 1) c.objects.at c.cell.result.now c.seen.result less c.cell.ensures.found c.seen.ensures
    ∙ ap (λ s. taken (search nat_eq cells key (c.objects.left - 1)) c.objects.at (Some s)) c.in-End.is) ∙ c.objects.invariant.goes_on

pub objects-preserved : goal.objects-preserved
objects-preserved c =
    let less : c.objects.left ≡ suc (c.objects.left - 1) = omega arith in
    let key = c.args.key.now in
    let cells = c.args.heap.now.cells in
    record {
      stands = next_stands cells c.cell.result.now key c.in-Next.proto c.cell.ensures.fits (sym c.seen.ensures ∙ c.in-Next.is);
      goes_on = sym (turn cells key c.objects.left (c.objects.left - 1) c.objects.at c.cell.result.now c.seen.result less c.cell.ensures.found c.seen.ensures
          ∙ ap (λ s. taken (search nat_eq cells key (c.objects.left - 1)) c.objects.at (Some s)) c.in-Next.is) ∙ c.objects.invariant.goes_on;
    }

pub returns-clause-is : goal.returns-clause-is
returns-clause-is c =
    let none : c.objects.left ≡ 0 = omega arith in
    sym (ap (λ n. search nat_eq c.args.heap.now.cells c.args.key.now n c.objects.at) none) ∙ c.objects.invariant.goes_on
