use Rattle.std.proofs.Common.{◌≡◌, ◌||◌, ◌++◌, ◌∷◌, [], ℕ, List, Bool, true, false, refl, sym, ap, ◌∙◌, subst, arith, nat_eq}
use Rattle.std.proofs.lemmas.Bool.Decides.{nat_tests}
use Rattle.world_heap.specs.declared.cell.Cell.{Cell}
use Rattle.world_heap.specs.declared.cell.Cell.TheVariants.{Env}
use Rattle.world_heap.specs.Heaps.{IsCell}
use Rattle.world_heap.specs.Views.{HeapView}
use Rattle.world_heap.specs.Maps.{keys, stands, keys-append, stands-push}
use Rattle.js_names.proofs.tests.add_env.Goals as goal

or_true : (b : Bool) → (b || true) ≡ true
or_true true = refl
or_true false = refl

-- the cell that was added last stands
last_stands : (cells : List (ℕ × Cell ℕ)) (l : ℕ) (c : Cell ℕ) → IsCell nat_eq (cells ++ (l, c) ∷ []) l
last_stands cells l c =
    let same : nat_eq l l ≡ true = grind (arith, nat_tests) in
    ap (λ ks. stands nat_eq ks l) (keys-append cells ((l, c) ∷ [])) ∙ stands-push (keys cells) l l ∙ ap (λ b. stands nat_eq (keys cells) l || b) same ∙ or_true (stands nat_eq (keys cells) l)

pub returns-in-Ok-add : goal.returns-in-Ok-add
returns-in-Ok-add c = subst (λ (v : HeapView). IsCell nat_eq v.cells c.in-Ok-add.loc) (sym c.in-Ok-add.ensures.3) (last_stands c.args.heap.now.cells c.in-Ok-add.loc (Env c.args.outer c.push-2.new.self))
