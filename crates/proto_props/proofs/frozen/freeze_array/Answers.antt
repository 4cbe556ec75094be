use Rattle.std.proofs.Common.{◌≡◌, ◌∙◌, [], Some, true, refl, sym, ap, subst, nat_eq, List, ℕ}
use Rattle.world_heap.specs.declared.value.Value.{Value}
use Rattle.world_heap.specs.declared.cell.Cell.TheVariants.{Array}
use Rattle.world_heap.specs.Maps.{put, Stands, keys-put}
use Rattle.world_heap.specs.Heaps.{IsWell, IsCell}
use Rattle.world_heap.specs.Views.{HeapView}
use Rattle.world_heap.proofs.Wells.{found_stands}
use Rattle.world_heap.proofs.Bodying.{put-put}
use Rattle.proto_props.specs.Freezes.{cells_frozen}
use Rattle.proto_props.proofs.Exchanges.{well_array, array_found, values_kept, array_frozen}
use Rattle.proto_props.proofs.frozen.freeze_array.Goals as goal

none : List (Value ℕ)
none = []

pub replace-requires-clause-stands : goal.replace-requires-clause-stands
replace-requires-clause-stands c =
    let a = c.requires.array in
    found_stands c.args.heap.now.cells c.args.loc (Array c.args.proto a.0 a.1) a.2

pub replace-requires-clause-keeps : goal.replace-requires-clause-keeps
replace-requires-clause-keeps c = λ well.
    let a = c.requires.array in
    rw c.new.ensures (well_array c.args.heap.now.cells c.args.loc c.args.proto a.0 a.1 a.2 [] true tt well)

pub replace-requires-in-Array-clause-stands : goal.replace-requires-in-Array-clause-stands
replace-requires-in-Array-clause-stands c =
    let cells = c.args.heap.now.cells in
    let a = c.requires.array in
    let is = ap (λ (v : HeapView). v.cells) c.replace.ensures.is in
    let before = found_stands cells c.args.loc (Array c.args.proto a.0 a.1) a.2 in
    subst (IsCell nat_eq c.replace.new.self.cells) refl (subst (λ cs. IsCell nat_eq cs c.args.loc) (sym is) (subst (λ ks. Stands ks c.args.loc) (sym (keys-put cells c.args.loc (Array c.args.proto c.new.result true))) before))

pub replace-requires-in-Array-clause-keeps : goal.replace-requires-in-Array-clause-keeps
unfolding none
replace-requires-in-Array-clause-keeps c = λ well.
    let cells = c.args.heap.now.cells in
    let a = c.requires.array in
    let is : c.replace.new.self.cells ≡ put nat_eq cells c.args.loc (Array c.args.proto none true) = ap (λ (v : HeapView). v.cells) c.replace.ensures.is ∙ ap (λ vs. put nat_eq cells c.args.loc (Array c.args.proto vs true)) c.new.ensures in
    let both : Some (Array c.args.proto a.0 a.1) ≡ Some (Array c.in-Array.proto c.in-Array.items c.in-Array.frozen) = sym a.2 ∙ c.in-Array.ensures.was in
    let proto : c.args.proto ≡ c.in-Array.proto = cc in
    let items : a.0 ≡ c.in-Array.items = cc in
    let over = values_kept cells c.args.loc c.args.proto a.0 a.1 a.2 c.requires.well none true in
    let new = well_array (put nat_eq cells c.args.loc (Array c.args.proto none true)) c.args.loc c.args.proto none true (array_found cells c.args.loc c.args.proto a.0 a.1 a.2 none true) a.0 true over (subst (IsWell nat_eq) is well) in
    subst (λ p. IsWell nat_eq (put nat_eq c.replace.new.self.cells c.args.loc (Array p c.in-Array.items true))) proto
    (subst (λ vs. IsWell nat_eq (put nat_eq c.replace.new.self.cells c.args.loc (Array c.args.proto vs true))) items
    (subst (λ cs. IsWell nat_eq (put nat_eq cs c.args.loc (Array c.args.proto a.0 true))) (sym is) new))

pub returns : goal.returns
unfolding none
returns c =
    let cells = c.args.heap.now.cells in
    let a = c.requires.array in
    let is : c.replace.new.self.cells ≡ put nat_eq cells c.args.loc (Array c.args.proto none true) = ap (λ (v : HeapView). v.cells) c.replace.ensures.is ∙ ap (λ vs. put nat_eq cells c.args.loc (Array c.args.proto vs true)) c.new.ensures in
    let both : Some (Array c.args.proto a.0 a.1) ≡ Some (Array c.in-Array.proto c.in-Array.items c.in-Array.frozen) = sym a.2 ∙ c.in-Array.ensures.was in
    let proto : c.args.proto ≡ c.in-Array.proto = cc in
    let items : a.0 ≡ c.in-Array.items = cc in
    let new : put nat_eq c.replace.new.self.cells c.args.loc (Array c.in-Array.proto c.in-Array.items true) ≡ cells_frozen cells c.args.loc =
    ap (λ cs. put nat_eq cs c.args.loc (Array c.in-Array.proto c.in-Array.items true)) is
    ∙ put-put cells c.args.loc (Array c.args.proto none true) (Array c.in-Array.proto c.in-Array.items true)
    ∙ ap (λ p. put nat_eq cells c.args.loc (Array p c.in-Array.items true)) (sym proto)
    ∙ ap (λ vs. put nat_eq cells c.args.loc (Array c.args.proto vs true)) (sym items)
    ∙ sym (array_frozen cells c.args.loc c.args.proto a.0 a.1 a.2) in
    c.replace-in-Array.ensures.is ∙ (λ i. record (c.replace.ensures.is i) { cells = new i })
