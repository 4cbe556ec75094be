use Rattle.std.proofs.Common.{◌≡◌, ◌-◌, suc, sym, ap, ◌∙◌, arith}
use Rattle.js_semantics.specs.World.{over}
use Rattle.js_semantics.specs.Expressions.{is_above}
use Rattle.js_step_access.proofs.Inheriting.{above_end, above_here, above_next}
use Rattle.js_step_access.proofs.inheritance.is_above.Goals as goal

pub returns-then-eq : goal.returns-then-eq
returns-then-eq c w =
    let less : c.objects.left ≡ suc (c.objects.left - 1) = omega arith in
    let heap = c.args.heap.now in
    let here = above_here heap w (c.objects.left - 1) c.args.target c.objects.at c.in-Some.proto (sym c.prototype_at.ensures ∙ c.in-Some.is) (sym c.eq.ensures ∙ c.if-eq.true) in
    sym here ∙ sym (ap (λ n. is_above n c.args.target c.objects.at (over heap w)) less) ∙ c.objects.invariant.goes_on w

pub objects-preserved : goal.objects-preserved
objects-preserved c =
    let less : c.objects.left ≡ suc (c.objects.left - 1) = omega arith in
    let heap = c.args.heap.now in
    record {
      goes_on = λ w.
          let next = above_next heap w (c.objects.left - 1) c.args.target c.objects.at c.in-Some.proto (sym c.prototype_at.ensures ∙ c.in-Some.is) (sym c.eq.ensures ∙ c.if-eq.false) in
          sym next ∙ sym (ap (λ n. is_above n c.args.target c.objects.at (over heap w)) less) ∙ c.objects.invariant.goes_on w;
    }

pub returns-in-None : goal.returns-in-None
returns-in-None c w =
    let less : c.objects.left ≡ suc (c.objects.left - 1) = omega arith in
    let heap = c.args.heap.now in
    let end = above_end heap w (c.objects.left - 1) c.args.target c.objects.at (sym c.prototype_at.ensures ∙ c.in-None.is) in
    sym end ∙ sym (ap (λ n. is_above n c.args.target c.objects.at (over heap w)) less) ∙ c.objects.invariant.goes_on w
