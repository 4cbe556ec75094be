use Rattle.std.proofs.Common.{◌≡◌, ℕ, ◌+◌, List, [], ◌∷◌, ◌++◌, None, Option, sym, ap, ◌∙◌, subst, arith, rules, length, length-append, replicate, append_assoc}
use Rattle.std.proofs.lemmas.List.{replicate-append-replicate, length-replicate}
use Rattle.cell_chunks.specs.Store.{IsStack}
use Rattle.cell_chunks.proofs.Stacks.{stack_push}
use Rattle.cell_chunks.proofs.chunks.Chunks.add_chunk.Goals as goal

-- one vacant slot more
one_more : {T : Type 0} (old ps : List (Option T)) (stack : List ℕ) (n i : ℕ) → IsStack ps stack → ps ≡ old ++ replicate i None → n ≡ length old
    → IsStack (ps ++ None ∷ []) (stack ++ (n + i) ∷ []) × (ps ++ None ∷ [] ≡ old ++ replicate (i + 1) None)
one_more {T} old ps stack n i h e count =
    let none : Option T = None in
    let len : length ps ≡ n + i = ap length e ∙ length-append old (replicate i none) ∙ ap (λ k. length old + k) (length-replicate i none) ∙ ap (λ k. k + i) (sym count) in (
      subst (λ k. IsStack (ps ++ None ∷ []) (stack ++ k ∷ [])) len (stack_push ps stack h),
      ap (λ xs. xs ++ none ∷ []) e ∙ append_assoc old (replicate i none) (none ∷ []) ∙ ap (λ xs. old ++ xs) (replicate-append-replicate i 1 none),
    )

pub slots-preserved : goal.slots-preserved
slots-preserved g c =
    let count : c.len-count.result ≡ length c.reserve.new.self.items = search (rules, c.len-count.ensures, ap length (sym c.reserve.ensures.items)) in
    let more = one_more c.reserve.new.self.items c.slots.self-inside.places.items c.slots.self-inside.vacant.items c.len-count.result c.slots.i c.slots.invariant.stack c.slots.invariant.places count in
    record {
      stack = rw (c.push_reserved.ensures.items, c.push_reserved-in-slots.ensures.items) more.0;
      places = c.push_reserved.ensures.items ∙ more.1;
      room = omega (arith, c.push_reserved.ensures.capacity);
      stacked = omega (arith, c.push_reserved-in-slots.ensures.capacity);
    }

pub returns-clause-added : goal.returns-clause-added
returns-clause-added g c =
    let last : c.slots.i ≡ 1024 = omega arith in
    rw (← c.self.view_is) (c.slots.invariant.places ∙ ap (λ xs. xs ++ replicate c.slots.i None) c.reserve.ensures.items ∙ ap (λ i. c.self.inside.places.items ++ replicate i None) last)
