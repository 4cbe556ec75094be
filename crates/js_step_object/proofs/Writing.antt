-- What a cell that takes the place of another is to a row, with the places that it takes.
use Rattle.std.proofs.Common.{◌≡◌, ℕ, ◌+◌, ◌*◌, ◌-◌, ◌≤◌, ◌<◌, List, [], ◌∷◌, nat_eq, refl, sym, ap, ◌∙◌, arith}
use Rattle.js_tree.specs.declared.node.Node.{Node}
use Rattle.world_heap.specs.declared.cell.Cell.{Cell}
use Rattle.world_heap.specs.Maps.{put, keys-put}
use Rattle.world_heap.specs.Growth.{grown}
use Rattle.js_semantics.specs.World.{World, with_cell}
use Rattle.js_semantics.specs.Prog.{Prog, bind, change, count_places}
use Rattle.js_semantics.specs.Run.{receive, run}
use Rattle.world_log.specs.declared.entry.Product.TheVariants.{Stopped}
use Rattle.world_log.specs.declared.entry.Stop.TheVariants.{Places}
use Rattle.js_semantics.proofs.Programs.{count_bind, place_none, places_some}
use Rattle.js_machine.specs.declared.state.State.{State}
use Rattle.js_machine.specs.declared.state.Control.TheVariants as controls
use Rattle.js_machine.specs.declared.state.Next.TheVariants.{Made}
use Rattle.js_machine.specs.Does.{world_of, budget_of, stack_rest, to_come, after, weights, work, left, Does, Moves}
use Rattle.js_machine.proofs.Changing.{follows_keys}

-- a cell takes the place of another, and so many places more
pub moves_write : (nodes : List Node) (n loc : ℕ) (cell : Cell ℕ) (f : World ℕ → World ℕ) (p : Prog ℕ) (old mid : State) → ((supply : ℕ → ℕ) → f (world_of nodes supply old) ≡ with_cell loc cell (world_of nodes supply old)) → n ≤ old.heap.limits.places - old.heap.counts.places → mid ≡ record old { heap = record old.heap { cells = put nat_eq old.heap.cells loc cell; counts = grown old.heap.counts 0 n 0 } } → Moves nodes (count_places n (change f p)) old p mid
unfolding run
moves_write nodes n loc cell f p old mid to some is =
    let grew : State = record old { heap = record old.heap { cells = put nat_eq old.heap.cells loc cell; counts = grown old.heap.counts 0 n 0 } } in
    let place : old.heap.limits.places - (old.heap.counts.places + n) ≡ old.heap.limits.places - old.heap.counts.places - n = omega arith in
    let unit : old.heap.counts.units + 0 ≡ old.heap.counts.units = omega arith in
    rw is (record {
      law = λ supply ds k follows.
          let w = world_of nodes supply old in
          let b = budget_of old in
          ap (λ q. run ds b w q) (count_bind n (change f p) k)
          ∙ places_some ds (receive ds) n b (bind (change f p) k) w some
          ∙ ap (λ v. run ds (record b { places = b.places - n }) v (bind p k)) (to supply)
          ∙ sym (ap (λ m. run ds (record b { places = m }) (with_cell loc cell w) (bind p k)) place)
          ∙ sym (ap (λ u. run ds (budget_of grew) (record (with_cell loc cell w) { units = u }) (bind p k)) unit);
      frames = refl;
      left = omega arith;
      keeps = λ supply follows. follows_keys supply 0 (put nat_eq old.heap.cells loc cell) old.heap.cells (keys-put old.heap.cells loc cell) follows;
      stays = refl;
    })

-- the world stops where no place is left
pub does_not_place : (nodes : List Node) (n : ℕ) (p : Prog ℕ) (old new : State) → 1 ≤ n → old.heap.limits.places < old.heap.counts.places + 1 → new ≡ record old { control = controls.Stop } → Does nodes n (count_places 1 p) old new (Made (Stopped Places))
unfolding run
does_not_place nodes n p old new some full is =
    let none : old.heap.limits.places - old.heap.counts.places ≡ 0 = omega arith in
    record {
      law = λ supply ds follows.
          let w = world_of nodes supply old in
          place_none ds (receive ds) (budget_of old) (bind p (stack_rest nodes old)) w none
          ∙ sym (ap (λ s. after (Stopped Places ∷ []) (to_come nodes supply s ds)) is);
      falls = let e : work new ≡ 32 * left old + weights old.frames.items + 0 = ap work is in omega arith;
      keeps = λ supply f. rw is at f;
      stays = ap (λ s. s.heap) is ∙ sym (ap (λ s. record old.heap { cells = s.heap.cells; counts = s.heap.counts }) is);
    }
