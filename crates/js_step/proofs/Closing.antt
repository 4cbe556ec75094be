-- What a closed state goes on to where its topmost frame is taken off, and where what is next is taken out.
use Rattle.std.proofs.Common.{◌≡◌, ℕ, List, [], ◌∷◌, ◌++◌}
use Rattle.js_tree.specs.declared.node.Node.{Node}
use Rattle.world_heap.specs.Over.{ListOver}
use Rattle.js_machine.specs.declared.frame.Frame.{Frame}
use Rattle.js_machine.specs.declared.state.Control.{Control}
use Rattle.js_machine.specs.declared.state.Control.TheVariants as controls
use Rattle.js_machine.specs.declared.state.State.{State}
use Rattle.js_machine.specs.Closed.{ControlFits, FrameFits, IsClosed}
use Rattle.js_machine.proofs.Closing.{closed_control}

-- a list without its last member
init_over : {A : Type 0} (P : A → Type 0) (xs : List A) (x : A) → ListOver P (xs ++ x ∷ []) → ListOver P xs
init_over P [] x h = tt
init_over P (y ∷ xs) x h = (h.0, init_over P xs x h.1)

last_over : {A : Type 0} (P : A → Type 0) (xs : List A) (x : A) → ListOver P (xs ++ x ∷ []) → P x
last_over P [] x h = h.0
last_over P (y ∷ xs) x h = last_over P xs x h.1

module _ (nodes : List Node) (s : State) (rows : List (Frame ℕ)) (frame : Frame ℕ) (is : s.frames.items ≡ rows ++ frame ∷ []) (closed : IsClosed nodes s) where
  all : ListOver (FrameFits nodes s.heap.cells) (rows ++ frame ∷ [])
  all = rw is at closed.frames

  -- the topmost frame
  pub popped_fits : FrameFits nodes s.heap.cells frame
  popped_fits = last_over (FrameFits nodes s.heap.cells) rows frame all

  -- the frames below it
  pub popped_rows : ListOver (FrameFits nodes s.heap.cells) rows
  popped_rows = init_over (FrameFits nodes s.heap.cells) rows frame all

-- what was next is taken out
pub at_stop : (nodes : List Node) (s : State) (control : Control ℕ) → IsClosed nodes s → control ≡ controls.Stop → IsClosed nodes (record s { control = control })
at_stop nodes s control closed is = rw is (closed_control nodes s controls.Stop closed tt).closed

-- and it fits
pub taken_fits : (nodes : List Node) (s : State) (control : Control ℕ) → IsClosed nodes s → s.control ≡ control → ControlFits nodes s.heap.cells control
taken_fits nodes s control closed is = rw is at closed.control
