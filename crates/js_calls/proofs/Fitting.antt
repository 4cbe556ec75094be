-- What is called and bound fits a heap.
use Rattle.std.proofs.Common.{ℕ, zero, suc, List, [], ◌∷◌, map, drop, Option, Some, None, false}
use Rattle.std.specs.List.{flat_map}
use Rattle.world_heap.specs.declared.value.Value.{Value}
use Rattle.world_heap.specs.declared.cell.Binding.{Binding}
use Rattle.world_heap.specs.declared.cell.Cell.{Cell}
use Rattle.world_heap.specs.Over.{ListOver, OptionOver}
use Rattle.js_tree.specs.declared.node.NodeId.{NodeId}
use Rattle.js_tree.specs.declared.node.Node.{Node}
use Rattle.js_semantics.specs.Access.{first_of}
use Rattle.js_semantics.specs.Environments.{names_of, parameters_of, unready}
use Rattle.js_names.specs.Growing.{Grows}
use Rattle.js_machine.specs.declared.frame.AfterFrame.{AfterFrame}
use Rattle.js_machine.specs.Closed.{AfterFits, FrameFits, ValueFits}
use Rattle.js_machine.proofs.Closing.{after_grown, list_append}
use Rattle.js_calls.specs.Calling.{after_frame}

pub drop_fits : {A : Type 0} (P : A → Type 0) (n : ℕ) (xs : List A) → ListOver P xs → ListOver P (drop n xs)
drop_fits P zero xs h = h
drop_fits P (suc n) [] h = tt
drop_fits P (suc n) (x ∷ xs) h = drop_fits P n xs h.1

module _ (cells : List (ℕ × Cell ℕ)) where
  -- the first argument
  pub first_fits : (vs : List (Value ℕ)) → ListOver (ValueFits cells) vs → ValueFits cells (first_of vs)
  first_fits [] h = tt
  first_fits (v ∷ vs) h = h.0

  -- bindings that aren't ready
  names_fit : (names : List (List ℕ)) → ListOver (λ (b : Binding ℕ). OptionOver (ValueFits cells) b.value) (map (unready false) names)
  names_fit [] = tt
  names_fit (name ∷ names) = (tt, names_fit names)

  pub unready_fits : (nodes : List Node) (patterns : List NodeId) → ListOver (λ (b : Binding ℕ). OptionOver (ValueFits cells) b.value) (parameters_of nodes patterns)
  unfolding parameters_of
  unready_fits nodes [] = tt
  unready_fits nodes (pattern ∷ patterns) =
      list_append (λ (b : Binding ℕ). OptionOver (ValueFits cells) b.value) (map (unready false) (names_of nodes pattern)) (flat_map (λ p. map (unready false) (names_of nodes p)) patterns) (names_fit (names_of nodes pattern)) (unready_fits nodes patterns)

-- what is done with the value of a call
module _ (nodes : List Node) where
  pub after_frame_fits : (cells : List (ℕ × Cell ℕ)) (frame : Option (AfterFrame ℕ)) → OptionOver (AfterFits nodes cells) frame → OptionOver (FrameFits nodes cells) (after_frame frame)
  after_frame_fits cells None h = tt
  after_frame_fits cells (Some frame) h = h

  pub after_frame_grown : (old new : List (ℕ × Cell ℕ)) → Grows old new → (frame : Option (AfterFrame ℕ)) → OptionOver (AfterFits nodes old) frame → OptionOver (AfterFits nodes new) frame
  after_frame_grown old new grows None h = tt
  after_frame_grown old new grows (Some frame) h = after_grown nodes old new grows frame h
