-- The own properties of a cell (ECMA-262, 10.1.5: ordinary objects; 10.4.2: arrays; 10.4.5: views).
use Rattle.std.specs.Prelude.{ℕ, Bool, false, List, length, Option, Some, None, is_some, if◌then◌else◌, codes, nat_eq, nat_lt}
use Rattle.std.specs.Cmp.Lexicographic.{pointwise}
use Rattle.wl_text.specs.Number.{index_of}
use Rattle.world_heap.specs.declared.cell.Body.{Body}
use Rattle.world_heap.specs.declared.cell.Cell.{Cell}
use Rattle.world_heap.specs.declared.cell.Cell.TheVariants.{Array, View}
use Rattle.world_heap.specs.Table.{found_under}
use Rattle.world_heap.specs.Bodies.{body_of}
use Rattle.proto_props.specs.declared.own.Look.{Look}
use Rattle.proto_props.specs.declared.own.Look.TheVariants.{Own, Past, End, Next}

-- the key is `length`
abbrev pub is_length : List ℕ → Bool
is_length key = pointwise nat_eq key (codes "length")

-- the key is an array index below the number
abbrev pub is_index_below : ℕ → Option ℕ → Bool
is_index_below n None = false
is_index_below n (Some i) = nat_lt i n

module _ {L : Type 0} where
  -- The search goes on with the prototype, where there is one.
  abbrev pub onward : Option L → Look L
  onward None = End
  onward (Some p) = Next p

  -- what is seen in a body
  abbrev pub look_in : Body L → List ℕ → Look L
  look_in b key = if is_some (found_under b.properties key) then Own else onward b.proto

  -- what is seen of an index, or of another key, at a view
  abbrev pub look_at : Body L → ℕ → List ℕ → Option ℕ → Look L
  look_at b n key None = look_in b key
  look_at b n key (Some i) = if nat_lt i n then Own else Past

  -- what is seen at a body, where there is one
  abbrev pub look_by : List ℕ → Option (Body L) → Look L
  look_by key None = End
  look_by key (Some b) = look_in b key

  -- What is seen of a key at a cell. An array has its elements and `length`, and a view its bytes. An index past the end
  -- of a view is no property, and isn't looked for in its prototypes.
  abbrev pub look : Cell L → List ℕ → Look L
  look (Array p vs f) key = if is_length key then Own else if is_index_below (length vs) (index_of key) then Own else onward p
  look (View b l o n) key = look_at b n key (index_of key)
  look c key = look_by key (body_of c)
