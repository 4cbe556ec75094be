-- How values are shown on the console (Console Standard, 2.1: printing is left to the implementation).
use Rattle.std.specs.Prelude.{ℕ, zero, suc, ◌==◌, List, [], ◌∷◌, ◌++◌, length, take, Option, Some, None, Bool, true, false, if◌then◌else◌, codes, decimal}
use Rattle.std.specs.Fmt.{signed_decimal}
use Rattle.wl_text.specs.Text.{quoted}
use Rattle.world_heap.specs.declared.value.Value.{Value}
use Rattle.world_heap.specs.declared.value.Value.TheVariants.{Undefined, Null, Bool as Boolean, Num, Str, Ref}
use Rattle.world_heap.specs.declared.value.Property.{Property}
use Rattle.world_heap.specs.declared.value.Property.TheVariants.{Data, Access}
use Rattle.world_heap.specs.declared.cell.Cell.{Cell}
use Rattle.world_heap.specs.declared.cell.Cell.TheVariants.{Object, Array, Closure, Native, Far, Error, Map, Set, Promise, Port, Buffer, View, Symbol, Env}
use Rattle.world_heap.specs.declared.cell.Body.{Body}
use Rattle.world_heap.specs.Table.{found_under}
use Rattle.world_heap.specs.Maps.{stands}
use Rattle.js_semantics.specs.World.{World, cell_at}
use Rattle.js_semantics.specs.Properties.{in_key_order}
use Rattle.js_token.specs.Words.{is_name}

-- A text, and how many more elements and properties may be shown in this argument.
pub record Shown : Type 0 where
  pub text : List ℕ
  pub left : ℕ

-- the word of an error's kind
abbrev pub error_word : ℕ → List ℕ
error_word kind = if kind == 1 then codes "EvalError"
    else if kind == 2 then codes "RangeError"
    else if kind == 3 then codes "ReferenceError"
    else if kind == 4 then codes "SyntaxError"
    else if kind == 5 then codes "TypeError"
    else if kind == 6 then codes "URIError"
    else codes "Error"

-- a text among others
abbrev pub behind : List ℕ → Shown → Shown
behind before s = record s { text = before ++ s.text }

-- a key: bare where it is a name
abbrev pub shown_key : List ℕ → List ℕ
shown_key key = if is_name key then key else quoted key

-- the separator before all but the first
abbrev pub separator : Bool → List ℕ
separator first = if first then [] else codes ", "

module _ {L : Type 0} where
  -- an error's own message, where it is a string that isn't empty
  abbrev pub message_text : Option (Property L) → List ℕ
  message_text (Some (Data (Str (unit ∷ units)) writable enumerable configurable)) = codes ": " ++ (unit ∷ units)
  message_text other = []

  -- what is shown of a cell in any place, but of an object or an array
  abbrev pub shown_cell : Cell L → Option (List ℕ)
  shown_cell (Object b) = None
  shown_cell (Array p vs f) = None
  shown_cell (Closure b n e r) = Some (codes "[Function]")
  shown_cell (Native b i vs) = Some (codes "[Function]")
  shown_cell (Far b n) = Some (codes "[Function]")
  shown_cell (Error b kind) = Some (error_word kind ++ message_text (found_under b.properties (codes "message")))
  shown_cell (Map b es) = Some (codes "Map(" ++ (decimal (length es) ++ codes ")"))
  shown_cell (Set b vs) = Some (codes "Set(" ++ (decimal (length vs) ++ codes ")"))
  shown_cell (Promise b s rs) = Some (codes "Promise")
  shown_cell (Port b n h ms cs) = Some (codes "MessagePort")
  shown_cell (Buffer b bytes) = Some (codes "ArrayBuffer(" ++ (decimal (length bytes) ++ codes ")"))
  shown_cell (View b l o count) = Some (codes "Uint8Array(" ++ (decimal count ++ codes ")"))
  shown_cell (Symbol None) = Some (codes "Symbol()")
  shown_cell (Symbol (Some text)) = Some (codes "Symbol(" ++ (text ++ codes ")"))
  shown_cell (Env o bs) = Some []

  -- the properties that are listed, in the order of their keys
  abbrev pub is_listed : Property L → Bool
  is_listed (Data v writable enumerable configurable) = enumerable
  is_listed (Access get set enumerable configurable) = enumerable

  abbrev pub only_listed : List (List ℕ × Property L) → List (List ℕ × Property L)
  only_listed [] = []
  only_listed (e ∷ es) = if is_listed e.1 then e ∷ only_listed es else only_listed es

  abbrev pub listed : Body L → List (List ℕ × Property L)
  listed b = only_listed (in_key_order b.properties)

  module _ (w : World L) where
    -- Elements, where this shows one; after the last that may be shown the rest is one `...`.
    abbrev pub shown_items : (Value L → ℕ → Shown) → (first : Bool) → List (Value L) → ℕ → Shown
    shown_items show first [] left = record { text = []; left = left }
    shown_items show first (v ∷ vs) zero = record { text = separator first ++ codes "..."; left = zero }
    shown_items show first (v ∷ vs) (suc left) =
        let one = show v left in let more = shown_items show false vs one.left in record { text = separator first ++ (one.text ++ more.text); left = more.left }

    abbrev pub shown_property : (Value L → ℕ → Shown) → Property L → ℕ → Shown
    shown_property show (Data v writable enumerable configurable) left = show v left
    shown_property show (Access get set enumerable configurable) left = record { text = codes "[Accessor]"; left = left }

    abbrev pub shown_properties : (Value L → ℕ → Shown) → (first : Bool) → List (List ℕ × Property L) → ℕ → Shown
    shown_properties show first [] left = record { text = []; left = left }
    shown_properties show first (e ∷ es) zero = record { text = separator first ++ codes "..."; left = zero }
    shown_properties show first (e ∷ es) (suc left) =
        let one = shown_property show e.1 left in let more = shown_properties show false es one.left in record { text = separator first ++ (shown_key e.0 ++ (codes ": " ++ (one.text ++ more.text))); left = more.left }

    abbrev pub between : List ℕ → Shown → List ℕ → Shown
    between opened s closed = record s { text = opened ++ (s.text ++ closed) }

    abbrev pub shown_array : Option (Value L → ℕ → Shown) → List (Value L) → ℕ → Shown
    shown_array show [] left = record { text = codes "[]"; left = left }
    shown_array None (v ∷ vs) left = record { text = codes "[Array]"; left = left }
    shown_array (Some show) (v ∷ vs) left = between (codes "[") (shown_items show true (v ∷ vs) left) (codes "]")

    abbrev pub shown_object : Option (Value L → ℕ → Shown) → List (List ℕ × Property L) → ℕ → Shown
    shown_object show [] left = record { text = codes "{}"; left = left }
    shown_object None (e ∷ es) left = record { text = codes "[Object]"; left = left }
    shown_object (Some show) (e ∷ es) left = between (codes "{") (shown_properties show true (e ∷ es) left) (codes "}")

    -- what stands in a cell, where this shows what stands in it, if anything does
    abbrev pub shown_at : Option (Value L → ℕ → Shown) → Option (Cell L) → ℕ → Shown
    shown_at show None left = record { text = []; left = left }
    shown_at show (Some (Array proto items frozen)) left = shown_array show items left
    shown_at show (Some (Object body)) left = shown_object show (listed body) left
    shown_at show (Some cell) left = elim (shown_cell cell) [ Some text ↦ record { text = text; left = left } | None ↦ record { text = []; left = left } ]

    -- A value inside others, whose locations are these. `inner` shows what stands in an object or array, where that is shown.
    abbrev pub shown_one : (L → Option (Value L → ℕ → Shown)) → List L → Value L → ℕ → Shown
    shown_one inner around Undefined left = record { text = codes "undefined"; left = left }
    shown_one inner around Null left = record { text = codes "null"; left = left }
    shown_one inner around (Boolean true) left = record { text = codes "true"; left = left }
    shown_one inner around (Boolean false) left = record { text = codes "false"; left = left }
    shown_one inner around (Num z) left = record { text = signed_decimal z; left = left }
    shown_one inner around (Str t) left = record { text = quoted t; left = left }
    shown_one inner around (Ref loc) left = if stands w.same around loc then record { text = codes "[Circular]"; left = left } else shown_at (inner loc) (cell_at loc w) left

    -- A value, of which so many levels are opened.
    abbrev pub shown_value : ℕ → List L → Value L → ℕ → Shown
    shown_value zero around v left = shown_one (λ loc. None) around v left
    shown_value (suc depth) around v left = shown_one (λ loc. Some (shown_value depth (loc ∷ around))) around v left

    -- One argument: a text is itself, and of another value two levels are opened and 200 elements and properties shown.
    unfoldable pub display : Value L → List ℕ
    display (Str text) = text
    display v = (shown_value 2 [] v 200).text

    abbrev pub more_arguments : List (Value L) → List ℕ
    more_arguments [] = []
    more_arguments (v ∷ vs) = 32 ∷ (display v ++ more_arguments vs)

    -- arguments with one space between them, cut after 65,536 units
    unfoldable pub line_of : List (Value L) → List ℕ
    line_of [] = []
    line_of (v ∷ vs) = take 65_536 (display v ++ more_arguments vs)
