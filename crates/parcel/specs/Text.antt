-- The text of a parcel, as a log shows it. A node is `#n=` and what stands in it at its first visit, and `#n` later.
use Rattle.std.specs.Prelude.{◌≡◌, ℕ, zero, suc, ◌+◌, nat_lt, true, false, codes, List, [], ◌∷◌, ◌++◌, slice_get, Option, Some, None, if◌then◌else◌}
use Rattle.std.specs.Fmt.{decimal, signed_decimal}
use Rattle.hex.specs.Hex.{encode_upper}
use Rattle.wl_text.specs.Text.{quoted}
use Rattle.parcel.specs.declared.parcel.Side.TheVariants.{Own, Far}
use Rattle.parcel.specs.declared.parcel.ErrorKind.{ErrorKind}
use Rattle.parcel.specs.declared.parcel.ErrorKind.TheVariants.{Error as Plain, EvalError, RangeError, ReferenceError, SyntaxError, TypeError, URIError}
use Rattle.parcel.specs.declared.parcel.Item.{Item}
use Rattle.parcel.specs.declared.parcel.Item.TheVariants.{Undefined, Null, Bool, Num, Str, Node, Fn, Prom}
use Rattle.parcel.specs.declared.parcel.PNode.{PNode}
use Rattle.parcel.specs.declared.parcel.PNode.TheVariants.{Object, Array, Error, Map, Set, Port, Buffer, View}
use Rattle.parcel.specs.declared.parcel.Parcel.{Parcel}

-- a text, and the number that the next node takes behind it
abbrev pub Shown : Type 0
Shown = List ℕ × ℕ

-- A text behind another text.
abbrev pub behind : List ℕ → Shown → Shown
behind front shown = (front ++ shown.0, shown.1)

-- A text, and then another that goes on with its number.
abbrev pub joined : Shown → (ℕ → Shown) → Shown
joined shown more = behind shown.0 (more shown.1)

-- A text between two others.
abbrev pub between : List ℕ → Shown → List ℕ → Shown
between front shown back = (front ++ (shown.0 ++ back), shown.1)

-- what a call wrote behind what stood there, and the number that it answers
abbrev pub Writes : List ℕ → List ℕ → ℕ → Shown → Type 0
Writes old new next shown = (new ≡ old ++ shown.0) × (next ≡ shown.1)

-- Each of a list, with a comma between; `lead` stands before the first.
unfoldable pub list_shown : {A : Type 0} → (A → ℕ → Shown) → List ℕ → List A → ℕ → Shown
list_shown show lead [] next = ([], next)
list_shown show lead (x ∷ xs) next = behind lead (joined (show x next) (list_shown show (44 ∷ []) xs))

-- the name of a kind of error
abbrev pub kind_name : ErrorKind → List ℕ
kind_name Plain = codes "Error"
kind_name EvalError = codes "EvalError"
kind_name RangeError = codes "RangeError"
kind_name ReferenceError = codes "ReferenceError"
kind_name SyntaxError = codes "SyntaxError"
kind_name TypeError = codes "TypeError"
kind_name URIError = codes "URIError"

-- a primitive value in words, or the name of what an item leads to
unfoldable pub item_name : Item → List ℕ
item_name Undefined = codes "undefined"
item_name Null = codes "null"
item_name (Bool true) = codes "true"
item_name (Bool false) = codes "false"
item_name (Num n) = signed_decimal n
item_name (Str units) = quoted units
item_name (Node number) = codes "#" ++ decimal number
item_name (Fn Own number) = codes "own" ++ decimal number
item_name (Fn Far number) = codes "far" ++ decimal number
item_name (Prom Own number) = codes "ownp" ++ decimal number
item_name (Prom Far number) = codes "farp" ++ decimal number

-- a property: `"key":value`
abbrev pub property_shown : (Item → ℕ → Shown) → List ℕ × Item → ℕ → Shown
property_shown show property next = behind (quoted property.0) (behind (codes ":") (show property.1 next))

-- an entry of a Map: `key=>value`
abbrev pub entry_shown : (Item → ℕ → Shown) → Item × Item → ℕ → Shown
entry_shown show entry next = joined (show entry.0 next) (λ next. behind (codes "=>") (show entry.1 next))

-- the message of an error, if it has one
abbrev pub message_shown : Option (List ℕ) → List ℕ
message_shown None = []
message_shown (Some message) = quoted message

-- the bytes of a buffer, in hexadecimal
unfoldable pub bytes_shown : List ℕ → List ℕ
bytes_shown bytes = codes "bytes(" ++ (encode_upper bytes ++ codes ")")

-- what stands behind the name of a view's buffer: its bytes, where it is met with the view
abbrev pub buffer_shown : ℕ → Option PNode → ℕ → List ℕ
buffer_shown buffer (Some (Buffer bytes)) next = if nat_lt buffer next then [] else codes "=" ++ bytes_shown bytes
buffer_shown buffer _ next = []

-- a view: its buffer, its offset, its length
unfoldable pub view_shown : ℕ → ℕ → ℕ → Option PNode → ℕ → List ℕ
view_shown buffer offset size node next = codes "view(#" ++ (decimal buffer ++ (buffer_shown buffer node next
    ++ (codes "," ++ (decimal offset ++ (codes "," ++ (decimal size ++ codes ")"))))))

-- what stands in a node, where `show` shows an item
unfoldable pub node_shown : (Item → ℕ → Shown) → List PNode → ℕ → PNode → ℕ → Shown
node_shown show nodes number (Object properties) next =
    between (codes "{") (list_shown (property_shown show) [] properties (number + 1)) (codes "}")
node_shown show nodes number (Array items) next = between (codes "[") (list_shown show [] items (number + 1)) (codes "]")
node_shown show nodes number (Error kind message) next =
    (codes "!" ++ (kind_name kind ++ (codes "(" ++ (message_shown message ++ codes ")"))), number + 1)
node_shown show nodes number (Map entries) next =
    between (codes "map[") (list_shown (entry_shown show) [] entries (number + 1)) (codes "]")
node_shown show nodes number (Set items) next = between (codes "set[") (list_shown show [] items (number + 1)) (codes "]")
node_shown show nodes number (Port place) next = (codes "port(" ++ (decimal place ++ codes ")"), number + 1)
node_shown show nodes number (Buffer bytes) next = (bytes_shown bytes, number + 1)
node_shown show nodes number (View buffer offset size) next =
    (view_shown buffer offset size (slice_get nodes buffer) next, number + 1)

-- A node that has no number yet: `=` and what stands in it.
abbrev pub first_shown : (Item → ℕ → Shown) → List PNode → ℕ → Option PNode → ℕ → Shown
first_shown show nodes number None next = ([], next)
first_shown show nodes number (Some node) next = behind (codes "=") (node_shown show nodes number node next)

-- What stands behind an item's name.
abbrev pub rest_shown : (Item → ℕ → Shown) → List PNode → Item → ℕ → Shown
rest_shown show nodes (Node number) next =
    if nat_lt number next then ([], next) else first_shown show nodes number (slice_get nodes number) next
rest_shown show nodes _ next = ([], next)

-- An item, where `next` is the number that the next node takes and `depth` levels are left.
unfoldable pub item_shown : ℕ → List PNode → Item → ℕ → Shown
item_shown zero nodes item next = ([], next)
item_shown (suc depth) nodes item next = behind (item_name item) (rest_shown (item_shown depth nodes) nodes item next)

-- the text of the parcel
unfoldable pub text_of : Parcel → List ℕ
text_of parcel = (item_shown 1_001 parcel.nodes parcel.root 0).0
