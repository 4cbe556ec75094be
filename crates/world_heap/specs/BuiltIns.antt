-- The cells that a heap has from the start (ECMA-262, 9.3.2: the intrinsic objects of a realm): plain objects without
-- properties yet.
use Rattle.std.specs.Prelude.{◌≡◌, ℕ, true, List, [], ◌∷◌, ◌++◌, length, Option, Some, None}
use Rattle.world_heap.specs.declared.cell.Cell.{Cell}
use Rattle.world_heap.specs.declared.cell.Cell.TheVariants.{Object}
use Rattle.world_heap.specs.declared.builtin.BuiltIn.{BuiltIn}
use Rattle.world_heap.specs.declared.builtin.BuiltIn.TheVariants.{ObjectPrototype, ErrorPrototype, EvalErrorPrototype, RangeErrorPrototype, ReferenceErrorPrototype, SyntaxErrorPrototype, TypeErrorPrototype, URIErrorPrototype, FunctionPrototype, ArrayPrototype, StringPrototype, MapPrototype, SetPrototype, PromisePrototype, ArrayBufferPrototype, Uint8ArrayPrototype, Global}

module _ {L : Type 0} where
  -- an object without properties
  abbrev pub plain_object : Option L → Cell L
  plain_object proto = Object (record { proto = proto; properties = []; extensible = true })

  -- objects with one prototype, at these locations
  abbrev pub objects : L → List L → List (L × Cell L)
  objects proto [] = []
  objects proto (l ∷ ls) = (l, plain_object (Some proto)) ∷ objects proto ls

  -- The prototype of all objects stands first, then that of errors, then those of the six kinds of error, whose
  -- prototype is that of errors; then those of functions, arrays, strings, maps, sets, promises, buffers and byte
  -- arrays, and last the global object.
  pub record AreBuiltIn (cells : List (L × Cell L)) : Type 0 where
    pub root : L
    pub error : L
    pub kinds : List L
    pub rest : List L
    pub six : length kinds ≡ 6
    pub nine : length rest ≡ 9
    pub are : cells ≡ (((root, plain_object None) ∷ []) ++ objects root (error ∷ [])) ++ objects error kinds ++ objects root rest

-- the place of a built-in cell among the cells
abbrev pub place_of : BuiltIn → ℕ
place_of ObjectPrototype = 0
place_of ErrorPrototype = 1
place_of EvalErrorPrototype = 2
place_of RangeErrorPrototype = 3
place_of ReferenceErrorPrototype = 4
place_of SyntaxErrorPrototype = 5
place_of TypeErrorPrototype = 6
place_of URIErrorPrototype = 7
place_of FunctionPrototype = 8
place_of ArrayPrototype = 9
place_of StringPrototype = 10
place_of MapPrototype = 11
place_of SetPrototype = 12
place_of PromisePrototype = 13
place_of ArrayBufferPrototype = 14
place_of Uint8ArrayPrototype = 15
place_of Global = 16
