-- Scripts of expressions: names, literals, operators, templates, assignments.
-- Each is run with the least steps, cells, places and units that it needs, and with one less of each in turn.
use Rattle.std.specs.Prelude.{◌≡◌, List, [], ◌∷◌, pos, refl, codes, true, false, Some, None}
use Rattle.world_kind.specs.declared.WorldKind.TheVariants.{Main}
use Rattle.js_tree.specs.declared.node.Node as nodes
use Rattle.js_tree.specs.declared.node.Node.TheVariants as kinds
use Rattle.js_tree.specs.declared.node.PropertyKey.TheVariants.{Written}
use Rattle.js_tree.specs.declared.node.BinaryOperator.TheVariants as operators
use Rattle.js_tree.specs.declared.node.UnaryOperator.TheVariants as unaries
use Rattle.js_tree.specs.declared.node.UpdateOperator.TheVariants as updates
use Rattle.js_semantics.proofs.Opened.{opened}
use Rattle.js_semantics.proofs.Worlds.{n, at_limits, logged, rest, fuel, cells, places, units}

-- console.log(null, true, false, undefined, "a", this === globalThis);
abbrev primitives : List nodes.Node
primitives = kinds.Name (codes "console") ∷ kinds.Dot (n 0) (codes "log") ∷ kinds.Null ∷ kinds.Bool true ∷ kinds.Bool false ∷ kinds.Name (codes "undefined") ∷ kinds.Str (codes "a") ∷ kinds.This ∷ kinds.Name (codes "globalThis") ∷ kinds.Binary operators.StrictEqual (n 7) (n 8) ∷ kinds.Call (n 1) (n 2 ∷ n 3 ∷ n 4 ∷ n 5 ∷ n 6 ∷ n 9 ∷ []) ∷ kinds.ExprStmt (n 10) ∷ kinds.Script (n 11 ∷ []) ∷ []

primitives_runs : at_limits Main 14 1 1 32 primitives ≡ (logged (codes "null true false undefined a true") ∷ rest ∷ []) ∷ (fuel ∷ []) ∷ (cells ∷ []) ∷ (places ∷ []) ∷ (units ∷ []) ∷ []
unfolding opened
primitives_runs = refl

-- console.log(7 - 9, 3 * 4, 8 / 2, 7 % 3, -7 % 3, -(5), +5);
abbrev arithmetic : List nodes.Node
arithmetic = kinds.Name (codes "console") ∷ kinds.Dot (n 0) (codes "log") ∷ kinds.Num (pos 7) ∷ kinds.Num (pos 9) ∷ kinds.Binary operators.Subtract (n 2) (n 3) ∷ kinds.Num (pos 3) ∷ kinds.Num (pos 4) ∷ kinds.Binary operators.Multiply (n 5) (n 6) ∷ kinds.Num (pos 8) ∷ kinds.Num (pos 2) ∷ kinds.Binary operators.Divide (n 8) (n 9) ∷ kinds.Num (pos 7) ∷ kinds.Num (pos 3) ∷ kinds.Binary operators.Remainder (n 11) (n 12) ∷ kinds.Num (pos 7) ∷ kinds.Unary unaries.Minus (n 14) ∷ kinds.Num (pos 3) ∷ kinds.Binary operators.Remainder (n 15) (n 16) ∷ kinds.Num (pos 5) ∷ kinds.Unary unaries.Minus (n 18) ∷ kinds.Num (pos 5) ∷ kinds.Unary unaries.Plus (n 20) ∷ kinds.Call (n 1) (n 4 ∷ n 7 ∷ n 10 ∷ n 13 ∷ n 17 ∷ n 19 ∷ n 21 ∷ []) ∷ kinds.ExprStmt (n 22) ∷ kinds.Script (n 23 ∷ []) ∷ []

arithmetic_runs : at_limits Main 26 1 1 17 arithmetic ≡ (logged (codes "-2 12 4 1 -1 -5 5") ∷ rest ∷ []) ∷ (fuel ∷ []) ∷ (cells ∷ []) ∷ (places ∷ []) ∷ (units ∷ []) ∷ []
unfolding opened
arithmetic_runs = refl

-- console.log(6 & 3, 6 | 3, 6 ^ 3, ~5, 1 << 4, -9 >> 1, -1 >>> 28);
abbrev bits : List nodes.Node
bits = kinds.Name (codes "console") ∷ kinds.Dot (n 0) (codes "log") ∷ kinds.Num (pos 6) ∷ kinds.Num (pos 3) ∷ kinds.Binary operators.BitAnd (n 2) (n 3) ∷ kinds.Num (pos 6) ∷ kinds.Num (pos 3) ∷ kinds.Binary operators.BitOr (n 5) (n 6) ∷ kinds.Num (pos 6) ∷ kinds.Num (pos 3) ∷ kinds.Binary operators.BitXor (n 8) (n 9) ∷ kinds.Num (pos 5) ∷ kinds.Unary unaries.BitNot (n 11) ∷ kinds.Num (pos 1) ∷ kinds.Num (pos 4) ∷ kinds.Binary operators.ShiftLeft (n 13) (n 14) ∷ kinds.Num (pos 9) ∷ kinds.Unary unaries.Minus (n 16) ∷ kinds.Num (pos 1) ∷ kinds.Binary operators.ShiftRight (n 17) (n 18) ∷ kinds.Num (pos 1) ∷ kinds.Unary unaries.Minus (n 20) ∷ kinds.Num (pos 28) ∷ kinds.Binary operators.ShiftRightUnsigned (n 21) (n 22) ∷ kinds.Call (n 1) (n 4 ∷ n 7 ∷ n 10 ∷ n 12 ∷ n 15 ∷ n 19 ∷ n 23 ∷ []) ∷ kinds.ExprStmt (n 24) ∷ kinds.Script (n 25 ∷ []) ∷ []

bits_runs : at_limits Main 28 1 1 17 bits ≡ (logged (codes "2 7 5 -6 16 -5 15") ∷ rest ∷ []) ∷ (fuel ∷ []) ∷ (cells ∷ []) ∷ (places ∷ []) ∷ (units ∷ []) ∷ []
unfolding opened
bits_runs = refl

-- console.log(1 < 2, "b" < "a", 2 >= 3, "a" <= "ab", 2 > 1);
abbrev order : List nodes.Node
order = kinds.Name (codes "console") ∷ kinds.Dot (n 0) (codes "log") ∷ kinds.Num (pos 1) ∷ kinds.Num (pos 2) ∷ kinds.Binary operators.Less (n 2) (n 3) ∷ kinds.Str (codes "b") ∷ kinds.Str (codes "a") ∷ kinds.Binary operators.Less (n 5) (n 6) ∷ kinds.Num (pos 2) ∷ kinds.Num (pos 3) ∷ kinds.Binary operators.GreaterOrEqual (n 8) (n 9) ∷ kinds.Str (codes "a") ∷ kinds.Str (codes "ab") ∷ kinds.Binary operators.LessOrEqual (n 11) (n 12) ∷ kinds.Num (pos 2) ∷ kinds.Num (pos 1) ∷ kinds.Binary operators.Greater (n 14) (n 15) ∷ kinds.Call (n 1) (n 4 ∷ n 7 ∷ n 10 ∷ n 13 ∷ n 16 ∷ []) ∷ kinds.ExprStmt (n 17) ∷ kinds.Script (n 18 ∷ []) ∷ []

order_runs : at_limits Main 21 1 1 26 order ≡ (logged (codes "true false false true true") ∷ rest ∷ []) ∷ (fuel ∷ []) ∷ (cells ∷ []) ∷ (places ∷ []) ∷ (units ∷ []) ∷ []
unfolding opened
order_runs = refl

-- const o = {}; console.log(1 === 1, "a" === "b", o === o, {} === o, null !== undefined);
abbrev equal : List nodes.Node
equal = kinds.BindName (codes "o") ∷ kinds.ObjectLit [] ∷ kinds.Const (record { bind = n 0; value = (Some (n 1)) } ∷ []) ∷ kinds.Name (codes "console") ∷ kinds.Dot (n 3) (codes "log") ∷ kinds.Num (pos 1) ∷ kinds.Num (pos 1) ∷ kinds.Binary operators.StrictEqual (n 5) (n 6) ∷ kinds.Str (codes "a") ∷ kinds.Str (codes "b") ∷ kinds.Binary operators.StrictEqual (n 8) (n 9) ∷ kinds.Name (codes "o") ∷ kinds.Name (codes "o") ∷ kinds.Binary operators.StrictEqual (n 11) (n 12) ∷ kinds.ObjectLit [] ∷ kinds.Name (codes "o") ∷ kinds.Binary operators.StrictEqual (n 14) (n 15) ∷ kinds.Null ∷ kinds.Name (codes "undefined") ∷ kinds.Binary operators.StrictNotEqual (n 17) (n 18) ∷ kinds.Call (n 4) (n 7 ∷ n 10 ∷ n 13 ∷ n 16 ∷ n 19 ∷ []) ∷ kinds.ExprStmt (n 20) ∷ kinds.Script (n 2 ∷ n 21 ∷ []) ∷ []

equal_runs : at_limits Main 24 3 4 26 equal ≡ (logged (codes "true false true false true") ∷ rest ∷ []) ∷ (fuel ∷ []) ∷ (cells ∷ []) ∷ (places ∷ []) ∷ (units ∷ []) ∷ []
unfolding opened
equal_runs = refl

-- console.log("a" + 1, 1 + "b", "x" + null + true, "ab".length);
abbrev joins : List nodes.Node
joins = kinds.Name (codes "console") ∷ kinds.Dot (n 0) (codes "log") ∷ kinds.Str (codes "a") ∷ kinds.Num (pos 1) ∷ kinds.Binary operators.Add (n 2) (n 3) ∷ kinds.Num (pos 1) ∷ kinds.Str (codes "b") ∷ kinds.Binary operators.Add (n 5) (n 6) ∷ kinds.Str (codes "x") ∷ kinds.Null ∷ kinds.Binary operators.Add (n 8) (n 9) ∷ kinds.Bool true ∷ kinds.Binary operators.Add (n 10) (n 11) ∷ kinds.Str (codes "ab") ∷ kinds.Dot (n 13) (codes "length") ∷ kinds.Call (n 1) (n 4 ∷ n 7 ∷ n 12 ∷ n 14 ∷ []) ∷ kinds.ExprStmt (n 15) ∷ kinds.Script (n 16 ∷ []) ∷ []

joins_runs : at_limits Main 19 1 1 35 joins ≡ (logged (codes "a1 1b xnulltrue 2") ∷ rest ∷ []) ∷ (fuel ∷ []) ∷ (cells ∷ []) ∷ (places ∷ []) ∷ (units ∷ []) ∷ []
unfolding opened
joins_runs = refl

-- console.log(0 || "a", 1 && 2, null ?? 3, 0 ?? 4, !1, void 5, 1 ? 2 : 3);
abbrev logic : List nodes.Node
logic = kinds.Name (codes "console") ∷ kinds.Dot (n 0) (codes "log") ∷ kinds.Num (pos 0) ∷ kinds.Str (codes "a") ∷ kinds.Or (n 2) (n 3) ∷ kinds.Num (pos 1) ∷ kinds.Num (pos 2) ∷ kinds.And (n 5) (n 6) ∷ kinds.Null ∷ kinds.Num (pos 3) ∷ kinds.Nullish (n 8) (n 9) ∷ kinds.Num (pos 0) ∷ kinds.Num (pos 4) ∷ kinds.Nullish (n 11) (n 12) ∷ kinds.Num (pos 1) ∷ kinds.Unary unaries.Not (n 14) ∷ kinds.Num (pos 5) ∷ kinds.Unary unaries.Void (n 16) ∷ kinds.Num (pos 1) ∷ kinds.Num (pos 2) ∷ kinds.Num (pos 3) ∷ kinds.Cond (n 18) (n 19) (n 20) ∷ kinds.Call (n 1) (n 4 ∷ n 7 ∷ n 10 ∷ n 13 ∷ n 15 ∷ n 17 ∷ n 21 ∷ []) ∷ kinds.ExprStmt (n 22) ∷ kinds.Script (n 23 ∷ []) ∷ []

logic_runs : at_limits Main 24 1 1 25 logic ≡ (logged (codes "a 2 3 0 false undefined 2") ∷ rest ∷ []) ∷ (fuel ∷ []) ∷ (cells ∷ []) ∷ (places ∷ []) ∷ (units ∷ []) ∷ []
unfolding opened
logic_runs = refl

-- let x = 1; console.log((x = 2, x + 1), x);
abbrev commas : List nodes.Node
commas = kinds.BindName (codes "x") ∷ kinds.Num (pos 1) ∷ kinds.Let (record { bind = n 0; value = (Some (n 1)) } ∷ []) ∷ kinds.Name (codes "console") ∷ kinds.Dot (n 3) (codes "log") ∷ kinds.Name (codes "x") ∷ kinds.Num (pos 2) ∷ kinds.Assign (n 5) (n 6) ∷ kinds.Name (codes "x") ∷ kinds.Num (pos 1) ∷ kinds.Binary operators.Add (n 8) (n 9) ∷ kinds.Seq (n 7) (n 10) ∷ kinds.Name (codes "x") ∷ kinds.Call (n 4) (n 11 ∷ n 12 ∷ []) ∷ kinds.ExprStmt (n 13) ∷ kinds.Script (n 2 ∷ n 14 ∷ []) ∷ []

commas_runs : at_limits Main 17 1 2 3 commas ≡ (logged (codes "3 2") ∷ rest ∷ []) ∷ (fuel ∷ []) ∷ (cells ∷ []) ∷ (places ∷ []) ∷ (units ∷ []) ∷ []
unfolding opened
commas_runs = refl

-- const n = 3; console.log(`a${n}b${n + 1}c`, `z`);
abbrev template : List nodes.Node
template = kinds.BindName (codes "n") ∷ kinds.Num (pos 3) ∷ kinds.Const (record { bind = n 0; value = (Some (n 1)) } ∷ []) ∷ kinds.Name (codes "console") ∷ kinds.Dot (n 3) (codes "log") ∷ kinds.Name (codes "n") ∷ kinds.Name (codes "n") ∷ kinds.Num (pos 1) ∷ kinds.Binary operators.Add (n 6) (n 7) ∷ kinds.Template ((codes "a") ∷ (codes "b") ∷ (codes "c") ∷ []) (n 5 ∷ n 8 ∷ []) ∷ kinds.Template ((codes "z") ∷ []) [] ∷ kinds.Call (n 4) (n 9 ∷ n 10 ∷ []) ∷ kinds.ExprStmt (n 11) ∷ kinds.Script (n 2 ∷ n 12 ∷ []) ∷ []

template_runs : at_limits Main 15 1 2 13 template ≡ (logged (codes "a3b4c z") ∷ rest ∷ []) ∷ (fuel ∷ []) ∷ (cells ∷ []) ∷ (places ∷ []) ∷ (units ∷ []) ∷ []
unfolding opened
template_runs = refl

-- let i = 1; const o = {k: 5}; console.log(i++, ++i, i--, --i, o.k++, o.k, ++o["k"]);
abbrev moves : List nodes.Node
moves = kinds.BindName (codes "i") ∷ kinds.Num (pos 1) ∷ kinds.Let (record { bind = n 0; value = (Some (n 1)) } ∷ []) ∷ kinds.BindName (codes "o") ∷ kinds.Num (pos 5) ∷ kinds.Property (Written (codes "k")) (n 4) ∷ kinds.ObjectLit (n 5 ∷ []) ∷ kinds.Const (record { bind = n 3; value = (Some (n 6)) } ∷ []) ∷ kinds.Name (codes "console") ∷ kinds.Dot (n 8) (codes "log") ∷ kinds.Name (codes "i") ∷ kinds.Update updates.Increment (n 10) false ∷ kinds.Name (codes "i") ∷ kinds.Update updates.Increment (n 12) true ∷ kinds.Name (codes "i") ∷ kinds.Update updates.Decrement (n 14) false ∷ kinds.Name (codes "i") ∷ kinds.Update updates.Decrement (n 16) true ∷ kinds.Name (codes "o") ∷ kinds.Dot (n 18) (codes "k") ∷ kinds.Update updates.Increment (n 19) false ∷ kinds.Name (codes "o") ∷ kinds.Dot (n 21) (codes "k") ∷ kinds.Name (codes "o") ∷ kinds.Str (codes "k") ∷ kinds.Index (n 23) (n 24) ∷ kinds.Update updates.Increment (n 25) true ∷ kinds.Call (n 9) (n 11 ∷ n 13 ∷ n 15 ∷ n 17 ∷ n 20 ∷ n 22 ∷ n 26 ∷ []) ∷ kinds.ExprStmt (n 27) ∷ kinds.Script (n 2 ∷ n 7 ∷ n 28 ∷ []) ∷ []

moves_runs : at_limits Main 31 2 5 13 moves ≡ (logged (codes "1 3 3 1 5 6 7") ∷ rest ∷ []) ∷ (fuel ∷ []) ∷ (cells ∷ []) ∷ (places ∷ []) ∷ (units ∷ []) ∷ []
unfolding opened
moves_runs = refl

-- let s = 2; const o = {k: 3}; s += 4; s *= 3; s -= 1; s %= 10; o.k += 1; o["k"] *= 2; console.log(s, o.k);
abbrev compound : List nodes.Node
compound = kinds.BindName (codes "s") ∷ kinds.Num (pos 2) ∷ kinds.Let (record { bind = n 0; value = (Some (n 1)) } ∷ []) ∷ kinds.BindName (codes "o") ∷ kinds.Num (pos 3) ∷ kinds.Property (Written (codes "k")) (n 4) ∷ kinds.ObjectLit (n 5 ∷ []) ∷ kinds.Const (record { bind = n 3; value = (Some (n 6)) } ∷ []) ∷ kinds.Name (codes "s") ∷ kinds.Num (pos 4) ∷ kinds.AssignOp operators.Add (n 8) (n 9) ∷ kinds.ExprStmt (n 10) ∷ kinds.Name (codes "s") ∷ kinds.Num (pos 3) ∷ kinds.AssignOp operators.Multiply (n 12) (n 13) ∷ kinds.ExprStmt (n 14) ∷ kinds.Name (codes "s") ∷ kinds.Num (pos 1) ∷ kinds.AssignOp operators.Subtract (n 16) (n 17) ∷ kinds.ExprStmt (n 18) ∷ kinds.Name (codes "s") ∷ kinds.Num (pos 10) ∷ kinds.AssignOp operators.Remainder (n 20) (n 21) ∷ kinds.ExprStmt (n 22) ∷ kinds.Name (codes "o") ∷ kinds.Dot (n 24) (codes "k") ∷ kinds.Num (pos 1) ∷ kinds.AssignOp operators.Add (n 25) (n 26) ∷ kinds.ExprStmt (n 27) ∷ kinds.Name (codes "o") ∷ kinds.Str (codes "k") ∷ kinds.Index (n 29) (n 30) ∷ kinds.Num (pos 2) ∷ kinds.AssignOp operators.Multiply (n 31) (n 32) ∷ kinds.ExprStmt (n 33) ∷ kinds.Name (codes "console") ∷ kinds.Dot (n 35) (codes "log") ∷ kinds.Name (codes "s") ∷ kinds.Name (codes "o") ∷ kinds.Dot (n 38) (codes "k") ∷ kinds.Call (n 36) (n 37 ∷ n 39 ∷ []) ∷ kinds.ExprStmt (n 40) ∷ kinds.Script (n 2 ∷ n 7 ∷ n 11 ∷ n 15 ∷ n 19 ∷ n 23 ∷ n 28 ∷ n 34 ∷ n 41 ∷ []) ∷ []

compound_runs : at_limits Main 44 2 5 3 compound ≡ (logged (codes "7 8") ∷ rest ∷ []) ∷ (fuel ∷ []) ∷ (cells ∷ []) ∷ (places ∷ []) ∷ (units ∷ []) ∷ []
unfolding opened
compound_runs = refl

-- console.log(typeof 1, typeof "", typeof null, typeof missing, typeof (() => 1), typeof {}, typeof true);
abbrev types : List nodes.Node
types = kinds.Name (codes "console") ∷ kinds.Dot (n 0) (codes "log") ∷ kinds.Num (pos 1) ∷ kinds.Typeof (n 2) ∷ kinds.Str [] ∷ kinds.Typeof (n 4) ∷ kinds.Null ∷ kinds.Typeof (n 6) ∷ kinds.Name (codes "missing") ∷ kinds.Typeof (n 8) ∷ kinds.Num (pos 1) ∷ kinds.Arrow (record { parameters = []; rest = None; body = n 10 }) ∷ kinds.Typeof (n 11) ∷ kinds.ObjectLit [] ∷ kinds.Typeof (n 13) ∷ kinds.Bool true ∷ kinds.Typeof (n 15) ∷ kinds.Call (n 1) (n 3 ∷ n 5 ∷ n 7 ∷ n 9 ∷ n 12 ∷ n 14 ∷ n 16 ∷ []) ∷ kinds.ExprStmt (n 17) ∷ kinds.Script (n 18 ∷ []) ∷ []

types_runs : at_limits Main 20 3 3 54 types ≡ (logged (codes "number string object undefined function object boolean") ∷ rest ∷ []) ∷ (fuel ∷ []) ∷ (cells ∷ []) ∷ (places ∷ []) ∷ (units ∷ []) ∷ []
unfolding opened
types_runs = refl

-- const o = {a: 1, b: 2}; console.log(delete o.a, delete o["c"], delete 1, o.a, "b" in o, "a" in o);
abbrev deletes : List nodes.Node
deletes = kinds.BindName (codes "o") ∷ kinds.Num (pos 1) ∷ kinds.Property (Written (codes "a")) (n 1) ∷ kinds.Num (pos 2) ∷ kinds.Property (Written (codes "b")) (n 3) ∷ kinds.ObjectLit (n 2 ∷ n 4 ∷ []) ∷ kinds.Const (record { bind = n 0; value = (Some (n 5)) } ∷ []) ∷ kinds.Name (codes "console") ∷ kinds.Dot (n 7) (codes "log") ∷ kinds.Name (codes "o") ∷ kinds.Dot (n 9) (codes "a") ∷ kinds.Delete (n 10) ∷ kinds.Name (codes "o") ∷ kinds.Str (codes "c") ∷ kinds.Index (n 12) (n 13) ∷ kinds.Delete (n 14) ∷ kinds.Num (pos 1) ∷ kinds.Delete (n 16) ∷ kinds.Name (codes "o") ∷ kinds.Dot (n 18) (codes "a") ∷ kinds.Str (codes "b") ∷ kinds.Name (codes "o") ∷ kinds.Binary operators.In (n 20) (n 21) ∷ kinds.Str (codes "a") ∷ kinds.Name (codes "o") ∷ kinds.Binary operators.In (n 23) (n 24) ∷ kinds.Call (n 8) (n 11 ∷ n 15 ∷ n 17 ∷ n 19 ∷ n 22 ∷ n 25 ∷ []) ∷ kinds.ExprStmt (n 26) ∷ kinds.Script (n 6 ∷ n 27 ∷ []) ∷ []

deletes_runs : at_limits Main 30 2 5 35 deletes ≡ (logged (codes "true true true undefined true false") ∷ rest ∷ []) ∷ (fuel ∷ []) ∷ (cells ∷ []) ∷ (places ∷ []) ∷ (units ∷ []) ∷ []
unfolding opened
deletes_runs = refl

-- function F() {} const f = new F(); console.log(f instanceof F, {} instanceof F, 1 instanceof F);
abbrev kinship : List nodes.Node
kinship = kinds.Block [] ∷ kinds.FunDecl (codes "F") (record { parameters = []; rest = None; body = n 0 }) ∷ kinds.BindName (codes "f") ∷ kinds.Name (codes "F") ∷ kinds.New (n 3) [] ∷ kinds.Const (record { bind = n 2; value = (Some (n 4)) } ∷ []) ∷ kinds.Name (codes "console") ∷ kinds.Dot (n 6) (codes "log") ∷ kinds.Name (codes "f") ∷ kinds.Name (codes "F") ∷ kinds.Binary operators.InstanceOf (n 8) (n 9) ∷ kinds.ObjectLit [] ∷ kinds.Name (codes "F") ∷ kinds.Binary operators.InstanceOf (n 11) (n 12) ∷ kinds.Num (pos 1) ∷ kinds.Name (codes "F") ∷ kinds.Binary operators.InstanceOf (n 14) (n 15) ∷ kinds.Call (n 7) (n 10 ∷ n 13 ∷ n 16 ∷ []) ∷ kinds.ExprStmt (n 17) ∷ kinds.Script (n 1 ∷ n 5 ∷ n 18 ∷ []) ∷ []

kinship_runs : at_limits Main 21 6 9 16 kinship ≡ (logged (codes "true false false") ∷ rest ∷ []) ∷ (fuel ∷ []) ∷ (cells ∷ []) ∷ (places ∷ []) ∷ (units ∷ []) ∷ []
unfolding opened
kinship_runs = refl

-- console.log("abc"[1], "abc".length, "abc"[9]);
abbrev units_of_text : List nodes.Node
units_of_text = kinds.Name (codes "console") ∷ kinds.Dot (n 0) (codes "log") ∷ kinds.Str (codes "abc") ∷ kinds.Num (pos 1) ∷ kinds.Index (n 2) (n 3) ∷ kinds.Str (codes "abc") ∷ kinds.Dot (n 5) (codes "length") ∷ kinds.Str (codes "abc") ∷ kinds.Num (pos 9) ∷ kinds.Index (n 7) (n 8) ∷ kinds.Call (n 1) (n 4 ∷ n 6 ∷ n 9 ∷ []) ∷ kinds.ExprStmt (n 10) ∷ kinds.Script (n 11 ∷ []) ∷ []

units_of_text_runs : at_limits Main 14 1 1 14 units_of_text ≡ (logged (codes "b 3 undefined") ∷ rest ∷ []) ∷ (fuel ∷ []) ∷ (cells ∷ []) ∷ (places ∷ []) ∷ (units ∷ []) ∷ []
unfolding opened
units_of_text_runs = refl
