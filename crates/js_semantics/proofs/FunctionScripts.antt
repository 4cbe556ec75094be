-- Scripts of objects, arrays, functions, calls and patterns.
-- Each is run with the least steps, cells, places and units that it needs, and with one less of each in turn.
use Rattle.std.specs.Prelude.{◌≡◌, List, [], ◌∷◌, pos, refl, codes, Some, None}
use Rattle.world_kind.specs.declared.WorldKind.TheVariants.{Main}
use Rattle.js_tree.specs.declared.node.Node as nodes
use Rattle.js_tree.specs.declared.node.Node.TheVariants as kinds
use Rattle.js_tree.specs.declared.node.PropertyKey.TheVariants.{Written, Computed}
use Rattle.js_tree.specs.declared.node.BinaryOperator.TheVariants as operators
use Rattle.js_semantics.proofs.Opened.{opened}
use Rattle.js_semantics.proofs.Worlds.{n, at_limits, logged, thrown, rest, fuel, cells, places, units}

-- console.log([1, [2, {a: 3}], "s"], {k: 1, 2: 3, "x y": [], f: () => 1});
abbrev literals : List nodes.Node
literals = kinds.Name (codes "console") ∷ kinds.Dot (n 0) (codes "log") ∷ kinds.Num (pos 1) ∷ kinds.Num (pos 2) ∷ kinds.Num (pos 3) ∷ kinds.Property (Written (codes "a")) (n 4) ∷ kinds.ObjectLit (n 5 ∷ []) ∷ kinds.ArrayLit (n 3 ∷ n 6 ∷ []) ∷ kinds.Str (codes "s") ∷ kinds.ArrayLit (n 2 ∷ n 7 ∷ n 8 ∷ []) ∷ kinds.Num (pos 1) ∷ kinds.Property (Written (codes "k")) (n 10) ∷ kinds.Num (pos 3) ∷ kinds.Property (Written (codes "2")) (n 12) ∷ kinds.ArrayLit [] ∷ kinds.Property (Written (codes "x y")) (n 14) ∷ kinds.Num (pos 1) ∷ kinds.Arrow (record { parameters = []; rest = None; body = n 16 }) ∷ kinds.Property (Written (codes "f")) (n 17) ∷ kinds.ObjectLit (n 11 ∷ n 13 ∷ n 15 ∷ n 18 ∷ []) ∷ kinds.Call (n 1) (n 9 ∷ n 19 ∷ []) ∷ kinds.ExprStmt (n 20) ∷ kinds.Script (n 21 ∷ []) ∷ []

literals_runs : at_limits Main 23 7 17 64 literals ≡ (logged (codes "[1, [2, [Object]], \"s\"] {\"2\": 3, k: 1, \"x y\": [], f: [Function]}") ∷ rest ∷ []) ∷ (fuel ∷ []) ∷ (cells ∷ []) ∷ (places ∷ []) ∷ (units ∷ []) ∷ []
unfolding opened
literals_runs = refl

-- const k = "b"; const o = {a: 1, [k]: 2, m() { return this.a; }, get g() { return 4; }, set g(v) { this.a = v; }}; o.g = 9; console.log(o.m(), o.b, o.g, o);
abbrev members : List nodes.Node
members = kinds.BindName (codes "k") ∷ kinds.Str (codes "b") ∷ kinds.Const (record { bind = n 0; value = (Some (n 1)) } ∷ []) ∷ kinds.BindName (codes "o") ∷ kinds.Num (pos 1) ∷ kinds.Property (Written (codes "a")) (n 4) ∷ kinds.Name (codes "k") ∷ kinds.Num (pos 2) ∷ kinds.Property (Computed (n 6)) (n 7) ∷ kinds.This ∷ kinds.Dot (n 9) (codes "a") ∷ kinds.Return (Some (n 10)) ∷ kinds.Block (n 11 ∷ []) ∷ kinds.Method (Written (codes "m")) (record { parameters = []; rest = None; body = n 12 }) ∷ kinds.Num (pos 4) ∷ kinds.Return (Some (n 14)) ∷ kinds.Block (n 15 ∷ []) ∷ kinds.Getter (Written (codes "g")) (record { parameters = []; rest = None; body = n 16 }) ∷ kinds.BindName (codes "v") ∷ kinds.This ∷ kinds.Dot (n 19) (codes "a") ∷ kinds.Name (codes "v") ∷ kinds.Assign (n 20) (n 21) ∷ kinds.ExprStmt (n 22) ∷ kinds.Block (n 23 ∷ []) ∷ kinds.Setter (Written (codes "g")) (record { parameters = (record { bind = n 18; default = None } ∷ []); rest = None; body = n 24 }) ∷ kinds.ObjectLit (n 5 ∷ n 8 ∷ n 13 ∷ n 17 ∷ n 25 ∷ []) ∷ kinds.Const (record { bind = n 3; value = (Some (n 26)) } ∷ []) ∷ kinds.Name (codes "o") ∷ kinds.Dot (n 28) (codes "g") ∷ kinds.Num (pos 9) ∷ kinds.Assign (n 29) (n 30) ∷ kinds.ExprStmt (n 31) ∷ kinds.Name (codes "console") ∷ kinds.Dot (n 33) (codes "log") ∷ kinds.Name (codes "o") ∷ kinds.Dot (n 35) (codes "m") ∷ kinds.Call (n 36) [] ∷ kinds.Name (codes "o") ∷ kinds.Dot (n 38) (codes "b") ∷ kinds.Name (codes "o") ∷ kinds.Dot (n 40) (codes "g") ∷ kinds.Name (codes "o") ∷ kinds.Call (n 34) (n 37 ∷ n 39 ∷ n 41 ∷ n 42 ∷ []) ∷ kinds.ExprStmt (n 43) ∷ kinds.Script (n 2 ∷ n 27 ∷ n 32 ∷ n 44 ∷ []) ∷ []

members_runs : at_limits Main 47 8 15 48 members ≡ (logged (codes "9 2 4 {a: 9, b: 2, m: [Function], g: [Accessor]}") ∷ rest ∷ []) ∷ (fuel ∷ []) ∷ (cells ∷ []) ∷ (places ∷ []) ∷ (units ∷ []) ∷ []
unfolding opened
members_runs = refl

-- const a = [1, 2]; const f = (...r) => r; console.log([0, ...a, 3], f(...a, 5), [..."hi"]);
abbrev spreads : List nodes.Node
spreads = kinds.BindName (codes "a") ∷ kinds.Num (pos 1) ∷ kinds.Num (pos 2) ∷ kinds.ArrayLit (n 1 ∷ n 2 ∷ []) ∷ kinds.Const (record { bind = n 0; value = (Some (n 3)) } ∷ []) ∷ kinds.BindName (codes "f") ∷ kinds.BindName (codes "r") ∷ kinds.Name (codes "r") ∷ kinds.Arrow (record { parameters = []; rest = (Some (n 6)); body = n 7 }) ∷ kinds.Const (record { bind = n 5; value = (Some (n 8)) } ∷ []) ∷ kinds.Name (codes "console") ∷ kinds.Dot (n 10) (codes "log") ∷ kinds.Num (pos 0) ∷ kinds.Name (codes "a") ∷ kinds.Spread (n 13) ∷ kinds.Num (pos 3) ∷ kinds.ArrayLit (n 12 ∷ n 14 ∷ n 15 ∷ []) ∷ kinds.Name (codes "f") ∷ kinds.Name (codes "a") ∷ kinds.Spread (n 18) ∷ kinds.Num (pos 5) ∷ kinds.Call (n 17) (n 19 ∷ n 20 ∷ []) ∷ kinds.Str (codes "hi") ∷ kinds.Spread (n 22) ∷ kinds.ArrayLit (n 23 ∷ []) ∷ kinds.Call (n 11) (n 16 ∷ n 21 ∷ n 24 ∷ []) ∷ kinds.ExprStmt (n 25) ∷ kinds.Script (n 4 ∷ n 9 ∷ n 26 ∷ []) ∷ []

spreads_runs : at_limits Main 29 8 24 35 spreads ≡ (logged (codes "[0, 1, 2, 3] [1, 2, 5] [\"h\", \"i\"]") ∷ rest ∷ []) ∷ (fuel ∷ []) ∷ (cells ∷ []) ∷ (places ∷ []) ∷ (units ∷ []) ∷ []
unfolding opened
spreads_runs = refl

-- const f = (a, b = a + 1, ...c) => [a, b, c.length]; console.log(f(1), f(1, 5, 6, 7), f(undefined, undefined));
abbrev defaults : List nodes.Node
defaults = kinds.BindName (codes "f") ∷ kinds.BindName (codes "a") ∷ kinds.BindName (codes "b") ∷ kinds.Name (codes "a") ∷ kinds.Num (pos 1) ∷ kinds.Binary operators.Add (n 3) (n 4) ∷ kinds.BindName (codes "c") ∷ kinds.Name (codes "a") ∷ kinds.Name (codes "b") ∷ kinds.Name (codes "c") ∷ kinds.Dot (n 9) (codes "length") ∷ kinds.ArrayLit (n 7 ∷ n 8 ∷ n 10 ∷ []) ∷ kinds.Arrow (record { parameters = (record { bind = n 1; default = None } ∷ record { bind = n 2; default = (Some (n 5)) } ∷ []); rest = (Some (n 6)); body = n 11 }) ∷ kinds.Const (record { bind = n 0; value = (Some (n 12)) } ∷ []) ∷ kinds.Name (codes "console") ∷ kinds.Dot (n 14) (codes "log") ∷ kinds.Name (codes "f") ∷ kinds.Num (pos 1) ∷ kinds.Call (n 16) (n 17 ∷ []) ∷ kinds.Name (codes "f") ∷ kinds.Num (pos 1) ∷ kinds.Num (pos 5) ∷ kinds.Num (pos 6) ∷ kinds.Num (pos 7) ∷ kinds.Call (n 19) (n 20 ∷ n 21 ∷ n 22 ∷ n 23 ∷ []) ∷ kinds.Name (codes "f") ∷ kinds.Name (codes "undefined") ∷ kinds.Name (codes "undefined") ∷ kinds.Call (n 25) (n 26 ∷ n 27 ∷ []) ∷ kinds.Call (n 15) (n 18 ∷ n 24 ∷ n 28 ∷ []) ∷ kinds.ExprStmt (n 29) ∷ kinds.Script (n 13 ∷ n 30 ∷ []) ∷ []

defaults_runs : at_limits Main 44 10 29 24 defaults ≡ (thrown (codes "TypeError: wrong operand") ∷ rest ∷ []) ∷ (fuel ∷ []) ∷ (cells ∷ []) ∷ (places ∷ []) ∷ (units ∷ []) ∷ []
unfolding opened
defaults_runs = refl

-- const {a, b: {c = 4}, d = 5} = {a: 1, b: {}}; const [x, z, y = 3] = [1]; console.log(a, c, d, x, z, y);
abbrev patterns : List nodes.Node
patterns = kinds.BindName (codes "a") ∷ kinds.BindName (codes "c") ∷ kinds.Num (pos 4) ∷ kinds.BindObject (record { key = (codes "c"); bind = n 1; default = (Some (n 2)) } ∷ []) ∷ kinds.BindName (codes "d") ∷ kinds.Num (pos 5) ∷ kinds.BindObject (record { key = (codes "a"); bind = n 0; default = None } ∷ record { key = (codes "b"); bind = n 3; default = None } ∷ record { key = (codes "d"); bind = n 4; default = (Some (n 5)) } ∷ []) ∷ kinds.Num (pos 1) ∷ kinds.Property (Written (codes "a")) (n 7) ∷ kinds.ObjectLit [] ∷ kinds.Property (Written (codes "b")) (n 9) ∷ kinds.ObjectLit (n 8 ∷ n 10 ∷ []) ∷ kinds.Const (record { bind = n 6; value = (Some (n 11)) } ∷ []) ∷ kinds.BindName (codes "x") ∷ kinds.BindName (codes "z") ∷ kinds.BindName (codes "y") ∷ kinds.Num (pos 3) ∷ kinds.BindArray (record { bind = n 13; default = None } ∷ record { bind = n 14; default = None } ∷ record { bind = n 15; default = (Some (n 16)) } ∷ []) ∷ kinds.Num (pos 1) ∷ kinds.ArrayLit (n 18 ∷ []) ∷ kinds.Const (record { bind = n 17; value = (Some (n 19)) } ∷ []) ∷ kinds.Name (codes "console") ∷ kinds.Dot (n 21) (codes "log") ∷ kinds.Name (codes "a") ∷ kinds.Name (codes "c") ∷ kinds.Name (codes "d") ∷ kinds.Name (codes "x") ∷ kinds.Name (codes "z") ∷ kinds.Name (codes "y") ∷ kinds.Call (n 22) (n 23 ∷ n 24 ∷ n 25 ∷ n 26 ∷ n 27 ∷ n 28 ∷ []) ∷ kinds.ExprStmt (n 29) ∷ kinds.Script (n 12 ∷ n 20 ∷ n 30 ∷ []) ∷ []

patterns_runs : at_limits Main 33 4 13 19 patterns ≡ (logged (codes "1 4 5 1 undefined 3") ∷ rest ∷ []) ∷ (fuel ∷ []) ∷ (cells ∷ []) ∷ (places ∷ []) ∷ (units ∷ []) ∷ []
unfolding opened
patterns_runs = refl

-- const f = ({a, b}, [c]) => a + b + c; console.log(f({a: 1, b: 2}, [3]));
abbrev parameters : List nodes.Node
parameters = kinds.BindName (codes "f") ∷ kinds.BindName (codes "a") ∷ kinds.BindName (codes "b") ∷ kinds.BindObject (record { key = (codes "a"); bind = n 1; default = None } ∷ record { key = (codes "b"); bind = n 2; default = None } ∷ []) ∷ kinds.BindName (codes "c") ∷ kinds.BindArray (record { bind = n 4; default = None } ∷ []) ∷ kinds.Name (codes "a") ∷ kinds.Name (codes "b") ∷ kinds.Binary operators.Add (n 6) (n 7) ∷ kinds.Name (codes "c") ∷ kinds.Binary operators.Add (n 8) (n 9) ∷ kinds.Arrow (record { parameters = (record { bind = n 3; default = None } ∷ record { bind = n 5; default = None } ∷ []); rest = None; body = n 10 }) ∷ kinds.Const (record { bind = n 0; value = (Some (n 11)) } ∷ []) ∷ kinds.Name (codes "console") ∷ kinds.Dot (n 13) (codes "log") ∷ kinds.Name (codes "f") ∷ kinds.Num (pos 1) ∷ kinds.Property (Written (codes "a")) (n 16) ∷ kinds.Num (pos 2) ∷ kinds.Property (Written (codes "b")) (n 18) ∷ kinds.ObjectLit (n 17 ∷ n 19 ∷ []) ∷ kinds.Num (pos 3) ∷ kinds.ArrayLit (n 21 ∷ []) ∷ kinds.Call (n 15) (n 20 ∷ n 22 ∷ []) ∷ kinds.Call (n 14) (n 23 ∷ []) ∷ kinds.ExprStmt (n 24) ∷ kinds.Script (n 12 ∷ n 25 ∷ []) ∷ []

parameters_runs : at_limits Main 28 5 12 1 parameters ≡ (logged (codes "6") ∷ rest ∷ []) ∷ (fuel ∷ []) ∷ (cells ∷ []) ∷ (places ∷ []) ∷ (units ∷ []) ∷ []
unfolding opened
parameters_runs = refl

-- const counter = () => { let n = 0; return () => { n += 1; return n; }; }; const c = counter(); const d = counter(); c(); console.log(c(), d());
abbrev closures : List nodes.Node
closures = kinds.BindName (codes "counter") ∷ kinds.BindName (codes "n") ∷ kinds.Num (pos 0) ∷ kinds.Let (record { bind = n 1; value = (Some (n 2)) } ∷ []) ∷ kinds.Name (codes "n") ∷ kinds.Num (pos 1) ∷ kinds.AssignOp operators.Add (n 4) (n 5) ∷ kinds.ExprStmt (n 6) ∷ kinds.Name (codes "n") ∷ kinds.Return (Some (n 8)) ∷ kinds.Block (n 7 ∷ n 9 ∷ []) ∷ kinds.Arrow (record { parameters = []; rest = None; body = n 10 }) ∷ kinds.Return (Some (n 11)) ∷ kinds.Block (n 3 ∷ n 12 ∷ []) ∷ kinds.Arrow (record { parameters = []; rest = None; body = n 13 }) ∷ kinds.Const (record { bind = n 0; value = (Some (n 14)) } ∷ []) ∷ kinds.BindName (codes "c") ∷ kinds.Name (codes "counter") ∷ kinds.Call (n 17) [] ∷ kinds.Const (record { bind = n 16; value = (Some (n 18)) } ∷ []) ∷ kinds.BindName (codes "d") ∷ kinds.Name (codes "counter") ∷ kinds.Call (n 21) [] ∷ kinds.Const (record { bind = n 20; value = (Some (n 22)) } ∷ []) ∷ kinds.Name (codes "c") ∷ kinds.Call (n 24) [] ∷ kinds.ExprStmt (n 25) ∷ kinds.Name (codes "console") ∷ kinds.Dot (n 27) (codes "log") ∷ kinds.Name (codes "c") ∷ kinds.Call (n 29) [] ∷ kinds.Name (codes "d") ∷ kinds.Call (n 31) [] ∷ kinds.Call (n 28) (n 30 ∷ n 32 ∷ []) ∷ kinds.ExprStmt (n 33) ∷ kinds.Script (n 15 ∷ n 19 ∷ n 23 ∷ n 26 ∷ n 34 ∷ []) ∷ []

closures_runs : at_limits Main 57 11 16 3 closures ≡ (logged (codes "2 1") ∷ rest ∷ []) ∷ (fuel ∷ []) ∷ (cells ∷ []) ∷ (places ∷ []) ∷ (units ∷ []) ∷ []
unfolding opened
closures_runs = refl

-- const o = {f() { return () => this === o; }, g: function () { return this; }}; const g = o.g; console.log(o.f()(), o["g"]() === o, g());
abbrev receivers : List nodes.Node
receivers = kinds.BindName (codes "o") ∷ kinds.This ∷ kinds.Name (codes "o") ∷ kinds.Binary operators.StrictEqual (n 1) (n 2) ∷ kinds.Arrow (record { parameters = []; rest = None; body = n 3 }) ∷ kinds.Return (Some (n 4)) ∷ kinds.Block (n 5 ∷ []) ∷ kinds.Method (Written (codes "f")) (record { parameters = []; rest = None; body = n 6 }) ∷ kinds.This ∷ kinds.Return (Some (n 8)) ∷ kinds.Block (n 9 ∷ []) ∷ kinds.Fun None (record { parameters = []; rest = None; body = n 10 }) ∷ kinds.Property (Written (codes "g")) (n 11) ∷ kinds.ObjectLit (n 7 ∷ n 12 ∷ []) ∷ kinds.Const (record { bind = n 0; value = (Some (n 13)) } ∷ []) ∷ kinds.BindName (codes "g") ∷ kinds.Name (codes "o") ∷ kinds.Dot (n 16) (codes "g") ∷ kinds.Const (record { bind = n 15; value = (Some (n 17)) } ∷ []) ∷ kinds.Name (codes "console") ∷ kinds.Dot (n 19) (codes "log") ∷ kinds.Name (codes "o") ∷ kinds.Dot (n 21) (codes "f") ∷ kinds.Call (n 22) [] ∷ kinds.Call (n 23) [] ∷ kinds.Name (codes "o") ∷ kinds.Str (codes "g") ∷ kinds.Index (n 25) (n 26) ∷ kinds.Call (n 27) [] ∷ kinds.Name (codes "o") ∷ kinds.Binary operators.StrictEqual (n 28) (n 29) ∷ kinds.Name (codes "g") ∷ kinds.Call (n 31) [] ∷ kinds.Call (n 20) (n 24 ∷ n 30 ∷ n 32 ∷ []) ∷ kinds.ExprStmt (n 33) ∷ kinds.Script (n 14 ∷ n 18 ∷ n 34 ∷ []) ∷ []

receivers_runs : at_limits Main 40 10 15 19 receivers ≡ (logged (codes "true true undefined") ∷ rest ∷ []) ∷ (fuel ∷ []) ∷ (cells ∷ []) ∷ (places ∷ []) ∷ (units ∷ []) ∷ []
unfolding opened
receivers_runs = refl

-- const f = function g(n) { return n < 1 ? 0 : n + g(n - 1); }; console.log(f(3));
abbrev own_name : List nodes.Node
own_name = kinds.BindName (codes "f") ∷ kinds.BindName (codes "n") ∷ kinds.Name (codes "n") ∷ kinds.Num (pos 1) ∷ kinds.Binary operators.Less (n 2) (n 3) ∷ kinds.Num (pos 0) ∷ kinds.Name (codes "n") ∷ kinds.Name (codes "g") ∷ kinds.Name (codes "n") ∷ kinds.Num (pos 1) ∷ kinds.Binary operators.Subtract (n 8) (n 9) ∷ kinds.Call (n 7) (n 10 ∷ []) ∷ kinds.Binary operators.Add (n 6) (n 11) ∷ kinds.Cond (n 4) (n 5) (n 12) ∷ kinds.Return (Some (n 13)) ∷ kinds.Block (n 14 ∷ []) ∷ kinds.Fun (Some (codes "g")) (record { parameters = (record { bind = n 1; default = None } ∷ []); rest = None; body = n 15 }) ∷ kinds.Const (record { bind = n 0; value = (Some (n 16)) } ∷ []) ∷ kinds.Name (codes "console") ∷ kinds.Dot (n 18) (codes "log") ∷ kinds.Name (codes "f") ∷ kinds.Num (pos 3) ∷ kinds.Call (n 20) (n 21 ∷ []) ∷ kinds.Call (n 19) (n 22 ∷ []) ∷ kinds.ExprStmt (n 23) ∷ kinds.Script (n 17 ∷ n 24 ∷ []) ∷ []

own_name_runs : at_limits Main 62 8 15 1 own_name ≡ (logged (codes "6") ∷ rest ∷ []) ∷ (fuel ∷ []) ∷ (cells ∷ []) ∷ (places ∷ []) ∷ (units ∷ []) ∷ []
unfolding opened
own_name_runs = refl

-- console.log(f(1)); function f(a) { return a + g(); } function g() { return 10; }
abbrev hoisted : List nodes.Node
hoisted = kinds.Name (codes "console") ∷ kinds.Dot (n 0) (codes "log") ∷ kinds.Name (codes "f") ∷ kinds.Num (pos 1) ∷ kinds.Call (n 2) (n 3 ∷ []) ∷ kinds.Call (n 1) (n 4 ∷ []) ∷ kinds.ExprStmt (n 5) ∷ kinds.BindName (codes "a") ∷ kinds.Name (codes "a") ∷ kinds.Name (codes "g") ∷ kinds.Call (n 9) [] ∷ kinds.Binary operators.Add (n 8) (n 10) ∷ kinds.Return (Some (n 11)) ∷ kinds.Block (n 12 ∷ []) ∷ kinds.FunDecl (codes "f") (record { parameters = (record { bind = n 7; default = None } ∷ []); rest = None; body = n 13 }) ∷ kinds.Num (pos 10) ∷ kinds.Return (Some (n 15)) ∷ kinds.Block (n 16 ∷ []) ∷ kinds.FunDecl (codes "g") (record { parameters = []; rest = None; body = n 17 }) ∷ kinds.Script (n 6 ∷ n 14 ∷ n 18 ∷ []) ∷ []

hoisted_runs : at_limits Main 21 7 12 2 hoisted ≡ (logged (codes "11") ∷ rest ∷ []) ∷ (logged (codes "11") ∷ fuel ∷ []) ∷ (cells ∷ []) ∷ (places ∷ []) ∷ (units ∷ []) ∷ []
unfolding opened
hoisted_runs = refl

-- function A() {} A.prototype.x = 1; function B() {} B.prototype = new A(); const b = new B(); b.y = 2; console.log(b.x, b.y, b);
abbrev chain : List nodes.Node
chain = kinds.Block [] ∷ kinds.FunDecl (codes "A") (record { parameters = []; rest = None; body = n 0 }) ∷ kinds.Name (codes "A") ∷ kinds.Dot (n 2) (codes "prototype") ∷ kinds.Dot (n 3) (codes "x") ∷ kinds.Num (pos 1) ∷ kinds.Assign (n 4) (n 5) ∷ kinds.ExprStmt (n 6) ∷ kinds.Block [] ∷ kinds.FunDecl (codes "B") (record { parameters = []; rest = None; body = n 8 }) ∷ kinds.Name (codes "B") ∷ kinds.Dot (n 10) (codes "prototype") ∷ kinds.Name (codes "A") ∷ kinds.New (n 12) [] ∷ kinds.Assign (n 11) (n 13) ∷ kinds.ExprStmt (n 14) ∷ kinds.BindName (codes "b") ∷ kinds.Name (codes "B") ∷ kinds.New (n 17) [] ∷ kinds.Const (record { bind = n 16; value = (Some (n 18)) } ∷ []) ∷ kinds.Name (codes "b") ∷ kinds.Dot (n 20) (codes "y") ∷ kinds.Num (pos 2) ∷ kinds.Assign (n 21) (n 22) ∷ kinds.ExprStmt (n 23) ∷ kinds.Name (codes "console") ∷ kinds.Dot (n 25) (codes "log") ∷ kinds.Name (codes "b") ∷ kinds.Dot (n 27) (codes "x") ∷ kinds.Name (codes "b") ∷ kinds.Dot (n 29) (codes "y") ∷ kinds.Name (codes "b") ∷ kinds.Call (n 26) (n 28 ∷ n 30 ∷ n 31 ∷ []) ∷ kinds.ExprStmt (n 32) ∷ kinds.Script (n 1 ∷ n 7 ∷ n 9 ∷ n 15 ∷ n 19 ∷ n 24 ∷ n 33 ∷ []) ∷ []

chain_runs : at_limits Main 36 9 16 10 chain ≡ (logged (codes "1 2 {y: 2}") ∷ rest ∷ []) ∷ (fuel ∷ []) ∷ (cells ∷ []) ∷ (places ∷ []) ∷ (units ∷ []) ∷ []
unfolding opened
chain_runs = refl

-- function F() { this.a = 1; return {a: 2}; } function G() { this.a = 3; return 4; } console.log(new F().a, new G().a, new F);
abbrev returned : List nodes.Node
returned = kinds.This ∷ kinds.Dot (n 0) (codes "a") ∷ kinds.Num (pos 1) ∷ kinds.Assign (n 1) (n 2) ∷ kinds.ExprStmt (n 3) ∷ kinds.Num (pos 2) ∷ kinds.Property (Written (codes "a")) (n 5) ∷ kinds.ObjectLit (n 6 ∷ []) ∷ kinds.Return (Some (n 7)) ∷ kinds.Block (n 4 ∷ n 8 ∷ []) ∷ kinds.FunDecl (codes "F") (record { parameters = []; rest = None; body = n 9 }) ∷ kinds.This ∷ kinds.Dot (n 11) (codes "a") ∷ kinds.Num (pos 3) ∷ kinds.Assign (n 12) (n 13) ∷ kinds.ExprStmt (n 14) ∷ kinds.Num (pos 4) ∷ kinds.Return (Some (n 16)) ∷ kinds.Block (n 15 ∷ n 17 ∷ []) ∷ kinds.FunDecl (codes "G") (record { parameters = []; rest = None; body = n 18 }) ∷ kinds.Name (codes "console") ∷ kinds.Dot (n 20) (codes "log") ∷ kinds.Name (codes "F") ∷ kinds.New (n 22) [] ∷ kinds.Dot (n 23) (codes "a") ∷ kinds.Name (codes "G") ∷ kinds.New (n 25) [] ∷ kinds.Dot (n 26) (codes "a") ∷ kinds.Name (codes "F") ∷ kinds.New (n 28) [] ∷ kinds.Call (n 21) (n 24 ∷ n 27 ∷ n 29 ∷ []) ∷ kinds.ExprStmt (n 30) ∷ kinds.Script (n 10 ∷ n 19 ∷ n 31 ∷ []) ∷ []

returned_runs : at_limits Main 44 13 22 10 returned ≡ (logged (codes "2 3 {a: 2}") ∷ rest ∷ []) ∷ (fuel ∷ []) ∷ (cells ∷ []) ∷ (places ∷ []) ∷ (units ∷ []) ∷ []
unfolding opened
returned_runs = refl

-- function F() {} const log = []; F.prototype = {set v(x) { this.w = x; }}; const f = new F(); f.v = 7; console.log(f.w, f, F.prototype);
abbrev inherited_setter : List nodes.Node
inherited_setter = kinds.Block [] ∷ kinds.FunDecl (codes "F") (record { parameters = []; rest = None; body = n 0 }) ∷ kinds.BindName (codes "log") ∷ kinds.ArrayLit [] ∷ kinds.Const (record { bind = n 2; value = (Some (n 3)) } ∷ []) ∷ kinds.Name (codes "F") ∷ kinds.Dot (n 5) (codes "prototype") ∷ kinds.BindName (codes "x") ∷ kinds.This ∷ kinds.Dot (n 8) (codes "w") ∷ kinds.Name (codes "x") ∷ kinds.Assign (n 9) (n 10) ∷ kinds.ExprStmt (n 11) ∷ kinds.Block (n 12 ∷ []) ∷ kinds.Setter (Written (codes "v")) (record { parameters = (record { bind = n 7; default = None } ∷ []); rest = None; body = n 13 }) ∷ kinds.ObjectLit (n 14 ∷ []) ∷ kinds.Assign (n 6) (n 15) ∷ kinds.ExprStmt (n 16) ∷ kinds.BindName (codes "f") ∷ kinds.Name (codes "F") ∷ kinds.New (n 19) [] ∷ kinds.Const (record { bind = n 18; value = (Some (n 20)) } ∷ []) ∷ kinds.Name (codes "f") ∷ kinds.Dot (n 22) (codes "v") ∷ kinds.Num (pos 7) ∷ kinds.Assign (n 23) (n 24) ∷ kinds.ExprStmt (n 25) ∷ kinds.Name (codes "console") ∷ kinds.Dot (n 27) (codes "log") ∷ kinds.Name (codes "f") ∷ kinds.Dot (n 29) (codes "w") ∷ kinds.Name (codes "f") ∷ kinds.Name (codes "F") ∷ kinds.Dot (n 32) (codes "prototype") ∷ kinds.Call (n 28) (n 30 ∷ n 31 ∷ n 33 ∷ []) ∷ kinds.ExprStmt (n 34) ∷ kinds.Script (n 1 ∷ n 4 ∷ n 17 ∷ n 21 ∷ n 26 ∷ n 35 ∷ []) ∷ []

inherited_setter_runs : at_limits Main 38 9 16 24 inherited_setter ≡ (logged (codes "7 {w: 7} {v: [Accessor]}") ∷ rest ∷ []) ∷ (fuel ∷ []) ∷ (cells ∷ []) ∷ (places ∷ []) ∷ (units ∷ []) ∷ []
unfolding opened
inherited_setter_runs = refl

-- const e = new RangeError("r"); e.code = 5; console.log(e, Error("m"), new TypeError(), e.name, e instanceof Error);
abbrev errors : List nodes.Node
errors = kinds.BindName (codes "e") ∷ kinds.Name (codes "RangeError") ∷ kinds.Str (codes "r") ∷ kinds.New (n 1) (n 2 ∷ []) ∷ kinds.Const (record { bind = n 0; value = (Some (n 3)) } ∷ []) ∷ kinds.Name (codes "e") ∷ kinds.Dot (n 5) (codes "code") ∷ kinds.Num (pos 5) ∷ kinds.Assign (n 6) (n 7) ∷ kinds.ExprStmt (n 8) ∷ kinds.Name (codes "console") ∷ kinds.Dot (n 10) (codes "log") ∷ kinds.Name (codes "e") ∷ kinds.Name (codes "Error") ∷ kinds.Str (codes "m") ∷ kinds.Call (n 13) (n 14 ∷ []) ∷ kinds.Name (codes "TypeError") ∷ kinds.New (n 16) [] ∷ kinds.Name (codes "e") ∷ kinds.Dot (n 18) (codes "name") ∷ kinds.Name (codes "e") ∷ kinds.Name (codes "Error") ∷ kinds.Binary operators.InstanceOf (n 20) (n 21) ∷ kinds.Call (n 11) (n 12 ∷ n 15 ∷ n 17 ∷ n 19 ∷ n 22 ∷ []) ∷ kinds.ExprStmt (n 23) ∷ kinds.Script (n 4 ∷ n 9 ∷ n 24 ∷ []) ∷ []

errors_runs : at_limits Main 30 4 8 48 errors ≡ (logged (codes "RangeError: r Error: m TypeError RangeError true") ∷ rest ∷ []) ∷ (fuel ∷ []) ∷ (cells ∷ []) ∷ (places ∷ []) ∷ (units ∷ []) ∷ []
unfolding opened
errors_runs = refl

-- const a = [1]; a[1] = a; const o = {p: {}}; o.p.up = o; o.q = [a, [], {}, [{}]]; console.log(a, o);
abbrev cycle : List nodes.Node
cycle = kinds.BindName (codes "a") ∷ kinds.Num (pos 1) ∷ kinds.ArrayLit (n 1 ∷ []) ∷ kinds.Const (record { bind = n 0; value = (Some (n 2)) } ∷ []) ∷ kinds.Name (codes "a") ∷ kinds.Num (pos 1) ∷ kinds.Index (n 4) (n 5) ∷ kinds.Name (codes "a") ∷ kinds.Assign (n 6) (n 7) ∷ kinds.ExprStmt (n 8) ∷ kinds.BindName (codes "o") ∷ kinds.ObjectLit [] ∷ kinds.Property (Written (codes "p")) (n 11) ∷ kinds.ObjectLit (n 12 ∷ []) ∷ kinds.Const (record { bind = n 10; value = (Some (n 13)) } ∷ []) ∷ kinds.Name (codes "o") ∷ kinds.Dot (n 15) (codes "p") ∷ kinds.Dot (n 16) (codes "up") ∷ kinds.Name (codes "o") ∷ kinds.Assign (n 17) (n 18) ∷ kinds.ExprStmt (n 19) ∷ kinds.Name (codes "o") ∷ kinds.Dot (n 21) (codes "q") ∷ kinds.Name (codes "a") ∷ kinds.ArrayLit [] ∷ kinds.ObjectLit [] ∷ kinds.ObjectLit [] ∷ kinds.ArrayLit (n 26 ∷ []) ∷ kinds.ArrayLit (n 23 ∷ n 24 ∷ n 25 ∷ n 27 ∷ []) ∷ kinds.Assign (n 22) (n 28) ∷ kinds.ExprStmt (n 29) ∷ kinds.Name (codes "console") ∷ kinds.Dot (n 31) (codes "log") ∷ kinds.Name (codes "a") ∷ kinds.Name (codes "o") ∷ kinds.Call (n 32) (n 33 ∷ n 34 ∷ []) ∷ kinds.ExprStmt (n 35) ∷ kinds.Script (n 3 ∷ n 9 ∷ n 14 ∷ n 20 ∷ n 30 ∷ n 36 ∷ []) ∷ []

cycle_runs : at_limits Main 39 9 21 68 cycle ≡ (logged (codes "[1, [Circular]] {p: {up: [Circular]}, q: [[Array], [], {}, [Array]]}") ∷ rest ∷ []) ∷ (fuel ∷ []) ∷ (cells ∷ []) ∷ (places ∷ []) ∷ (units ∷ []) ∷ []
unfolding opened
cycle_runs = refl

-- const a = [0, 0, 0, 0, 0, 0, 0, 0, 0, 0]; const b = [...a, ...a, ...a, ...a, ...a]; const c = [...b, ...b, ...b, ...b]; console.log(c.length, [...c, 1], [c, 2]);
abbrev long_lists : List nodes.Node
long_lists = kinds.BindName (codes "a") ∷ kinds.Num (pos 0) ∷ kinds.Num (pos 0) ∷ kinds.Num (pos 0) ∷ kinds.Num (pos 0) ∷ kinds.Num (pos 0) ∷ kinds.Num (pos 0) ∷ kinds.Num (pos 0) ∷ kinds.Num (pos 0) ∷ kinds.Num (pos 0) ∷ kinds.Num (pos 0) ∷ kinds.ArrayLit (n 1 ∷ n 2 ∷ n 3 ∷ n 4 ∷ n 5 ∷ n 6 ∷ n 7 ∷ n 8 ∷ n 9 ∷ n 10 ∷ []) ∷ kinds.Const (record { bind = n 0; value = (Some (n 11)) } ∷ []) ∷ kinds.BindName (codes "b") ∷ kinds.Name (codes "a") ∷ kinds.Spread (n 14) ∷ kinds.Name (codes "a") ∷ kinds.Spread (n 16) ∷ kinds.Name (codes "a") ∷ kinds.Spread (n 18) ∷ kinds.Name (codes "a") ∷ kinds.Spread (n 20) ∷ kinds.Name (codes "a") ∷ kinds.Spread (n 22) ∷ kinds.ArrayLit (n 15 ∷ n 17 ∷ n 19 ∷ n 21 ∷ n 23 ∷ []) ∷ kinds.Const (record { bind = n 13; value = (Some (n 24)) } ∷ []) ∷ kinds.BindName (codes "c") ∷ kinds.Name (codes "b") ∷ kinds.Spread (n 27) ∷ kinds.Name (codes "b") ∷ kinds.Spread (n 29) ∷ kinds.Name (codes "b") ∷ kinds.Spread (n 31) ∷ kinds.Name (codes "b") ∷ kinds.Spread (n 33) ∷ kinds.ArrayLit (n 28 ∷ n 30 ∷ n 32 ∷ n 34 ∷ []) ∷ kinds.Const (record { bind = n 26; value = (Some (n 35)) } ∷ []) ∷ kinds.Name (codes "console") ∷ kinds.Dot (n 37) (codes "log") ∷ kinds.Name (codes "c") ∷ kinds.Dot (n 39) (codes "length") ∷ kinds.Name (codes "c") ∷ kinds.Spread (n 41) ∷ kinds.Num (pos 1) ∷ kinds.ArrayLit (n 42 ∷ n 43 ∷ []) ∷ kinds.Name (codes "c") ∷ kinds.Num (pos 2) ∷ kinds.ArrayLit (n 45 ∷ n 46 ∷ []) ∷ kinds.Call (n 38) (n 40 ∷ n 44 ∷ n 47 ∷ []) ∷ kinds.ExprStmt (n 48) ∷ kinds.Script (n 12 ∷ n 25 ∷ n 36 ∷ n 49 ∷ []) ∷ []

long_lists_runs : at_limits Main 52 6 472 1219 long_lists ≡ (logged (codes "200 [0, 0, 0, 0, 0, 0, 0, 0, 0, 0, 0, 0, 0, 0, 0, 0, 0, 0, 0, 0, 0, 0, 0, 0, 0, 0, 0, 0, 0, 0, 0, 0, 0, 0, 0, 0, 0, 0, 0, 0, 0, 0, 0, 0, 0, 0, 0, 0, 0, 0, 0, 0, 0, 0, 0, 0, 0, 0, 0, 0, 0, 0, 0, 0, 0, 0, 0, 0, 0, 0, 0, 0, 0, 0, 0, 0, 0, 0, 0, 0, 0, 0, 0, 0, 0, 0, 0, 0, 0, 0, 0, 0, 0, 0, 0, 0, 0, 0, 0, 0, 0, 0, 0, 0, 0, 0, 0, 0, 0, 0, 0, 0, 0, 0, 0, 0, 0, 0, 0, 0, 0, 0, 0, 0, 0, 0, 0, 0, 0, 0, 0, 0, 0, 0, 0, 0, 0, 0, 0, 0, 0, 0, 0, 0, 0, 0, 0, 0, 0, 0, 0, 0, 0, 0, 0, 0, 0, 0, 0, 0, 0, 0, 0, 0, 0, 0, 0, 0, 0, 0, 0, 0, 0, 0, 0, 0, 0, 0, 0, 0, 0, 0, 0, 0, 0, 0, 0, 0, 0, 0, 0, 0, 0, 0, 0, 0, 0, 0, 0, 0, ...] [[0, 0, 0, 0, 0, 0, 0, 0, 0, 0, 0, 0, 0, 0, 0, 0, 0, 0, 0, 0, 0, 0, 0, 0, 0, 0, 0, 0, 0, 0, 0, 0, 0, 0, 0, 0, 0, 0, 0, 0, 0, 0, 0, 0, 0, 0, 0, 0, 0, 0, 0, 0, 0, 0, 0, 0, 0, 0, 0, 0, 0, 0, 0, 0, 0, 0, 0, 0, 0, 0, 0, 0, 0, 0, 0, 0, 0, 0, 0, 0, 0, 0, 0, 0, 0, 0, 0, 0, 0, 0, 0, 0, 0, 0, 0, 0, 0, 0, 0, 0, 0, 0, 0, 0, 0, 0, 0, 0, 0, 0, 0, 0, 0, 0, 0, 0, 0, 0, 0, 0, 0, 0, 0, 0, 0, 0, 0, 0, 0, 0, 0, 0, 0, 0, 0, 0, 0, 0, 0, 0, 0, 0, 0, 0, 0, 0, 0, 0, 0, 0, 0, 0, 0, 0, 0, 0, 0, 0, 0, 0, 0, 0, 0, 0, 0, 0, 0, 0, 0, 0, 0, 0, 0, 0, 0, 0, 0, 0, 0, 0, 0, 0, 0, 0, 0, 0, 0, 0, 0, 0, 0, 0, 0, 0, 0, 0, 0, 0, 0, ...], ...]") ∷ rest ∷ []) ∷ (fuel ∷ []) ∷ (cells ∷ []) ∷ (places ∷ []) ∷ (units ∷ []) ∷ []
unfolding opened
long_lists_runs = refl

-- globalThis.g = 3; g += 1; console.log(g, typeof globalThis.g, delete globalThis.g, typeof g);
abbrev global_property : List nodes.Node
global_property = kinds.Name (codes "globalThis") ∷ kinds.Dot (n 0) (codes "g") ∷ kinds.Num (pos 3) ∷ kinds.Assign (n 1) (n 2) ∷ kinds.ExprStmt (n 3) ∷ kinds.Name (codes "g") ∷ kinds.Num (pos 1) ∷ kinds.AssignOp operators.Add (n 5) (n 6) ∷ kinds.ExprStmt (n 7) ∷ kinds.Name (codes "console") ∷ kinds.Dot (n 9) (codes "log") ∷ kinds.Name (codes "g") ∷ kinds.Name (codes "globalThis") ∷ kinds.Dot (n 12) (codes "g") ∷ kinds.Typeof (n 13) ∷ kinds.Name (codes "globalThis") ∷ kinds.Dot (n 15) (codes "g") ∷ kinds.Delete (n 16) ∷ kinds.Name (codes "g") ∷ kinds.Typeof (n 18) ∷ kinds.Call (n 10) (n 11 ∷ n 14 ∷ n 17 ∷ n 19 ∷ []) ∷ kinds.ExprStmt (n 20) ∷ kinds.Script (n 4 ∷ n 8 ∷ n 21 ∷ []) ∷ []

global_property_runs : at_limits Main 24 1 2 23 global_property ≡ (logged (codes "4 number true undefined") ∷ rest ∷ []) ∷ (fuel ∷ []) ∷ (cells ∷ []) ∷ (places ∷ []) ∷ (units ∷ []) ∷ []
unfolding opened
global_property_runs = refl
