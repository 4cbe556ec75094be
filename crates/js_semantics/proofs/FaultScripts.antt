-- Scripts that end with each error of the language.
-- Each is run with the least steps, cells, places and units that it needs, and with one less of each in turn.
use Rattle.std.specs.Prelude.{◌≡◌, List, [], ◌∷◌, pos, refl, codes, true, Some, None}
use Rattle.world_kind.specs.declared.WorldKind.TheVariants.{Main}
use Rattle.js_tree.specs.declared.node.Node as nodes
use Rattle.js_tree.specs.declared.node.Node.TheVariants as kinds
use Rattle.js_tree.specs.declared.node.PropertyKey.TheVariants.{Written}
use Rattle.js_tree.specs.declared.node.BinaryOperator.TheVariants as operators
use Rattle.js_tree.specs.declared.node.UnaryOperator.TheVariants as unaries
use Rattle.js_semantics.proofs.Opened.{opened}
use Rattle.js_semantics.proofs.Worlds.{n, at_limits, logged, thrown, rest, fuel, cells, places, units}

-- undefined();
abbrev not_a_function : List nodes.Node
not_a_function = kinds.Name (codes "undefined") ∷ kinds.Call (n 0) [] ∷ kinds.ExprStmt (n 1) ∷ kinds.Script (n 2 ∷ []) ∷ []

not_a_function_runs : at_limits Main 4 2 3 25 not_a_function ≡ (thrown (codes "TypeError: not a function") ∷ rest ∷ []) ∷ (fuel ∷ []) ∷ (cells ∷ []) ∷ (places ∷ []) ∷ (units ∷ []) ∷ []
unfolding opened
not_a_function_runs = refl

-- null.x;
abbrev not_an_object : List nodes.Node
not_an_object = kinds.Null ∷ kinds.Dot (n 0) (codes "x") ∷ kinds.ExprStmt (n 1) ∷ kinds.Script (n 2 ∷ []) ∷ []

not_an_object_runs : at_limits Main 4 2 3 24 not_an_object ≡ (thrown (codes "TypeError: not an object") ∷ rest ∷ []) ∷ (fuel ∷ []) ∷ (cells ∷ []) ∷ (places ∷ []) ∷ (units ∷ []) ∷ []
unfolding opened
not_an_object_runs = refl

-- const c = 1; c = 2;
abbrev read_only : List nodes.Node
read_only = kinds.BindName (codes "c") ∷ kinds.Num (pos 1) ∷ kinds.Const (record { bind = n 0; value = (Some (n 1)) } ∷ []) ∷ kinds.Name (codes "c") ∷ kinds.Num (pos 2) ∷ kinds.Assign (n 3) (n 4) ∷ kinds.ExprStmt (n 5) ∷ kinds.Script (n 2 ∷ n 6 ∷ []) ∷ []

read_only_runs : at_limits Main 8 2 4 20 read_only ≡ (thrown (codes "TypeError: read only") ∷ rest ∷ []) ∷ (fuel ∷ []) ∷ (cells ∷ []) ∷ (places ∷ []) ∷ (units ∷ []) ∷ []
unfolding opened
read_only_runs = refl

-- Error(1);
abbrev wrong_argument : List nodes.Node
wrong_argument = kinds.Name (codes "Error") ∷ kinds.Num (pos 1) ∷ kinds.Call (n 0) (n 1 ∷ []) ∷ kinds.ExprStmt (n 2) ∷ kinds.Script (n 3 ∷ []) ∷ []

wrong_argument_runs : at_limits Main 6 2 3 25 wrong_argument ≡ (thrown (codes "TypeError: wrong argument") ∷ rest ∷ []) ∷ (fuel ∷ []) ∷ (cells ∷ []) ∷ (places ∷ []) ∷ (units ∷ []) ∷ []
unfolding opened
wrong_argument_runs = refl

-- new (() => 1)();
abbrev not_a_constructor : List nodes.Node
not_a_constructor = kinds.Num (pos 1) ∷ kinds.Arrow (record { parameters = []; rest = None; body = n 0 }) ∷ kinds.New (n 1) [] ∷ kinds.ExprStmt (n 2) ∷ kinds.Script (n 3 ∷ []) ∷ []

not_a_constructor_runs : at_limits Main 4 3 4 28 not_a_constructor ≡ (thrown (codes "TypeError: not a constructor") ∷ rest ∷ []) ∷ (fuel ∷ []) ∷ (cells ∷ []) ∷ (places ∷ []) ∷ (units ∷ []) ∷ []
unfolding opened
not_a_constructor_runs = refl

-- for (const x of 5) {}
abbrev not_iterable : List nodes.Node
not_iterable = kinds.BindName (codes "x") ∷ kinds.Num (pos 5) ∷ kinds.Block [] ∷ kinds.ForOf true (n 0) (n 1) (n 2) ∷ kinds.Script (n 3 ∷ []) ∷ []

not_iterable_runs : at_limits Main 3 2 3 23 not_iterable ≡ (thrown (codes "TypeError: not iterable") ∷ rest ∷ []) ∷ (fuel ∷ []) ∷ (cells ∷ []) ∷ (places ∷ []) ∷ (units ∷ []) ∷ []
unfolding opened
not_iterable_runs = refl

-- 1 < "a";
abbrev wrong_operand : List nodes.Node
wrong_operand = kinds.Num (pos 1) ∷ kinds.Str (codes "a") ∷ kinds.Binary operators.Less (n 0) (n 1) ∷ kinds.ExprStmt (n 2) ∷ kinds.Script (n 3 ∷ []) ∷ []

wrong_operand_runs : at_limits Main 5 2 3 24 wrong_operand ≡ (thrown (codes "TypeError: wrong operand") ∷ rest ∷ []) ∷ (fuel ∷ []) ∷ (cells ∷ []) ∷ (places ∷ []) ∷ (units ∷ []) ∷ []
unfolding opened
wrong_operand_runs = refl

-- 9007199254740991 + 1;
abbrev not_a_whole_number : List nodes.Node
not_a_whole_number = kinds.Num (pos 9007199254740991) ∷ kinds.Num (pos 1) ∷ kinds.Binary operators.Add (n 0) (n 1) ∷ kinds.ExprStmt (n 2) ∷ kinds.Script (n 3 ∷ []) ∷ []

not_a_whole_number_runs : at_limits Main 5 2 3 30 not_a_whole_number ≡ (thrown (codes "RangeError: not a whole number") ∷ rest ∷ []) ∷ (fuel ∷ []) ∷ (cells ∷ []) ∷ (places ∷ []) ∷ (units ∷ []) ∷ []
unfolding opened
not_a_whole_number_runs = refl

-- const f = () => f(); f();
abbrev too_many_calls : List nodes.Node
too_many_calls = kinds.BindName (codes "f") ∷ kinds.Name (codes "f") ∷ kinds.Call (n 1) [] ∷ kinds.Arrow (record { parameters = []; rest = None; body = n 2 }) ∷ kinds.Const (record { bind = n 0; value = (Some (n 3)) } ∷ []) ∷ kinds.Name (codes "f") ∷ kinds.Call (n 5) [] ∷ kinds.ExprStmt (n 6) ∷ kinds.Script (n 4 ∷ n 7 ∷ []) ∷ []

too_many_calls_runs : at_limits Main 17 8 10 26 too_many_calls ≡ (thrown (codes "RangeError: too many calls") ∷ rest ∷ []) ∷ (fuel ∷ []) ∷ (cells ∷ []) ∷ (places ∷ []) ∷ (units ∷ []) ∷ []
unfolding opened
too_many_calls_runs = refl

-- const a = []; a[1] = 0;
abbrev no_holes : List nodes.Node
no_holes = kinds.BindName (codes "a") ∷ kinds.ArrayLit [] ∷ kinds.Const (record { bind = n 0; value = (Some (n 1)) } ∷ []) ∷ kinds.Name (codes "a") ∷ kinds.Num (pos 1) ∷ kinds.Index (n 3) (n 4) ∷ kinds.Num (pos 0) ∷ kinds.Assign (n 5) (n 6) ∷ kinds.ExprStmt (n 7) ∷ kinds.Script (n 2 ∷ n 8 ∷ []) ∷ []

no_holes_runs : at_limits Main 10 3 5 20 no_holes ≡ (thrown (codes "RangeError: no holes") ∷ rest ∷ []) ∷ (fuel ∷ []) ∷ (cells ∷ []) ∷ (places ∷ []) ∷ (units ∷ []) ∷ []
unfolding opened
no_holes_runs = refl

-- missing;
abbrev not_defined : List nodes.Node
not_defined = kinds.Name (codes "missing") ∷ kinds.ExprStmt (n 0) ∷ kinds.Script (n 1 ∷ []) ∷ []

not_defined_runs : at_limits Main 3 2 3 27 not_defined ≡ (thrown (codes "ReferenceError: not defined") ∷ rest ∷ []) ∷ (fuel ∷ []) ∷ (cells ∷ []) ∷ (places ∷ []) ∷ (units ∷ []) ∷ []
unfolding opened
not_defined_runs = refl

-- x; let x = 1;
abbrev not_ready : List nodes.Node
not_ready = kinds.Name (codes "x") ∷ kinds.ExprStmt (n 0) ∷ kinds.BindName (codes "x") ∷ kinds.Num (pos 1) ∷ kinds.Let (record { bind = n 2; value = (Some (n 3)) } ∷ []) ∷ kinds.Script (n 1 ∷ n 4 ∷ []) ∷ []

not_ready_runs : at_limits Main 3 2 4 25 not_ready ≡ (thrown (codes "ReferenceError: not ready") ∷ rest ∷ []) ∷ (fuel ∷ []) ∷ (cells ∷ []) ∷ (places ∷ []) ∷ (units ∷ []) ∷ []
unfolding opened
not_ready_runs = refl

-- const o = {}; const t = (f) => { try { f(); } catch (e) { console.log(e.name, e.message); } }; t(() => ({}).x.y); t(() => { "a".b = 1; }); t(() => [].length = 1); t(() => [0].k = 1); t(() => `${o}`); t(() => ({})[{}]); t(() => 1 in {}.x); t(() => 1 instanceof 2); t(() => { y = 1; }); t(() => { z = 1; const z = 2; }); t(() => { const [a] = "s"; }); t(() => { const {a} = null; }); t(() => delete [1][0]); t(() => new console.log()); t(() => 5 % 0); t(() => -"a"); t(() => new 1); t(() => [...{}]); t(() => undefined.x = 1);
abbrev faults_caught : List nodes.Node
faults_caught = kinds.BindName (codes "o") ∷ kinds.ObjectLit [] ∷ kinds.Const (record { bind = n 0; value = (Some (n 1)) } ∷ []) ∷ kinds.BindName (codes "t") ∷ kinds.BindName (codes "f") ∷ kinds.Name (codes "f") ∷ kinds.Call (n 5) [] ∷ kinds.ExprStmt (n 6) ∷ kinds.Block (n 7 ∷ []) ∷ kinds.BindName (codes "e") ∷ kinds.Name (codes "console") ∷ kinds.Dot (n 10) (codes "log") ∷ kinds.Name (codes "e") ∷ kinds.Dot (n 12) (codes "name") ∷ kinds.Name (codes "e") ∷ kinds.Dot (n 14) (codes "message") ∷ kinds.Call (n 11) (n 13 ∷ n 15 ∷ []) ∷ kinds.ExprStmt (n 16) ∷ kinds.Block (n 17 ∷ []) ∷ kinds.Try (n 8) (Some (n 9)) (Some (n 18)) None ∷ kinds.Block (n 19 ∷ []) ∷ kinds.Arrow (record { parameters = (record { bind = n 4; default = None } ∷ []); rest = None; body = n 20 }) ∷ kinds.Const (record { bind = n 3; value = (Some (n 21)) } ∷ []) ∷ kinds.Name (codes "t") ∷ kinds.ObjectLit [] ∷ kinds.Dot (n 24) (codes "x") ∷ kinds.Dot (n 25) (codes "y") ∷ kinds.Arrow (record { parameters = []; rest = None; body = n 26 }) ∷ kinds.Call (n 23) (n 27 ∷ []) ∷ kinds.ExprStmt (n 28) ∷ kinds.Name (codes "t") ∷ kinds.Str (codes "a") ∷ kinds.Dot (n 31) (codes "b") ∷ kinds.Num (pos 1) ∷ kinds.Assign (n 32) (n 33) ∷ kinds.ExprStmt (n 34) ∷ kinds.Block (n 35 ∷ []) ∷ kinds.Arrow (record { parameters = []; rest = None; body = n 36 }) ∷ kinds.Call (n 30) (n 37 ∷ []) ∷ kinds.ExprStmt (n 38) ∷ kinds.Name (codes "t") ∷ kinds.ArrayLit [] ∷ kinds.Dot (n 41) (codes "length") ∷ kinds.Num (pos 1) ∷ kinds.Assign (n 42) (n 43) ∷ kinds.Arrow (record { parameters = []; rest = None; body = n 44 }) ∷ kinds.Call (n 40) (n 45 ∷ []) ∷ kinds.ExprStmt (n 46) ∷ kinds.Name (codes "t") ∷ kinds.Num (pos 0) ∷ kinds.ArrayLit (n 49 ∷ []) ∷ kinds.Dot (n 50) (codes "k") ∷ kinds.Num (pos 1) ∷ kinds.Assign (n 51) (n 52) ∷ kinds.Arrow (record { parameters = []; rest = None; body = n 53 }) ∷ kinds.Call (n 48) (n 54 ∷ []) ∷ kinds.ExprStmt (n 55) ∷ kinds.Name (codes "t") ∷ kinds.Name (codes "o") ∷ kinds.Template ([] ∷ [] ∷ []) (n 58 ∷ []) ∷ kinds.Arrow (record { parameters = []; rest = None; body = n 59 }) ∷ kinds.Call (n 57) (n 60 ∷ []) ∷ kinds.ExprStmt (n 61) ∷ kinds.Name (codes "t") ∷ kinds.ObjectLit [] ∷ kinds.ObjectLit [] ∷ kinds.Index (n 64) (n 65) ∷ kinds.Arrow (record { parameters = []; rest = None; body = n 66 }) ∷ kinds.Call (n 63) (n 67 ∷ []) ∷ kinds.ExprStmt (n 68) ∷ kinds.Name (codes "t") ∷ kinds.Num (pos 1) ∷ kinds.ObjectLit [] ∷ kinds.Dot (n 72) (codes "x") ∷ kinds.Binary operators.In (n 71) (n 73) ∷ kinds.Arrow (record { parameters = []; rest = None; body = n 74 }) ∷ kinds.Call (n 70) (n 75 ∷ []) ∷ kinds.ExprStmt (n 76) ∷ kinds.Name (codes "t") ∷ kinds.Num (pos 1) ∷ kinds.Num (pos 2) ∷ kinds.Binary operators.InstanceOf (n 79) (n 80) ∷ kinds.Arrow (record { parameters = []; rest = None; body = n 81 }) ∷ kinds.Call (n 78) (n 82 ∷ []) ∷ kinds.ExprStmt (n 83) ∷ kinds.Name (codes "t") ∷ kinds.Name (codes "y") ∷ kinds.Num (pos 1) ∷ kinds.Assign (n 86) (n 87) ∷ kinds.ExprStmt (n 88) ∷ kinds.Block (n 89 ∷ []) ∷ kinds.Arrow (record { parameters = []; rest = None; body = n 90 }) ∷ kinds.Call (n 85) (n 91 ∷ []) ∷ kinds.ExprStmt (n 92) ∷ kinds.Name (codes "t") ∷ kinds.Name (codes "z") ∷ kinds.Num (pos 1) ∷ kinds.Assign (n 95) (n 96) ∷ kinds.ExprStmt (n 97) ∷ kinds.BindName (codes "z") ∷ kinds.Num (pos 2) ∷ kinds.Const (record { bind = n 99; value = (Some (n 100)) } ∷ []) ∷ kinds.Block (n 98 ∷ n 101 ∷ []) ∷ kinds.Arrow (record { parameters = []; rest = None; body = n 102 }) ∷ kinds.Call (n 94) (n 103 ∷ []) ∷ kinds.ExprStmt (n 104) ∷ kinds.Name (codes "t") ∷ kinds.BindName (codes "a") ∷ kinds.BindArray (record { bind = n 107; default = None } ∷ []) ∷ kinds.Str (codes "s") ∷ kinds.Const (record { bind = n 108; value = (Some (n 109)) } ∷ []) ∷ kinds.Block (n 110 ∷ []) ∷ kinds.Arrow (record { parameters = []; rest = None; body = n 111 }) ∷ kinds.Call (n 106) (n 112 ∷ []) ∷ kinds.ExprStmt (n 113) ∷ kinds.Name (codes "t") ∷ kinds.BindName (codes "a") ∷ kinds.BindObject (record { key = (codes "a"); bind = n 116; default = None } ∷ []) ∷ kinds.Null ∷ kinds.Const (record { bind = n 117; value = (Some (n 118)) } ∷ []) ∷ kinds.Block (n 119 ∷ []) ∷ kinds.Arrow (record { parameters = []; rest = None; body = n 120 }) ∷ kinds.Call (n 115) (n 121 ∷ []) ∷ kinds.ExprStmt (n 122) ∷ kinds.Name (codes "t") ∷ kinds.Num (pos 1) ∷ kinds.ArrayLit (n 125 ∷ []) ∷ kinds.Num (pos 0) ∷ kinds.Index (n 126) (n 127) ∷ kinds.Delete (n 128) ∷ kinds.Arrow (record { parameters = []; rest = None; body = n 129 }) ∷ kinds.Call (n 124) (n 130 ∷ []) ∷ kinds.ExprStmt (n 131) ∷ kinds.Name (codes "t") ∷ kinds.Name (codes "console") ∷ kinds.Dot (n 134) (codes "log") ∷ kinds.New (n 135) [] ∷ kinds.Arrow (record { parameters = []; rest = None; body = n 136 }) ∷ kinds.Call (n 133) (n 137 ∷ []) ∷ kinds.ExprStmt (n 138) ∷ kinds.Name (codes "t") ∷ kinds.Num (pos 5) ∷ kinds.Num (pos 0) ∷ kinds.Binary operators.Remainder (n 141) (n 142) ∷ kinds.Arrow (record { parameters = []; rest = None; body = n 143 }) ∷ kinds.Call (n 140) (n 144 ∷ []) ∷ kinds.ExprStmt (n 145) ∷ kinds.Name (codes "t") ∷ kinds.Str (codes "a") ∷ kinds.Unary unaries.Minus (n 148) ∷ kinds.Arrow (record { parameters = []; rest = None; body = n 149 }) ∷ kinds.Call (n 147) (n 150 ∷ []) ∷ kinds.ExprStmt (n 151) ∷ kinds.Name (codes "t") ∷ kinds.Num (pos 1) ∷ kinds.New (n 154) [] ∷ kinds.Arrow (record { parameters = []; rest = None; body = n 155 }) ∷ kinds.Call (n 153) (n 156 ∷ []) ∷ kinds.ExprStmt (n 157) ∷ kinds.Name (codes "t") ∷ kinds.ObjectLit [] ∷ kinds.Spread (n 160) ∷ kinds.ArrayLit (n 161 ∷ []) ∷ kinds.Arrow (record { parameters = []; rest = None; body = n 162 }) ∷ kinds.Call (n 159) (n 163 ∷ []) ∷ kinds.ExprStmt (n 164) ∷ kinds.Name (codes "t") ∷ kinds.Name (codes "undefined") ∷ kinds.Dot (n 167) (codes "x") ∷ kinds.Num (pos 1) ∷ kinds.Assign (n 168) (n 169) ∷ kinds.Arrow (record { parameters = []; rest = None; body = n 170 }) ∷ kinds.Call (n 166) (n 171 ∷ []) ∷ kinds.ExprStmt (n 172) ∷ kinds.Script (n 2 ∷ n 22 ∷ n 29 ∷ n 39 ∷ n 47 ∷ n 56 ∷ n 62 ∷ n 69 ∷ n 77 ∷ n 84 ∷ n 93 ∷ n 105 ∷ n 114 ∷ n 123 ∷ n 132 ∷ n 139 ∷ n 146 ∷ n 152 ∷ n 158 ∷ n 165 ∷ n 173 ∷ []) ∷ []

faults_caught_runs : at_limits Main 495 110 174 437 faults_caught ≡ (logged (codes "TypeError not an object") ∷ logged (codes "TypeError read only") ∷ logged (codes "RangeError no holes") ∷ logged (codes "TypeError read only") ∷ logged (codes "TypeError wrong operand") ∷ logged (codes "TypeError wrong operand") ∷ logged (codes "TypeError wrong operand") ∷ logged (codes "TypeError wrong operand") ∷ logged (codes "ReferenceError not defined") ∷ logged (codes "ReferenceError not ready") ∷ logged (codes "TypeError not iterable") ∷ logged (codes "TypeError not an object") ∷ logged (codes "TypeError read only") ∷ logged (codes "TypeError not a constructor") ∷ logged (codes "RangeError not a whole number") ∷ logged (codes "TypeError wrong operand") ∷ logged (codes "TypeError not a constructor") ∷ logged (codes "TypeError not iterable") ∷ logged (codes "TypeError not an object") ∷ rest ∷ []) ∷ (logged (codes "TypeError not an object") ∷ logged (codes "TypeError read only") ∷ logged (codes "RangeError no holes") ∷ logged (codes "TypeError read only") ∷ logged (codes "TypeError wrong operand") ∷ logged (codes "TypeError wrong operand") ∷ logged (codes "TypeError wrong operand") ∷ logged (codes "TypeError wrong operand") ∷ logged (codes "ReferenceError not defined") ∷ logged (codes "ReferenceError not ready") ∷ logged (codes "TypeError not iterable") ∷ logged (codes "TypeError not an object") ∷ logged (codes "TypeError read only") ∷ logged (codes "TypeError not a constructor") ∷ logged (codes "RangeError not a whole number") ∷ logged (codes "TypeError wrong operand") ∷ logged (codes "TypeError not a constructor") ∷ logged (codes "TypeError not iterable") ∷ fuel ∷ []) ∷ (logged (codes "TypeError not an object") ∷ logged (codes "TypeError read only") ∷ logged (codes "RangeError no holes") ∷ logged (codes "TypeError read only") ∷ logged (codes "TypeError wrong operand") ∷ logged (codes "TypeError wrong operand") ∷ logged (codes "TypeError wrong operand") ∷ logged (codes "TypeError wrong operand") ∷ logged (codes "ReferenceError not defined") ∷ logged (codes "ReferenceError not ready") ∷ logged (codes "TypeError not iterable") ∷ logged (codes "TypeError not an object") ∷ logged (codes "TypeError read only") ∷ logged (codes "TypeError not a constructor") ∷ logged (codes "RangeError not a whole number") ∷ logged (codes "TypeError wrong operand") ∷ logged (codes "TypeError not a constructor") ∷ logged (codes "TypeError not iterable") ∷ cells ∷ []) ∷ (logged (codes "TypeError not an object") ∷ logged (codes "TypeError read only") ∷ logged (codes "RangeError no holes") ∷ logged (codes "TypeError read only") ∷ logged (codes "TypeError wrong operand") ∷ logged (codes "TypeError wrong operand") ∷ logged (codes "TypeError wrong operand") ∷ logged (codes "TypeError wrong operand") ∷ logged (codes "ReferenceError not defined") ∷ logged (codes "ReferenceError not ready") ∷ logged (codes "TypeError not iterable") ∷ logged (codes "TypeError not an object") ∷ logged (codes "TypeError read only") ∷ logged (codes "TypeError not a constructor") ∷ logged (codes "RangeError not a whole number") ∷ logged (codes "TypeError wrong operand") ∷ logged (codes "TypeError not a constructor") ∷ logged (codes "TypeError not iterable") ∷ places ∷ []) ∷ (logged (codes "TypeError not an object") ∷ logged (codes "TypeError read only") ∷ logged (codes "RangeError no holes") ∷ logged (codes "TypeError read only") ∷ logged (codes "TypeError wrong operand") ∷ logged (codes "TypeError wrong operand") ∷ logged (codes "TypeError wrong operand") ∷ logged (codes "TypeError wrong operand") ∷ logged (codes "ReferenceError not defined") ∷ logged (codes "ReferenceError not ready") ∷ logged (codes "TypeError not iterable") ∷ logged (codes "TypeError not an object") ∷ logged (codes "TypeError read only") ∷ logged (codes "TypeError not a constructor") ∷ logged (codes "RangeError not a whole number") ∷ logged (codes "TypeError wrong operand") ∷ logged (codes "TypeError not a constructor") ∷ logged (codes "TypeError not iterable") ∷ units ∷ []) ∷ []
unfolding opened
faults_caught_runs = refl

-- const o = {get a() { return 1; }}; try { o.a = 2; } catch (e) { console.log(e); } const p = {set b(v) {}}; console.log(p.b, p);
abbrev setterless : List nodes.Node
setterless = kinds.BindName (codes "o") ∷ kinds.Num (pos 1) ∷ kinds.Return (Some (n 1)) ∷ kinds.Block (n 2 ∷ []) ∷ kinds.Getter (Written (codes "a")) (record { parameters = []; rest = None; body = n 3 }) ∷ kinds.ObjectLit (n 4 ∷ []) ∷ kinds.Const (record { bind = n 0; value = (Some (n 5)) } ∷ []) ∷ kinds.Name (codes "o") ∷ kinds.Dot (n 7) (codes "a") ∷ kinds.Num (pos 2) ∷ kinds.Assign (n 8) (n 9) ∷ kinds.ExprStmt (n 10) ∷ kinds.Block (n 11 ∷ []) ∷ kinds.BindName (codes "e") ∷ kinds.Name (codes "console") ∷ kinds.Dot (n 14) (codes "log") ∷ kinds.Name (codes "e") ∷ kinds.Call (n 15) (n 16 ∷ []) ∷ kinds.ExprStmt (n 17) ∷ kinds.Block (n 18 ∷ []) ∷ kinds.Try (n 12) (Some (n 13)) (Some (n 19)) None ∷ kinds.BindName (codes "p") ∷ kinds.BindName (codes "v") ∷ kinds.Block [] ∷ kinds.Setter (Written (codes "b")) (record { parameters = (record { bind = n 22; default = None } ∷ []); rest = None; body = n 23 }) ∷ kinds.ObjectLit (n 24 ∷ []) ∷ kinds.Const (record { bind = n 21; value = (Some (n 25)) } ∷ []) ∷ kinds.Name (codes "console") ∷ kinds.Dot (n 27) (codes "log") ∷ kinds.Name (codes "p") ∷ kinds.Dot (n 29) (codes "b") ∷ kinds.Name (codes "p") ∷ kinds.Call (n 28) (n 30 ∷ n 31 ∷ []) ∷ kinds.ExprStmt (n 32) ∷ kinds.Script (n 6 ∷ n 20 ∷ n 26 ∷ n 33 ∷ []) ∷ []

setterless_runs : at_limits Main 32 7 13 45 setterless ≡ (logged (codes "TypeError: read only") ∷ logged (codes "undefined {b: [Accessor]}") ∷ rest ∷ []) ∷ (logged (codes "TypeError: read only") ∷ fuel ∷ []) ∷ (logged (codes "TypeError: read only") ∷ cells ∷ []) ∷ (logged (codes "TypeError: read only") ∷ places ∷ []) ∷ (logged (codes "TypeError: read only") ∷ units ∷ []) ∷ []
unfolding opened
setterless_runs = refl
