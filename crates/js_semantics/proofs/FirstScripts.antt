-- Scripts whose transcripts are settled: the console, getters, prototypes, turns of a loop, and what is caught.
-- Each is run with the least steps, cells, places and units that it needs, and with one less of each in turn.
use Rattle.std.specs.Prelude.{◌≡◌, List, [], ◌∷◌, pos, refl, codes, false, Some, None}
use Rattle.world_kind.specs.declared.WorldKind.TheVariants.{Main}
use Rattle.js_tree.specs.declared.node.Node as nodes
use Rattle.js_tree.specs.declared.node.Node.TheVariants as kinds
use Rattle.js_tree.specs.declared.node.PropertyKey.TheVariants.{Written}
use Rattle.js_tree.specs.declared.node.BinaryOperator.TheVariants as operators
use Rattle.js_tree.specs.declared.node.UpdateOperator.TheVariants as updates
use Rattle.js_semantics.proofs.Opened.{opened}
use Rattle.js_semantics.proofs.Worlds.{n, at_limits, logged, thrown, rest, fuel, cells, places, units}

-- console.log("hi", 7);
abbrev greeting : List nodes.Node
greeting = kinds.Name (codes "console") ∷ kinds.Dot (n 0) (codes "log") ∷ kinds.Str (codes "hi") ∷ kinds.Num (pos 7) ∷ kinds.Call (n 1) (n 2 ∷ n 3 ∷ []) ∷ kinds.ExprStmt (n 4) ∷ kinds.Script (n 5 ∷ []) ∷ []

greeting_runs : at_limits Main 8 1 1 4 greeting ≡ (logged (codes "hi 7") ∷ rest ∷ []) ∷ (fuel ∷ []) ∷ (cells ∷ []) ∷ (places ∷ []) ∷ (units ∷ []) ∷ []
unfolding opened
greeting_runs = refl

--
abbrev nothing : List nodes.Node
nothing = kinds.Script [] ∷ []

nothing_runs : at_limits Main 1 1 1 0 nothing ≡ (rest ∷ []) ∷ (fuel ∷ []) ∷ (cells ∷ []) ∷ (places ∷ []) ∷ (rest ∷ []) ∷ []
unfolding opened
nothing_runs = refl

-- console.log(1 + 2);
abbrev sum : List nodes.Node
sum = kinds.Name (codes "console") ∷ kinds.Dot (n 0) (codes "log") ∷ kinds.Num (pos 1) ∷ kinds.Num (pos 2) ∷ kinds.Binary operators.Add (n 2) (n 3) ∷ kinds.Call (n 1) (n 4 ∷ []) ∷ kinds.ExprStmt (n 5) ∷ kinds.Script (n 6 ∷ []) ∷ []

sum_runs : at_limits Main 9 1 1 1 sum ≡ (logged (codes "3") ∷ rest ∷ []) ∷ (fuel ∷ []) ∷ (cells ∷ []) ∷ (places ∷ []) ∷ (units ∷ []) ∷ []
unfolding opened
sum_runs = refl

-- const o = {n: 1, get m() { return this.n + 1; }}; o.n = 5; console.log(o.m, typeof o, [1, 2].length);
abbrev getter : List nodes.Node
getter = kinds.BindName (codes "o") ∷ kinds.Num (pos 1) ∷ kinds.Property (Written (codes "n")) (n 1) ∷ kinds.This ∷ kinds.Dot (n 3) (codes "n") ∷ kinds.Num (pos 1) ∷ kinds.Binary operators.Add (n 4) (n 5) ∷ kinds.Return (Some (n 6)) ∷ kinds.Block (n 7 ∷ []) ∷ kinds.Getter (Written (codes "m")) (record { parameters = []; rest = None; body = n 8 }) ∷ kinds.ObjectLit (n 2 ∷ n 9 ∷ []) ∷ kinds.Const (record { bind = n 0; value = (Some (n 10)) } ∷ []) ∷ kinds.Name (codes "o") ∷ kinds.Dot (n 12) (codes "n") ∷ kinds.Num (pos 5) ∷ kinds.Assign (n 13) (n 14) ∷ kinds.ExprStmt (n 15) ∷ kinds.Name (codes "console") ∷ kinds.Dot (n 17) (codes "log") ∷ kinds.Name (codes "o") ∷ kinds.Dot (n 19) (codes "m") ∷ kinds.Name (codes "o") ∷ kinds.Typeof (n 21) ∷ kinds.Num (pos 1) ∷ kinds.Num (pos 2) ∷ kinds.ArrayLit (n 23 ∷ n 24 ∷ []) ∷ kinds.Dot (n 25) (codes "length") ∷ kinds.Call (n 18) (n 20 ∷ n 22 ∷ n 26 ∷ []) ∷ kinds.ExprStmt (n 27) ∷ kinds.Script (n 11 ∷ n 16 ∷ n 28 ∷ []) ∷ []

getter_runs : at_limits Main 31 5 10 10 getter ≡ (logged (codes "6 object 2") ∷ rest ∷ []) ∷ (fuel ∷ []) ∷ (cells ∷ []) ∷ (places ∷ []) ∷ (units ∷ []) ∷ []
unfolding opened
getter_runs = refl

-- function P(x) { this.x = x; } P.prototype.get = function () { return this.x; }; console.log(new P(3).get());
abbrev constructed : List nodes.Node
constructed = kinds.BindName (codes "x") ∷ kinds.This ∷ kinds.Dot (n 1) (codes "x") ∷ kinds.Name (codes "x") ∷ kinds.Assign (n 2) (n 3) ∷ kinds.ExprStmt (n 4) ∷ kinds.Block (n 5 ∷ []) ∷ kinds.FunDecl (codes "P") (record { parameters = (record { bind = n 0; default = None } ∷ []); rest = None; body = n 6 }) ∷ kinds.Name (codes "P") ∷ kinds.Dot (n 8) (codes "prototype") ∷ kinds.Dot (n 9) (codes "get") ∷ kinds.This ∷ kinds.Dot (n 11) (codes "x") ∷ kinds.Return (Some (n 12)) ∷ kinds.Block (n 13 ∷ []) ∷ kinds.Fun None (record { parameters = []; rest = None; body = n 14 }) ∷ kinds.Assign (n 10) (n 15) ∷ kinds.ExprStmt (n 16) ∷ kinds.Name (codes "console") ∷ kinds.Dot (n 18) (codes "log") ∷ kinds.Name (codes "P") ∷ kinds.Num (pos 3) ∷ kinds.New (n 20) (n 21 ∷ []) ∷ kinds.Dot (n 22) (codes "get") ∷ kinds.Call (n 23) [] ∷ kinds.Call (n 19) (n 24 ∷ []) ∷ kinds.ExprStmt (n 25) ∷ kinds.Script (n 7 ∷ n 17 ∷ n 26 ∷ []) ∷ []

constructed_runs : at_limits Main 29 8 14 1 constructed ≡ (logged (codes "3") ∷ rest ∷ []) ∷ (fuel ∷ []) ∷ (cells ∷ []) ∷ (places ∷ []) ∷ (units ∷ []) ∷ []
unfolding opened
constructed_runs = refl

-- console.log(1 / 2);
abbrev half : List nodes.Node
half = kinds.Name (codes "console") ∷ kinds.Dot (n 0) (codes "log") ∷ kinds.Num (pos 1) ∷ kinds.Num (pos 2) ∷ kinds.Binary operators.Divide (n 2) (n 3) ∷ kinds.Call (n 1) (n 4 ∷ []) ∷ kinds.ExprStmt (n 5) ∷ kinds.Script (n 6 ∷ []) ∷ []

half_runs : at_limits Main 8 2 3 30 half ≡ (thrown (codes "RangeError: not a whole number") ∷ rest ∷ []) ∷ (fuel ∷ []) ∷ (cells ∷ []) ∷ (places ∷ []) ∷ (units ∷ []) ∷ []
unfolding opened
half_runs = refl

-- const fs = [0, 0, 0]; for (let i = 0; i < 3; i++) { fs[i] = () => i; } console.log(fs[0](), fs[2]());
abbrev turns : List nodes.Node
turns = kinds.BindName (codes "fs") ∷ kinds.Num (pos 0) ∷ kinds.Num (pos 0) ∷ kinds.Num (pos 0) ∷ kinds.ArrayLit (n 1 ∷ n 2 ∷ n 3 ∷ []) ∷ kinds.Const (record { bind = n 0; value = (Some (n 4)) } ∷ []) ∷ kinds.BindName (codes "i") ∷ kinds.Num (pos 0) ∷ kinds.Let (record { bind = n 6; value = (Some (n 7)) } ∷ []) ∷ kinds.Name (codes "i") ∷ kinds.Num (pos 3) ∷ kinds.Binary operators.Less (n 9) (n 10) ∷ kinds.Name (codes "i") ∷ kinds.Update updates.Increment (n 12) false ∷ kinds.Name (codes "fs") ∷ kinds.Name (codes "i") ∷ kinds.Index (n 14) (n 15) ∷ kinds.Name (codes "i") ∷ kinds.Arrow (record { parameters = []; rest = None; body = n 17 }) ∷ kinds.Assign (n 16) (n 18) ∷ kinds.ExprStmt (n 19) ∷ kinds.Block (n 20 ∷ []) ∷ kinds.For (Some (n 8)) (Some (n 11)) (Some (n 13)) (n 21) ∷ kinds.Name (codes "console") ∷ kinds.Dot (n 23) (codes "log") ∷ kinds.Name (codes "fs") ∷ kinds.Num (pos 0) ∷ kinds.Index (n 25) (n 26) ∷ kinds.Call (n 27) [] ∷ kinds.Name (codes "fs") ∷ kinds.Num (pos 2) ∷ kinds.Index (n 29) (n 30) ∷ kinds.Call (n 31) [] ∷ kinds.Call (n 24) (n 28 ∷ n 32 ∷ []) ∷ kinds.ExprStmt (n 33) ∷ kinds.Script (n 5 ∷ n 22 ∷ n 34 ∷ []) ∷ []

turns_runs : at_limits Main 65 12 21 3 turns ≡ (logged (codes "0 2") ∷ rest ∷ []) ∷ (fuel ∷ []) ∷ (cells ∷ []) ∷ (places ∷ []) ∷ (units ∷ []) ∷ []
unfolding opened
turns_runs = refl

-- const f = () => { try { throw new TypeError("x"); } finally { console.log("f"); } }; try { f(); } catch (e) { console.log(e.name, e.message); }
abbrev at_last : List nodes.Node
at_last = kinds.BindName (codes "f") ∷ kinds.Name (codes "TypeError") ∷ kinds.Str (codes "x") ∷ kinds.New (n 1) (n 2 ∷ []) ∷ kinds.Throw (n 3) ∷ kinds.Block (n 4 ∷ []) ∷ kinds.Name (codes "console") ∷ kinds.Dot (n 6) (codes "log") ∷ kinds.Str (codes "f") ∷ kinds.Call (n 7) (n 8 ∷ []) ∷ kinds.ExprStmt (n 9) ∷ kinds.Block (n 10 ∷ []) ∷ kinds.Try (n 5) None None (Some (n 11)) ∷ kinds.Block (n 12 ∷ []) ∷ kinds.Arrow (record { parameters = []; rest = None; body = n 13 }) ∷ kinds.Const (record { bind = n 0; value = (Some (n 14)) } ∷ []) ∷ kinds.Name (codes "f") ∷ kinds.Call (n 16) [] ∷ kinds.ExprStmt (n 17) ∷ kinds.Block (n 18 ∷ []) ∷ kinds.BindName (codes "e") ∷ kinds.Name (codes "console") ∷ kinds.Dot (n 21) (codes "log") ∷ kinds.Name (codes "e") ∷ kinds.Dot (n 23) (codes "name") ∷ kinds.Name (codes "e") ∷ kinds.Dot (n 25) (codes "message") ∷ kinds.Call (n 22) (n 24 ∷ n 26 ∷ []) ∷ kinds.ExprStmt (n 27) ∷ kinds.Block (n 28 ∷ []) ∷ kinds.Try (n 19) (Some (n 20)) (Some (n 29)) None ∷ kinds.Script (n 15 ∷ n 30 ∷ []) ∷ []

at_last_runs : at_limits Main 35 5 8 12 at_last ≡ (logged (codes "f") ∷ logged (codes "TypeError x") ∷ rest ∷ []) ∷ (logged (codes "f") ∷ fuel ∷ []) ∷ (logged (codes "f") ∷ cells ∷ []) ∷ (logged (codes "f") ∷ places ∷ []) ∷ (logged (codes "f") ∷ units ∷ []) ∷ []
unfolding opened
at_last_runs = refl
