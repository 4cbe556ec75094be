-- Scripts of statements: blocks, branches, loops, and exceptions.
-- Each is run with the least steps, cells, places and units that it needs, and with one less of each in turn.
use Rattle.std.specs.Prelude.{◌≡◌, List, [], ◌∷◌, pos, refl, codes, true, false, Some, None}
use Rattle.world_kind.specs.declared.WorldKind.TheVariants.{Main}
use Rattle.js_tree.specs.declared.node.Node as nodes
use Rattle.js_tree.specs.declared.node.Node.TheVariants as kinds
use Rattle.js_tree.specs.declared.node.PropertyKey.TheVariants.{Written}
use Rattle.js_tree.specs.declared.node.BinaryOperator.TheVariants as operators
use Rattle.js_tree.specs.declared.node.UpdateOperator.TheVariants as updates
use Rattle.js_semantics.proofs.Opened.{opened}
use Rattle.js_semantics.proofs.Worlds.{n, at_limits, logged, thrown, rest, fuel, cells, places, units}

-- let a = 1; { let a = 2; console.log(a); } console.log(a); ; {}
abbrev blocks : List nodes.Node
blocks = kinds.BindName (codes "a") ∷ kinds.Num (pos 1) ∷ kinds.Let (record { bind = n 0; value = (Some (n 1)) } ∷ []) ∷ kinds.BindName (codes "a") ∷ kinds.Num (pos 2) ∷ kinds.Let (record { bind = n 3; value = (Some (n 4)) } ∷ []) ∷ kinds.Name (codes "console") ∷ kinds.Dot (n 6) (codes "log") ∷ kinds.Name (codes "a") ∷ kinds.Call (n 7) (n 8 ∷ []) ∷ kinds.ExprStmt (n 9) ∷ kinds.Block (n 5 ∷ n 10 ∷ []) ∷ kinds.Name (codes "console") ∷ kinds.Dot (n 12) (codes "log") ∷ kinds.Name (codes "a") ∷ kinds.Call (n 13) (n 14 ∷ []) ∷ kinds.ExprStmt (n 15) ∷ kinds.Empty ∷ kinds.Block [] ∷ kinds.Script (n 2 ∷ n 11 ∷ n 16 ∷ n 17 ∷ n 18 ∷ []) ∷ []

blocks_runs : at_limits Main 22 2 4 2 blocks ≡ (logged (codes "2") ∷ logged (codes "1") ∷ rest ∷ []) ∷ (logged (codes "2") ∷ logged (codes "1") ∷ fuel ∷ []) ∷ (cells ∷ []) ∷ (places ∷ []) ∷ (logged (codes "2") ∷ units ∷ []) ∷ []
unfolding opened
blocks_runs = refl

-- if (1) console.log("y"); else console.log("n"); if (0) { console.log("y"); } if ("") console.log("y"); else console.log("e");
abbrev branches : List nodes.Node
branches = kinds.Num (pos 1) ∷ kinds.Name (codes "console") ∷ kinds.Dot (n 1) (codes "log") ∷ kinds.Str (codes "y") ∷ kinds.Call (n 2) (n 3 ∷ []) ∷ kinds.ExprStmt (n 4) ∷ kinds.Name (codes "console") ∷ kinds.Dot (n 6) (codes "log") ∷ kinds.Str (codes "n") ∷ kinds.Call (n 7) (n 8 ∷ []) ∷ kinds.ExprStmt (n 9) ∷ kinds.If (n 0) (n 5) (Some (n 10)) ∷ kinds.Num (pos 0) ∷ kinds.Name (codes "console") ∷ kinds.Dot (n 13) (codes "log") ∷ kinds.Str (codes "y") ∷ kinds.Call (n 14) (n 15 ∷ []) ∷ kinds.ExprStmt (n 16) ∷ kinds.Block (n 17 ∷ []) ∷ kinds.If (n 12) (n 18) None ∷ kinds.Str [] ∷ kinds.Name (codes "console") ∷ kinds.Dot (n 21) (codes "log") ∷ kinds.Str (codes "y") ∷ kinds.Call (n 22) (n 23 ∷ []) ∷ kinds.ExprStmt (n 24) ∷ kinds.Name (codes "console") ∷ kinds.Dot (n 26) (codes "log") ∷ kinds.Str (codes "e") ∷ kinds.Call (n 27) (n 28 ∷ []) ∷ kinds.ExprStmt (n 29) ∷ kinds.If (n 20) (n 25) (Some (n 30)) ∷ kinds.Script (n 11 ∷ n 19 ∷ n 31 ∷ []) ∷ []

branches_runs : at_limits Main 19 1 1 2 branches ≡ (logged (codes "y") ∷ logged (codes "e") ∷ rest ∷ []) ∷ (logged (codes "y") ∷ fuel ∷ []) ∷ (cells ∷ []) ∷ (places ∷ []) ∷ (logged (codes "y") ∷ units ∷ []) ∷ []
unfolding opened
branches_runs = refl

-- let i = 0; while (i < 5) { i++; if (i === 2) continue; if (i === 4) break; console.log(i); }
abbrev while_loop : List nodes.Node
while_loop = kinds.BindName (codes "i") ∷ kinds.Num (pos 0) ∷ kinds.Let (record { bind = n 0; value = (Some (n 1)) } ∷ []) ∷ kinds.Name (codes "i") ∷ kinds.Num (pos 5) ∷ kinds.Binary operators.Less (n 3) (n 4) ∷ kinds.Name (codes "i") ∷ kinds.Update updates.Increment (n 6) false ∷ kinds.ExprStmt (n 7) ∷ kinds.Name (codes "i") ∷ kinds.Num (pos 2) ∷ kinds.Binary operators.StrictEqual (n 9) (n 10) ∷ kinds.Continue ∷ kinds.If (n 11) (n 12) None ∷ kinds.Name (codes "i") ∷ kinds.Num (pos 4) ∷ kinds.Binary operators.StrictEqual (n 14) (n 15) ∷ kinds.Break ∷ kinds.If (n 16) (n 17) None ∷ kinds.Name (codes "console") ∷ kinds.Dot (n 19) (codes "log") ∷ kinds.Name (codes "i") ∷ kinds.Call (n 20) (n 21 ∷ []) ∷ kinds.ExprStmt (n 22) ∷ kinds.Block (n 8 ∷ n 13 ∷ n 18 ∷ n 23 ∷ []) ∷ kinds.While (n 5) (n 24) ∷ kinds.Script (n 2 ∷ n 25 ∷ []) ∷ []

while_loop_runs : at_limits Main 75 1 2 2 while_loop ≡ (logged (codes "1") ∷ logged (codes "3") ∷ rest ∷ []) ∷ (logged (codes "1") ∷ logged (codes "3") ∷ fuel ∷ []) ∷ (cells ∷ []) ∷ (places ∷ []) ∷ (logged (codes "1") ∷ units ∷ []) ∷ []
unfolding opened
while_loop_runs = refl

-- let i = 0; do { i++; if (i === 1) continue; console.log(i); } while (i < 3); do { break; } while (true);
abbrev do_loop : List nodes.Node
do_loop = kinds.BindName (codes "i") ∷ kinds.Num (pos 0) ∷ kinds.Let (record { bind = n 0; value = (Some (n 1)) } ∷ []) ∷ kinds.Name (codes "i") ∷ kinds.Update updates.Increment (n 3) false ∷ kinds.ExprStmt (n 4) ∷ kinds.Name (codes "i") ∷ kinds.Num (pos 1) ∷ kinds.Binary operators.StrictEqual (n 6) (n 7) ∷ kinds.Continue ∷ kinds.If (n 8) (n 9) None ∷ kinds.Name (codes "console") ∷ kinds.Dot (n 11) (codes "log") ∷ kinds.Name (codes "i") ∷ kinds.Call (n 12) (n 13 ∷ []) ∷ kinds.ExprStmt (n 14) ∷ kinds.Block (n 5 ∷ n 10 ∷ n 15 ∷ []) ∷ kinds.Name (codes "i") ∷ kinds.Num (pos 3) ∷ kinds.Binary operators.Less (n 17) (n 18) ∷ kinds.DoWhile (n 16) (n 19) ∷ kinds.Break ∷ kinds.Block (n 21 ∷ []) ∷ kinds.Bool true ∷ kinds.DoWhile (n 22) (n 23) ∷ kinds.Script (n 2 ∷ n 20 ∷ n 24 ∷ []) ∷ []

do_loop_runs : at_limits Main 54 1 2 2 do_loop ≡ (logged (codes "2") ∷ logged (codes "3") ∷ rest ∷ []) ∷ (logged (codes "2") ∷ logged (codes "3") ∷ fuel ∷ []) ∷ (cells ∷ []) ∷ (places ∷ []) ∷ (logged (codes "2") ∷ units ∷ []) ∷ []
unfolding opened
do_loop_runs = refl

-- for (let i = 0, j = 2; i < j; i++) console.log(i); let k = 0; for (;;) { if (k > 1) break; k++; } for (k = 5; k < 6; k++) {} for (const c = 1; k < 8; k++) {} console.log(k);
abbrev for_loops : List nodes.Node
for_loops = kinds.BindName (codes "i") ∷ kinds.Num (pos 0) ∷ kinds.BindName (codes "j") ∷ kinds.Num (pos 2) ∷ kinds.Let (record { bind = n 0; value = (Some (n 1)) } ∷ record { bind = n 2; value = (Some (n 3)) } ∷ []) ∷ kinds.Name (codes "i") ∷ kinds.Name (codes "j") ∷ kinds.Binary operators.Less (n 5) (n 6) ∷ kinds.Name (codes "i") ∷ kinds.Update updates.Increment (n 8) false ∷ kinds.Name (codes "console") ∷ kinds.Dot (n 10) (codes "log") ∷ kinds.Name (codes "i") ∷ kinds.Call (n 11) (n 12 ∷ []) ∷ kinds.ExprStmt (n 13) ∷ kinds.For (Some (n 4)) (Some (n 7)) (Some (n 9)) (n 14) ∷ kinds.BindName (codes "k") ∷ kinds.Num (pos 0) ∷ kinds.Let (record { bind = n 16; value = (Some (n 17)) } ∷ []) ∷ kinds.Name (codes "k") ∷ kinds.Num (pos 1) ∷ kinds.Binary operators.Greater (n 19) (n 20) ∷ kinds.Break ∷ kinds.If (n 21) (n 22) None ∷ kinds.Name (codes "k") ∷ kinds.Update updates.Increment (n 24) false ∷ kinds.ExprStmt (n 25) ∷ kinds.Block (n 23 ∷ n 26 ∷ []) ∷ kinds.For None None None (n 27) ∷ kinds.Name (codes "k") ∷ kinds.Num (pos 5) ∷ kinds.Assign (n 29) (n 30) ∷ kinds.Name (codes "k") ∷ kinds.Num (pos 6) ∷ kinds.Binary operators.Less (n 32) (n 33) ∷ kinds.Name (codes "k") ∷ kinds.Update updates.Increment (n 35) false ∷ kinds.Block [] ∷ kinds.For (Some (n 31)) (Some (n 34)) (Some (n 36)) (n 37) ∷ kinds.BindName (codes "c") ∷ kinds.Num (pos 1) ∷ kinds.Const (record { bind = n 39; value = (Some (n 40)) } ∷ []) ∷ kinds.Name (codes "k") ∷ kinds.Num (pos 8) ∷ kinds.Binary operators.Less (n 42) (n 43) ∷ kinds.Name (codes "k") ∷ kinds.Update updates.Increment (n 45) false ∷ kinds.Block [] ∷ kinds.For (Some (n 41)) (Some (n 44)) (Some (n 46)) (n 47) ∷ kinds.Name (codes "console") ∷ kinds.Dot (n 49) (codes "log") ∷ kinds.Name (codes "k") ∷ kinds.Call (n 50) (n 51 ∷ []) ∷ kinds.ExprStmt (n 52) ∷ kinds.Script (n 15 ∷ n 18 ∷ n 28 ∷ n 38 ∷ n 48 ∷ n 53 ∷ []) ∷ []

for_loops_runs : at_limits Main 96 6 16 3 for_loops ≡ (logged (codes "0") ∷ logged (codes "1") ∷ logged (codes "8") ∷ rest ∷ []) ∷ (logged (codes "0") ∷ logged (codes "1") ∷ fuel ∷ []) ∷ (logged (codes "0") ∷ logged (codes "1") ∷ cells ∷ []) ∷ (logged (codes "0") ∷ logged (codes "1") ∷ places ∷ []) ∷ (logged (codes "0") ∷ logged (codes "1") ∷ units ∷ []) ∷ []
unfolding opened
for_loops_runs = refl

-- for (const x of [1, 2, 3]) { if (x === 2) continue; console.log(x); } for (let [a, b] of [[1, 2]]) { a += b; console.log(a); } for (const c of "ab") console.log(c);
abbrev for_of : List nodes.Node
for_of = kinds.BindName (codes "x") ∷ kinds.Num (pos 1) ∷ kinds.Num (pos 2) ∷ kinds.Num (pos 3) ∷ kinds.ArrayLit (n 1 ∷ n 2 ∷ n 3 ∷ []) ∷ kinds.Name (codes "x") ∷ kinds.Num (pos 2) ∷ kinds.Binary operators.StrictEqual (n 5) (n 6) ∷ kinds.Continue ∷ kinds.If (n 7) (n 8) None ∷ kinds.Name (codes "console") ∷ kinds.Dot (n 10) (codes "log") ∷ kinds.Name (codes "x") ∷ kinds.Call (n 11) (n 12 ∷ []) ∷ kinds.ExprStmt (n 13) ∷ kinds.Block (n 9 ∷ n 14 ∷ []) ∷ kinds.ForOf true (n 0) (n 4) (n 15) ∷ kinds.BindName (codes "a") ∷ kinds.BindName (codes "b") ∷ kinds.BindArray (record { bind = n 17; default = None } ∷ record { bind = n 18; default = None } ∷ []) ∷ kinds.Num (pos 1) ∷ kinds.Num (pos 2) ∷ kinds.ArrayLit (n 20 ∷ n 21 ∷ []) ∷ kinds.ArrayLit (n 22 ∷ []) ∷ kinds.Name (codes "a") ∷ kinds.Name (codes "b") ∷ kinds.AssignOp operators.Add (n 24) (n 25) ∷ kinds.ExprStmt (n 26) ∷ kinds.Name (codes "console") ∷ kinds.Dot (n 28) (codes "log") ∷ kinds.Name (codes "a") ∷ kinds.Call (n 29) (n 30 ∷ []) ∷ kinds.ExprStmt (n 31) ∷ kinds.Block (n 27 ∷ n 32 ∷ []) ∷ kinds.ForOf false (n 19) (n 23) (n 33) ∷ kinds.BindName (codes "c") ∷ kinds.Str (codes "ab") ∷ kinds.Name (codes "console") ∷ kinds.Dot (n 37) (codes "log") ∷ kinds.Name (codes "c") ∷ kinds.Call (n 38) (n 39 ∷ []) ∷ kinds.ExprStmt (n 40) ∷ kinds.ForOf true (n 35) (n 36) (n 41) ∷ kinds.Script (n 16 ∷ n 34 ∷ n 42 ∷ []) ∷ []

for_of_runs : at_limits Main 72 11 26 7 for_of ≡ (logged (codes "1") ∷ logged (codes "3") ∷ logged (codes "3") ∷ logged (codes "a") ∷ logged (codes "b") ∷ rest ∷ []) ∷ (logged (codes "1") ∷ logged (codes "3") ∷ logged (codes "3") ∷ logged (codes "a") ∷ fuel ∷ []) ∷ (logged (codes "1") ∷ logged (codes "3") ∷ logged (codes "3") ∷ logged (codes "a") ∷ cells ∷ []) ∷ (logged (codes "1") ∷ logged (codes "3") ∷ logged (codes "3") ∷ logged (codes "a") ∷ places ∷ []) ∷ (logged (codes "1") ∷ logged (codes "3") ∷ logged (codes "3") ∷ logged (codes "a") ∷ units ∷ []) ∷ []
unfolding opened
for_of_runs = refl

-- const a = [1]; for (const x of a) { if (a.length < 3) a[a.length] = x + 1; } console.log(a.length, a);
abbrev live_walk : List nodes.Node
live_walk = kinds.BindName (codes "a") ∷ kinds.Num (pos 1) ∷ kinds.ArrayLit (n 1 ∷ []) ∷ kinds.Const (record { bind = n 0; value = (Some (n 2)) } ∷ []) ∷ kinds.BindName (codes "x") ∷ kinds.Name (codes "a") ∷ kinds.Name (codes "a") ∷ kinds.Dot (n 6) (codes "length") ∷ kinds.Num (pos 3) ∷ kinds.Binary operators.Less (n 7) (n 8) ∷ kinds.Name (codes "a") ∷ kinds.Name (codes "a") ∷ kinds.Dot (n 11) (codes "length") ∷ kinds.Index (n 10) (n 12) ∷ kinds.Name (codes "x") ∷ kinds.Num (pos 1) ∷ kinds.Binary operators.Add (n 14) (n 15) ∷ kinds.Assign (n 13) (n 16) ∷ kinds.ExprStmt (n 17) ∷ kinds.If (n 9) (n 18) None ∷ kinds.Block (n 19 ∷ []) ∷ kinds.ForOf true (n 4) (n 5) (n 20) ∷ kinds.Name (codes "console") ∷ kinds.Dot (n 22) (codes "log") ∷ kinds.Name (codes "a") ∷ kinds.Dot (n 24) (codes "length") ∷ kinds.Name (codes "a") ∷ kinds.Call (n 23) (n 25 ∷ n 26 ∷ []) ∷ kinds.ExprStmt (n 27) ∷ kinds.Script (n 3 ∷ n 21 ∷ n 28 ∷ []) ∷ []

live_walk_runs : at_limits Main 54 5 12 11 live_walk ≡ (logged (codes "3 [1, 2, 3]") ∷ rest ∷ []) ∷ (fuel ∷ []) ∷ (cells ∷ []) ∷ (places ∷ []) ∷ (units ∷ []) ∷ []
unfolding opened
live_walk_runs = refl

-- const fs = []; for (const x of [4, 5]) { fs[fs.length] = () => x; } console.log(fs[0](), fs[1]());
abbrev captured : List nodes.Node
captured = kinds.BindName (codes "fs") ∷ kinds.ArrayLit [] ∷ kinds.Const (record { bind = n 0; value = (Some (n 1)) } ∷ []) ∷ kinds.BindName (codes "x") ∷ kinds.Num (pos 4) ∷ kinds.Num (pos 5) ∷ kinds.ArrayLit (n 4 ∷ n 5 ∷ []) ∷ kinds.Name (codes "fs") ∷ kinds.Name (codes "fs") ∷ kinds.Dot (n 8) (codes "length") ∷ kinds.Index (n 7) (n 9) ∷ kinds.Name (codes "x") ∷ kinds.Arrow (record { parameters = []; rest = None; body = n 11 }) ∷ kinds.Assign (n 10) (n 12) ∷ kinds.ExprStmt (n 13) ∷ kinds.Block (n 14 ∷ []) ∷ kinds.ForOf true (n 3) (n 6) (n 15) ∷ kinds.Name (codes "console") ∷ kinds.Dot (n 17) (codes "log") ∷ kinds.Name (codes "fs") ∷ kinds.Num (pos 0) ∷ kinds.Index (n 19) (n 20) ∷ kinds.Call (n 21) [] ∷ kinds.Name (codes "fs") ∷ kinds.Num (pos 1) ∷ kinds.Index (n 23) (n 24) ∷ kinds.Call (n 25) [] ∷ kinds.Call (n 18) (n 22 ∷ n 26 ∷ []) ∷ kinds.ExprStmt (n 27) ∷ kinds.Script (n 2 ∷ n 16 ∷ n 28 ∷ []) ∷ []

captured_runs : at_limits Main 41 9 16 3 captured ≡ (logged (codes "4 5") ∷ rest ∷ []) ∷ (fuel ∷ []) ∷ (cells ∷ []) ∷ (places ∷ []) ∷ (units ∷ []) ∷ []
unfolding opened
captured_runs = refl

-- try { throw 1; } catch (e) { console.log(e); } try { throw {a: 2}; } catch ({a}) { console.log(a); } try { throw 3; } catch { console.log("c"); }
abbrev catches : List nodes.Node
catches = kinds.Num (pos 1) ∷ kinds.Throw (n 0) ∷ kinds.Block (n 1 ∷ []) ∷ kinds.BindName (codes "e") ∷ kinds.Name (codes "console") ∷ kinds.Dot (n 4) (codes "log") ∷ kinds.Name (codes "e") ∷ kinds.Call (n 5) (n 6 ∷ []) ∷ kinds.ExprStmt (n 7) ∷ kinds.Block (n 8 ∷ []) ∷ kinds.Try (n 2) (Some (n 3)) (Some (n 9)) None ∷ kinds.Num (pos 2) ∷ kinds.Property (Written (codes "a")) (n 11) ∷ kinds.ObjectLit (n 12 ∷ []) ∷ kinds.Throw (n 13) ∷ kinds.Block (n 14 ∷ []) ∷ kinds.BindName (codes "a") ∷ kinds.BindObject (record { key = (codes "a"); bind = n 16; default = None } ∷ []) ∷ kinds.Name (codes "console") ∷ kinds.Dot (n 18) (codes "log") ∷ kinds.Name (codes "a") ∷ kinds.Call (n 19) (n 20 ∷ []) ∷ kinds.ExprStmt (n 21) ∷ kinds.Block (n 22 ∷ []) ∷ kinds.Try (n 15) (Some (n 17)) (Some (n 23)) None ∷ kinds.Num (pos 3) ∷ kinds.Throw (n 25) ∷ kinds.Block (n 26 ∷ []) ∷ kinds.Name (codes "console") ∷ kinds.Dot (n 28) (codes "log") ∷ kinds.Str (codes "c") ∷ kinds.Call (n 29) (n 30 ∷ []) ∷ kinds.ExprStmt (n 31) ∷ kinds.Block (n 32 ∷ []) ∷ kinds.Try (n 27) None (Some (n 33)) None ∷ kinds.Script (n 10 ∷ n 24 ∷ n 34 ∷ []) ∷ []

catches_runs : at_limits Main 39 4 7 3 catches ≡ (logged (codes "1") ∷ logged (codes "2") ∷ logged (codes "c") ∷ rest ∷ []) ∷ (logged (codes "1") ∷ logged (codes "2") ∷ fuel ∷ []) ∷ (logged (codes "1") ∷ cells ∷ []) ∷ (logged (codes "1") ∷ places ∷ []) ∷ (logged (codes "1") ∷ logged (codes "2") ∷ units ∷ []) ∷ []
unfolding opened
catches_runs = refl

-- const f = () => { try { return 1; } finally { return 2; } }; const g = () => { for (;;) { try { return 1; } finally { break; } } return 3; }; console.log(f(), g());
abbrev finally_wins : List nodes.Node
finally_wins = kinds.BindName (codes "f") ∷ kinds.Num (pos 1) ∷ kinds.Return (Some (n 1)) ∷ kinds.Block (n 2 ∷ []) ∷ kinds.Num (pos 2) ∷ kinds.Return (Some (n 4)) ∷ kinds.Block (n 5 ∷ []) ∷ kinds.Try (n 3) None None (Some (n 6)) ∷ kinds.Block (n 7 ∷ []) ∷ kinds.Arrow (record { parameters = []; rest = None; body = n 8 }) ∷ kinds.Const (record { bind = n 0; value = (Some (n 9)) } ∷ []) ∷ kinds.BindName (codes "g") ∷ kinds.Num (pos 1) ∷ kinds.Return (Some (n 12)) ∷ kinds.Block (n 13 ∷ []) ∷ kinds.Break ∷ kinds.Block (n 15 ∷ []) ∷ kinds.Try (n 14) None None (Some (n 16)) ∷ kinds.Block (n 17 ∷ []) ∷ kinds.For None None None (n 18) ∷ kinds.Num (pos 3) ∷ kinds.Return (Some (n 20)) ∷ kinds.Block (n 19 ∷ n 21 ∷ []) ∷ kinds.Arrow (record { parameters = []; rest = None; body = n 22 }) ∷ kinds.Const (record { bind = n 11; value = (Some (n 23)) } ∷ []) ∷ kinds.Name (codes "console") ∷ kinds.Dot (n 25) (codes "log") ∷ kinds.Name (codes "f") ∷ kinds.Call (n 27) [] ∷ kinds.Name (codes "g") ∷ kinds.Call (n 29) [] ∷ kinds.Call (n 26) (n 28 ∷ n 30 ∷ []) ∷ kinds.ExprStmt (n 31) ∷ kinds.Script (n 10 ∷ n 24 ∷ n 32 ∷ []) ∷ []

finally_wins_runs : at_limits Main 35 5 7 3 finally_wins ≡ (logged (codes "2 3") ∷ rest ∷ []) ∷ (fuel ∷ []) ∷ (cells ∷ []) ∷ (places ∷ []) ∷ (units ∷ []) ∷ []
unfolding opened
finally_wins_runs = refl

-- const f = () => { try { throw 1; } catch (e) { return e + 1; } finally { console.log("l"); } }; console.log(f());
abbrev finally_keeps : List nodes.Node
finally_keeps = kinds.BindName (codes "f") ∷ kinds.Num (pos 1) ∷ kinds.Throw (n 1) ∷ kinds.Block (n 2 ∷ []) ∷ kinds.BindName (codes "e") ∷ kinds.Name (codes "e") ∷ kinds.Num (pos 1) ∷ kinds.Binary operators.Add (n 5) (n 6) ∷ kinds.Return (Some (n 7)) ∷ kinds.Block (n 8 ∷ []) ∷ kinds.Name (codes "console") ∷ kinds.Dot (n 10) (codes "log") ∷ kinds.Str (codes "l") ∷ kinds.Call (n 11) (n 12 ∷ []) ∷ kinds.ExprStmt (n 13) ∷ kinds.Block (n 14 ∷ []) ∷ kinds.Try (n 3) (Some (n 4)) (Some (n 9)) (Some (n 15)) ∷ kinds.Block (n 16 ∷ []) ∷ kinds.Arrow (record { parameters = []; rest = None; body = n 17 }) ∷ kinds.Const (record { bind = n 0; value = (Some (n 18)) } ∷ []) ∷ kinds.Name (codes "console") ∷ kinds.Dot (n 20) (codes "log") ∷ kinds.Name (codes "f") ∷ kinds.Call (n 22) [] ∷ kinds.Call (n 21) (n 23 ∷ []) ∷ kinds.ExprStmt (n 24) ∷ kinds.Script (n 19 ∷ n 25 ∷ []) ∷ []

finally_keeps_runs : at_limits Main 29 4 6 2 finally_keeps ≡ (logged (codes "l") ∷ logged (codes "2") ∷ rest ∷ []) ∷ (logged (codes "l") ∷ fuel ∷ []) ∷ (cells ∷ []) ∷ (places ∷ []) ∷ (logged (codes "l") ∷ units ∷ []) ∷ []
unfolding opened
finally_keeps_runs = refl

-- try { try { throw 1; } finally { console.log("a"); } } catch (e) { console.log("b", e); } throw {k: [1]};
abbrev rethrown : List nodes.Node
rethrown = kinds.Num (pos 1) ∷ kinds.Throw (n 0) ∷ kinds.Block (n 1 ∷ []) ∷ kinds.Name (codes "console") ∷ kinds.Dot (n 3) (codes "log") ∷ kinds.Str (codes "a") ∷ kinds.Call (n 4) (n 5 ∷ []) ∷ kinds.ExprStmt (n 6) ∷ kinds.Block (n 7 ∷ []) ∷ kinds.Try (n 2) None None (Some (n 8)) ∷ kinds.Block (n 9 ∷ []) ∷ kinds.BindName (codes "e") ∷ kinds.Name (codes "console") ∷ kinds.Dot (n 12) (codes "log") ∷ kinds.Str (codes "b") ∷ kinds.Name (codes "e") ∷ kinds.Call (n 13) (n 14 ∷ n 15 ∷ []) ∷ kinds.ExprStmt (n 16) ∷ kinds.Block (n 17 ∷ []) ∷ kinds.Try (n 10) (Some (n 11)) (Some (n 18)) None ∷ kinds.Num (pos 1) ∷ kinds.ArrayLit (n 20 ∷ []) ∷ kinds.Property (Written (codes "k")) (n 21) ∷ kinds.ObjectLit (n 22 ∷ []) ∷ kinds.Throw (n 23) ∷ kinds.Script (n 19 ∷ n 24 ∷ []) ∷ []

rethrown_runs : at_limits Main 28 4 7 12 rethrown ≡ (logged (codes "a") ∷ logged (codes "b 1") ∷ thrown (codes "{k: [1]}") ∷ rest ∷ []) ∷ (logged (codes "a") ∷ logged (codes "b 1") ∷ fuel ∷ []) ∷ (logged (codes "a") ∷ logged (codes "b 1") ∷ cells ∷ []) ∷ (logged (codes "a") ∷ logged (codes "b 1") ∷ places ∷ []) ∷ (logged (codes "a") ∷ logged (codes "b 1") ∷ units ∷ []) ∷ []
unfolding opened
rethrown_runs = refl

-- const f = () => { for (const x of [1, 2]) { while (true) { return x; } } }; const g = () => { return; }; console.log(f(), g());
abbrev returns : List nodes.Node
returns = kinds.BindName (codes "f") ∷ kinds.BindName (codes "x") ∷ kinds.Num (pos 1) ∷ kinds.Num (pos 2) ∷ kinds.ArrayLit (n 2 ∷ n 3 ∷ []) ∷ kinds.Bool true ∷ kinds.Name (codes "x") ∷ kinds.Return (Some (n 6)) ∷ kinds.Block (n 7 ∷ []) ∷ kinds.While (n 5) (n 8) ∷ kinds.Block (n 9 ∷ []) ∷ kinds.ForOf true (n 1) (n 4) (n 10) ∷ kinds.Block (n 11 ∷ []) ∷ kinds.Arrow (record { parameters = []; rest = None; body = n 12 }) ∷ kinds.Const (record { bind = n 0; value = (Some (n 13)) } ∷ []) ∷ kinds.BindName (codes "g") ∷ kinds.Return None ∷ kinds.Block (n 16 ∷ []) ∷ kinds.Arrow (record { parameters = []; rest = None; body = n 17 }) ∷ kinds.Const (record { bind = n 15; value = (Some (n 18)) } ∷ []) ∷ kinds.Name (codes "console") ∷ kinds.Dot (n 20) (codes "log") ∷ kinds.Name (codes "f") ∷ kinds.Call (n 22) [] ∷ kinds.Name (codes "g") ∷ kinds.Call (n 24) [] ∷ kinds.Call (n 21) (n 23 ∷ n 25 ∷ []) ∷ kinds.ExprStmt (n 26) ∷ kinds.Script (n 14 ∷ n 19 ∷ n 27 ∷ []) ∷ []

returns_runs : at_limits Main 30 7 12 11 returns ≡ (logged (codes "1 undefined") ∷ rest ∷ []) ∷ (fuel ∷ []) ∷ (cells ∷ []) ∷ (places ∷ []) ∷ (units ∷ []) ∷ []
unfolding opened
returns_runs = refl
