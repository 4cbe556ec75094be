-- Scripts that no limit but one ends; what catches errors sees no stop.
use Rattle.std.specs.Prelude.{◌≡◌, List, [], ◌∷◌, pos, refl, codes, true, false, Some, None}
use Rattle.world_kind.specs.declared.WorldKind.TheVariants.{Main}
use Rattle.js_tree.specs.declared.node.Node as nodes
use Rattle.js_tree.specs.declared.node.Node.TheVariants as kinds
use Rattle.js_tree.specs.declared.node.BinaryOperator.TheVariants as operators
use Rattle.js_tree.specs.declared.node.UpdateOperator.TheVariants as updates
use Rattle.js_semantics.proofs.Opened.{opened}
use Rattle.js_semantics.proofs.Worlds.{n, made, logged, rest, fuel, cells, places, units}

-- try { while (true) {} } catch { console.log("c"); } finally { console.log("f"); }
abbrev fuel_runs_out : List nodes.Node
fuel_runs_out = kinds.Bool true ∷ kinds.Block [] ∷ kinds.While (n 0) (n 1) ∷ kinds.Block (n 2 ∷ []) ∷ kinds.Name (codes "console") ∷ kinds.Dot (n 4) (codes "log") ∷ kinds.Str (codes "c") ∷ kinds.Call (n 5) (n 6 ∷ []) ∷ kinds.ExprStmt (n 7) ∷ kinds.Block (n 8 ∷ []) ∷ kinds.Name (codes "console") ∷ kinds.Dot (n 10) (codes "log") ∷ kinds.Str (codes "f") ∷ kinds.Call (n 11) (n 12 ∷ []) ∷ kinds.ExprStmt (n 13) ∷ kinds.Block (n 14 ∷ []) ∷ kinds.Try (n 3) None (Some (n 9)) (Some (n 15)) ∷ kinds.Script (n 16 ∷ []) ∷ []

fuel_runs_out_stops : made Main 100 20 50 50 fuel_runs_out ≡ fuel ∷ []
unfolding opened
fuel_runs_out_stops = refl

-- try { for (;;) { ({}); } } catch { console.log("c"); } finally { console.log("f"); }
abbrev cells_run_out : List nodes.Node
cells_run_out = kinds.ObjectLit [] ∷ kinds.ExprStmt (n 0) ∷ kinds.Block (n 1 ∷ []) ∷ kinds.For None None None (n 2) ∷ kinds.Block (n 3 ∷ []) ∷ kinds.Name (codes "console") ∷ kinds.Dot (n 5) (codes "log") ∷ kinds.Str (codes "c") ∷ kinds.Call (n 6) (n 7 ∷ []) ∷ kinds.ExprStmt (n 8) ∷ kinds.Block (n 9 ∷ []) ∷ kinds.Name (codes "console") ∷ kinds.Dot (n 11) (codes "log") ∷ kinds.Str (codes "f") ∷ kinds.Call (n 12) (n 13 ∷ []) ∷ kinds.ExprStmt (n 14) ∷ kinds.Block (n 15 ∷ []) ∷ kinds.Try (n 4) None (Some (n 10)) (Some (n 16)) ∷ kinds.Script (n 17 ∷ []) ∷ []

cells_run_out_stops : made Main 500 12 400 50 cells_run_out ≡ cells ∷ []
unfolding opened
cells_run_out_stops = refl

-- const a = []; try { for (;;) { a[a.length] = 0; } } catch { console.log("c"); } finally { console.log("f"); }
abbrev places_run_out : List nodes.Node
places_run_out = kinds.BindName (codes "a") ∷ kinds.ArrayLit [] ∷ kinds.Const (record { bind = n 0; value = (Some (n 1)) } ∷ []) ∷ kinds.Name (codes "a") ∷ kinds.Name (codes "a") ∷ kinds.Dot (n 4) (codes "length") ∷ kinds.Index (n 3) (n 5) ∷ kinds.Num (pos 0) ∷ kinds.Assign (n 6) (n 7) ∷ kinds.ExprStmt (n 8) ∷ kinds.Block (n 9 ∷ []) ∷ kinds.For None None None (n 10) ∷ kinds.Block (n 11 ∷ []) ∷ kinds.Name (codes "console") ∷ kinds.Dot (n 13) (codes "log") ∷ kinds.Str (codes "c") ∷ kinds.Call (n 14) (n 15 ∷ []) ∷ kinds.ExprStmt (n 16) ∷ kinds.Block (n 17 ∷ []) ∷ kinds.Name (codes "console") ∷ kinds.Dot (n 19) (codes "log") ∷ kinds.Str (codes "f") ∷ kinds.Call (n 20) (n 21 ∷ []) ∷ kinds.ExprStmt (n 22) ∷ kinds.Block (n 23 ∷ []) ∷ kinds.Try (n 12) None (Some (n 18)) (Some (n 24)) ∷ kinds.Script (n 2 ∷ n 25 ∷ []) ∷ []

places_run_out_stops : made Main 500 50 17 50 places_run_out ≡ places ∷ []
unfolding opened
places_run_out_stops = refl

-- let s = "ab"; try { for (;;) { s += s; } } catch { console.log("c"); } finally { console.log("f"); }
abbrev units_run_out : List nodes.Node
units_run_out = kinds.BindName (codes "s") ∷ kinds.Str (codes "ab") ∷ kinds.Let (record { bind = n 0; value = (Some (n 1)) } ∷ []) ∷ kinds.Name (codes "s") ∷ kinds.Name (codes "s") ∷ kinds.AssignOp operators.Add (n 3) (n 4) ∷ kinds.ExprStmt (n 5) ∷ kinds.Block (n 6 ∷ []) ∷ kinds.For None None None (n 7) ∷ kinds.Block (n 8 ∷ []) ∷ kinds.Name (codes "console") ∷ kinds.Dot (n 10) (codes "log") ∷ kinds.Str (codes "c") ∷ kinds.Call (n 11) (n 12 ∷ []) ∷ kinds.ExprStmt (n 13) ∷ kinds.Block (n 14 ∷ []) ∷ kinds.Name (codes "console") ∷ kinds.Dot (n 16) (codes "log") ∷ kinds.Str (codes "f") ∷ kinds.Call (n 17) (n 18 ∷ []) ∷ kinds.ExprStmt (n 19) ∷ kinds.Block (n 20 ∷ []) ∷ kinds.Try (n 9) None (Some (n 15)) (Some (n 21)) ∷ kinds.Script (n 2 ∷ n 22 ∷ []) ∷ []

units_run_out_stops : made Main 500 50 50 100 units_run_out ≡ units ∷ []
unfolding opened
units_run_out_stops = refl

-- let n = 0; const f = () => { n++; f(); }; try { f(); } catch (e) { console.log(n, e.message); } try { f(); } catch (e) { console.log(n); }
abbrev deep_calls : List nodes.Node
deep_calls = kinds.BindName (codes "n") ∷ kinds.Num (pos 0) ∷ kinds.Let (record { bind = n 0; value = (Some (n 1)) } ∷ []) ∷ kinds.BindName (codes "f") ∷ kinds.Name (codes "n") ∷ kinds.Update updates.Increment (n 4) false ∷ kinds.ExprStmt (n 5) ∷ kinds.Name (codes "f") ∷ kinds.Call (n 7) [] ∷ kinds.ExprStmt (n 8) ∷ kinds.Block (n 6 ∷ n 9 ∷ []) ∷ kinds.Arrow (record { parameters = []; rest = None; body = n 10 }) ∷ kinds.Const (record { bind = n 3; value = (Some (n 11)) } ∷ []) ∷ kinds.Name (codes "f") ∷ kinds.Call (n 13) [] ∷ kinds.ExprStmt (n 14) ∷ kinds.Block (n 15 ∷ []) ∷ kinds.BindName (codes "e") ∷ kinds.Name (codes "console") ∷ kinds.Dot (n 18) (codes "log") ∷ kinds.Name (codes "n") ∷ kinds.Name (codes "e") ∷ kinds.Dot (n 21) (codes "message") ∷ kinds.Call (n 19) (n 20 ∷ n 22 ∷ []) ∷ kinds.ExprStmt (n 23) ∷ kinds.Block (n 24 ∷ []) ∷ kinds.Try (n 16) (Some (n 17)) (Some (n 25)) None ∷ kinds.Name (codes "f") ∷ kinds.Call (n 27) [] ∷ kinds.ExprStmt (n 28) ∷ kinds.Block (n 29 ∷ []) ∷ kinds.BindName (codes "e") ∷ kinds.Name (codes "console") ∷ kinds.Dot (n 32) (codes "log") ∷ kinds.Name (codes "n") ∷ kinds.Call (n 33) (n 34 ∷ []) ∷ kinds.ExprStmt (n 35) ∷ kinds.Block (n 36 ∷ []) ∷ kinds.Try (n 30) (Some (n 31)) (Some (n 37)) None ∷ kinds.Script (n 2 ∷ n 12 ∷ n 26 ∷ n 38 ∷ []) ∷ []

deep_calls_stops : made Main 500 50 50 50 deep_calls ≡ logged (codes "5 too many calls") ∷ logged (codes "10") ∷ rest ∷ []
unfolding opened
deep_calls_stops = refl
