-- Scripts that use the built-in objects of each kind of world.
-- Each is run with the least steps, cells, places and units that it needs, and with one less of each in turn.
use Rattle.std.specs.Prelude.{◌≡◌, List, [], ◌∷◌, pos, refl, codes, Some, None}
use Rattle.world_kind.specs.declared.WorldKind.TheVariants.{Main, Preload, Page}
use Rattle.world_log.specs.declared.entry.Level.TheVariants as levels
use Rattle.js_tree.specs.declared.node.Node as nodes
use Rattle.js_tree.specs.declared.node.Node.TheVariants as kinds
use Rattle.js_tree.specs.declared.node.BinaryOperator.TheVariants as operators
use Rattle.js_semantics.proofs.Opened.{opened}
use Rattle.js_semantics.proofs.Worlds.{n, at_limits, leveled, logged, thrown, rest, fuel, cells, places, units}

-- console.info(1); console.warn("w", {}); console.error(new Error("e")); console.log();
abbrev console_levels : List nodes.Node
console_levels = kinds.Name (codes "console") ∷ kinds.Dot (n 0) (codes "info") ∷ kinds.Num (pos 1) ∷ kinds.Call (n 1) (n 2 ∷ []) ∷ kinds.ExprStmt (n 3) ∷ kinds.Name (codes "console") ∷ kinds.Dot (n 5) (codes "warn") ∷ kinds.Str (codes "w") ∷ kinds.ObjectLit [] ∷ kinds.Call (n 6) (n 7 ∷ n 8 ∷ []) ∷ kinds.ExprStmt (n 9) ∷ kinds.Name (codes "console") ∷ kinds.Dot (n 11) (codes "error") ∷ kinds.Name (codes "Error") ∷ kinds.Str (codes "e") ∷ kinds.New (n 13) (n 14 ∷ []) ∷ kinds.Call (n 12) (n 15 ∷ []) ∷ kinds.ExprStmt (n 16) ∷ kinds.Name (codes "console") ∷ kinds.Dot (n 18) (codes "log") ∷ kinds.Call (n 19) [] ∷ kinds.ExprStmt (n 20) ∷ kinds.Script (n 4 ∷ n 10 ∷ n 17 ∷ n 21 ∷ []) ∷ []

console_levels_runs : at_limits Main 28 3 4 13 console_levels ≡ (leveled levels.Info (codes "1") ∷ leveled levels.Warn (codes "w {}") ∷ leveled levels.Error (codes "Error: e") ∷ logged (codes "") ∷ rest ∷ []) ∷ (leveled levels.Info (codes "1") ∷ leveled levels.Warn (codes "w {}") ∷ leveled levels.Error (codes "Error: e") ∷ fuel ∷ []) ∷ (leveled levels.Info (codes "1") ∷ leveled levels.Warn (codes "w {}") ∷ cells ∷ []) ∷ (leveled levels.Info (codes "1") ∷ leveled levels.Warn (codes "w {}") ∷ places ∷ []) ∷ (leveled levels.Info (codes "1") ∷ leveled levels.Warn (codes "w {}") ∷ units ∷ []) ∷ []
unfolding opened
console_levels_runs = refl

-- const {ipcMain, app} = require("electron"); console.log(typeof ipcMain, app, require("electron") === require("electron/main"), typeof window);
abbrev main_module : List nodes.Node
main_module = kinds.BindName (codes "ipcMain") ∷ kinds.BindName (codes "app") ∷ kinds.BindObject (record { key = (codes "ipcMain"); bind = n 0; default = None } ∷ record { key = (codes "app"); bind = n 1; default = None } ∷ []) ∷ kinds.Name (codes "require") ∷ kinds.Str (codes "electron") ∷ kinds.Call (n 3) (n 4 ∷ []) ∷ kinds.Const (record { bind = n 2; value = (Some (n 5)) } ∷ []) ∷ kinds.Name (codes "console") ∷ kinds.Dot (n 7) (codes "log") ∷ kinds.Name (codes "ipcMain") ∷ kinds.Typeof (n 9) ∷ kinds.Name (codes "app") ∷ kinds.Name (codes "require") ∷ kinds.Str (codes "electron") ∷ kinds.Call (n 12) (n 13 ∷ []) ∷ kinds.Name (codes "require") ∷ kinds.Str (codes "electron/main") ∷ kinds.Call (n 15) (n 16 ∷ []) ∷ kinds.Binary operators.StrictEqual (n 14) (n 17) ∷ kinds.Name (codes "window") ∷ kinds.Typeof (n 19) ∷ kinds.Call (n 8) (n 10 ∷ n 11 ∷ n 18 ∷ n 20 ∷ []) ∷ kinds.ExprStmt (n 21) ∷ kinds.Script (n 6 ∷ n 22 ∷ []) ∷ []

main_module_runs : at_limits Main 28 1 3 24 main_module ≡ (logged (codes "object {} true undefined") ∷ rest ∷ []) ∷ (fuel ∷ []) ∷ (cells ∷ []) ∷ (places ∷ []) ∷ (units ∷ []) ∷ []
unfolding opened
main_module_runs = refl

-- try { require("fs"); } catch (e) { console.log(e); } require(1);
abbrev no_module : List nodes.Node
no_module = kinds.Name (codes "require") ∷ kinds.Str (codes "fs") ∷ kinds.Call (n 0) (n 1 ∷ []) ∷ kinds.ExprStmt (n 2) ∷ kinds.Block (n 3 ∷ []) ∷ kinds.BindName (codes "e") ∷ kinds.Name (codes "console") ∷ kinds.Dot (n 6) (codes "log") ∷ kinds.Name (codes "e") ∷ kinds.Call (n 7) (n 8 ∷ []) ∷ kinds.ExprStmt (n 9) ∷ kinds.Block (n 10 ∷ []) ∷ kinds.Try (n 4) (Some (n 5)) (Some (n 11)) None ∷ kinds.Name (codes "require") ∷ kinds.Num (pos 1) ∷ kinds.Call (n 13) (n 14 ∷ []) ∷ kinds.ExprStmt (n 15) ∷ kinds.Script (n 12 ∷ n 16 ∷ []) ∷ []

no_module_runs : at_limits Main 21 4 7 78 no_module ≡ (logged (codes "Error: Cannot find module 'fs'") ∷ thrown (codes "TypeError: wrong argument") ∷ rest ∷ []) ∷ (logged (codes "Error: Cannot find module 'fs'") ∷ fuel ∷ []) ∷ (logged (codes "Error: Cannot find module 'fs'") ∷ cells ∷ []) ∷ (logged (codes "Error: Cannot find module 'fs'") ∷ places ∷ []) ∷ (logged (codes "Error: Cannot find module 'fs'") ∷ units ∷ []) ∷ []
unfolding opened
no_module_runs = refl

-- const e = require("electron"); console.log(e, typeof e.contextBridge, e === require("electron/renderer"), window === globalThis, window.window === window);
abbrev preload_module : List nodes.Node
preload_module = kinds.BindName (codes "e") ∷ kinds.Name (codes "require") ∷ kinds.Str (codes "electron") ∷ kinds.Call (n 1) (n 2 ∷ []) ∷ kinds.Const (record { bind = n 0; value = (Some (n 3)) } ∷ []) ∷ kinds.Name (codes "console") ∷ kinds.Dot (n 5) (codes "log") ∷ kinds.Name (codes "e") ∷ kinds.Name (codes "e") ∷ kinds.Dot (n 8) (codes "contextBridge") ∷ kinds.Typeof (n 9) ∷ kinds.Name (codes "e") ∷ kinds.Name (codes "require") ∷ kinds.Str (codes "electron/renderer") ∷ kinds.Call (n 12) (n 13 ∷ []) ∷ kinds.Binary operators.StrictEqual (n 11) (n 14) ∷ kinds.Name (codes "window") ∷ kinds.Name (codes "globalThis") ∷ kinds.Binary operators.StrictEqual (n 16) (n 17) ∷ kinds.Name (codes "window") ∷ kinds.Dot (n 19) (codes "window") ∷ kinds.Name (codes "window") ∷ kinds.Binary operators.StrictEqual (n 20) (n 21) ∷ kinds.Call (n 6) (n 7 ∷ n 10 ∷ n 15 ∷ n 18 ∷ n 22 ∷ []) ∷ kinds.ExprStmt (n 23) ∷ kinds.Script (n 4 ∷ n 24 ∷ []) ∷ []

preload_module_runs : at_limits Preload 29 1 2 24 preload_module ≡ (logged (codes "{} object true true true") ∷ rest ∷ []) ∷ (fuel ∷ []) ∷ (cells ∷ []) ∷ (places ∷ []) ∷ (units ∷ []) ∷ []
unfolding opened
preload_module_runs = refl

-- console.log(typeof require, window === globalThis, this === window, typeof window.console.log);
abbrev page_globals : List nodes.Node
page_globals = kinds.Name (codes "console") ∷ kinds.Dot (n 0) (codes "log") ∷ kinds.Name (codes "require") ∷ kinds.Typeof (n 2) ∷ kinds.Name (codes "window") ∷ kinds.Name (codes "globalThis") ∷ kinds.Binary operators.StrictEqual (n 4) (n 5) ∷ kinds.This ∷ kinds.Name (codes "window") ∷ kinds.Binary operators.StrictEqual (n 7) (n 8) ∷ kinds.Name (codes "window") ∷ kinds.Dot (n 10) (codes "console") ∷ kinds.Dot (n 11) (codes "log") ∷ kinds.Typeof (n 12) ∷ kinds.Call (n 1) (n 3 ∷ n 6 ∷ n 9 ∷ n 13 ∷ []) ∷ kinds.ExprStmt (n 14) ∷ kinds.Script (n 15 ∷ []) ∷ []

page_globals_runs : at_limits Page 18 1 1 28 page_globals ≡ (logged (codes "undefined true true function") ∷ rest ∷ []) ∷ (fuel ∷ []) ∷ (cells ∷ []) ∷ (places ∷ []) ∷ (units ∷ []) ∷ []
unfolding opened
page_globals_runs = refl

-- const e = Error.prototype; console.log(e.name, e.message === "", TypeError.prototype.name, new TypeError("x") instanceof Error, Error, console);
abbrev prototypes : List nodes.Node
prototypes = kinds.BindName (codes "e") ∷ kinds.Name (codes "Error") ∷ kinds.Dot (n 1) (codes "prototype") ∷ kinds.Const (record { bind = n 0; value = (Some (n 2)) } ∷ []) ∷ kinds.Name (codes "console") ∷ kinds.Dot (n 4) (codes "log") ∷ kinds.Name (codes "e") ∷ kinds.Dot (n 6) (codes "name") ∷ kinds.Name (codes "e") ∷ kinds.Dot (n 8) (codes "message") ∷ kinds.Str [] ∷ kinds.Binary operators.StrictEqual (n 9) (n 10) ∷ kinds.Name (codes "TypeError") ∷ kinds.Dot (n 12) (codes "prototype") ∷ kinds.Dot (n 13) (codes "name") ∷ kinds.Name (codes "TypeError") ∷ kinds.Str (codes "x") ∷ kinds.New (n 15) (n 16 ∷ []) ∷ kinds.Name (codes "Error") ∷ kinds.Binary operators.InstanceOf (n 17) (n 18) ∷ kinds.Name (codes "Error") ∷ kinds.Name (codes "console") ∷ kinds.Call (n 5) (n 7 ∷ n 11 ∷ n 14 ∷ n 19 ∷ n 20 ∷ n 21 ∷ []) ∷ kinds.ExprStmt (n 22) ∷ kinds.Script (n 3 ∷ n 23 ∷ []) ∷ []

prototypes_runs : at_limits Main 27 2 4 39 prototypes ≡ (logged (codes "Error true TypeError true [Function] {}") ∷ rest ∷ []) ∷ (fuel ∷ []) ∷ (cells ∷ []) ∷ (places ∷ []) ∷ (units ∷ []) ∷ []
unfolding opened
prototypes_runs = refl
