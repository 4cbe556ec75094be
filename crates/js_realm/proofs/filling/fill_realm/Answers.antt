use Rattle.js_realm.proofs.Changing.{fills_then}
use Rattle.js_realm.proofs.filling.fill_realm.Goals as goal

pub returns-clause-does : goal.returns-clause-does
returns-clause-does c =
    let ps = c.args.places.now in
    let two = fills_then ps _ _ _ _ _ c.in_ok-fill_errors.ensures c.in_ok-fill_global.ensures in
    let three = fills_then ps _ _ _ _ _ two c.in_ok-fill_console.ensures.does in
    fills_then ps _ _ _ _ _ three c.in_ok-fill_module.ensures.does

pub returns-clause-well : goal.returns-clause-well
returns-clause-well c = c.in_ok-fill_module.ensures.keeps c.in_ok-fill_console.ensures.well
