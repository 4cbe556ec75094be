use Rattle.js_realm.proofs.Changing.{fills_then}
use Rattle.js_realm.proofs.filling.fill_errors.Goals as goal

pub returns : goal.returns
returns c =
    let ps = c.args.places.now in
    let two = fills_then ps _ _ _ _ _ c.in_ok-fill_error.ensures c.in_ok-fill_error-2.ensures in
    let three = fills_then ps _ _ _ _ _ two c.in_ok-fill_error-3.ensures in
    let four = fills_then ps _ _ _ _ _ three c.in_ok-fill_error-4.ensures in
    let five = fills_then ps _ _ _ _ _ four c.in_ok-fill_error-5.ensures in
    let six = fills_then ps _ _ _ _ _ five c.in_ok-fill_error-6.ensures in
    fills_then ps _ _ _ _ _ six c.in_ok-fill_error-7.ensures
