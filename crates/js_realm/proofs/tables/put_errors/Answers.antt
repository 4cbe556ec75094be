use Rattle.js_realm.proofs.Changing.{puts_then}
use Rattle.js_realm.proofs.tables.put_errors.Goals as goal

pub returns : goal.returns
returns c =
    let ps = c.args.places.now in
    let two = puts_then ps _ _ _ _ _ c.in_ok-put_object.ensures c.in_ok-put_object-2.ensures in
    let three = puts_then ps _ _ _ _ _ two c.in_ok-put_object-3.ensures in
    let four = puts_then ps _ _ _ _ _ three c.in_ok-put_object-4.ensures in
    let five = puts_then ps _ _ _ _ _ four c.in_ok-put_object-5.ensures in
    let six = puts_then ps _ _ _ _ _ five c.in_ok-put_object-6.ensures in
    puts_then ps _ _ _ _ _ six c.in_ok-put_object-7.ensures
