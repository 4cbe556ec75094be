use Rattle.std.proofs.Common.{◌≡◌, [], ◌∷◌, ◌∙◌, ap, length, arith}
use Rattle.js_scope.specs.Faults.{faults, top}
use Rattle.js_scope.proofs.Trees.{stands_in}
use Rattle.js_scope.proofs.Places.{places_turn, places_stand, faults_first, stands_at_first, fault_told, none_told, faults_none, top_is}
use Rattle.js_scope.proofs.check.check_scope.Goals as goal

pub broken_by-requires-clause-stands : goal.broken_by-requires-clause-stands
broken_by-requires-clause-stands c =
    stands_in c.args.tree.now c.ordered.ensures c.in-Some-pop.place.node.0 c.node-node.result.now c.node-node.ensures.value

pub places-init : goal.places-init
places-init c =
    let nodes = c.args.tree.now in
    let stack : c.push.new.self.items ≡ top nodes ∷ [] = cc (c.in_ok-push.ensures.items, c.new-waiting.ensures.items, top_is nodes c.in-Some.root c.in-Some.ensures) in
    record {
      found = faults_first nodes c.push.new.self.items stack;
      stand = stands_at_first nodes c.in-Some.root c.in-Some.ensures c.push.new.self.items stack;
    }

pub returns-in_default : goal.returns-in_default
returns-in_default c = ap faults c.in_default.ensures ∙ faults_none

pub returns-in-Some-broken_by : goal.returns-in-Some-broken_by
returns-in-Some-broken_by c =
    fault_told c.args.tree.now c.ordered.ensures c.pop.new.self.items c.in-Some-pop.place c.places.waiting.items c.in-Some-pop.ensures.items c.places.invariant.stand c.places.invariant.found c.node-node.result.now c.node-node.ensures.value c.in-Some-broken_by.kind c.in-Some-broken_by.ensures

pub places-preserved : goal.places-preserved
places-preserved c =
    let nodes = c.args.tree.now in
    let place = c.in-Some-pop.place in
    let new = c.push_parts.new.waiting.items in
    record {
      found = none_told nodes c.ordered.ensures c.pop.new.self.items place c.places.waiting.items c.in-Some-pop.ensures.items c.places.invariant.stand c.places.invariant.found c.node-node.result.now c.node-node.ensures.value c.in_default-broken_by.ensures new c.in_ok-push_parts.ensures;
      stand = places_stand nodes c.ordered.ensures c.pop.new.self.items place c.places.waiting.items c.in-Some-pop.ensures.items c.places.invariant.stand new c.in_ok-push_parts.ensures;
    }

pub places-smaller : goal.places-smaller
places-smaller c =
    let turn = places_turn c.args.tree.now c.ordered.ensures c.pop.new.self.items c.in-Some-pop.place c.places.waiting.items c.in-Some-pop.ensures.items c.places.invariant.stand c.push_parts.new.waiting.items c.in_ok-push_parts.ensures in
    let longer = ap length turn in
    omega arith
