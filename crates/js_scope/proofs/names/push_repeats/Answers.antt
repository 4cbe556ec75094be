use Rattle.std.proofs.Common.{◌≡◌, ap, ◌++◌, ◌∙◌, sym, [], length, reverse, arith}
use Rattle.js_scope.specs.Names.{names, repeats, scope_parts}
use Rattle.js_scope.proofs.Found.{found_first, stands_first, names_turn, stands_after, left_turn, found_last}
use Rattle.js_scope.proofs.names.push_repeats.Goals as goal

pub names-init : goal.names-init
names-init c =
    let nodes = c.args.tree.now in
    let parts : c.push_scope_parts.new.out.items ≡ scope_parts nodes c.args.node.now = cc (c.in_ok-push_scope_parts.ensures) in
    let first = found_first nodes c.args.node.now c.push_scope_parts.new.out.items c.reverse.new.self.items parts c.reverse.ensures.items in
    let empty : c.new-before.result.keys ≡ [] = c.new-before.ensures.empty in
    record {
      found = ap (λ xs. c.args.again.now.items ++ xs) (ap (λ keys. repeats keys (names nodes (reverse c.reverse.new.self.items))) empty ∙ first);
      stand = stands_first nodes c.requires.ordered c.args.node.now c.requires.stands c.push_scope_parts.new.out.items c.reverse.new.self.items parts c.reverse.ensures.items;
    }

pub names-preserved : goal.names-preserved
names-preserved c =
    let nodes = c.args.tree.now in
    let old = c.names.waiting.items in
    let new = c.push_binding_parts_reversed.new.waiting.items in
    let node = c.node-part.result.now in
    let next = c.in_ok-push_binding_parts_reversed.ensures in
    let turn = names_turn nodes c.requires.ordered c.pop.new.self.items c.in-Some.id node c.node-part.ensures.value old new c.in-Some.ensures.items next c.names.invariant.stand in
    record {
      found = c.in_ok-push_repeated.ensures (names nodes _) ∙ (ap (λ xs. c.names.again.items ++ repeats c.names.before.keys xs) (sym turn) ∙ c.names.invariant.found);
      stand = stands_after nodes c.requires.ordered c.pop.new.self.items c.in-Some.id node c.node-part.ensures.value old new c.in-Some.ensures.items next c.names.invariant.stand;
    }

pub names-smaller : goal.names-smaller
names-smaller c =
    let nodes = c.args.tree.now in
    let turn = left_turn nodes c.requires.ordered c.pop.new.self.items c.in-Some.id c.node-part.result.now c.node-part.ensures.value c.names.waiting.items c.push_binding_parts_reversed.new.waiting.items c.in-Some.ensures.items c.in_ok-push_binding_parts_reversed.ensures c.names.invariant.stand in
    let longer = ap length turn in
    omega arith

pub returns : goal.returns
returns c =
    let last = found_last c.args.tree.now c.names.waiting.items (omega (arith, c.in_default.ensures.cases.0, c.names.waiting.ok.0)) c.names.again.items c.names.before.keys in
    sym last ∙ c.names.invariant.found
