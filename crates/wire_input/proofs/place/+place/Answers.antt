use Rattle.std.proofs.Common.{◌≡◌, ◌+◌, ◌++◌, [], ◌∷◌, length, drop, refl, sym, ap, ◌∙◌, string_bytes, arith, rules}
use Rattle.std.proofs.lemmas.List.{drop_more, drop_all}
use Rattle.serde_json.specs.Data.{null, boolean, number, string}
use Rattle.serde_json.specs.View.{view, number_view, items_view, members_view}
use Rattle.serde_json.specs.declared.value.Value.{the_lemmas}
use Rattle.serde_json.proofs.Views.{view-Array, view-Object}
use Rattle.parcel.specs.declared.parcel.Item.TheVariants.{Null, Bool, Str}
use Rattle.parcel.specs.declared.parcel.PNode.TheVariants.{Object, Array}
use Rattle.wire_input.specs.Input.{class_of, value_placed, items_placed, class_placed, classes_placed, member_placed}
use Rattle.wire_input.proofs.Placing.{with_front, fault-along, text-fault, leaf, along, node-told, behind, items-turn, items-fault, items-end, start, class-skip, class-turn, class-fault, class-end, classes-turn, classes-fault, classes-end}
use Rattle.wire_input.proofs.place.+place.Goals as goal

pub place-returns-in-Null : goal.place-returns-in-Null
unfolding value_placed
place-returns-in-Null t c =
    let seen : null ≡ view c.args.value.now = rw c.in-Null.is (search (rules, the_lemmas)) in
    leaf c.args.nodes.now null (view c.args.value.now) Null seen refl

pub place-returns-in-Bool : goal.place-returns-in-Bool
unfolding value_placed
place-returns-in-Bool t c =
    let seen : boolean c.in-Bool.b ≡ view c.args.value.now = rw c.in-Bool.is (search (rules, the_lemmas)) in
    leaf c.args.nodes.now (boolean c.in-Bool.b) (view c.args.value.now) (Bool c.in-Bool.b) seen refl

pub place-returns-in-Some : goal.place-returns-in-Some
unfolding value_placed
place-returns-in-Some t c =
    let seen : number (number_view c.in-Number.n) ≡ view c.args.value.now = rw c.in-Number.is (search (rules, the_lemmas)) in
    leaf c.args.nodes.now (number (number_view c.in-Number.n)) (view c.args.value.now) c.in-Some.item seen (rw (sym c.in-Some.ensures) refl)

pub place-returns-in-None : goal.place-returns-in-None
unfolding value_placed
place-returns-in-None t c =
    let seen : number (number_view c.in-Number.n) ≡ view c.args.value.now = rw c.in-Number.is (search (rules, the_lemmas)) in
    ap (λ d. value_placed d (length c.args.nodes.now)) (sym seen) ∙ rw (sym c.in-None.ensures) refl

pub place-returns-in-Array : goal.place-returns-in-Array
unfolding value_placed
place-returns-in-Array t c =
    along _ _ _ _ _ (ap (λ d. value_placed d (length c.args.nodes.now)) (sym (ap view c.in-Array.is ∙ view-Array c.in-Array.values))) c.place_array.ensures

pub place-returns-in-Object : goal.place-returns-in-Object
unfolding value_placed
place-returns-in-Object t c =
    along _ _ _ _ _ (ap (λ d. value_placed d (length c.args.nodes.now)) (sym (ap view c.in-Object.is ∙ view-Object c.in-Object.members))) c.place_object.ensures

pub place-returns-in-Ok : goal.place-returns-in-Ok
unfolding value_placed
place-returns-in-Ok t c =
    let seen : string c.as_str.result.now ≡ view c.args.value.now = rw c.in-String.is (search (rules, the_lemmas)) in
    leaf c.args.nodes.now (string c.as_str.result.now) (view c.args.value.now) (Str c.in-Ok.units) seen (rw c.in-Ok.ensures refl)

pub place-returns-in-Err : goal.place-returns-in-Err
unfolding value_placed
place-returns-in-Err t c =
    let seen : string c.as_str.result.now ≡ view c.args.value.now = rw c.in-String.is (search (rules, the_lemmas)) in
    text-fault c.in-Err.fault _ _ _ _ (λ e. ap (λ d. value_placed d (length c.args.nodes.now)) (sym seen) ∙ rw e refl) c.in-Err.ensures

pub place_array-returns-in-Ok : goal.place_array-returns-in-Ok
place_array-returns-in-Ok t c =
    let h = c.in-Ok.ensures in
    node-told (λ items. Array items) (items_placed (items_view c.args.values.now.items)) c.args.nodes.now c.push.new.self c.place_items.new.nodes c.set.new.self h.0 _ c.in-Ok.items c.len-number.result
    c.len-number.ensures c.if-number-ge-NODES.false c.in_ok-push.ensures.ok h.1 h.2 c.set.ensures

pub place_object-returns-in-Ok : goal.place_object-returns-in-Ok
place_object-returns-in-Ok t c =
    let h = c.in-Ok.ensures in
    node-told (λ properties. Object properties) (classes_placed (class_placed (members_view c.args.members.now.entries)) 11 1) c.args.nodes.now c.push.new.self c.place_classes.new.nodes c.set.new.self h.0 _ c.in-Ok.properties c.len-number.result
    c.len-number.ensures c.if-number-ge-NODES.false c.in_ok-push.ensures.ok h.1 h.2 c.set.ensures

pub place_items-values-preserved : goal.place_items-values-preserved
place_items-values-preserved t c =
    let l = c.values in
    let i = l.invariant in
    let h = c.in-Ok.ensures in
    let xs = c.deref-value-items.result.now in
    let x = c.value-item.result in
    let rest = items_view (drop (l.value-index + 1) xs) in
    let here : drop l.value-index xs ≡ x ∷ drop (l.value-index + 1) xs =
    drop_more xs l.value-index x (omega arith) ∙ ap (λ y. y ∷ drop (l.value-index + 1) xs) (sym c.value-item.is) in
    let next = behind c.args.nodes.now l.nodes c.place.new.nodes i.0 h.0 i.1 h.2 in
    let turn = items-turn (items_placed (items_view c.args.values.now.items) (length c.args.nodes.now)) l.items i.0 (view x) rest (length l.nodes)
    (i.2 ∙ ap (λ vs. with_front l.items i.0 (items_placed (items_view vs) (length l.nodes))) here)
    c.in-Ok.item h.0 (length c.place.new.nodes) h.1 next.1 in (
      i.0 ++ h.0,
      next.0,
      turn ∙ ap (λ its. with_front its (i.0 ++ h.0) (items_placed rest (length c.place.new.nodes))) (sym c.in_ok-push-in-Ok.ensures.ok),
    )

pub place_items-returns : goal.place_items-returns
place_items-returns t c =
    let l = c.values in
    let i = l.invariant in
    let xs = c.deref-value-items.result.now in
    let none : drop l.value-index xs ≡ [] = drop_all l.value-index xs c.values-test.false in (
      i.0,
      items-end (items_placed (items_view c.args.values.now.items) (length c.args.nodes.now)) l.items i.0 (length l.nodes)
          (i.2 ∙ ap (λ vs. with_front l.items i.0 (items_placed (items_view vs) (length l.nodes))) none),
      i.1,
    )

pub place_items-returns-in-Err : goal.place_items-returns-in-Err
place_items-returns-in-Err t c =
    let l = c.values in
    let i = l.invariant in
    let xs = c.deref-value-items.result.now in
    let x = c.value-item.result in
    let here : drop l.value-index xs ≡ x ∷ drop (l.value-index + 1) xs =
    drop_more xs l.value-index x (omega arith) ∙ ap (λ y. y ∷ drop (l.value-index + 1) xs) (sym c.value-item.is) in
    fault-along c.in-Err.fault l.nodes c.place.new.nodes c.args.nodes.now c.place.new.nodes (value_placed (view x) (length l.nodes))
    (items_placed (items_view c.args.values.now.items) (length c.args.nodes.now))
    (items-fault (items_placed (items_view c.args.values.now.items) (length c.args.nodes.now)) l.items i.0 (view x)
    (items_view (drop (l.value-index + 1) xs)) (length l.nodes)
    (i.2 ∙ ap (λ vs. with_front l.items i.0 (items_placed (items_view vs) (length l.nodes))) here))
    c.in-Err.ensures

pub place_class-members-preserved-then-class_of-class : goal.place_class-members-preserved-then-class_of-class
place_class-members-preserved-then-class_of-class t c =
    let l = c.members in
    let i = l.invariant in (
      i.0,
      i.1,
      class-skip (class_placed (members_view c.args.members.now.entries) c.args.class (length c.args.nodes.now)) l.properties i.0
          (string_bytes c.in-Some.key.now) (view c.in-Some.value.now) (members_view c.next.new.self) c.args.class (length l.nodes)
          (i.2 ∙ ap (λ es. with_front l.properties i.0 (class_placed (members_view es) c.args.class (length l.nodes))) c.in-Some.ensures.steps)
          (λ e. c.if-class_of-class.true (c.class_of.ensures ∙ ap class_of c.as_bytes.ensures.value ∙ e)),
    )

pub place_class-members-preserved : goal.place_class-members-preserved
place_class-members-preserved t c =
    let l = c.members in
    let i = l.invariant in
    let h = c.in-Ok.ensures in
    let next = behind c.args.nodes.now l.nodes c.place_member.new.nodes i.0 h.0 i.1 h.2 in
    let turn = class-turn (class_placed (members_view c.args.members.now.entries) c.args.class (length c.args.nodes.now)) l.properties i.0
    (string_bytes c.in-Some.key.now) (view c.in-Some.value.now) (members_view c.next.new.self) c.args.class (length l.nodes)
    (i.2 ∙ ap (λ es. with_front l.properties i.0 (class_placed (members_view es) c.args.class (length l.nodes))) c.in-Some.ensures.steps)
    c.in-Ok.property h.0 (length c.place_member.new.nodes)
    (sym (ap class_of c.as_bytes.ensures.value) ∙ sym c.class_of.ensures ∙ c.if-class_of-class.false) h.1 next.1 in (
      i.0 ++ h.0,
      next.0,
      turn ∙ ap (λ ps. with_front ps (i.0 ++ h.0) (class_placed (members_view c.next.new.self) c.args.class (length c.place_member.new.nodes)))
          (sym c.in_ok-push-in-Ok.ensures.ok),
    )

pub place_class-returns-in-Err : goal.place_class-returns-in-Err
place_class-returns-in-Err t c =
    let l = c.members in
    let i = l.invariant in
    let whole = class_placed (members_view c.args.members.now.entries) c.args.class (length c.args.nodes.now) in
    fault-along c.in-Err.fault l.nodes c.place_member.new.nodes c.args.nodes.now c.place_member.new.nodes
    (member_placed (string_bytes c.in-Some.key.now) (view c.in-Some.value.now) (length l.nodes)) whole
    (class-fault whole l.properties i.0 (string_bytes c.in-Some.key.now) (view c.in-Some.value.now) (members_view c.next.new.self) c.args.class
    (length l.nodes)
    (i.2 ∙ ap (λ es. with_front l.properties i.0 (class_placed (members_view es) c.args.class (length l.nodes))) c.in-Some.ensures.steps)
    (sym (ap class_of c.as_bytes.ensures.value) ∙ sym c.class_of.ensures ∙ c.if-class_of-class.false))
    c.in-Err.ensures

pub place_class-returns : goal.place_class-returns
place_class-returns t c =
    let l = c.members in
    let i = l.invariant in (
      i.0,
      class-end (class_placed (members_view c.args.members.now.entries) c.args.class (length c.args.nodes.now)) l.properties i.0 c.args.class (length l.nodes)
          (i.2 ∙ ap (λ es. with_front l.properties i.0 (class_placed (members_view es) c.args.class (length l.nodes))) c.in-None.ensures.steps.0),
      i.1,
    )

pub place_classes-classes-init : goal.place_classes-classes-init
place_classes-classes-init t c =
    let whole = classes_placed (class_placed (members_view c.args.members.now.entries)) 11 1 (length c.args.nodes.now) in
    let s = start c.args.nodes.now whole in
    (s.0, s.1, 11, refl, s.2 ∙ ap (λ ps. with_front ps s.0 whole) (sym c.new-properties.ensures))

pub place_classes-returns-in-Err : goal.place_classes-returns-in-Err
place_classes-returns-in-Err t c =
    let l = c.classes in
    let i = l.invariant in
    let members = class_placed (members_view c.args.members.now.entries) in
    let whole = classes_placed members 11 1 (length c.args.nodes.now) in
    fault-along c.in-Err.fault l.nodes c.place_class.new.nodes c.args.nodes.now c.place_class.new.nodes (members l.class (length l.nodes)) whole
    (classes-fault members whole l.properties i.0 i.2 l.class (length l.nodes) i.3 c.classes-test.true i.4)
    c.in-Err.ensures

pub place_classes-classes-preserved : goal.place_classes-classes-preserved
place_classes-classes-preserved t c =
    let l = c.classes in
    let i = l.invariant in
    let h = c.in-Ok.ensures in
    let members = class_placed (members_view c.args.members.now.entries) in
    let whole = classes_placed members 11 1 (length c.args.nodes.now) in
    let next = behind c.args.nodes.now l.nodes c.place_class.new.nodes i.0 h.0 i.1 h.2 in
    let turn = classes-turn members whole l.properties i.0 i.2 l.class (length l.nodes) c.in-Ok.more h.0 (length c.place_class.new.nodes) i.3
    c.classes-test.true i.4 h.1 next.1 in (
      i.0 ++ h.0,
      next.0,
      turn.0,
      turn.1,
      turn.2 ∙ ap (λ ps. with_front ps (i.0 ++ h.0) (classes_placed members turn.0 (l.class + 1) (length c.place_class.new.nodes))) (sym c.in_ok-append-in-Ok.ensures),
    )

pub place_classes-returns : goal.place_classes-returns
place_classes-returns t c =
    let l = c.classes in
    let i = l.invariant in
    let members = class_placed (members_view c.args.members.now.entries) in
    let whole = classes_placed members 11 1 (length c.args.nodes.now) in
    (i.0, classes-end members whole l.properties i.0 i.2 l.class (length l.nodes) i.3 c.classes-test.false i.4, i.1)
