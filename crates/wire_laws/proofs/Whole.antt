-- Each proper front of a spelling is cut, but the buffer in front of a view.
use Rattle.std.proofs.Common.{◌≡◌, ℕ, zero, suc, ◌+◌, ◌<◌, List, [], ◌∷◌, ◌++◌, length, take, ◌-◌, rules, Option, Some, None, Result, Ok, Err, true, refl, ap, sym, ◌∙◌, subst, inl, inr, arith, eqb}
use Rattle.std.specs.Prelude.{slice_get, IsTrue}
use Rattle.std.proofs.Math.Seq.{take-append_seam, take-append-add}
use Rattle.std.proofs.lemmas.Bool.{ne_eqb, cases_lt}
use Rattle.std.proofs.lemmas.List.{length-append, take-append-le}
use Rattle.parcel.specs.Checked.{IsChecked}
use Rattle.parcel.specs.Plain.{IsPlain, ports_below}
use Rattle.parcel.specs.declared.parcel.Item.{Item}
use Rattle.parcel.specs.declared.parcel.Item.TheVariants.{Node}
use Rattle.parcel.specs.declared.parcel.PNode.{PNode}
use Rattle.parcel.specs.declared.parcel.PNode.TheVariants.{Buffer, View}
use Rattle.parcel.specs.declared.parcel.Parcel.{Parcel}
use Rattle.v8_wire.specs.Faults.{cut}
use Rattle.v8_wire.specs.Leaf.{unpadded}
use Rattle.v8_wire.specs.Item.{buffer_size, fresh, parcel_at}
use Rattle.v8_wire.specs.Spelling.{spelled, buffer, varint}
use Rattle.v8_wire.proofs.WholeAgain.{parcel-again}
use Rattle.wire_laws.specs.Fronts.{contents_of, seen_by, seen_at, viewed_bytes, buffer_alone, buffer_in, front_read, ReadsAs}
use Rattle.wire_laws.proofs.Cut.{Fault, Met, Front}
use Rattle.wire_laws.proofs.Items.{GivesItem, item-fronted}
use Rattle.wire_laws.proofs.Roots.{IsViewless, finished, alone-is, begun_at, has_root, has_root-15, parcel-front}
use Rattle.wire_laws.proofs.Viewed.{HasView, has_view, IsWalked, checked-walked, alone-checked, alone-plain, alone-below, alone-spelled, view-spelled}

-- ---- lists of nodes

slice_get-last : (xs : List PNode) (x : PNode) → slice_get (xs ++ x ∷ []) (length xs) ≡ Some x
slice_get-last [] x = refl
slice_get-last (y ∷ xs) x = slice_get-last xs x

slice_get-front : (xs ys : List PNode) (n : ℕ) (x : PNode) → slice_get xs n ≡ Some x → slice_get (xs ++ ys) n ≡ Some x
slice_get-front [] ys zero x e = absurd cc
slice_get-front [] ys (suc n) x e = absurd cc
slice_get-front (y ∷ xs) ys zero x e = e
slice_get-front (y ∷ xs) ys (suc n) x e = slice_get-front xs ys n x e

sized-is : (o : Option PNode) (size : ℕ) → buffer_size o ≡ Some size → (bytes : List ℕ) × (o ≡ Some (Buffer bytes))
sized-is (Some (Buffer bytes)) size e = (bytes, refl)
sized-is o size e = absurd cc

-- Where a front reads as a buffer, the root is a view.
viewless-seen : (front : Result (Item × Met × List ℕ) Fault) (parcel : Parcel) → IsViewless front parcel → (bytes : List ℕ) × (viewed_bytes parcel ≡ Some bytes)
unfolding viewed_bytes
viewless-seen front parcel v =
    let b = sized-is (slice_get v.met.nodes v.number) v.size v.sized in
    let found : slice_get parcel.nodes (length v.met.nodes) ≡ Some (View v.number v.offset v.count) =
    ap (λ (nodes : List PNode). slice_get nodes (length v.met.nodes)) v.nodes_are ∙ slice_get-last v.met.nodes (View v.number v.offset v.count) in
    let stands : slice_get parcel.nodes v.number ≡ Some (Buffer b.0) =
    ap (λ (nodes : List PNode). slice_get nodes v.number) v.nodes_are ∙ slice_get-front v.met.nodes (View v.number v.offset v.count ∷ []) v.number (Buffer b.0) b.1 in
    (b.0, ap (λ (item : Item). seen_at parcel.nodes item) v.root_is ∙ ap (λ (o : Option PNode). seen_by parcel.nodes o) found ∙ ap contents_of stands)

-- Where the root is no view, each front is cut.
pub unviewed : (parcel : Parcel) (ports n : ℕ) → IsChecked parcel → IsPlain parcel → IsTrue (ports_below ports parcel) → viewed_bytes parcel ≡ None → n < length (spelled parcel)
    → parcel_at ports (take n (spelled parcel)) ≡ cut
unviewed parcel ports n checked plain below none lt =
    let r = has_root ports (spelled parcel) parcel (parcel-again parcel ports checked plain below) in
    elim (parcel-front ports (spelled parcel) parcel r n lt) [
      | inl h ↦ h
      | inr h ↦ absurd (let s = viewless-seen _ parcel h.2 in let g : ◌≡◌ {A = Option (List ℕ)} None (Some s.0) = sym none ∙ s.1 in cc)
    ]

alone-unviewed : (bytes : List ℕ) → viewed_bytes (buffer_alone bytes) ≡ None
unfolding viewed_bytes
alone-unviewed bytes = refl

-- ---- behind the view's tag

ok-is : (a b : Item × Met × List ℕ) → ◌≡◌ {A = Result (Item × Met × List ℕ) Fault} (Ok a) (Ok b) → a ≡ b
ok-is a b e = cc

tagged : (tail : List ℕ) → unpadded (86 ∷ tail) ≡ [] → ⊥
unfolding unpadded
tagged tail e = cc

-- A buffer with a view's tag behind it doesn't read as the buffer, where all reads as the second node.
tag-read : (ports : ℕ) (bytes piece tail : List ℕ) (parcel : Parcel) → finished (begun_at ports 15 piece) ≡ Ok (buffer_alone bytes) → parcel.root ≡ Node 1
    → IsViewless (begun_at ports 15 (piece ++ (86 ∷ tail))) parcel → ⊥
tag-read ports bytes piece tail parcel alone second v = by (begun_at ports 15 (piece ++ (86 ∷ tail))) (begun_at ports 15 piece) ((item-fronted (86 ∷ tail) 1_001).fronts (fresh ports true) piece) v alone
  where
    by : (all front : Result (Item × Met × List ℕ) Fault) → Front (Item × Met × List ℕ) (GivesItem (86 ∷ tail)) all front → IsViewless all parcel → finished front ≡ Ok (buffer_alone bytes) → ⊥
    by all front (Front.failed f h) v e = let g : ◌≡◌ {A = Result (Item × Met × List ℕ) Fault} (Err f) (Ok (Node v.number, v.met, v.rest)) = sym h ∙ v.reads in cc
    by all front (Front.ended h) v e = let g : ◌≡◌ {A = Result Parcel Fault} cut (Ok (buffer_alone bytes)) = sym (ap finished h) ∙ e in cc
    by all front (Front.gives x h (GivesItem.exact k)) v e =
        let a = alone-is x.0 x.1 x.2 (buffer_alone bytes) (sym (ap finished h) ∙ e) in
        let g : ◌≡◌ {A = Result (Item × Met × List ℕ) Fault} (Ok (x.0, x.1, x.2 ++ (86 ∷ tail))) (Ok (Node v.number, v.met, v.rest)) = sym k ∙ v.reads in
        let same : x.2 ++ (86 ∷ tail) ≡ v.rest = ap (λ (t : Item × Met × List ℕ). t.2) (ok-is _ _ g) in
        let rest : 86 ∷ tail ≡ v.rest = ap (λ (l : List ℕ). l ++ (86 ∷ tail)) (sym a.0) ∙ same in
        tagged tail (ap unpadded rest ∙ v.pads)
    by all front (Front.gives x h (GivesItem.viewless number size offset count rest u i s k)) v e =
        let a = alone-is x.0 x.1 x.2 (buffer_alone bytes) (sym (ap finished h) ∙ e) in
        let g : ◌≡◌ {A = Result (Item × Met × List ℕ) Fault} (Ok (Node (length x.1.nodes), record x.1 { nodes = x.1.nodes ++ View number offset count ∷ [] }, rest)) (Ok (Node v.number, v.met, v.rest)) = sym k ∙ v.reads in
        let same : record x.1 { nodes = x.1.nodes ++ View number offset count ∷ [] } ≡ v.met = ap (λ (t : Item × Met × List ℕ). t.1) (ok-is _ _ g) in
        let nodes : x.1.nodes ++ View number offset count ∷ [] ≡ v.met.nodes = ap (λ (m : Met). m.nodes) same in
        let one : 1 ≡ length x.1.nodes = ap length a.2 in
        let two : length (x.1.nodes ++ View number offset count ∷ []) ≡ length v.met.nodes = ap length nodes in
        let roots : Node 1 ≡ Node (length v.met.nodes) = sym second ∙ v.root_is in
        let at : 1 ≡ length v.met.nodes = cc in
        omega (arith, length-append x.1.nodes (View number offset count ∷ []), one, two, at)

-- ---- the law

seen-is : (parcel : Parcel) (bytes : List ℕ) → viewed_bytes parcel ≡ Some bytes → seen_at parcel.nodes parcel.root ≡ Some bytes
unfolding viewed_bytes
seen-is parcel bytes e = e

eqb-same : (n : ℕ) → eqb n n ≡ true
eqb-same n = search rules

-- Where the root is a view, what is cut off in its buffer, behind it, and behind the view's tag.
module _ (parcel : Parcel) (ports : ℕ) (checked : IsChecked parcel) (plain : IsPlain parcel) (below : IsTrue (ports_below ports parcel)) (bytes : List ℕ) (seen : seen_at parcel.nodes parcel.root ≡ Some bytes) where
  abbrev view_of : HasView parcel.nodes parcel.root bytes
  view_of = has_view parcel.nodes parcel.root bytes seen

  walk_of : IsWalked (has_view parcel.nodes parcel.root bytes seen).view (has_view parcel.nodes parcel.root bytes seen).of bytes
  walk_of = checked-walked parcel bytes checked view_of

  abbrev tail_of : List ℕ
  tail_of = 66 ∷ varint view_of.offset ++ (varint view_of.size ++ 0 ∷ [])

  spelled-is : spelled parcel ≡ spelled (buffer_alone bytes) ++ (86 ∷ tail_of)
  spelled-is = view-spelled parcel bytes view_of ∙ ap (λ (front : List ℕ). front ++ (86 ∷ tail_of)) (sym (alone-spelled bytes))

  alone-again : parcel_at ports (spelled (buffer_alone bytes)) ≡ Ok (buffer_alone bytes)
  alone-again = parcel-again (buffer_alone bytes) ports (alone-checked bytes view_of.view view_of.of walk_of) (alone-plain bytes) (alone-below bytes ports)

  in-buffer : (n : ℕ) → n < length (spelled (buffer_alone bytes)) → parcel_at ports (take n (spelled parcel)) ≡ cut
  in-buffer n lt =
      ap (λ (b : List ℕ). parcel_at ports (take n b)) spelled-is
      ∙ ap (parcel_at ports) (take-append-le n (spelled (buffer_alone bytes)) (86 ∷ tail_of) (omega arith))
      ∙ unviewed (buffer_alone bytes) ports n (alone-checked bytes view_of.view view_of.of walk_of) (alone-plain bytes) (alone-below bytes ports) (alone-unviewed bytes) lt

  at-tag : parcel_at ports (take (length (spelled (buffer_alone bytes))) (spelled parcel)) ≡ Ok (buffer_alone bytes)
  at-tag =
      ap (λ (b : List ℕ). parcel_at ports (take (length (spelled (buffer_alone bytes))) b)) spelled-is
      ∙ ap (parcel_at ports) (take-append_seam (spelled (buffer_alone bytes)) (86 ∷ tail_of))
      ∙ alone-again

  behind-tag : (more : ℕ) → (length (spelled (buffer_alone bytes)) + suc more) < length (spelled parcel) → parcel_at ports (take (length (spelled (buffer_alone bytes)) + suc more) (spelled parcel)) ≡ cut
  behind-tag more lt =
      let n = length (255 ∷ 15 ∷ buffer bytes) + suc more in
      let text = 255 ∷ 15 ∷ (buffer bytes ++ (86 ∷ tail_of)) in
      let is : spelled parcel ≡ text = view-spelled parcel bytes view_of in
      let same : length (spelled (buffer_alone bytes)) + suc more ≡ n = ap (λ (l : List ℕ). length l + suc more) (alone-spelled bytes) in
      let r = has_root-15 ports (buffer bytes ++ (86 ∷ tail_of)) parcel (ap (parcel_at ports) (sym is) ∙ parcel-again parcel ports checked plain below) in
      let within : n < length text = subst (λ (l : List ℕ). n < length l) is (subst (λ (k : ℕ). k < length (spelled parcel)) same lt) in
      let cut_off : parcel_at ports (take n text) ≡ cut = elim (parcel-front ports text parcel r n within) [
        | inl h ↦ h
        | inr h ↦
            let k : h.0 ≡ length (buffer bytes) + suc more = omega (arith, h.1) in
            let piece : take h.0 (buffer bytes ++ (86 ∷ tail_of)) ≡ buffer bytes ++ (86 ∷ take more tail_of) =
            ap (λ (k : ℕ). take k (buffer bytes ++ (86 ∷ tail_of))) k ∙ take-append-add (buffer bytes) (86 ∷ tail_of) (suc more) in
            let alone = (has_root-15 ports (buffer bytes) (buffer_alone bytes) (ap (parcel_at ports) (sym (alone-spelled bytes)) ∙ alone-again)).reads in
            absurd (tag-read ports bytes (buffer bytes) (take more tail_of) parcel alone (view_of.root_is ∙ ap (λ (k : ℕ). Node k) walk_of.view_is)
            (subst (λ (b : List ℕ). IsViewless (begun_at ports 15 b) parcel) piece h.2))
      ] in
      ap (λ (b : List ℕ). parcel_at ports (take (length (spelled (buffer_alone bytes)) + suc more) b)) is ∙ ap (λ (k : ℕ). parcel_at ports (take k text)) same ∙ cut_off

  viewed : (n : ℕ) → n < length (spelled parcel) → ReadsAs ports (take n (spelled parcel)) (buffer_in (Some bytes) n)
  viewed n lt = elim (cases_lt n (length (spelled (buffer_alone bytes)))) [
    | inl before ↦ rw (ne_eqb n (length (spelled (buffer_alone bytes))) (λ e. omega arith)) (in-buffer n before)
    | inr after ↦ at-or-behind n lt (n - length (spelled (buffer_alone bytes))) (omega arith)
  ]
    where
      at-or-behind : (n : ℕ) → n < length (spelled parcel) → (more : ℕ) → n ≡ length (spelled (buffer_alone bytes)) + more → ReadsAs ports (take n (spelled parcel)) (buffer_in (Some bytes) n)
      at-or-behind n lt zero e =
          let same : length (spelled (buffer_alone bytes)) ≡ n = omega arith in
          subst (λ (k : ℕ). ReadsAs ports (take k (spelled parcel)) (buffer_in (Some bytes) k)) same (rw (eqb-same (length (spelled (buffer_alone bytes)))) at-tag)
      at-or-behind n lt (suc more) e =
          let c = behind-tag more (subst (λ (k : ℕ). k < length (spelled parcel)) e lt) in
          rw (ne_eqb n (length (spelled (buffer_alone bytes))) (λ f. omega arith)) (subst (λ (k : ℕ). parcel_at ports (take k (spelled parcel)) ≡ cut) (sym e) c)

pub fronts : (parcel : Parcel) (ports n : ℕ) → IsChecked parcel → IsPlain parcel → IsTrue (ports_below ports parcel) → n < length (spelled parcel)
    → ReadsAs ports (take n (spelled parcel)) (front_read parcel n)
unfolding front_read
fronts parcel ports n checked plain below lt = by (viewed_bytes parcel) refl
  where
    by : (o : Option (List ℕ)) → viewed_bytes parcel ≡ o → ReadsAs ports (take n (spelled parcel)) (buffer_in (viewed_bytes parcel) n)
    by None e = subst (λ (o : Option (List ℕ)). ReadsAs ports (take n (spelled parcel)) (buffer_in o n)) (sym e) (unviewed parcel ports n checked plain below e lt)
    by (Some bytes) e = subst (λ (o : Option (List ℕ)). ReadsAs ports (take n (spelled parcel)) (buffer_in o n)) (sym e) (viewed parcel ports checked plain below bytes (seen-is parcel bytes e) n lt)
