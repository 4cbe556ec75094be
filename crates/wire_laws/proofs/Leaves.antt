-- A front of a value without items.
use Rattle.std.proofs.Common.{◌≡◌, ℕ, ℤ, pos, zero, suc, ◌+◌, ◌-◌, ◌*◌, List, [], ◌∷◌, ◌++◌, length, take, drop, Option, Some, None, Result, Ok, Err, Bool, true, false, refl, ap, inl, inr, arith}
use Rattle.std.specs.Prelude.{if◌then◌else◌, ◌==◌, ◌%◌, ◌/◌, nat_lt}
use Rattle.std.specs.Str.{is_utf8}
use Rattle.std.proofs.lemmas.Bool.{le-ltb, lt-ltb, cases_lt}
use Rattle.std.proofs.lemmas.List.{take-append-le, drop-append-le, length-append}
use Rattle.std.specs.Int.{w64, from_le_bytes}
use Rattle.wl_text.specs.Text.{units_of}
use Rattle.parcel.specs.declared.parcel.Item.{Item}
use Rattle.parcel.specs.declared.parcel.Item.TheVariants as items
use Rattle.parcel.specs.declared.parcel.PNode.{PNode}
use Rattle.parcel.specs.declared.parcel.PNode.TheVariants as nodes
use Rattle.parcel.specs.declared.parcel.ErrorKind.{ErrorKind}
use Rattle.parcel.specs.declared.parcel.ErrorKind.TheVariants.{EvalError, RangeError, ReferenceError, SyntaxError, TypeError, URIError}
use Rattle.v8_wire.specs.declared.kind.WireKind.{WireKind}
use Rattle.v8_wire.specs.declared.kind.WireKind.TheVariants.{TooLarge}
use Rattle.v8_wire.specs.Faults.{◌>>=◌}
use Rattle.v8_wire.specs.Met.{are_full, with_units, with_node}
use Rattle.v8_wire.specs.Number.{groups_at, varint_at, told_whole, whole_of, double_at, number_at, unzigzag}
use Rattle.v8_wire.specs.Text.{bytes_at, narrow_at, wide_at, decoded, utf8_at, string_at, pairs}
use Rattle.v8_wire.specs.Leaf.{is_number_tag, is_text_tag, is_node_tag, is_composite_tag, rather, text_with, text_at, kind_at, message_at, stack_at, end_at, error_at, port_at, buffer_at, node_at, placed_at, reference_at, counted_text_at, leaf_at, refused}
use Rattle.wire_laws.proofs.Cut.{Fault, Met, Front, Exactly, same, after1, after2, after3, behind, either, unpadded-front}
use Rattle.wire_laws.proofs.Cut.Front.{failed, ended, gives}

-- ---- what may not stand is refused

rather-fails : {A B : Type 0} (kind : WireKind) (left : ℕ) (read : Result A Fault) → (f : Fault) × (rather {B = B} kind left read ≡ Err f)
rather-fails kind left (Ok x) = (_, refl)
rather-fails kind left (Err f) = (_, refl)

pub refused-fails : (A : Type 0) (kind : WireKind) (tag : ℕ) (met : Met) (left : ℕ) (bytes : List ℕ) → (f : Fault) × (refused {A = A} kind tag met left bytes ≡ Err f)
unfolding refused
refused-fails A kind tag met left bytes = by (is_composite_tag tag) (rather-fails {B = A} kind left (leaf_at tag met left bytes))
  where
    by : (test : Bool) → (f : Fault) × (rather {B = A} kind left (leaf_at tag met left bytes) ≡ Err f)
        → (f : Fault) × ((if test then Err (record { left = left; kind = kind }) else rather {B = A} kind left (leaf_at tag met left bytes)) ≡ Err f)
    by true h = (_, refl)
    by false h = h

pub units-front : (left left' more : ℕ) (met : Met) → Front Met (Exactly same) (with_units left more met) (with_units left' more met)
units-front left left' more met = either (nat_lt 16_777_216 (met.units + more)) (failed _ refl) (gives _ refl refl)

pub node-front : (left left' : ℕ) (node : PNode) (met : Met) → Front (ℕ × Met) (Exactly same) (with_node left node met) (with_node left' node met)
node-front left left' node met = either (are_full met.nodes) (failed _ refl) (gives _ refl refl)

module _ (back : List ℕ) where
  -- ---- numbers

  groups-front : (left left' more : ℕ) (bytes : List ℕ) → Front (ℕ × List ℕ) (Exactly (after2 back)) (groups_at left more (bytes ++ back)) (groups_at left' more bytes)
  unfolding groups_at
  groups-front left left' zero [] = ended refl
  groups-front left left' (suc more) [] = ended refl
  groups-front left left' zero (b ∷ rest) = either (nat_lt b 16) (gives (b, rest) refl refl) (failed _ refl)
  groups-front left left' (suc more) (b ∷ rest) = either (nat_lt b 128) (gives (b, rest) refl refl)
      (behind (after2 back) _ _ (groups-front left left' more rest) (λ x. gives (b - 128 + 128 * x.0, x.1) refl refl))

  pub varint-front : (bytes : List ℕ) → Front (ℕ × List ℕ) (Exactly (after2 back)) (varint_at (bytes ++ back)) (varint_at bytes)
  unfolding varint_at
  varint-front bytes = groups-front (length (bytes ++ back)) (length bytes) 4 bytes

  told-front : (left left' : ℕ) (rest : List ℕ) (o : Option ℤ) → Front (ℤ × List ℕ) (Exactly (after2 back)) (told_whole left (rest ++ back) o) (told_whole left' rest o)
  told-front left left' rest None = failed _ refl
  told-front left left' rest (Some n) = gives (n, rest) refl refl

  double-front : (left left' : ℕ) (bytes : List ℕ) → Front (ℤ × List ℕ) (Exactly (after2 back)) (double_at left (bytes ++ back)) (double_at left' bytes)
  unfolding double_at
  double-front left left' bytes = elim (cases_lt (length bytes) 8) [
    | inl lt ↦ rw (lt-ltb (length bytes) 8 lt) (ended refl)
    | inr le ↦ rw (
      le-ltb (length bytes) 8 le,
      le-ltb (length (bytes ++ back)) 8 (omega (arith, length-append bytes back)),
      take-append-le 8 bytes back le,
      drop-append-le 8 bytes back le,
    ) (told-front left left' (drop 8 bytes) (whole_of (from_le_bytes w64 (take 8 bytes))))
  ]

  pub number-front : (tag left left' : ℕ) (bytes : List ℕ) → Front (ℤ × List ℕ) (Exactly (after2 back)) (number_at tag left (bytes ++ back)) (number_at tag left' bytes)
  unfolding number_at
  number-front tag left left' bytes = either (tag == 73) (behind (after2 back) _ _ (varint-front bytes) (λ n. gives (unzigzag n.0, n.1) refl refl))
      (either (tag == 85) (behind (after2 back) _ _ (varint-front bytes) (λ n. gives (pos n.0, n.1) refl refl)) (double-front left left' bytes))

  -- ---- strings

  bytes-front : (count : ℕ) (bytes : List ℕ) → Front (List ℕ × List ℕ) (Exactly (after2 back)) (bytes_at count (bytes ++ back)) (bytes_at count bytes)
  bytes-front count bytes = elim (cases_lt (length bytes) count) [
    | inl lt ↦ rw (lt-ltb (length bytes) count lt) (ended refl)
    | inr le ↦ rw (
      le-ltb (length bytes) count le,
      le-ltb (length (bytes ++ back)) count (omega (arith, length-append bytes back)),
      take-append-le count bytes back le,
      drop-append-le count bytes back le,
    ) (gives (take count bytes, drop count bytes) refl refl)
  ]

  narrow-front : (left left' : ℕ) (bytes : List ℕ) → Front (List ℕ × List ℕ) (Exactly (after2 back)) (narrow_at left (bytes ++ back)) (narrow_at left' bytes)
  unfolding narrow_at
  narrow-front left left' bytes = behind (after2 back) _ _ (varint-front bytes) (λ n. either (nat_lt 1_048_576 n.0) (failed _ refl) (bytes-front n.0 n.1))

  wide-front : (left left' : ℕ) (bytes : List ℕ) → Front (List ℕ × List ℕ) (Exactly (after2 back)) (wide_at left (bytes ++ back)) (wide_at left' bytes)
  unfolding wide_at
  wide-front left left' bytes = behind (after2 back) _ _ (varint-front bytes) (λ n. either (n.0 % 2 == 1) (failed _ refl)
      (either (nat_lt 1_048_576 (n.0 / 2)) (failed _ refl) (behind (after2 back) _ _ (bytes-front n.0 n.1) (λ x. gives (pairs x.0, x.1) refl refl))))

  decoded-front : (left left' : ℕ) (bytes : List ℕ) → Front (List ℕ) (Exactly same) (decoded left bytes) (decoded left' bytes)
  unfolding decoded
  decoded-front left left' bytes = either (is_utf8 bytes)
      (either (nat_lt 1_048_576 (length (units_of bytes))) (failed _ refl) (gives _ refl refl)) (failed _ refl)

  utf8-front : (left left' : ℕ) (bytes : List ℕ) → Front (List ℕ × List ℕ) (Exactly (after2 back)) (utf8_at left (bytes ++ back)) (utf8_at left' bytes)
  unfolding utf8_at
  utf8-front left left' bytes = behind (after2 back) _ _ (varint-front bytes) (λ n. behind (after2 back) _ _ (bytes-front n.0 n.1) (λ x.
      behind same _ _ (decoded-front left left' x.0) (λ units. gives (units, x.1) refl refl)))

  pub string-front : (tag left left' : ℕ) (bytes : List ℕ) → Front (List ℕ × List ℕ) (Exactly (after2 back)) (string_at tag left (bytes ++ back)) (string_at tag left' bytes)
  unfolding string_at
  string-front tag left left' bytes = either (tag == 34) (narrow-front left left' bytes) (either (tag == 99) (wide-front left left' bytes) (utf8-front left left' bytes))

  -- ---- errors

  abbrev after_text : ℕ × List ℕ × List ℕ → ℕ × List ℕ × List ℕ
  after_text x = (x.0 + length back, x.1, x.2 ++ back)

  text_with-front : (tag : ℕ) (bytes : List ℕ) → Front (ℕ × List ℕ × List ℕ) (Exactly after_text) (text_with (tag ∷ (bytes ++ back))) (text_with (tag ∷ bytes))
  unfolding text_with
  text_with-front tag bytes = either (is_text_tag tag)
      (behind (after2 back) _ _ (string-front tag (length (tag ∷ (bytes ++ back))) (length (tag ∷ bytes)) bytes)
      (λ s. gives (length (tag ∷ bytes), s.0, s.1) refl (ap (λ (left : ℕ). Ok (left, s.0, s.1 ++ back)) (length-append (tag ∷ bytes) back)))) (failed _ refl)

  text-front : (bytes : List ℕ) → Front (ℕ × List ℕ × List ℕ) (Exactly after_text) (text_at (bytes ++ back)) (text_at bytes)
  unfolding text_at text_with
  text-front bytes = elim (unpadded-front back bytes) [
    | inl e ↦ rw e (ended refl)
    | inr h ↦ rw (h.2, h.3) (text_with-front h.0 h.1)
  ]

  choose : (test : Bool) (kind : ErrorKind) (rest : List ℕ) (x y : ErrorKind × List ℕ) → y ≡ after2 back x
      → (if test then (kind, rest ++ back) else y) ≡ after2 back (if test then (kind, rest) else x)
  choose true kind rest x y e = refl
  choose false kind rest x y e = e

  kind-front : (b : ℕ) (rest : List ℕ) → kind_at (b ∷ (rest ++ back)) ≡ after2 back (kind_at (b ∷ rest))
  unfolding kind_at
  kind-front b rest = choose (b == 69) EvalError rest _ _ (choose (b == 82) RangeError rest _ _ (choose (b == 70) ReferenceError rest _ _
      (choose (b == 83) SyntaxError rest _ _ (choose (b == 84) TypeError rest _ _ (choose (b == 85) URIError rest _ _ refl)))))

  message-front : (met : Met) (b : ℕ) (bytes : List ℕ) → Front (Option (List ℕ) × Met × List ℕ) (Exactly (after3 back)) (message_at met (b ∷ (bytes ++ back))) (message_at met (b ∷ bytes))
  unfolding message_at
  message-front met b bytes = either (b == 109) (behind after_text _ _ (text-front bytes) (λ x. behind same _ _ (units-front (x.0 + length back) x.0 (length x.1) met)
      (λ counted. gives (Some x.1, counted, x.2) refl refl))) (gives (None, met, b ∷ bytes) refl refl)

  stack-front : (b : ℕ) (bytes : List ℕ) → Front (List ℕ) (Exactly (after1 back)) (stack_at (b ∷ (bytes ++ back))) (stack_at (b ∷ bytes))
  unfolding stack_at
  stack-front b bytes = either (b == 115) (behind after_text _ _ (text-front bytes) (λ x. gives x.2 refl refl)) (gives (b ∷ bytes) refl refl)

  end-front : (bytes : List ℕ) → Front (List ℕ) (Exactly (after1 back)) (end_at (bytes ++ back)) (end_at bytes)
  unfolding end_at
  end-front [] = ended refl
  end-front (b ∷ rest) = either (b == 46) (gives rest refl refl) (failed _ refl)

  -- the end of an error, behind its message
  abbrev closed : ErrorKind → Option (List ℕ) → Met → List ℕ → Result (PNode × Met × List ℕ) Fault
  closed kind text met bytes = stack_at bytes >>= λ rest. end_at rest >>= λ rest. Ok (nodes.Error kind text, met, rest)

  closed-front : (kind : ErrorKind) (text : Option (List ℕ)) (met : Met) (bytes : List ℕ) → Front (PNode × Met × List ℕ) (Exactly (after3 back)) (closed kind text met (bytes ++ back)) (closed kind text met bytes)
  unfolding stack_at end_at
  closed-front kind text met [] = ended refl
  closed-front kind text met (b ∷ bytes) = behind (after1 back) _ _ (stack-front b bytes) (λ rest. behind (after1 back) _ _ (end-front rest) (λ rest. gives (nodes.Error kind text, met, rest) refl refl))

  abbrev told_error : ErrorKind → Met → List ℕ → Result (PNode × Met × List ℕ) Fault
  told_error kind met bytes = message_at met bytes >>= λ m. closed kind m.0 m.1 m.2

  told_error-front : (kind : ErrorKind) (met : Met) (bytes : List ℕ) → Front (PNode × Met × List ℕ) (Exactly (after3 back)) (told_error kind met (bytes ++ back)) (told_error kind met bytes)
  unfolding message_at stack_at end_at
  told_error-front kind met [] = ended refl
  told_error-front kind met (b ∷ bytes) = behind (after3 back) _ _ (message-front met b bytes) (λ m. closed-front kind m.0 m.1 m.2)

  error-front : (met : Met) (bytes : List ℕ) → Front (PNode × Met × List ℕ) (Exactly (after3 back)) (error_at met (bytes ++ back)) (error_at met bytes)
  unfolding error_at kind_at message_at stack_at end_at
  error-front met [] = ended refl
  error-front met (b ∷ bytes) = rw (kind-front b bytes) (told_error-front (kind_at (b ∷ bytes)).0 met (kind_at (b ∷ bytes)).1)

  -- ---- nodes without items

  port-front : (met : Met) (left left' : ℕ) (bytes : List ℕ) → Front (PNode × Met × List ℕ) (Exactly (after3 back)) (port_at met left (bytes ++ back)) (port_at met left' bytes)
  unfolding port_at
  port-front met left left' [] = ended refl
  port-front met left left' (b ∷ rest) = either (b == 77) (behind (after2 back) _ _ (varint-front rest) (λ n. either (nat_lt n.0 met.ports)
      (gives (nodes.Port n.0, met, n.1) refl refl) (failed _ refl))) (failed _ refl)

  buffer-front : (met : Met) (left left' : ℕ) (bytes : List ℕ) → Front (PNode × Met × List ℕ) (Exactly (after3 back)) (buffer_at met left (bytes ++ back)) (buffer_at met left' bytes)
  unfolding buffer_at
  buffer-front met left left' bytes = behind (after2 back) _ _ (varint-front bytes) (λ n. either (nat_lt 1_048_576 n.0) (failed _ refl)
      (behind (after2 back) _ _ (bytes-front n.0 n.1) (λ x. behind same _ _ (units-front left left' (length x.0) met) (λ counted. gives (nodes.Buffer x.0, counted, x.1) refl refl))))

  node_at-front : (tag : ℕ) (met : Met) (left left' : ℕ) (bytes : List ℕ) → Front (PNode × Met × List ℕ) (Exactly (after3 back)) (node_at tag met left (bytes ++ back)) (node_at tag met left' bytes)
  unfolding node_at
  node_at-front tag met left left' bytes = either (tag == 114) (error-front met bytes) (either (tag == 92) (port-front met left left' bytes) (buffer-front met left left' bytes))

  placed-front : (tag : ℕ) (met : Met) (left left' : ℕ) (bytes : List ℕ) → Front (Item × Met × List ℕ) (Exactly (after3 back)) (placed_at tag met left (bytes ++ back)) (placed_at tag met left' bytes)
  unfolding placed_at
  placed-front tag met left left' bytes =
      let fails = rather-fails {B = Item × Met × List ℕ} TooLarge left (node_at tag met left (bytes ++ back)) in
      either (are_full met.nodes) (failed fails.0 fails.1)
      (behind (after3 back) _ _ (node_at-front tag met left left' bytes) (λ x. behind same _ _ (node-front left left' x.0 x.1) (λ n. gives (items.Node n.0, n.1, x.2) refl refl)))

  reference-front : (met : Met) (left left' : ℕ) (bytes : List ℕ) → Front (Item × Met × List ℕ) (Exactly (after3 back)) (reference_at met left (bytes ++ back)) (reference_at met left' bytes)
  unfolding reference_at
  reference-front met left left' bytes = behind (after2 back) _ _ (varint-front bytes) (λ n. either (nat_lt n.0 (length met.nodes)) (gives (items.Node n.0, met, n.1) refl refl) (failed _ refl))

  counted-front : (tag : ℕ) (met : Met) (left left' : ℕ) (bytes : List ℕ) → Front (Item × Met × List ℕ) (Exactly (after3 back)) (counted_text_at tag met left (bytes ++ back)) (counted_text_at tag met left' bytes)
  unfolding counted_text_at
  counted-front tag met left left' bytes = behind (after2 back) _ _ (string-front tag left left' bytes) (λ s. behind same _ _ (units-front left left' (length s.0) met)
      (λ counted. gives (items.Str s.0, counted, s.1) refl refl))

  pub leaf-front : (tag : ℕ) (met : Met) (left left' : ℕ) (bytes : List ℕ) → Front (Item × Met × List ℕ) (Exactly (after3 back)) (leaf_at tag met left (bytes ++ back)) (leaf_at tag met left' bytes)
  unfolding leaf_at
  leaf-front tag met left left' bytes = either (tag == 95) (gives (items.Undefined, met, bytes) refl refl)
      (either (tag == 48) (gives (items.Null, met, bytes) refl refl)
      (either (tag == 84) (gives (items.Bool true, met, bytes) refl refl)
      (either (tag == 70) (gives (items.Bool false, met, bytes) refl refl)
      (either (is_number_tag tag) (behind (after2 back) _ _ (number-front tag left left' bytes) (λ n. gives (items.Num n.0, met, n.1) refl refl))
      (either (is_text_tag tag) (counted-front tag met left left' bytes)
      (either (is_node_tag tag) (placed-front tag met left left' bytes)
      (either (tag == 94) (reference-front met left left' bytes) (failed _ refl))))))))
