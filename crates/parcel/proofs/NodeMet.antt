-- What the first visit of a node tells, by its kind.
use Rattle.std.proofs.Common.{◌≡◌, ℕ, ◌+◌, ◌<◌, Bool as Boolean, true, List, map, slice_get, Option, Some, None, refl, sym, ap, ◌∙◌, subst}
use Rattle.parcel.specs.Keys.{are_keys}
use Rattle.parcel.specs.Checked.{◌>>=◌, is_text, is_word, is_contents, only_if, with_message, with_contents, numbered, in_turn, visit_property, visit_entry, contents_met, buffer_met, node_met}
use Rattle.parcel.specs.declared.parcel.Item.{Item}
use Rattle.parcel.specs.declared.parcel.PNode.{PNode}
use Rattle.parcel.specs.declared.parcel.PNode.TheVariants.{Object, Array, Error, Map, Set, Port, Buffer, View}
use Rattle.parcel.specs.declared.tally.Tally.{Tally}
use Rattle.parcel.proofs.Tallies.{both, only_if-told, numbered-told, with_text-told, with_contents-told, BufferTold, buffer-told}

-- The node took its number, and then its contents were walked.
pub record Listed (number : ℕ) (met : Tally) (walk : Tally → Option Tally) (now : Tally) : Type 0 where
  pub start : Tally
  pub given : numbered number met ≡ Some start
  pub walked : walk start ≡ Some now

-- The node took its number, and no node stands in it.
pub record Alone (number : ℕ) (met now : Tally) (holds : Boolean) : Type 0 where
  pub first : number ≡ met.nodes
  pub low : number < 100_000
  pub next : now.nodes ≡ number + 1
  pub tested : holds ≡ true

-- The view's buffer, and then the view.
pub record Viewed (nodes : List PNode) (number buffer offset size : ℕ) (met now : Tally) : Type 0 where
  pub behind : Tally
  pub buffer_told : BufferTold buffer offset size (slice_get nodes buffer) met behind
  pub first : number ≡ behind.nodes
  pub low : number < 100_000
  pub next : now.nodes ≡ number + 1
  pub given : numbered number behind ≡ Some now

-- a message is a text
abbrev pub is_message : Option (List ℕ) → Boolean
is_message None = true
is_message (Some message) = is_text message

abbrev pub NodeTold : (Item → Tally → Option Tally) → List PNode → ℕ → PNode → Tally → Tally → Type 0
NodeTold visit nodes number (Object properties) met now = Listed number met (in_turn (visit_property visit) properties) now
NodeTold visit nodes number (Array items) met now = Listed number met (in_turn visit items) now
NodeTold visit nodes number (Error kind message) met now = Alone number met now (is_message message)
NodeTold visit nodes number (Map entries) met now = Listed number met (in_turn (visit_entry visit) entries) now
NodeTold visit nodes number (Set items) met now = Listed number met (in_turn visit items) now
NodeTold visit nodes number (Port place) met now = Alone number met now (is_word place)
NodeTold visit nodes number (Buffer bytes) met now = Alone number met now (is_contents bytes)
NodeTold visit nodes number (View buffer offset size) met now = Viewed nodes number buffer offset size met now

message-told : (message : Option (List ℕ)) (met now : Tally) → with_message message met ≡ Some now → (is_message message ≡ true) × (now.nodes ≡ met.nodes)
message-told None met now e = (refl, let same : met ≡ now = cc in sym (ap (λ t. t.nodes) same))
message-told (Some message) met now e = with_text-told message met now e

listed : (visit : Item → Tally → Option Tally) (number : ℕ) (node : PNode) (walk : Tally → Option Tally) (met now : Tally)
    → (numbered number met >>= walk) ≡ Some now → Listed number met walk now
listed visit number node walk met now e =
    let steps = both (numbered number met) walk now e in
    record { start = steps.0; given = steps.1; walked = steps.2 }

pub node-told : (visit : Item → Tally → Option Tally) (nodes : List PNode) (number : ℕ) (node : PNode) (met now : Tally)
    → node_met visit nodes number node met ≡ Some now → NodeTold visit nodes number node met now
unfolding node_met contents_met
node-told visit nodes number (Object properties) met now e =
    let keys = are_keys (map (λ property. property.0) properties) in
    let steps = both (numbered number met) (λ found. only_if keys found >>= in_turn (visit_property visit) properties) now e in
    let more = both (only_if keys steps.0) (in_turn (visit_property visit) properties) now steps.2 in
    let test = only_if-told keys steps.0 more.0 more.1 in
    record { start = steps.0; given = steps.1; walked = subst (λ (t : Tally). in_turn (visit_property visit) properties t ≡ Some now) test.1 more.2 }
node-told visit nodes number (Array items) met now e = listed visit number (Array items) (in_turn visit items) met now e
node-told visit nodes number (Map entries) met now e = listed visit number (Map entries) (in_turn (visit_entry visit) entries) met now e
node-told visit nodes number (Set items) met now e = listed visit number (Set items) (in_turn visit items) met now e
node-told visit nodes number (Error kind message) met now e =
    let steps = both (numbered number met) (with_message message) now e in
    let given = numbered-told number met steps.0 steps.1 in
    let told = message-told message steps.0 now steps.2 in
    record { first = given.0; low = given.1; next = told.1 ∙ given.2; tested = told.0 }
node-told visit nodes number (Port place) met now e =
    let steps = both (numbered number met) (only_if (is_word place)) now e in
    let given = numbered-told number met steps.0 steps.1 in
    let told = only_if-told (is_word place) steps.0 now steps.2 in
    record { first = given.0; low = given.1; next = ap (λ t. t.nodes) told.1 ∙ given.2; tested = told.0 }
node-told visit nodes number (Buffer bytes) met now e =
    let steps = both (numbered number met) (with_contents bytes) now e in
    let given = numbered-told number met steps.0 steps.1 in
    let told = with_contents-told bytes steps.0 now steps.2 in
    record { first = given.0; low = given.1; next = told.1 ∙ given.2; tested = told.0 }
node-told visit nodes number (View buffer offset size) met now e =
    let steps = both (buffer_met buffer offset size (slice_get nodes buffer) met) (numbered number) now e in
    let given = numbered-told number steps.0 now steps.2 in
    record {
      behind = steps.0;
      buffer_told = buffer-told buffer offset size (slice_get nodes buffer) met steps.0 steps.1;
      first = given.0;
      low = given.1;
      next = given.2;
      given = steps.2;
    }

-- A node that was met for the first time has a number within the limit.
pub node-low : (visit : Item → Tally → Option Tally) (nodes : List PNode) (number : ℕ) (node : PNode) (met now : Tally)
    → node_met visit nodes number node met ≡ Some now → number < 100_000
node-low visit nodes number (Object properties) met now e =
    let t = node-told visit nodes number (Object properties) met now e in (numbered-told number met t.start t.given).1
node-low visit nodes number (Array items) met now e =
    let t = node-told visit nodes number (Array items) met now e in (numbered-told number met t.start t.given).1
node-low visit nodes number (Map entries) met now e =
    let t = node-told visit nodes number (Map entries) met now e in (numbered-told number met t.start t.given).1
node-low visit nodes number (Set items) met now e =
    let t = node-told visit nodes number (Set items) met now e in (numbered-told number met t.start t.given).1
node-low visit nodes number (Error kind message) met now e = (node-told visit nodes number (Error kind message) met now e).low
node-low visit nodes number (Port place) met now e = (node-told visit nodes number (Port place) met now e).low
node-low visit nodes number (Buffer bytes) met now e = (node-told visit nodes number (Buffer bytes) met now e).low
node-low visit nodes number (View buffer offset size) met now e = (node-told visit nodes number (View buffer offset size) met now e).low
