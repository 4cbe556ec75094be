-- Members of object literals.
use Rattle.std.proofs.Common.{inl, inr, true, false, Bool, ◌≡◌, ℕ, List, [], ◌∷◌, refl, ap, sym, ◌∙◌, codes}
use Rattle.std.specs.Prelude.{Some, if◌then◌else◌, Ok, Err}
use Rattle.grammar.specs.Kinds.{among, apart}
use Rattle.grammar.specs.Reading.{firsts, nullable}
use Rattle.grammar.specs.Tests.{InPlace}
use Rattle.grammar.specs.Grammar.{Tree, tip, leaf, pair, both, either, call, starts, entry}
use Rattle.std.proofs.lemmas.List.{append-nil}
use Rattle.js_token.specs.declared.token.Token.{Token}
use Rattle.js_tree.specs.Nodes.{Nodes}
use Rattle.js_tree.specs.declared.node.NodeId.{NodeId}
use Rattle.js_tree.specs.declared.node.Node.TheVariants as made
use Rattle.js_tree.specs.declared.node.Function.{Function}
use Rattle.js_grammar.specs.Kinds.{kinds, mark}
use Rattle.js_grammar.specs.Script.{key, behind_key, property, object_rule, getter, setter, Rule, rules, optional}
use Rattle.js_parse.specs.declared.symbol.Symbol.{Symbol}
use Rattle.js_parse.specs.declared.symbol.Symbol.TheVariants as s
use Rattle.js_parse.specs.declared.part.Part.{Part}
use Rattle.js_parse.specs.declared.part.Part.TheVariants as parts
use Rattle.js_parse.specs.declared.part.Found.{Found}
use Rattle.js_parse.specs.Symbols.{of_kind, same}
use Rattle.js_parse.specs.Input.{number, take_number, ◌<$>◌, Parser, Input, and_then, symbol, text as text_next, any_name as any_name_next, text_of, place, next, add, take_text, sees, after, ◌>>=◌}
use Rattle.js_parse.specs.Grammar as g
use Rattle.js_parse.specs.Grammar.{number_key, begins_key}
use Rattle.js_tree.specs.declared.node.PropertyKey.{PropertyKey}
use Rattle.js_tree.specs.declared.node.PropertyKey.TheVariants as pkey
use Rattle.js_tree.specs.declared.node.Node.{Node}
use Rattle.js_parse.specs.Nesting.{part_at}
use Rattle.parse_laws.specs.Kinds.{numbered, token_kind}
use Rattle.parse_laws.specs.Trees as mk
use Rattle.parse_laws.specs.Trees.{Parts, parts_at, place_in, symbol_in, first_token, first, second, under, Build}
use Rattle.parse_laws.proofs.Guided.{guided, Goes, done, wrong}
use Rattle.parse_laws.proofs.Sound.{vacant, read-front, read-maybe}
use Rattle.parse_laws.proofs.Walk.{ahead, rule, told, built, Sim, step, step-expect, if-alike, goes-so, each-takes, language, at_kind, none-at_end}
use Rattle.parse_laws.proofs.Begun.{refusals, sim-by, kind-at, tables}
use Rattle.parse_laws.proofs.Steps.{step-same, step-same+, sim-by-at, sim-at, any_name-at}
use Rattle.parse_laws.proofs.Symbols.{only-open_brace, only-close_brace}
use Rattle.parse_laws.proofs.Loops.{listed-sim, none-first}
use Rattle.parse_laws.proofs.Parted.{Parted}
use Rattle.parse_laws.proofs.Arrows.{assign-sim}

abbrev pub key_by : (Part → Parser Found) → Symbol → Parser PropertyKey
key_by part s.OpenBracket = pkey.Computed <$> g.node_of part parts.ComputedKey
key_by part s.Text = pkey.Written <$> take_text
key_by part s.Number = number_key <$> take_number
key_by part _ = pkey.Written <$> any_name_next

module _ (depth : ℕ) (h : Parted depth) where
  pub key-at : (t : Token) (ts : List Token) (ns : Nodes) (symbol : Symbol) (broken : Bool) → of_kind t.kind ≡ symbol → t.broken ≡ broken
      → told (key_by (part_at depth) symbol (t ∷ ts, ns)) ≡ at_kind depth (numbered symbol broken) key (t ∷ ts) (built (mk.key_by (parts_at depth) symbol) ns)
  unfolding at_kind tables text_next number next first_token guided
  key-at t ts ns s.OpenBracket false e f = step h.computed_part (t ∷ ts) ns _ _ (λ a rest. refl)
  key-at t ts ns s.OpenBracket true e f = step h.computed_part (t ∷ ts) ns _ _ (λ a rest. refl)
  key-at t ts ns s.Text false e f = refl
  key-at t ts ns s.Text true e f = refl
  key-at t ts ns s.Number false e f = refl
  key-at t ts ns s.Number true e f = refl
  key-at t ts ns x false e f = any_name-at x t ts ns _ e
  key-at t ts ns x true e f = any_name-at x t ts ns _ e

  pub key-sim : Sim depth (g.property_key (part_at depth)) key (mk.property_key (parts_at depth))
  unfolding g.property_key mk.property_key vacant any_name_next symbol refusals
  key-sim = sim-by depth (key_by (part_at depth)) (mk.key_by (parts_at depth)) key refl (λ ns. refl) key-at

  -- ---- behind a key

  abbrev pub under_by : PropertyKey → ℕ → Symbol → Parser NodeId
  under_by written at symbol i = (if same symbol s.Colon then (g.assign (part_at depth) true >>= λ value. add (made.Property written value) at)
      else (g.body_of (part_at depth) parts.Method >>= λ function. add (made.Method written function) at)) (if same symbol s.Colon then next i else i)

  pub under-at : (written : PropertyKey) (at : ℕ) (t : Token) (ts : List Token) (ns : Nodes) (symbol : Symbol) (broken : Bool) → of_kind t.kind ≡ symbol → t.broken ≡ broken
      → told (under_by written at symbol (t ∷ ts, ns)) ≡ at_kind depth (numbered symbol broken) behind_key (t ∷ ts) (built (mk.member_under_by (parts_at depth) symbol written at) ns)
  unfolding at_kind tables same next add guided
  under-at written at t ts ns s.Colon false e f = step (assign-sim depth h true) ts ns _ _ (λ a rest. refl)
  under-at written at t ts ns s.Colon true e f = step (assign-sim depth h true) ts ns _ _ (λ a rest. refl)
  under-at written at t ts ns x false e f = step h.method_part (t ∷ ts) ns _ (built (mk.member_under_by (parts_at depth) x written at) ns) (λ a rest. refl)
      ∙ kind-at depth x false (call 21) t ts (built (mk.member_under_by (parts_at depth) x written at) ns) e f
  under-at written at t ts ns x true e f = step h.method_part (t ∷ ts) ns _ (built (mk.member_under_by (parts_at depth) x written at) ns) (λ a rest. refl)
      ∙ kind-at depth x true (call 21) t ts (built (mk.member_under_by (parts_at depth) x written at) ns) e f

  pub method-end : (written : PropertyKey) (at : ℕ) (ns : Nodes) → told (under_by written at s.End ([], ns)) ≡ Err (wrong [])
  unfolding same vacant
  method-end written at ns = none-first (g.body_of (part_at depth) parts.Method ([], ns)) _ (h.method_part.holds [] ns ∙ none-at_end depth (call 21) refl _)

  pub under-sim : (written : PropertyKey) (at : ℕ) → Sim depth (g.member_under (part_at depth) written at) behind_key (mk.member_under (parts_at depth) written at)
  unfolding g.member_under mk.member_under sees symbol after vacant
  under-sim written at = sim-by depth (under_by written at) (λ symbol. mk.member_under_by (parts_at depth) symbol written at) behind_key refl (method-end written at) (under-at written at)

  abbrev pub begins_under : Symbol → Bool
  begins_under s.Colon = true
  begins_under s.OpenParen = true
  begins_under _ = false

  pub under-agrees : (symbol : Symbol) (broken : Bool) → begins_under symbol ≡ among (firsts language.heads behind_key) (numbered symbol broken)
  unfolding tables
  under-agrees s.Colon false = refl
  under-agrees s.Colon true = refl
  under-agrees _ false = refl
  under-agrees _ true = refl

  abbrev pub named_by : List ℕ → ℕ → Symbol → Parser NodeId
  named_by text at s.Colon = g.member_under (part_at depth) (pkey.Written text) at
  named_by text at s.OpenParen = g.member_under (part_at depth) (pkey.Written text) at
  named_by text at _ = g.shorthand (part_at depth) text at

  pub named-is : (text : List ℕ) (at : ℕ) (symbol : Symbol) (i : Input) → told (named_by text at symbol i) ≡ (if begins_under symbol then told (g.member_under (part_at depth) (pkey.Written text) at i) else told (g.shorthand (part_at depth) text at i))
  named-is text at s.Colon i = refl
  named-is text at s.OpenParen i = refl
  named-is text at _ i = refl

  pub named-under : (text : List ℕ) (at : ℕ) (t : Token) (ts : List Token) (ns : Nodes) → told (g.member_under (part_at depth) (pkey.Written text) at (t ∷ ts, ns))
      ≡ guided language ahead (rule depth) behind_key (t ∷ ts) (built (mk.named_member (parts_at depth) text at) ns)
  unfolding mk.named_member vacant
  named-under text at t ts ns = step-same+ (under-sim (pkey.Written text) at) (t ∷ ts) ns _ (λ a rest e.
      let f = read-front language ahead depth each-takes behind_key refl (t ∷ ts) rest a e in
      let front : first_token a ≡ Some f.0 = f.3 in rw front refl)

  pub named-holds : (text : List ℕ) (at : ℕ) (ts : List Token) (ns : Nodes) → told (g.named_member (part_at depth) text at (ts, ns)) ≡ guided language ahead (rule depth) (optional behind_key) ts (built (mk.named_member (parts_at depth) text at) ns)
  unfolding g.named_member g.shorthand mk.named_member mk.shorthand guided symbol token_kind first_token add
  named-holds text at [] ns = refl
  named-holds text at (t ∷ ts) ns = named-is text at (of_kind t.kind) (t ∷ ts, ns)
      ∙ ap (λ b. if b then told (g.member_under (part_at depth) (pkey.Written text) at (t ∷ ts, ns)) else told (g.shorthand (part_at depth) text at (t ∷ ts, ns))) (under-agrees (of_kind t.kind) t.broken)
      ∙ if-alike (among (firsts language.heads behind_key) (token_kind t)) _ (told (g.shorthand (part_at depth) text at (t ∷ ts, ns))) _ (built (mk.named_member (parts_at depth) text at) ns tip (t ∷ ts))
      (named-under text at t ts ns) refl

  pub named-sim : (text : List ℕ) (at : ℕ) → Sim depth (g.named_member (part_at depth) text at) (optional behind_key) (mk.named_member (parts_at depth) text at)
  named-sim text at = record { holds = named-holds text at }

  -- ---- behind `get` and `set`

  pub begins-agrees : (symbol : Symbol) (broken : Bool) → begins_key symbol ≡ among (firsts language.heads key) (numbered symbol broken)
  unfolding tables
  begins-agrees s.Text false = refl
  begins-agrees s.Text true = refl
  begins-agrees _ false = refl
  begins-agrees _ true = refl

  abbrev pub accessor_x : Rule → Rule
  accessor_x x = both key x

  abbrev pub accessor_js : Part → (PropertyKey → Function → Node) → List ℕ → ℕ → Bool → Parser NodeId
  accessor_js how make text at true = g.property_key (part_at depth) >>= λ written. g.body_of (part_at depth) how >>= λ function. add (make written function) at
  accessor_js how make text at false = g.named_member (part_at depth) text at

  pub begun-key : (x : Rule) (ts : List Token) (ns : Nodes) → g.starts_key (symbol (ts, ns)) ≡ starts language (among (firsts language.heads (both key x))) ts
  unfolding g.starts_key symbol token_kind firsts nullable
  begun-key x [] ns = refl
  begun-key x (t ∷ ts) ns = begins-agrees (of_kind t.kind) t.broken ∙ ap (λ f. among f (token_kind t)) (sym (append-nil (firsts language.heads key)))

  pub key-first : (x : Rule) → vacant (both key x) ≡ false
  unfolding vacant
  key-first x = refl

  pub accessor-true : (how : Part) (make : PropertyKey → Function → Node) (x : Rule) (text : List ℕ) (at : ℕ) → Sim depth (g.body_of (part_at depth) how) x ((parts_at depth).function_in how)
      → (ts : List Token) (ns : Nodes) → told (accessor_js how make text at true (ts, ns)) ≡ guided language ahead (rule depth) (both key x) ts (built (λ tree. mk.accessor_if (parts_at depth) true how make text at tree) ns)
  unfolding guided add
  accessor-true how make x text at sim ts ns = step key-sim ts ns _ _ (λ a m. step sim m _ _ _ (λ b rest. refl))

  pub not-key : (ts rest : List Token) (tree : Tree Token) (ns : Nodes) → g.starts_key (symbol (ts, ns)) ≡ false → guided language ahead (rule depth) (optional behind_key) ts done ≡ Ok (tree, rest)
      → begins_key (symbol_in tree) ≡ false
  unfolding g.starts_key symbol first_token
  not-key ts rest tree ns e w = elim (read-maybe language ahead depth each-takes (optional behind_key) ts rest tree w) [
    | inl n ↦ ap (λ o. begins_key (mk.symbol_of_first o)) n
    | inr f ↦ ap (λ o. begins_key (mk.symbol_of_first o)) f.3 ∙ ap (λ ts. begins_key (symbol (ts, ns))) (sym f.2) ∙ e
  ]

  pub accessor-step : (how : Part) (make : PropertyKey → Function → Node) (x : Rule) (text : List ℕ) (at : ℕ) → Sim depth (g.body_of (part_at depth) how) x ((parts_at depth).function_in how)
      → (b : Bool) (ts : List Token) (ns : Nodes) → g.starts_key (symbol (ts, ns)) ≡ b
      → told (accessor_js how make text at b (ts, ns)) ≡ (if b then guided language ahead (rule depth) (both key x) ts (built (λ tree. mk.accessor_if (parts_at depth) (begins_key (symbol_in tree)) how make text at tree) ns)
      else guided language ahead (rule depth) (optional behind_key) ts (built (λ tree. mk.accessor_if (parts_at depth) (begins_key (symbol_in tree)) how make text at tree) ns))
  unfolding add g.starts_key symbol
  accessor-step how make x text at sim true ts ns e = accessor-true how make x text at sim ts ns ∙ goes-so depth (both key x) ts _ _ (λ tree rest w.
      let f = read-front language ahead depth each-takes (both key x) (key-first x) ts rest tree w in
      let z : begins_key (symbol_in tree) ≡ true = ap (λ o. begins_key (mk.symbol_of_first o)) f.3 ∙ ap (λ ts. begins_key (symbol (ts, ns))) (sym f.2) ∙ e in
      ap (λ b. built (λ tree. mk.accessor_if (parts_at depth) b how make text at tree) ns tree rest) (sym z))
  accessor-step how make x text at sim false ts ns e = named-holds text at ts ns ∙ goes-so depth (optional behind_key) ts _ _ (λ tree rest w.
      ap (λ b. built (λ tree. mk.accessor_if (parts_at depth) b how make text at tree) ns tree rest) (sym (not-key ts rest tree ns e w)))

  pub accessor-sim : (how : Part) (make : PropertyKey → Function → Node) (x : Rule) (text : List ℕ) (at : ℕ) → Sim depth (g.body_of (part_at depth) how) x ((parts_at depth).function_in how)
      → (ts : List Token) (ns : Nodes) → told (accessor_js how make text at (g.starts_key (symbol (ts, ns))) (ts, ns))
      ≡ guided language ahead (rule depth) (either (both key x) (optional behind_key)) ts (built (λ tree. mk.accessor_if (parts_at depth) (begins_key (symbol_in tree)) how make text at tree) ns)
  unfolding guided
  accessor-sim how make x text at sim ts ns = accessor-step how make x text at sim (g.starts_key (symbol (ts, ns))) ts ns refl
      ∙ ap (λ b. if b then guided language ahead (rule depth) (both key x) ts (built (λ tree. mk.accessor_if (parts_at depth) (begins_key (symbol_in tree)) how make text at tree) ns)
      else guided language ahead (rule depth) (optional behind_key) ts (built (λ tree. mk.accessor_if (parts_at depth) (begins_key (symbol_in tree)) how make text at tree) ns)) (begun-key x ts ns)

  -- ---- Prop

  abbrev pub accessor_or : Part → (PropertyKey → Function → Node) → List ℕ → ℕ → Parser NodeId
  accessor_or how make text at i = accessor_js how make text at (g.starts_key (symbol i)) i

  abbrev pub member_by : ℕ → Symbol → Parser NodeId
  member_by at s.Get = take_text >>= λ text. g.getter (part_at depth) text at
  member_by at s.Set = take_text >>= λ text. g.setter (part_at depth) text at
  member_by at s.Name = take_text >>= λ text. g.named_member (part_at depth) text at
  member_by at s.Of = take_text >>= λ text. g.named_member (part_at depth) text at
  member_by at _ = g.property_key (part_at depth) >>= λ written. g.member_under (part_at depth) written at

  abbrev pub member_at : Symbol → Parser NodeId
  member_at symbol i = member_by (place i) symbol i

  pub keyed-step : (at : ℕ) (ts : List Token) (ns : Nodes) → told (and_then (g.property_key (part_at depth) (ts, ns)) (λ written. g.member_under (part_at depth) written at))
      ≡ guided language ahead (rule depth) key ts (λ a m. guided language ahead (rule depth) behind_key m (λ b rest. let w = mk.after (mk.property_key (parts_at depth) a ns) (λ written. mk.member_under (parts_at depth) written at b) in Ok (w.0, (rest, w.1))))
  keyed-step at ts ns = step key-sim ts ns _ _ (λ a m. step-same (under-sim _ at) m _ _ (λ b rest. refl))

  abbrev pub keyed_k : ℕ → Nodes → Goes Token (NodeId × Input)
  keyed_k at ns a m = guided language ahead (rule depth) behind_key m (λ b rest. let w = mk.after (mk.property_key (parts_at depth) a ns) (λ written. mk.member_under (parts_at depth) written at b) in Ok (w.0, (rest, w.1)))

  pub getter-step : (t : Token) (ts : List Token) (ns : Nodes) → told (g.getter (part_at depth) (text_of t.kind) t.place (ts, ns))
      ≡ guided language ahead (rule depth) (either (both key getter) (optional behind_key)) ts (λ b rest. built (mk.member_by (parts_at depth) s.Get t.place) ns (pair (leaf t) b) rest)
  unfolding g.getter symbol first_token
  getter-step t ts ns = accessor-sim parts.Getter (λ k f. made.Getter k f) (call 22) (text_of t.kind) t.place h.getter_part ts ns

  pub setter-step : (t : Token) (ts : List Token) (ns : Nodes) → told (g.setter (part_at depth) (text_of t.kind) t.place (ts, ns))
      ≡ guided language ahead (rule depth) (either (both key setter) (optional behind_key)) ts (λ b rest. built (mk.member_by (parts_at depth) s.Set t.place) ns (pair (leaf t) b) rest)
  unfolding g.setter symbol first_token
  setter-step t ts ns = accessor-sim parts.Setter (λ k f. made.Setter k f) (call 23) (text_of t.kind) t.place h.setter_part ts ns

  pub named-step : (t : Token) (ts : List Token) (ns : Nodes) → told (g.named_member (part_at depth) (text_of t.kind) t.place (ts, ns))
      ≡ guided language ahead (rule depth) (optional behind_key) ts (λ b rest. built (mk.member_by (parts_at depth) s.Name t.place) ns (pair (leaf t) b) rest)
  unfolding first_token
  named-step t ts ns = named-holds (text_of t.kind) t.place ts ns

  pub member-at : (t : Token) (ts : List Token) (ns : Nodes) (symbol : Symbol) (broken : Bool) → of_kind t.kind ≡ symbol → t.broken ≡ broken
      → told (member_at symbol (t ∷ ts, ns)) ≡ at_kind depth (numbered symbol broken) property (t ∷ ts) (built (mk.member_by (parts_at depth) symbol t.place) ns)
  unfolding at_kind tables text_next next place
  member-at t ts ns s.Get false e f = getter-step t ts ns
  member-at t ts ns s.Get true e f = getter-step t ts ns
  member-at t ts ns s.Set false e f = setter-step t ts ns
  member-at t ts ns s.Set true e f = setter-step t ts ns
  member-at t ts ns s.Name false e f = named-step t ts ns
  member-at t ts ns s.Name true e f = named-step t ts ns
  member-at t ts ns s.Of false e f = named-step t ts ns
  member-at t ts ns s.Of true e f = named-step t ts ns
  member-at t ts ns x false e f = keyed-step t.place (t ∷ ts) ns ∙ kind-at depth x false key t ts (keyed_k t.place ns) e f
  member-at t ts ns x true e f = keyed-step t.place (t ∷ ts) ns ∙ kind-at depth x true key t ts (keyed_k t.place ns) e f

  pub property-takes : vacant property ≡ false
  unfolding vacant
  property-takes = refl

  pub key-end : (ns : Nodes) → told (member_at s.End ([], ns)) ≡ Err (wrong [])
  unfolding vacant
  key-end ns = none-first (g.property_key (part_at depth) ([], ns)) _ (key-sim.holds [] ns ∙ none-at_end depth key refl _)

  pub member-sim : Sim depth (g.member (part_at depth)) property (mk.member (parts_at depth))
  unfolding g.member mk.member place symbol
  member-sim = sim-by-at depth member_at (λ at symbol. mk.member_by (parts_at depth) symbol at) property property-takes key-end member-at

  pub property-placed : InPlace language.rules property
  unfolding InPlace rules entry
  property-placed = ((tt, (((tt, tt), tt), (((tt, refl), tt), tt))), ((tt, (((tt, tt), tt), (((tt, refl), tt), tt))), (((tt, tt), ((tt, refl), tt)), (tt, (((tt, refl), tt), tt)))))

  pub property-full : nullable property ≡ false
  unfolding nullable
  property-full = refl

  pub property-parted : apart (kinds (mark (codes "}") ∷ [])) (firsts language.heads property) ≡ true
  unfolding tables apart
  property-parted = refl

  pub object-sim : Sim depth (g.object (part_at depth)) object_rule (mk.object (parts_at depth))
  unfolding g.object g.members object_rule mk.object guided place add vacant
  object-sim = sim-at depth (g.object (part_at depth)) (λ at tree ns. mk.after (mk.listed (mk.member (parts_at depth)) (first (second tree)) ns) (λ found. mk.added (made.ObjectLit found) at)) object_rule refl
      (λ ts ns. step-expect only-open_brace ts ns _ _ (λ t m.
      step (listed-sim depth member-sim property-takes property-placed property-full only-close_brace property-parted) m _ _ _ (λ a rest. refl)))
