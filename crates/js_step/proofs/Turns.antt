-- Turns, one after another.
use Rattle.std.proofs.Common.{◌≡◌, ℕ, List, [], ◌∷◌, ◌++◌, ◌≤◌, false, Option, Some, None, Result, Ok, Err, IfOk, append_assoc, append-nil, refl, sym, ap, ◌∙◌, arith}
use Rattle.js_tree.specs.declared.node.Node.{Node}
use Rattle.world_heap.specs.Views.{HeapView}
use Rattle.world_log.specs.declared.entry.Entry.TheVariants as entry
use Rattle.world_log.specs.declared.entry.Product.{Product}
use Rattle.js_semantics.specs.declared.fault.StepFault.{StepFault}
use Rattle.js_semantics.specs.Run.{Arrival, Then, Trace}
use Rattle.js_machine.specs.declared.state.State.{State}
use Rattle.js_machine.specs.declared.state.Next.{Next}
use Rattle.js_machine.specs.declared.state.Next.TheVariants.{Go, Made}
use Rattle.js_machine.specs.Does.{Receives, Stays, Steps, after, is_running, made, work}
use Rattle.js_step.specs.Resuming.{Begins, BeginsWith, Makes, MakesBehind, MakesNext, Resumes, ResumesBehind}

stays_on : (a b c : HeapView) → Stays a b → Stays b c → Stays a c
stays_on a b c h g = g ∙ ap (λ (v : HeapView). record v { cells = c.cells; counts = c.counts }) h

after_twice : (before behind : List Product) (t : Trace ℕ) → after before (after behind t) ≡ after (before ++ behind) t
after_twice [] behind t = refl
after_twice (e ∷ es) behind t = ap (λ u. Then (entry.Product e) u) (after_twice es behind t)

-- nothing is made yet
pub makes_none : (nodes : List Node) (s : State) → Makes nodes s [] s
makes_none nodes s = record { law = λ supply ds follows. refl; keeps = λ supply f. f; stays = refl }

-- one more turn
pub makes_more : (nodes : List Node) (old mid new : State) (products : List Product) (next : Next) → Makes nodes old products mid → Steps nodes mid new next → Makes nodes old (products ++ made next) new
makes_more nodes old mid new products next before turn = record {
  law = λ supply ds follows.
      before.law supply ds (turn.keeps supply follows)
      ∙ ap (λ t. after products t) (turn.law supply ds follows)
      ∙ after_twice products (made next) _;
  keeps = λ supply f. before.keeps supply (turn.keeps supply f);
  stays = stays_on old.heap mid.heap new.heap before.stays turn.stays;
}

-- the next product, behind turns that made none
pub next_made : (nodes : List Node) (old mid new : State) (product : Product) → Makes nodes old [] mid → work mid ≤ work old → Steps nodes mid new (Made product) → MakesNext nodes old (Some product) new
next_made nodes old mid new product before less turn = (makes_more nodes old mid new [] (Made product) before turn, omega (arith, less, turn.falls))

-- a delivery, and turns behind it
pub begun : (nodes : List Node) (d : Arrival) (old mid new : State) (next : Next) (products : List Product) → Receives nodes d old mid next → Makes nodes mid products new → Begins nodes d old (made next ++ products) new
begun nodes d old mid new next products start turns = record {
  law = λ supply ds follows.
      start.law supply ds (turns.keeps supply follows)
      ∙ ap (λ t. Then (entry.Delivery d.fresh d.what) (after (made next) t)) (turns.law supply ds follows)
      ∙ ap (λ t. Then (entry.Delivery d.fresh d.what) t) (after_twice (made next) products _);
  keeps = λ supply f. start.keeps supply (turns.keeps supply f);
  stays = stays_on old.heap mid.heap new.heap start.stays turns.stays;
}

-- a delivery that makes the first product at once
pub begun_made : (nodes : List Node) (d : Arrival) (old new : State) (product : Product) → Receives nodes d old new (Made product) → BeginsWith nodes d old (Some product) new
begun_made nodes d old new product start = begun nodes d old new new (Made product) [] start (makes_none nodes new)

-- a delivery, and turns up to the first product
begun_with : (nodes : List Node) (d : Arrival) (old mid new : State) (first : Option Product) → Receives nodes d old mid Go → MakesNext nodes mid first new → BeginsWith nodes d old first new
begun_with nodes d old mid new (Some product) start turns = begun nodes d old mid new Go (product ∷ []) start turns.0
begun_with nodes d old mid new None start turns = (begun nodes d old mid new Go [] start turns.0, turns.1)

pub begun_ok : (nodes : List Node) (d : Arrival) (old mid new : State) (r : Result (Option Product) StepFault) → Receives nodes d old mid Go → IfOk r (λ first. MakesNext nodes mid first new) → IfOk r (λ first. BeginsWith nodes d old first new)
begun_ok nodes d old mid new (Ok first) start turns = begun_with nodes d old mid new first start turns
begun_ok nodes d old mid new (Err fault) start turns = turns

-- a delivery, and the turns up to the end
pub resumed : (nodes : List Node) (d : Arrival) (old mid new : State) (next : Next) (products : List Product) → Receives nodes d old mid next → Makes nodes mid products new → is_running new.control ≡ false → Resumes nodes d old (made next ++ products) new
resumed nodes d old mid new next products start turns ends =
    let all = begun nodes d old mid new next products start turns in
    record { law = all.law; ends = ends; keeps = all.keeps; stays = all.stays }

-- the same in a list
pub begins : (nodes : List Node) (s : State) (now : List Product) → MakesBehind nodes s now now s
begins nodes s now = ([], sym (append-nil now), makes_none nodes s)

pub goes_on : (nodes : List Node) (old mid new : State) (before sofar now : List Product) (next : Next) → MakesBehind nodes old before sofar mid → Steps nodes mid new next → now ≡ sofar ++ made next → MakesBehind nodes old before now new
goes_on nodes old mid new before sofar now next (products, sofar_is, makes) turn is =
    (products ++ made next, is ∙ ap (λ l. l ++ made next) sofar_is ∙ append_assoc before products (made next), makes_more nodes old mid new products next makes turn)

pub comes_to_rest : (nodes : List Node) (d : Arrival) (old mid new : State) (before sofar now : List Product) (next : Next) → Receives nodes d old mid next → sofar ≡ before ++ made next → MakesBehind nodes mid sofar now new → is_running new.control ≡ false → ResumesBehind nodes d old before now new
comes_to_rest nodes d old mid new before sofar now next start sofar_is (products, now_is, makes) ends =
    (made next ++ products, now_is ∙ ap (λ l. l ++ products) sofar_is ∙ append_assoc before (made next) products, resumed nodes d old mid new next products start makes ends)
