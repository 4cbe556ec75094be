-- A world runs a task: what was made so far, and what is still to come.
use Rattle.std.proofs.Common.{◌≡◌, ℕ, suc, ◌<◌, List, [], ◌∷◌, ◌++◌, Bool, true, false, ◌||◌, Option, Some, None, IsSome, ap, sym, ◌∙◌, refl, arith, subst}
use Rattle.std.specs.List.{list_any}
use Rattle.std.proofs.lemmas.List.{append-nil}
use Rattle.std.proofs.lemmas.List.Folds.{list_any-append}
use Rattle.wl_causes.specs.Taking.{with_more, TakesFront}
use Rattle.world_heap.specs.Views.{PoolView}
use Rattle.world_log.specs.declared.entry.Entry.{Entry}
use Rattle.world_log.specs.declared.entry.Entry.TheVariants as entry
use Rattle.world_log.specs.declared.entry.Product.{Product}
use Rattle.world_log.specs.declared.entry.WorldName.{WorldName}
use Rattle.js_semantics.specs.Run.{Arrival}
use Rattle.world_machine.specs.World.{GoesOn, IsComing, IsIn, Passes, Rests, StandsBehind, Takes, is_awaited, next_entry, turns_left}
use Rattle.world_machine.specs.declared.world.World.{World}
use Rattle.world_machine.proofs.Awaiting.{taken_exactly}
use Rattle.world_machine.proofs.Passing.{all_made, passes_on}
use Rattle.app_engine.specs.Log.{is_stop}
use Rattle.app_engine.specs.Machines.{lines_of}
use Rattle.app_engine.proofs.Lines.{first_written, front_first, front_so_far, front_written, line, one_written}

or_false : (b : Bool) → (b || false) ≡ b
or_false true = refl
or_false false = refl

pub none_left : (next : Option Product) → ((product : Product) → next ≡ Some product → ⊥) → next ≡ None
none_left (Some product) h = absurd (h product refl)
none_left None h = refl

-- the world whose lines are written
module _ (name : WorldName) (d : Arrival) (old : World) (pool : PoolView) (before : Option (List ℕ)) where
  -- These entries were made and their lines written, and the next product is made, if there is one.
  pub record SoFar (next : Option Product) (stopped : Bool) (world : World) (now : PoolView) (taken : Option (List ℕ)) : Type 0 where
    pub entries : List Entry
    pub passes : Passes (d ∷ []) (entries ++ next_entry next) old pool world now
    pub stands : StandsBehind next world now
    pub stop : stopped ≡ list_any is_stop entries
    pub written : taken ≡ with_more (lines_of name entries) before

  pub begins : (next : Option Product) (world : World) (now : PoolView) (taken : Option (List ℕ)) → GoesOn (d ∷ []) (entry.Delivery d.fresh d.what ∷ []) old pool next world now
      → taken ≡ with_more (line name (entry.Delivery d.fresh d.what)) before → SoFar next false world now taken
  begins next world now taken goes w = record {
    entries = entry.Delivery d.fresh d.what ∷ [];
    passes = goes.0;
    stands = goes.1;
    stop = refl;
    written = first_written name (entry.Delivery d.fresh d.what) before taken w;
  }

  module _ (next : Option Product) (stopped : Bool) (world : World) (now : PoolView) (taken : Option (List ℕ)) (s : SoFar next stopped world now taken) where
    module _ (product : Product) (is : next ≡ Some product) where
      passed : Passes (d ∷ []) (s.entries ++ entry.Product product ∷ []) old pool world now
      passed = subst (λ (x : Option Product). Passes (d ∷ []) (s.entries ++ next_entry x) old pool world now) is s.passes

      -- the line of the product was written, and the world went on
      pub goes_on : (more : Option Product) (v : World) (after : PoolView) (written : Option (List ℕ)) (stops : Bool) → GoesOn [] [] world now more v after
          → written ≡ with_more (line name (entry.Product product)) taken → stops ≡ (stopped || is_stop (entry.Product product)) → SoFar more stops v after written
      goes_on more v after written stops goes w t = record {
        entries = s.entries ++ entry.Product product ∷ [];
        passes = passes_on (d ∷ []) (s.entries ++ entry.Product product ∷ []) (next_entry more) old world v pool now after passed goes.0;
        stands = goes.1;
        stop =
            t ∙ ap (λ (b : Bool). b || is_stop (entry.Product product)) s.stop
            ∙ ap (λ (b : Bool). list_any is_stop s.entries || b) (sym (or_false (is_stop (entry.Product product))))
            ∙ sym (list_any-append is_stop s.entries (entry.Product product ∷ []));
        written = one_written name s.entries (entry.Product product) before taken written s.written w;
      }

      -- the line of the product was written in front, or whole
      pub front_in_line : (written : Option (List ℕ)) → TakesFront (line name (entry.Product product)) taken written → (coming : List Arrival → List Entry) → IsComing old pool coming
          → TakesFront (lines_of name (coming (d ∷ []))) before written
      front_in_line written t coming c = front_written name (coming (d ∷ [])) s.entries _ (entry.Product product) before taken written (passed.law coming [] c) s.written t

      pub front_behind_line : (written : Option (List ℕ)) → written ≡ with_more (line name (entry.Product product)) taken → (coming : List Arrival → List Entry) → IsComing old pool coming
          → TakesFront (lines_of name (coming (d ∷ []))) before written
      front_behind_line written w coming c =
          front_so_far name (coming (d ∷ [])) (s.entries ++ entry.Product product ∷ []) _ before written (passed.law coming [] c) (one_written name s.entries (entry.Product product) before taken written s.written w)

    -- no product is to come
    module _ (is : next ≡ None) where
      rest : Rests world now
      rest = subst (λ (x : Option Product). StandsBehind x world now) is s.stands

      passed_all : Passes (d ∷ []) s.entries old pool world now
      passed_all = subst (λ (es : List Entry). Passes (d ∷ []) es old pool world now) (ap (λ (x : Option Product). s.entries ++ next_entry x) is ∙ append-nil s.entries) s.passes

      all : (coming : List Arrival → List Entry) → IsComing old pool coming → coming (d ∷ []) ≡ s.entries
      all coming c = all_made (d ∷ []) s.entries old world pool now passed_all rest coming c

      pub ran : (made : List Entry) × Passes (d ∷ []) made old pool world now × Rests world now
      ran = (s.entries, passed_all, rest)

      pub written_all : (coming : List Arrival → List Entry) → IsComing old pool coming → taken ≡ with_more (lines_of name (coming (d ∷ []))) before
      written_all coming c = s.written ∙ ap (λ (es : List Entry). with_more (lines_of name es) before) (sym (all coming c))

      pub stopped_at_end : (coming : List Arrival → List Entry) → IsComing old pool coming → stopped ≡ list_any is_stop (coming (d ∷ []))
      stopped_at_end coming c = s.stop ∙ ap (λ (es : List Entry). list_any is_stop es) (sym (all coming c))

      pub front_at_end : (coming : List Arrival → List Entry) → IsComing old pool coming → TakesFront (lines_of name (coming (d ∷ []))) before taken
      front_at_end coming c = front_so_far name (coming (d ∷ [])) s.entries [] before taken (all coming c ∙ sym (append-nil s.entries)) s.written

  -- the delivery comes first
  delivered : IsIn old pool → is_awaited old d.what ≡ true → (coming : List Arrival → List Entry) → IsComing old pool coming → (more : List Entry) × (coming (d ∷ []) ≡ entry.Delivery d.fresh d.what ∷ more)
  delivered stands awaited coming c =
      subst (λ (b : Bool). Takes b (entry.Delivery d.fresh d.what) (coming (d ∷ []))) awaited (taken_exactly old pool coming d.fresh d.what [] stands c)

  pub front_in_delivery : IsIn old pool → is_awaited old d.what ≡ true → (taken : Option (List ℕ)) → TakesFront (line name (entry.Delivery d.fresh d.what)) before taken
      → (coming : List Arrival → List Entry) → IsComing old pool coming → TakesFront (lines_of name (coming (d ∷ []))) before taken
  front_in_delivery stands awaited taken t coming c =
      let first = delivered stands awaited coming c in
      front_first name (coming (d ∷ [])) first.0 (entry.Delivery d.fresh d.what) before taken first.1 t

-- ---- the loop ends

-- one more than the turns that are left, where a product is to come
abbrev pub still_left : Option Product → World → ℕ
still_left (Some product) world = suc (turns_left world)
still_left None world = 0

pub fewer : (made next : Option Product) (product : Product) (old new : World) → made ≡ Some product → (IsSome next → turns_left new < turns_left old) → still_left next new < still_left made old
fewer made next product old new is h =
    subst (λ (x : Option Product). still_left next new < still_left x old) (sym is) (below next h)
  where
    below : (next : Option Product) → (IsSome next → turns_left new < turns_left old) → still_left next new < suc (turns_left old)
    below (Some other) h = let l : turns_left new < turns_left old = h refl in omega arith
    below None h = omega arith
