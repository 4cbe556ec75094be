-- Worlds that live: one more, and one less.
use Rattle.std.proofs.Common.{◌≡◌, ℕ, ◌+◌, List, [], ◌∷◌, ◌++◌, length, ap, sym, ◌∙◌, refl, arith, subst, length-append}
use Rattle.world_heap.specs.Over.{ListOver}
use Rattle.world_heap.specs.Views.{PoolView}
use Rattle.world_log.specs.declared.entry.Entry.{Entry}
use Rattle.world_log.specs.declared.entry.WorldName.{WorldName}
use Rattle.js_semantics.specs.Run.{Arrival}
use Rattle.world_machine.specs.World.{IsEnded, IsIn}
use Rattle.world_machine.specs.declared.world.World.{World}
use Rattle.app_engine.specs.Live.{IsApart, Joins, Keeps, Live, Lives, Owed}
use Rattle.app_engine.specs.declared.kept.Kept.{Kept}
use Rattle.app_engine.specs.declared.kept.LiveWorld.{LiveWorld}

over_more : {A : Type 0} (P : A → Type 0) (xs : List A) (y : A) → ListOver P xs → P y → ListOver P (xs ++ y ∷ [])
over_more P [] y h p = (p, tt)
over_more P (x ∷ xs) y h p = (h.0, over_more P xs y h.1 p)

over_front : {A : Type 0} (P : A → Type 0) (xs : List A) (y : A) → ListOver P (xs ++ y ∷ []) → ListOver P xs
over_front P [] y h = tt
over_front P (x ∷ xs) y h = (h.0, over_front P xs y h.1)

over_last : {A : Type 0} (P : A → Type 0) (xs : List A) (y : A) → ListOver P (xs ++ y ∷ []) → P y
over_last P [] y h = h.0
over_last P (x ∷ xs) y h = over_last P xs y h.1

-- ---- one more

module _ (before after : PoolView) (coming : List Arrival → List Entry) (name : WorldName) (world : World) (b : Joins coming before world after) where
  abbrev new : LiveWorld
  new = record { name = name; world = world }

  lives_on : (owed : Owed) (live : LiveWorld) → Lives before owed live → Lives after owed live
  lives_on owed live l = record { name = l.name; stands = b.stay live.world l.stands; comes = b.come live.world owed.1 l.stands l.comes }

  live_more : (owed : List Owed) (lives : List LiveWorld) → Live before owed lives → Live after (owed ++ (name, coming) ∷ []) (lives ++ new ∷ [])
  live_more [] [] h = (record { name = refl; stands = b.stands; comes = b.comes }, tt, tt)
  live_more [] (x ∷ xs) h = absurd h
  live_more (o ∷ os) [] h = absurd h
  live_more (o ∷ os) (x ∷ xs) h =
      (lives_on o x h.0, over_more (IsApart x) xs new h.1 (b.apart x.world h.0.stands), live_more os xs h.2)

  pub keeps_more : (lives : List LiveWorld) (owed : List Owed) → Keeps owed (record { live = lives; pool = before }) → Keeps (owed ++ (name, coming) ∷ []) (record { live = lives ++ new ∷ []; pool = after })
  keeps_more lives owed k = record {
    live = live_more owed lives k.live;
    count = b.count ∙ ap (λ (n : ℕ). n + 1) k.count ∙ sym (length-append lives (new ∷ []));
  }

-- ---- one less

module _ (before after : PoolView) (last : LiveWorld) (e : IsEnded last.world before after) where
  none_owed : (os : List Owed) (o : Owed) → Live before (os ++ o ∷ []) [] → ⊥
  none_owed [] o h = h
  none_owed (p ∷ ps) o h = h

  none_lives : (xs : List LiveWorld) → Live before [] (xs ++ last ∷ []) → ⊥
  none_lives [] h = h
  none_lives (x ∷ xs) h = h

  stays : (owed : Owed) (live : LiveWorld) → IsApart live last → Lives before owed live → Lives after owed live
  stays owed live apart l =
      let s = e.spares live.world apart l.stands in
      record { name = l.name; stands = s.stands; comes = s.comes owed.1 l.comes }

  live_less : (owed : List Owed) (o : Owed) (lives : List LiveWorld) → Live before (owed ++ o ∷ []) (lives ++ last ∷ []) → Live after owed lives
  live_less [] o [] h = tt
  live_less [] o (x ∷ xs) h = absurd (none_lives xs h.2)
  live_less (p ∷ ps) o [] h = absurd (none_owed ps o h.2)
  live_less (p ∷ ps) o (x ∷ xs) h =
      (stays p x (over_last (IsApart x) xs last h.1) h.0, over_front (IsApart x) xs last h.1, live_less ps o xs h.2)

  pub keeps_less : (lives : List LiveWorld) (owed : List Owed) (o : Owed) → Keeps (owed ++ o ∷ []) (record { live = lives ++ last ∷ []; pool = before }) → Keeps owed (record { live = lives; pool = after })
  keeps_less lives owed o k = record {
    live = live_less owed o lives k.live;
    count = omega (arith, e.count, k.count, length-append lives (last ∷ []));
  }

-- the last world lives
pub last_lives : (pool : PoolView) (owed : List Owed) (o : Owed) (lives : List LiveWorld) (last : LiveWorld) → Live pool (owed ++ o ∷ []) (lives ++ last ∷ []) → Lives pool o last
last_lives pool [] o [] last h = h.0
last_lives pool [] o (x ∷ []) last h = absurd h.2
last_lives pool [] o (x ∷ y ∷ xs) last h = absurd h.2
last_lives pool (p ∷ []) o [] last h = absurd h.2
last_lives pool (p ∷ q ∷ ps) o [] last h = absurd h.2
last_lives pool (p ∷ ps) o (x ∷ xs) last h = last_lives pool ps o xs last h.2

-- ---- what is kept

pub none_keeps : (kept : Kept) → kept.live ≡ [] → kept.pool ≡ record { maps = []; given = 0 } → Keeps [] kept
none_keeps kept e f = record {
  live = subst (λ (ls : List LiveWorld). Live kept.pool [] ls) (sym e) tt;
  count = ap (λ (p : PoolView). length p.maps) f ∙ sym (ap (λ (ls : List LiveWorld). length ls) e);
}

pub one_more : (kept : Kept) (pool after : PoolView) (coming : List Arrival → List Entry) (name : WorldName) (world : World) (lives : List LiveWorld) → pool ≡ kept.pool → Joins coming pool world after
    → lives ≡ kept.live ++ record { name = name; world = world } ∷ [] → (owed : List Owed) → Keeps owed kept → Keeps (owed ++ (name, coming) ∷ []) (record { live = lives; pool = after })
one_more kept pool after coming name world lives p b is owed k =
    subst (λ (ls : List LiveWorld). Keeps (owed ++ (name, coming) ∷ []) (record { live = ls; pool = after })) (sym is)
    (keeps_more kept.pool after coming name world (subst (λ (q : PoolView). Joins coming q world after) p b) kept.live owed k)

pub last_stands : (kept : Kept) (owed : List Owed) (o : Owed) (lives : List LiveWorld) (last : LiveWorld) → kept.live ≡ lives ++ last ∷ [] → Keeps (owed ++ o ∷ []) kept → IsIn last.world kept.pool
last_stands kept owed o lives last e k = (last_lives kept.pool owed o lives last (subst (λ (ls : List LiveWorld). Live kept.pool (owed ++ o ∷ []) ls) e k.live)).stands

nothing_owed : (pool : PoolView) (os : List Owed) (o : Owed) → Live pool (os ++ o ∷ []) [] → ⊥
nothing_owed pool [] o h = h
nothing_owed pool (p ∷ ps) o h = h

pub some_live : (kept : Kept) (owed : List Owed) (o : Owed) → Keeps (owed ++ o ∷ []) kept → kept.live ≡ [] → ⊥
some_live kept owed o k e = nothing_owed kept.pool owed o (subst (λ (ls : List LiveWorld). Live kept.pool (owed ++ o ∷ []) ls) e k.live)

pub one_less : (kept : Kept) (last : LiveWorld) (lives : List LiveWorld) (after : PoolView) → IsEnded last.world kept.pool after → kept.live ≡ lives ++ last ∷ []
    → (owed : List Owed) (o : Owed) → Keeps (owed ++ o ∷ []) kept → Keeps owed (record { live = lives; pool = after })
one_less kept last lives after e is owed o k =
    keeps_less kept.pool after last e lives owed o
    (record { live = subst (λ (ls : List LiveWorld). Live kept.pool (owed ++ o ∷ []) ls) is k.live; count = k.count ∙ ap (λ (ls : List LiveWorld). length ls) is })
