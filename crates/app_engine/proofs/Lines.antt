-- The lines of entries, written one after another.
use Rattle.std.proofs.Common.{◌≡◌, ℕ, List, [], ◌∷◌, ◌++◌, Option, ap, sym, ◌∙◌, refl, append_assoc}
use Rattle.std.proofs.lemmas.List.{append-nil}
use Rattle.wl_causes.specs.Taking.{with_more, TakesFront}
use Rattle.wl_causes.proofs.Takes.{TakesFront-behind, with_more-none, with_more-twice}
use Rattle.world_log.specs.declared.entry.Entry.{Entry}
use Rattle.world_log.specs.declared.entry.LogItem.TheVariants.{World}
use Rattle.world_log.specs.declared.entry.WorldName.{WorldName}
use Rattle.world_log.specs.Print.{printed, printed_log}
use Rattle.app_engine.specs.Machines.{lines_of}

-- the line of an entry
abbrev pub line : WorldName → Entry → List ℕ
line name entry = printed (World name entry)

lines_twice : (name : WorldName) (xs ys : List Entry) → lines_of name (xs ++ ys) ≡ lines_of name xs ++ lines_of name ys
unfolding lines_of printed_log
lines_twice name [] ys = refl
lines_twice name (x ∷ xs) ys =
    ap (λ (zs : List ℕ). line name x ++ zs) (lines_twice name xs ys) ∙ sym (append_assoc (line name x) (lines_of name xs) (lines_of name ys))

lines_one : (name : WorldName) (x : Entry) → lines_of name (x ∷ []) ≡ line name x
unfolding lines_of printed_log
lines_one name x = append-nil (line name x)

-- the first line
pub first_written : (name : WorldName) (x : Entry) (before taken : Option (List ℕ)) → taken ≡ with_more (line name x) before → taken ≡ with_more (lines_of name (x ∷ [])) before
first_written name x before taken w = w ∙ ap (λ (zs : List ℕ). with_more zs before) (sym (lines_one name x))

-- one line more
pub one_written : (name : WorldName) (xs : List Entry) (x : Entry) (before taken more : Option (List ℕ))
    → taken ≡ with_more (lines_of name xs) before → more ≡ with_more (line name x) taken → more ≡ with_more (lines_of name (xs ++ x ∷ [])) before
one_written name xs x before taken more w m =
    m ∙ ap (with_more (line name x)) w ∙ with_more-twice (lines_of name xs) (line name x) before
    ∙ ap (λ (zs : List ℕ). with_more zs before) (sym (lines_twice name xs (x ∷ []) ∙ ap (λ (zs : List ℕ). lines_of name xs ++ zs) (lines_one name x)))

-- the lines of the first entries are a front of all
pub front_so_far : (name : WorldName) (all xs ys : List Entry) (before taken : Option (List ℕ))
    → all ≡ xs ++ ys → taken ≡ with_more (lines_of name xs) before → TakesFront (lines_of name all) before taken
front_so_far name all xs ys before taken e w =
    (lines_of name xs, lines_of name ys, ap (λ (zs : List Entry). lines_of name zs) e ∙ lines_twice name xs ys, w)

-- a front of one line more is a front of all
pub front_written : (name : WorldName) (all xs ys : List Entry) (x : Entry) (before taken more : Option (List ℕ))
    → all ≡ (xs ++ x ∷ []) ++ ys → taken ≡ with_more (lines_of name xs) before → TakesFront (line name x) taken more → TakesFront (lines_of name all) before more
front_written name all xs ys x before taken more e w t =
    TakesFront-behind _ (lines_of name xs) (line name x) (lines_of name ys) before taken more
    (ap (λ (zs : List Entry). lines_of name zs) (e ∙ append_assoc xs (x ∷ []) ys) ∙ lines_twice name xs (x ∷ ys)
    ∙ ap (λ (zs : List ℕ). lines_of name xs ++ zs) (lines_twice name (x ∷ []) ys ∙ ap (λ (zs : List ℕ). zs ++ lines_of name ys) (lines_one name x))) w t

-- a front of the first line is a front of all
pub front_first : (name : WorldName) (all ys : List Entry) (x : Entry) (before more : Option (List ℕ)) → all ≡ x ∷ ys → TakesFront (line name x) before more → TakesFront (lines_of name all) before more
unfolding lines_of printed_log
front_first name all ys x before more e t = front_written name all [] ys x before before more e (sym (with_more-none before)) t
