-- A small grammar of statements and expressions that passes the tests, and the places of some faults in it.
use Rattle.std.proofs.Common.{true, false, Bool, ◌≡◌, ℕ, suc, List, [], ◌∷◌, Ok, Err, refl}
use Rattle.std.specs.Prelude.{◌==◌}
use Rattle.grammar.specs.Kinds.{among, kept, apart, covers, alike, not}
use Rattle.grammar.specs.Grammar.{Tree, tip, pair, node, Grammar, empty, token, call, line, both, either, fork, many, named, starting, on, entry, Language}
use Rattle.grammar.specs.Reading.{Answer, nullable, firsts, many_at, read_at, read}
use Rattle.grammar.specs.Tests.{goes_on, decided, InPlace, AllFit, Fits, Examples, bars, word, steep, clear, AllOpen, Opens, AllApart}
use Rattle.grammar.specs.Pairs.{Forks, levels, even, shuts_one, wrapped, leads, alone, is_head, before_stop, told, AllPaired, Told}
use Rattle.grammar.proofs.Lists.{fits-of_list, opens-of_list, paired-of_list}
use Rattle.grammar.proofs.Pairs.{all-apart}

-- Tokens are their kinds: 0 name, 1 (, 2 ), 3 {, 4 }, 5 :, 6 comma, 7 =, 8 =>, 9 dot, 10 ;, 11 +, 12 *, 13 ++, 14 ++ after a line break, 15 !, 16 the end
abbrev pub optional : Grammar ℕ → Grammar ℕ
optional x = either x empty

abbrev pub always : Tree ℕ → Bool
always tree = true

-- one level of operators
abbrev pub operators : List ℕ → Grammar ℕ → Grammar ℕ
operators kinds x = both x (many always (both (token kinds) x))

-- It is no lone comma.
abbrev pub has_member : Tree ℕ → Bool
has_member (pair comma tip) = false
has_member _ = true

-- members with commas between them; one comma may end the list
abbrev pub listed : Grammar ℕ → Grammar ℕ
listed x = optional (both x (many has_member (both (token (6 ∷ [])) (optional x))))

-- a name with members, alone at its levels of operators
abbrev pub is_place : Tree ℕ → Bool
is_place (pair (pair (pair (node n a) tip) tip) tip) = n == 20
is_place _ = false

abbrev pub no_brace : ℕ → Bool
no_brace kind = not (kind == 3)

abbrev pub right : Grammar ℕ
right = call 6

unfoldable pub left_rule : Grammar ℕ
left_rule = named 20 (both (either (call 13) (either (call 14) (token (0 ∷ [])))) (many always (both (token (9 ∷ [])) (token (0 ∷ [])))))

unfoldable pub unary_rule : Grammar ℕ
unary_rule = either (call 11) (both (line 12 left_rule) (optional (token (13 ∷ []))))

unfoldable pub mul_rule : Grammar ℕ
mul_rule = operators (12 ∷ []) (line 10 unary_rule)

unfoldable pub add_rule : Grammar ℕ
add_rule = operators (11 ∷ []) (line 9 mul_rule)

unfoldable pub assign_rule : Grammar ℕ
assign_rule = fork (8 ∷ []) (on is_place (line 5 add_rule) (optional (both (token (7 ∷ [])) right)) empty) (both (either (call 7) (token (0 ∷ []))) (call 8))

unfoldable pub expr_rule : Grammar ℕ
expr_rule = both (line 4 assign_rule) (many always (both (token (6 ∷ [])) (line 4 assign_rule)))

unfoldable pub stmt_rule : Grammar ℕ
stmt_rule = either (call 2) (both (starting no_brace (line 3 expr_rule)) (token (10 ∷ [])))

abbrev pub target : Grammar ℕ
target = either (token (0 ∷ [])) (call 15)

unfoldable pub rules : List (Grammar ℕ)
rules = both (many always (line 1 stmt_rule)) (token (16 ∷ []))
    ∷ stmt_rule
    ∷ both (token (3 ∷ [])) (both (many always (line 1 stmt_rule)) (token (4 ∷ [])))
    ∷ expr_rule
    ∷ assign_rule
    ∷ add_rule
    ∷ line 4 assign_rule
    ∷ both (token (1 ∷ [])) (both (listed (both target (optional (both (token (7 ∷ [])) right)))) (token (2 ∷ [])))
    ∷ both (token (8 ∷ [])) (either (call 2) (starting no_brace (line 4 assign_rule)))
    ∷ mul_rule
    ∷ unary_rule
    ∷ both (token (15 ∷ [])) (line 10 unary_rule)
    ∷ left_rule
    ∷ both (token (1 ∷ [])) (both (line 3 expr_rule) (token (2 ∷ [])))
    ∷ both (token (3 ∷ [])) (both (listed (both (token (0 ∷ [])) (optional (both (token (5 ∷ [])) right)))) (token (4 ∷ [])))
    ∷ both (token (3 ∷ [])) (both (listed (both (token (0 ∷ [])) (both (optional (both (token (5 ∷ [])) target)) (optional (both (token (7 ∷ [])) right))))) (token (4 ∷ [])))
    ∷ []

abbrev pub begins : List ℕ
begins = 0 ∷ 1 ∷ 3 ∷ 15 ∷ []

unfoldable pub heads : List (List ℕ)
heads = (16 ∷ begins) ∷ begins ∷ (3 ∷ []) ∷ begins ∷ begins ∷ begins ∷ begins ∷ (1 ∷ []) ∷ (8 ∷ []) ∷ begins ∷ begins ∷ (15 ∷ []) ∷ (0 ∷ 1 ∷ 3 ∷ []) ∷ (1 ∷ []) ∷ (3 ∷ []) ∷ (3 ∷ []) ∷ []

-- what may go on with each
abbrev pub on_unary : List ℕ
on_unary = 9 ∷ 13 ∷ []

abbrev pub on_add : List ℕ
on_add = 11 ∷ 12 ∷ on_unary

abbrev pub on_assign : List ℕ
on_assign = 7 ∷ 8 ∷ on_add

unfoldable pub tails : List (List ℕ)
tails = [] ∷ [] ∷ [] ∷ (6 ∷ on_assign) ∷ on_assign ∷ on_add ∷ on_assign ∷ [] ∷ on_assign ∷ (12 ∷ on_unary) ∷ on_unary ∷ on_unary ∷ (9 ∷ []) ∷ [] ∷ [] ∷ [] ∷ []

abbrev pub kind : ℕ → ℕ
kind t = t

abbrev pub sample : Language ℕ
sample = record { kind = kind; rules = entry (token []) rules; heads = entry [] heads }

pub sample-fits : Fits sample (entry [] tails)
unfolding rules stmt_rule expr_rule assign_rule add_rule mul_rule unary_rule left_rule heads tails entry nullable firsts among kept goes_on apart covers decided InPlace AllFit
sample-fits = fits-of_list sample (entry [] tails) rules (λ n. refl) ((refl, search), ((refl, search), ((refl, search), ((refl, search), ((refl, search), ((refl, search), ((refl, search), ((refl, search), ((refl, search), ((refl, search), ((refl, search), ((refl, search), ((refl, search), ((refl, search), ((refl, search), ((refl, search), tt))))))))))))))))

unfoldable pub words : List (List ℕ)
words = (16 ∷ []) ∷ (0 ∷ 10 ∷ []) ∷ (3 ∷ 4 ∷ []) ∷ (0 ∷ []) ∷ (0 ∷ []) ∷ (0 ∷ []) ∷ (0 ∷ []) ∷ (1 ∷ 2 ∷ []) ∷ (8 ∷ 0 ∷ []) ∷ (0 ∷ []) ∷ (0 ∷ []) ∷ (15 ∷ 0 ∷ []) ∷ (0 ∷ []) ∷ (1 ∷ 0 ∷ 2 ∷ []) ∷ (3 ∷ 4 ∷ []) ∷ (3 ∷ 4 ∷ []) ∷ []

abbrev pub examples : Examples
examples = record { shuts = λ name. []; words = entry [] words; ranks = λ name. 0; deepest = 1; size = 16; usable = λ kind. true }

pub sample-opens : Opens sample examples
unfolding rules stmt_rule expr_rule assign_rule add_rule mul_rule unary_rule left_rule heads words entry nullable firsts among kept apart covers alike bars word steep clear AllOpen
sample-opens = (opens-of_list sample examples rules (λ n. refl) refl (refl, (refl, (refl, (refl, (refl, (refl, (refl, (refl, (refl, (refl, (refl, (refl, (refl, (refl, (refl, (refl, tt)))))))))))))))), λ kind u. (kind, refl))

abbrev pub parentheses : Forks
parentheses = record { opening = 1 ∷ []; closing = 2 ∷ []; group = 13; listed = 7; names = 0 ∷ [] }

pub sample-told : Told sample parentheses
unfolding rules stmt_rule expr_rule assign_rule add_rule mul_rule unary_rule left_rule heads entry nullable firsts among kept apart covers levels even shuts_one wrapped leads alone is_head before_stop told AllPaired
sample-told = (paired-of_list sample parentheses rules (λ n. refl) (refl, (refl, (refl, (refl, (refl, (refl, (refl, (refl, (refl, (refl, (refl, (refl, (refl, (refl, (refl, (refl, tt)))))))))))))))), refl, refl, refl)

pub sample-apart : (limit : ℕ) → AllApart sample limit
sample-apart = all-apart sample (entry [] tails) sample-fits parentheses sample-told

-- where so many calls may nest in one another
abbrev pub answers : ℕ → List ℕ → Bool × List ℕ → Type 0
answers nested tokens fault = read sample 100 (suc nested) 0 tokens ≡ Err fault

-- ({a = x}) y;
pub group_then_name : answers 9 (1 ∷ 3 ∷ 0 ∷ 7 ∷ 0 ∷ 4 ∷ 2 ∷ 0 ∷ 10 ∷ 16 ∷ []) (false, 0 ∷ 10 ∷ 16 ∷ [])
unfolding rules stmt_rule expr_rule assign_rule add_rule mul_rule unary_rule left_rule heads entry nullable firsts among kept many_at read_at read
group_then_name = refl

-- (a, {b: c.d}) => x;
pub no_pattern : answers 9 (1 ∷ 0 ∷ 6 ∷ 3 ∷ 0 ∷ 5 ∷ 0 ∷ 9 ∷ 0 ∷ 4 ∷ 2 ∷ 8 ∷ 0 ∷ 10 ∷ 16 ∷ []) (false, 8 ∷ 0 ∷ 10 ∷ 16 ∷ [])
unfolding rules stmt_rule expr_rule assign_rule add_rule mul_rule unary_rule left_rule heads entry nullable firsts among kept many_at read_at read
no_pattern = refl

-- (a
pub unended : answers 9 (1 ∷ 0 ∷ 16 ∷ []) (false, 16 ∷ [])
unfolding rules stmt_rule expr_rule assign_rule add_rule mul_rule unary_rule left_rule heads entry nullable firsts among kept many_at read_at read
unended = refl

-- a with ++ on the next line
pub after_a_break : answers 9 (0 ∷ 14 ∷ 10 ∷ 16 ∷ []) (false, 14 ∷ 10 ∷ 16 ∷ [])
unfolding rules stmt_rule expr_rule assign_rule add_rule mul_rule unary_rule left_rule heads entry nullable firsts among kept many_at read_at read
after_a_break = refl

-- a + b = c;
pub sum_as_target : answers 9 (0 ∷ 11 ∷ 0 ∷ 7 ∷ 0 ∷ 10 ∷ 16 ∷ []) (false, 7 ∷ 0 ∷ 10 ∷ 16 ∷ [])
unfolding rules stmt_rule expr_rule assign_rule add_rule mul_rule unary_rule left_rule heads entry nullable firsts among kept many_at read_at read
sum_as_target = refl

-- a.b => c;
pub member_as_parameter : answers 9 (0 ∷ 9 ∷ 0 ∷ 8 ∷ 0 ∷ 10 ∷ 16 ∷ []) (false, 8 ∷ 0 ∷ 10 ∷ 16 ∷ [])
unfolding rules stmt_rule expr_rule assign_rule add_rule mul_rule unary_rule left_rule heads entry nullable firsts among kept many_at read_at read
member_as_parameter = refl

-- {} + a;
pub block_first : answers 9 (3 ∷ 4 ∷ 11 ∷ 0 ∷ 10 ∷ 16 ∷ []) (false, 11 ∷ 0 ∷ 10 ∷ 16 ∷ [])
unfolding rules stmt_rule expr_rule assign_rule add_rule mul_rule unary_rule left_rule heads entry nullable firsts among kept many_at read_at read
block_first = refl

-- ({a,,});
pub two_commas : answers 9 (1 ∷ 3 ∷ 0 ∷ 6 ∷ 6 ∷ 4 ∷ 2 ∷ 10 ∷ 16 ∷ []) (false, 6 ∷ 4 ∷ 2 ∷ 10 ∷ 16 ∷ [])
unfolding rules stmt_rule expr_rule assign_rule add_rule mul_rule unary_rule left_rule heads entry nullable firsts among kept many_at read_at read
two_commas = refl

-- ((a));
pub too_deep : answers 1 (1 ∷ 1 ∷ 0 ∷ 2 ∷ 2 ∷ 10 ∷ 16 ∷ []) (true, 1 ∷ 0 ∷ 2 ∷ 2 ∷ 10 ∷ 16 ∷ [])
unfolding rules stmt_rule expr_rule assign_rule add_rule mul_rule unary_rule left_rule heads entry nullable firsts among kept many_at read_at read
too_deep = refl

-- (;
pub not_too_deep : answers 1 (1 ∷ 10 ∷ 16 ∷ []) (false, 10 ∷ 16 ∷ [])
unfolding rules stmt_rule expr_rule assign_rule add_rule mul_rule unary_rule left_rule heads entry nullable firsts among kept many_at read_at read
not_too_deep = refl

-- a = b = c;
pub right_side : answers 1 (0 ∷ 7 ∷ 0 ∷ 7 ∷ 0 ∷ 10 ∷ 16 ∷ []) (true, 0 ∷ 10 ∷ 16 ∷ [])
unfolding rules stmt_rule expr_rule assign_rule add_rule mul_rule unary_rule left_rule heads entry nullable firsts among kept many_at read_at read
right_side = refl

-- a = b = ;
pub missing_before_deep : answers 1 (0 ∷ 7 ∷ 0 ∷ 7 ∷ 10 ∷ 16 ∷ []) (false, 10 ∷ 16 ∷ [])
unfolding rules stmt_rule expr_rule assign_rule add_rule mul_rule unary_rule left_rule heads entry nullable firsts among kept many_at read_at read
missing_before_deep = refl

abbrev pub rest_of : Answer ℕ → List ℕ
rest_of (Ok p) = p.1
rest_of (Err e) = 99 ∷ []

-- a = {b: c => {}, d, }; (a, {b: c}, d = 1) => (a).b++;
pub whole : rest_of (read sample 100 9 0 (0 ∷ 7 ∷ 3 ∷ 0 ∷ 5 ∷ 0 ∷ 8 ∷ 3 ∷ 4 ∷ 6 ∷ 0 ∷ 6 ∷ 4 ∷ 10 ∷ 1 ∷ 0 ∷ 6 ∷ 3 ∷ 0 ∷ 5 ∷ 0 ∷ 4 ∷ 6 ∷ 0 ∷ 7 ∷ 0 ∷ 2 ∷ 8 ∷ 1 ∷ 0 ∷ 2 ∷ 9 ∷ 0 ∷ 13 ∷ 10 ∷ 16 ∷ [])) ≡ []
unfolding rules stmt_rule expr_rule assign_rule add_rule mul_rule unary_rule left_rule heads entry nullable firsts among kept many_at read_at read
whole = refl
